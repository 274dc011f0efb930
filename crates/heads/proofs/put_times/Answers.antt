-- `heads::put_times` meets its contract. Assumes nothing.
use Rattle.ground.proofs.Digits.{length-padded}
use Rattle.ground.proofs.Room.{put_then}
use Rattle.heads.proofs.Heads.{length-times}
use Rattle.heads.specs.Heads.{times_text}
use native.Mathlib.Omega.{arith}
use Rattle.heads.proofs.put_times.Goals as goal

pub put_byte-p1-requires : goal.put_byte-p1-requires
put_byte-p1-requires c = omega (arith, length-times c.args.update c.args.load)

pub put_digits-p2-requires : goal.put_digits-p2-requires
put_digits-p2-requires c = omega (arith, length-times c.args.update c.args.load)

pub put_byte-p3-requires : goal.put_byte-p3-requires
put_byte-p3-requires c = omega (arith, length-times c.args.update c.args.load, length-padded 14 c.args.update)

pub put_load-p4-requires : goal.put_load-p4-requires
put_load-p4-requires c = omega (arith, length-times c.args.update c.args.load, length-padded 14 c.args.update)

pub put_bytes-requires : goal.put_bytes-requires
put_bytes-requires c = omega (arith, length-times c.args.update c.args.load, length-padded 14 c.args.update)

pub returns : goal.returns
unfolding times_text
returns c = put_then (put_then (put_then (put_then c.put_byte-p1.ensures c.put_digits-p2.ensures) c.put_byte-p3.ensures) c.put_load-p4.ensures) c.put_bytes.ensures

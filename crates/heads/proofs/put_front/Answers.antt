-- `heads::put_front` meets its contract. Assumes nothing.
use Rattle.ground.proofs.Digits.{length-padded}
use Rattle.ground.proofs.Room.{put_then}
use Rattle.heads.proofs.Heads.{length_front}
use Rattle.heads.specs.Heads.{front_text}
use native.Mathlib.Omega.{arith}
use Rattle.heads.proofs.put_front.Goals as goal

pub put_bytes-p1-requires : goal.put_bytes-p1-requires
put_bytes-p1-requires c = omega (arith, length_front c.args.date c.args.values.now)

pub put_digits-p2-requires : goal.put_digits-p2-requires
put_digits-p2-requires c = omega (arith, length_front c.args.date c.args.values.now)

pub put_byte-p3-requires : goal.put_byte-p3-requires
put_byte-p3-requires c = omega (arith, length_front c.args.date c.args.values.now, length-padded 8 c.from.result)

pub put_values-requires : goal.put_values-requires
put_values-requires c = omega (arith, length_front c.args.date c.args.values.now, length-padded 8 c.from.result)

pub returns : goal.returns
unfolding front_text
returns c = put_then (put_then (put_then c.put_bytes-p1.ensures (rw c.from.ensures at c.put_digits-p2.ensures)) c.put_byte-p3.ensures) c.put_values.ensures

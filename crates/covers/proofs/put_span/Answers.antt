-- `covers::put_span` meets its contract. Assumes nothing.
use Rattle.covers.proofs.Covers.{length-span}
use Rattle.covers.specs.Cover.{span_text}
use Rattle.ground.proofs.Room.{put_then}
use native.Mathlib.Omega.{arith}
use Rattle.covers.proofs.put_span.Goals as goal

pub put_bytes-p1-requires : goal.put_bytes-p1-requires
put_bytes-p1-requires c = omega (arith, length-span c.args.a c.args.e)

pub put_dec-p2-requires : goal.put_dec-p2-requires
put_dec-p2-requires c = omega (arith, length-span c.args.a c.args.e)

pub put_byte-p3-requires : goal.put_byte-p3-requires
put_byte-p3-requires c = omega (arith, length-span c.args.a c.args.e)

pub put_dec-p4-requires : goal.put_dec-p4-requires
put_dec-p4-requires c = omega (arith, length-span c.args.a c.args.e)

pub put_byte-requires : goal.put_byte-requires
put_byte-requires c = omega (arith, length-span c.args.a c.args.e)

pub returns : goal.returns
unfolding span_text
returns c = put_then (put_then (put_then (put_then c.put_bytes-p1.ensures c.put_dec-p2.ensures) c.put_byte-p3.ensures) c.put_dec-p4.ensures) c.put_byte.ensures

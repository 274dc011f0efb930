-- `covers::put_run` meets its contract. Assumes nothing.
use Rattle.covers.proofs.Covers.{run-span}
use Rattle.covers.specs.Cover.{span_text}
use Rattle.fit.specs.Tags.{mark_of}
use Rattle.format.specs.Block.{run_text}
use Rattle.ground.proofs.Room.{put_then}
use native.Mathlib.Omega.{arith}
use Rattle.covers.proofs.put_run.Goals as goal

pub put_span-p1-requires : goal.put_span-p1-requires
put_span-p1-requires c = (omega (arith, run-span c.args.a c.args.e (mark_of c.args.text.now c.args.t)), omega arith, omega arith)

pub put_mark-p2-requires : goal.put_mark-p2-requires
put_mark-p2-requires c = (c.requires.0, omega (arith, run-span c.args.a c.args.e (mark_of c.args.text.now c.args.t)))

pub put_bytes-requires : goal.put_bytes-requires
put_bytes-requires c = omega (arith, run-span c.args.a c.args.e (mark_of c.args.text.now c.args.t))

pub returns : goal.returns
unfolding run_text span_text
returns c = put_then (put_then c.put_span-p1.ensures c.put_mark-p2.ensures) c.put_bytes.ensures

-- `covers::put_runs` meets its contract. Assumes nothing.
use Rattle.covers.proofs.Covers.{marked-long, marked-fit, run_room, cover-more, cover-none, cover_all}
use Rattle.ground.proofs.Room.{left-kept}
use borrow.Author.Rules.{rules}
use native.Mathlib.Omega.{arith}
use Rattle.covers.proofs.put_runs.Goals as goal

pub loop-i-init : goal.loop-i-init
loop-i-init c = (search rules, search cover-none)

pub tag_at-t-requires : goal.tag_at-t-requires
tag_at-t-requires c = search marked-long

pub put_run-p-requires : goal.put_run-p-requires
put_run-p-requires c = (search marked-fit, omega arith, omega arith, search run_room)

pub loop-i-preserved : goal.loop-i-preserved
loop-i-preserved c = (search rules, search cover-more)

pub shape_of-room : goal.shape_of-room
shape_of-room c = left-kept c.loop-i.invariant.1

pub returns : goal.returns
returns c = search cover_all

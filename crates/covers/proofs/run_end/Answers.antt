-- `covers::run_end` meets its contract. Assumes nothing.
use Rattle.covers.proofs.Covers.{marked-long, marked-inside, running-start, running-last, running_more, running-stop}
use Rattle.covers.proofs.run_end.Goals as goal

pub tag_at-a-requires : goal.tag_at-a-requires
tag_at-a-requires c = search marked-long

pub loop-j-init : goal.loop-j-init
loop-j-init c = search running-start

pub tag_at-b-requires : goal.tag_at-b-requires
tag_at-b-requires c = search marked-long

pub same_mark-requires : goal.same_mark-requires
same_mark-requires c = (search marked-inside, search marked-inside)

pub returns-then-not-same_mark : goal.returns-then-not-same_mark
returns-then-not-same_mark c = search running-stop

pub loop-j-preserved : goal.loop-j-preserved
loop-j-preserved c = search running_more

pub returns : goal.returns
returns c = search running-last

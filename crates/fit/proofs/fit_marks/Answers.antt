-- `fit::fit_marks` meets its contract. Assumes nothing.
use Rattle.fit.proofs.Marks.{long-at, fitted_none, fitted-more, fitted-stops, fitted-all}
use Rattle.fit.proofs.fit_marks.Goals as goal

pub loop-i-init : goal.loop-i-init
loop-i-init c = search fitted_none

pub tag_at-t-requires : goal.tag_at-t-requires
tag_at-t-requires c = search long-at

pub returns-then-not-fit_tag : goal.returns-then-not-fit_tag
returns-then-not-fit_tag c = search fitted-stops

pub loop-i-preserved : goal.loop-i-preserved
loop-i-preserved c = search fitted-more

pub returns : goal.returns
returns c = search fitted-all

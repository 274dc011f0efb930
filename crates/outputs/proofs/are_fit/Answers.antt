-- `outputs::are_fit` meets its contract. Assumes nothing.
use Rattle.outputs.proofs.Walks.{fit_none, fit-more, fit-stops, fit_all}
use Rattle.outputs.proofs.are_fit.Goals as goal

pub loop-i-init : goal.loop-i-init
loop-i-init c = search fit_none

pub returns-then-not-is_fit : goal.returns-then-not-is_fit
returns-then-not-is_fit c = search fit-stops

pub loop-i-preserved : goal.loop-i-preserved
loop-i-preserved c = search fit-more

pub returns : goal.returns
returns c = search fit_all

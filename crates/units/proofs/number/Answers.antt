-- `units::number` meets its contract. Assumes nothing.
use Rattle.units.proofs.Names.{tried-none, tried-found, tried-more, tried-all}
use Rattle.units.proofs.number.Goals as goal

ruleset laws = (tried-none, tried-found, tried-more, tried-all)

pub loop-u-init : goal.loop-u-init
loop-u-init c = search laws

pub returns-then-is_named : goal.returns-then-is_named
returns-then-is_named c = search laws

pub loop-u-preserved : goal.loop-u-preserved
loop-u-preserved c = search laws

pub returns : goal.returns
returns c = search laws

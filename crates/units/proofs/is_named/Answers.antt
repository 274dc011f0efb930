-- `units::is_named` meets its contract. Assumes nothing.
use Rattle.units.proofs.Names.{named-not, named_none, named_more, named-stops, named-all}
use Rattle.units.proofs.is_named.Goals as goal

ruleset laws = (named-not, named_none, named_more, named-stops, named-all)

pub returns-then-n-name_len : goal.returns-then-n-name_len
returns-then-n-name_len c = search laws

pub loop-i-init : goal.loop-i-init
loop-i-init c = search laws

pub loop-i-preserved : goal.loop-i-preserved
loop-i-preserved c = search laws

pub returns-then-not-same_letter : goal.returns-then-not-same_letter
returns-then-not-same_letter c = search laws

pub returns : goal.returns
returns c = search laws

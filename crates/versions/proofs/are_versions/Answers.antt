-- `versions::are_versions` meets its contract. Assumes nothing.
use Rattle.versions.proofs.Maps.{walked_none, walked_more, walked-stops, walked_all}
use Rattle.versions.proofs.are_versions.Goals as goal

pub loop-i-init : goal.loop-i-init
loop-i-init c = search walked_none

pub returns-then-not-is_version : goal.returns-then-not-is_version
returns-then-not-is_version c = search walked-stops

pub loop-i-preserved : goal.loop-i-preserved
loop-i-preserved c = search walked_more

pub returns : goal.returns
returns c = search walked_all

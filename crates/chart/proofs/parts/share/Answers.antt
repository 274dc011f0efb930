-- `chart::parts::share` meets its contract. Assumes nothing.
use Rattle.chart.specs.Parts.{share_of}
use Rattle.ground.proofs.Tests.{tests}
use Rattle.chart.proofs.parts.share.Goals as goal

pub returns-then-n-eq0 : goal.returns-then-n-eq0
unfolding share_of
returns-then-n-eq0 c = search tests

pub returns-else-n-eq0 : goal.returns-else-n-eq0
unfolding share_of
returns-else-n-eq0 c = search tests

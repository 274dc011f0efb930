-- `chart::parts::band` meets its contract. Assumes nothing.
use Rattle.chart.specs.Parts.{band_text}
use Rattle.ground.proofs.Tests.{tests}
use Rattle.chart.proofs.parts.band.Goals as goal

pub returns-then-flag-eq78 : goal.returns-then-flag-eq78
unfolding band_text
returns-then-flag-eq78 c = search tests

pub returns-else-flag-eq78 : goal.returns-else-flag-eq78
unfolding band_text
returns-else-flag-eq78 c = search tests

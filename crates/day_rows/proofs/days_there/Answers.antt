-- `day_rows::days_there` meets its contract. Assumes nothing.
use Rattle.day_rows.specs.Shown.{days_there}
use Rattle.page.proofs.Filling.{filled-then}
use Rattle.ground.proofs.Tests.{tests}
use Rattle.day_rows.proofs.days_there.Goals as goal

pub returns-then-days-eq0 : goal.returns-then-days-eq0
unfolding days_there
returns-then-days-eq0 c = search tests

pub returns : goal.returns
unfolding days_there
returns c = search (filled-then, tests)

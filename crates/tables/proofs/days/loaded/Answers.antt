-- `tables::days::loaded` meets its contract. Assumes nothing.
use Rattle.tables.specs.Days.{loaded_text}
use Rattle.page.proofs.Filling.{filled-then}
use Rattle.ground.proofs.Tests.{tests}
use Rattle.tables.proofs.days.loaded.Goals as goal

pub returns-then-load-eq0 : goal.returns-then-load-eq0
unfolding loaded_text
returns-then-load-eq0 c = search tests

pub returns : goal.returns
unfolding loaded_text
returns c = search (filled-then, tests)

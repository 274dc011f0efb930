-- `tables::days::reason` meets its contract. Assumes nothing.
use Rattle.tables.specs.Days.{reason_text}
use Rattle.page.proofs.Filling.{filled-then}
use Rattle.ground.proofs.Tests.{tests}
use Rattle.tables.proofs.days.reason.Goals as goal

pub returns-then-code-eq-NO_REASON : goal.returns-then-code-eq-NO_REASON
unfolding reason_text
returns-then-code-eq-NO_REASON c = search tests

pub returns : goal.returns
unfolding reason_text
returns c = search (filled-then, tests)

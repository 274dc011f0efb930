-- `store_lines::kept` meets its contract. Assumes nothing.
use Rattle.store_lines.specs.Lines.{kept_text}
use Rattle.ground.proofs.Tests.{tests}
use Rattle.store_lines.proofs.kept.Goals as goal

pub returns-then-before-days : goal.returns-then-before-days
unfolding kept_text
returns-then-before-days c = search tests

pub returns-else-before-days : goal.returns-else-before-days
unfolding kept_text
returns-else-before-days c = search tests

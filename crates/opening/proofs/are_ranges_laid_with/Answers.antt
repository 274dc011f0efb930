-- `opening::are_ranges_laid_with` meets its contract. Assumes nothing.
use Rattle.opening.proofs.Tests.{ranges-are}
use Rattle.opening.proofs.are_ranges_laid_with.Goals as goal

pub returns : goal.returns
returns c = search ranges-are

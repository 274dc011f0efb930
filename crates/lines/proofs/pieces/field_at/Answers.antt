-- `lines::pieces::field_at` meets its contract. Assumes nothing.
use Rattle.lines.proofs.Cuts.{cut-more, cut-last}
use Rattle.lines.proofs.pieces.field_at.Goals as goal

pub returns-then-b-e : goal.returns-then-b-e
returns-then-b-e c = search cut-more

pub returns : goal.returns
returns c = search cut-last

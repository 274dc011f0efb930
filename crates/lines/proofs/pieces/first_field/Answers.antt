-- `lines::pieces::first_field` meets its contract. Assumes nothing.
use Rattle.lines.proofs.Cuts.{first-is}
use Rattle.lines.proofs.pieces.first_field.Goals as goal

pub returns : goal.returns
returns c = search first-is

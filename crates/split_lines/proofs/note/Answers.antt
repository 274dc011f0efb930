-- `split_lines::note` meets its contract. Assumes nothing.
use Rattle.page.proofs.Filling.{filled-then}
use Rattle.split_lines.specs.Lines.{note_text}
use Rattle.split_lines.proofs.note.Goals as goal

pub returns : goal.returns
unfolding note_text
returns c = search filled-then

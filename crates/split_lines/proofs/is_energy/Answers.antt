-- `split_lines::is_energy` meets its contract. Assumes nothing.
use Rattle.split_lines.proofs.Energy.{no-letter, last_letter}
use Rattle.split_lines.proofs.is_energy.Goals as goal

pub returns-then-n-gt0 : goal.returns-then-n-gt0
returns-then-n-gt0 c = search last_letter

pub returns-else-n-gt0 : goal.returns-else-n-gt0
returns-else-n-gt0 c = search no-letter

-- `making::make_slots` meets its contract. Assumes nothing.
use Rattle.making.proofs.Makes.{bytes-few, made}
use Rattle.making.proofs.make_slots.Goals as goal

pub returns-then-n-before : goal.returns-then-n-before
returns-then-n-before c = search bytes-few

pub returns : goal.returns
returns c = search made

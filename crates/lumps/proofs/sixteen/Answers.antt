-- `lumps::sixteen` meets its contract. Assumes nothing.
use mathlib.Core.Path.{sym, ◌∙◌}
use Rattle.ground.proofs.Tests.{nowhere}
use Rattle.lumps.proofs.Lumps.{alike}
use Rattle.lumps.proofs.sixteen.Goals as goal

pub returns-then-file-x-ne44 : goal.returns-then-file-x-ne44
returns-then-file-x-ne44 c = λ t. nowhere t

pub returns-then-no_less : goal.returns-then-no_less
returns-then-no_less c = search alike

pub returns-else-no_less : goal.returns-else-no_less
returns-else-no_less c = λ t. nowhere (sym c.if-no_less.false ∙ t)

-- A file is accepted where its check answers so. Assumes nothing.
use Prim.Native.Nat.{ℕ}
use mathlib.Core.Path.{◌≡◌, sym, ap, ◌∙◌}
use mathlib.Core.List.{List, [], ◌∷◌}
use Rattle.std.proofs.Common.{Result, Ok}
use Rattle.format.specs.declared.Refusal.{Refusal}
use Rattle.format.specs.Answers.{checked_as}
use Rattle.format.specs.File.{check_of, IsAccepted}
use Rattle.format.specs.declared.Checked.{Checked}

-- c is what the check answers
pub is-accepted : (file : List ℕ) (c : Result Checked Refusal) → checked_as c ≡ check_of file → (x : Checked) → c ≡ Ok x → IsAccepted file
is-accepted file c e x h = (x.version ∷ x.channels ∷ x.days ∷ [], sym e ∙ ap checked_as h)

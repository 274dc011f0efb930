-- Whether a block may take the place of a day's, whatever room the edited file goes to, for the contracts of the inner functions.
use Rattle.std.specs.Prelude.{ℕ, ◌≤◌, ◌≡◌, List, [], ◌∷◌, length, Result, Ok, Err}
use Rattle.format.specs.Answers.{accepted, refused_as}
use Rattle.format.specs.File.{most}
use Rattle.moving.specs.Moving.{spliced}
use Rattle.whose.specs.Whose.{find_of}
use Rattle.replacing.specs.Replace.{left, put_of, replace_in}
use Rattle.format.specs.declared.Refusal.{Refusal}
use Rattle.replacing.specs.declared.OldBlock.{OldBlock}

-- the day is found with this unit and interval length, its block from a to e
abbrev pub Found : List ℕ → ℕ → ℕ → ℕ → ℕ → ℕ → Type 0
Found file day u m a e = (c n s : ℕ) × (find_of file day ≡ accepted (c ∷ n ∷ s ∷ u ∷ m ∷ a ∷ e ∷ []))

-- the block may stand in the place of the bytes from a to e
pub record Fits (file : List ℕ) (day : ℕ) (block : List ℕ) (a e : ℕ) : Type 0 where
  pub order : a ≤ e
  pub within : e ≤ length file
  pub short : length file ≤ most
  pub put : (room : List ℕ) → replace_in file day block room ≡ put_of (spliced file a e block) room

abbrev pub Answers : List ℕ → ℕ → List ℕ → Result OldBlock Refusal → Type 0
Answers file day block (Ok b) = Fits file day block b.start b.end
Answers file day block (Err x) = (room : List ℕ) → replace_in file day block room ≡ left (refused_as x) room

-- An answer's line from its word and its numbers, and the line of a value whose case is known. Assumes nothing.
use Prim.Native.Nat.{ℕ}
use mathlib.Core.Path.{◌≡◌, ap, sym}
use mathlib.Core.List.{List, [], ◌∷◌}
use Rattle.std.proofs.Common.{Result, Ok}
use Rattle.ground.specs.Text.{bytes}
use Rattle.format.specs.Answers.{Answer, accepted, refused, day_read_as}
use Rattle.format.specs.declared.DayRead.{DayRead}
use Rattle.format.specs.declared.Refusal.{Refusal}
use Rattle.page.specs.Filled.{Filled}
use Rattle.page.specs.Texts.{texts}
use Rattle.answer_lines.specs.Lines.{numbers_text, line_of, intervals_read, day_line}
use Rattle.page.proofs.Filling.{filled-then, filled-as}

module _ {l m n : List ℕ} {at i j : ℕ} where
  pub line-accepted : (xs : List ℕ) → Filled l at (bytes "accepted") i m → Filled m i (numbers_text 32 xs) j n → Filled l at (line_of (accepted xs)) j n
  line-accepted xs p q = filled-then p q

  pub line_refused : (x p k f : ℕ) → Filled l at (bytes "refused") i m → Filled m i (numbers_text 32 (x ∷ p ∷ k ∷ f ∷ [])) j n → Filled l at (line_of (refused x p k f)) j n
  line_refused x p k f a b = filled-then a b

pub line-is : {X : Type 0} (f : X → Answer) {x y : X} {l m : List ℕ} {at i : ℕ} → x ≡ y → Filled l at (line_of (f y)) i m → Filled l at (line_of (f x)) i m
line-is f e p = filled-as p (ap (λ z. line_of (f z)) (sym e))

-- the line of a day, from its answer and its n intervals
pub line-day : (x : Result DayRead Refusal) (f : ℕ → List ℕ) (n : ℕ) {l m k : List ℕ} {at i j : ℕ} → n ≡ intervals_read x
    → Filled l at (line_of (day_read_as x)) i m → Filled m i (texts f n) j k → Filled l at (day_line x f) j k
line-day x f n e p q = filled-then p (filled-as q (ap (texts f) e))

-- how many intervals were read
pub read-intervals : (x : Result DayRead Refusal) {d : DayRead} → x ≡ Ok d → d.n ≡ intervals_read x
read-intervals x e = rw e

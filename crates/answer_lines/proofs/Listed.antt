-- Numbers put one behind the other: the loop's invariant, and what it comes to. Assumes nothing.
use Prim.Native.Nat.{ℕ, ◌+◌, ◌≤◌, ◌<◌}
use mathlib.Core.Path.{◌≡◌, refl, sym, ap, ◌∙◌}
use mathlib.Core.List.{List, [], ◌∷◌, ◌++◌, append-nil, append_assoc}
use native.Mathlib.Numerals.{add-one}
use native.Mathlib.Omega.{arith}
use lib.ListN.{length, take, get_or}
use lib.Seq.{take_all, take-suc}
use Rattle.ground.specs.Digits.{dec}
use Rattle.ground.proofs.Room.{put-kept}
use Rattle.page.specs.Filled.{Filled}
use Rattle.page.proofs.Filling.{filled-then, filled-as}
use Rattle.page.proofs.Listed.{nothing}
use Rattle.answer_lines.specs.Lines.{numbers_text, interval_text, interval_in}

numbers-append : (sign : ℕ) (xs ys : List ℕ) → numbers_text sign (xs ++ ys) ≡ numbers_text sign xs ++ numbers_text sign ys
unfolding numbers_text
numbers-append sign [] ys = refl
numbers-append sign (x ∷ xs) ys = ap (λ (z : List ℕ). (sign ∷ dec x) ++ z) (numbers-append sign xs ys) ∙ sym (append_assoc (sign ∷ dec x) (numbers_text sign xs) (numbers_text sign ys))

numbers-one : (sign x : ℕ) → numbers_text sign (x ∷ []) ≡ sign ∷ dec x
unfolding numbers_text
numbers-one sign x = append-nil (sign ∷ dec x)

-- the first i numbers are on the page
pub record Listed (page₀ : List ℕ) (at sign : ℕ) (list page : List ℕ) (p i : ℕ) : Type 0 where
  pub within : i ≤ length list
  pub put : Filled page₀ at (numbers_text sign (take i list)) p page

module _ (page₀ : List ℕ) (at sign : ℕ) (list : List ℕ) where
  pub listed-none : Listed page₀ at sign list page₀ at 0
  unfolding numbers_text
  listed-none = record { within = omega arith; put = nothing page₀ at }

  pub listed_more : (page m : List ℕ) (p q i : ℕ) → i < length list → Listed page₀ at sign list page p i → Filled page p (sign ∷ dec (get_or list i 0)) q m → Listed page₀ at sign list m q (i + 1)
  listed_more page m p q i h r w =
      record {
        within = omega arith;
        put =
            filled-as (filled-then r.put w)
            (ap (λ (z : List ℕ). numbers_text sign (take i list) ++ z) (sym (numbers-one sign (get_or list i 0)))
            ∙ sym (numbers-append sign (take i list) (get_or list i 0 ∷ []))
            ∙ ap (numbers_text sign) (sym (take-suc list i 0 h) ∙ ap (λ (k : ℕ). take k list) (sym (add-one i))));
      }

  pub listed-all : (page : List ℕ) (p i : ℕ) → length list ≤ i → Listed page₀ at sign list page p i → Filled page₀ at (numbers_text sign list) p page
  listed-all page p i h r = filled-as r.put (ap (numbers_text sign) (take_all i list h))

  pub listed_kept : (page : List ℕ) (p i : ℕ) → Listed page₀ at sign list page p i → length page ≡ length page₀
  listed_kept page p i r = put-kept r.put.put

-- an interval's text from its value and the numbers behind it
module _ (vs fs ms rs ss ls : List ℕ) (k : ℕ) {l m n : List ℕ} {at i j : ℕ} (v f e r s w : ℕ) where
  pub interval-put : v ≡ get_or vs k 0 → f ≡ get_or fs k 0 → e ≡ get_or ms k 0 → r ≡ get_or rs k 0 → s ≡ get_or ss k 0 → w ≡ get_or ls k 0
      → Filled l at (32 ∷ dec v) i m → Filled m i (numbers_text 47 (f ∷ e ∷ r ∷ s ∷ w ∷ [])) j n → Filled l at (interval_in vs fs ms rs ss ls k) j n
  unfolding interval_text
  interval-put hv hf he hr hs hw p q = rw (← hv, ← hf, ← he, ← hr, ← hs, ← hw) (filled-then p q)

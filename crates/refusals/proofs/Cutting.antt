-- A line cut, and the mark below it, from their parts. Assumes nothing.
use Prim.Native.Nat.{ℕ, ◌+◌, ◌-◌, ◌≤◌, ◌<◌}
use mathlib.Core.Path.{◌≡◌, sym, ap}
use mathlib.Core.Bool.{Bool, true, false}
use mathlib.Core.List.{List, [], ◌∷◌}
use native.Mathlib.Omega.{arith}
use borrow.Author.Tests.{lt-ltb, le-ltb}
use lib.ListN.{length, get_or}
use lib.Dec.{ltb}
use Rattle.ground.specs.Lists.{part}
use Rattle.ground.specs.Text.{bytes}
use Rattle.ground.proofs.Cases.{split}
use Rattle.page.specs.Filled.{Filled}
use Rattle.page.proofs.Filling.{filled-then, filled-as}
use Rattle.page.proofs.Listed.{Counted, counted-more}
use Rattle.phrase.specs.Phrases.{blank}
use Rattle.refusals.specs.Excerpts.{shown, shown_at, shown_text, dots, shown_from, shown_to, cut_text, excerpt, lead, mark}

-- what is shown starts no later than the column
pub from-within : (column from : ℕ) → from ≡ shown_from column → from ≤ column
unfolding shown_from
from-within column from e =
    split 60 column
    (λ h. let f : from ≡ column - 40 = (rw (le-ltb _ _ h) at e) in omega arith)
    (λ h. let f : from ≡ 0 = (rw (lt-ltb _ _ h) at e) in omega arith)

-- one more byte of a text is shown
pub shown-more : (page₀ text page m : List ℕ) (at p q i b : ℕ) → i < length text → b ≡ shown (get_or text i 0)
    → Counted page₀ at (shown_at text) (length text) page p i → Filled page p (b ∷ []) q m → Counted page₀ at (shown_at text) (length text) m q (i + 1)
shown-more page₀ text page m at p q i b h e r w =
    counted-more page₀ at (shown_at text) (length text) page m p q i h r (filled-as w (ap (λ (z : ℕ). z ∷ []) e))

module _ {p₀ p₁ : List ℕ} {at i : ℕ} (cut : Bool) where
  pub dots-on : cut ≡ true → Filled p₀ at (bytes "...") i p₁ → Filled p₀ at (dots cut) i p₁
  unfolding dots
  dots-on e p = filled-as p (ap dots (sym e))

  pub dots-off : cut ≡ false → Filled p₀ at [] i p₁ → Filled p₀ at (dots cut) i p₁
  unfolding dots
  dots-off e p = filled-as p (ap dots (sym e))

module _ {p₀ p₁ p₂ p₃ : List ℕ} {at i j k : ℕ} where
  pub excerpt-put : (r t : List ℕ) (column from to : ℕ) → from ≡ shown_from column → to ≡ shown_to from (length r) → t ≡ part r from to
      → Filled p₀ at (dots (ltb 0 from)) i p₁ → Filled p₁ i (shown_text t) j p₂ → Filled p₂ j (dots (ltb to (length r))) k p₃ → Filled p₀ at (excerpt r column) k p₃
  unfolding excerpt cut_text
  excerpt-put r t column from to e f g p q s =
      let h : cut_text r from to ≡ cut_text r (shown_from column) (shown_to (shown_from column) (length r)) = rw (f, e) in
      filled-as (filled-then (filled-then p (filled-as q (ap shown_text g))) s) h

  pub mark-put : (column from n : ℕ) → from ≡ shown_from column → n ≡ lead from
      → Filled p₀ at (blank n) i p₁ → Filled p₁ i (blank (column - from)) j p₂ → Filled p₂ j (bytes "^") k p₃ → Filled p₀ at (mark column) k p₃
  unfolding mark
  mark-put column from n e f p q r = rw (← e, ← f) (filled-then (filled-then p q) r)

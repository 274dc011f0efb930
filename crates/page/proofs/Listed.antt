-- Texts put one behind the other: the loop's invariant, and what it comes to. Assumes nothing.
use Prim.Native.Nat.{ℕ, ◌+◌, ◌-◌, ◌≤◌, ◌<◌}
use mathlib.Core.Path.{◌≡◌, sym, ap}
use mathlib.Core.List.{List, []}
use native.Mathlib.Numerals.{add-one}
use native.Mathlib.Omega.{arith}
use lib.ListN.{length, get_or, get_or-eq_default}
use lib.Seq.{take-nil}
use Rattle.ground.proofs.Room.{put-nothing, put_as, put-kept}
use Rattle.page.specs.Filled.{Filled}
use Rattle.page.specs.Texts.{texts}
use Rattle.page.proofs.Filling.{filled-then, filled-as}

-- nothing was put yet
pub nothing : (page : List ℕ) (at : ℕ) → Filled page at [] at page
nothing page at = record { put = put_as (put-nothing page at) (sym (take-nil {A = ℕ} (length page - at))) }

-- the texts of the first i of n are on the page
pub record Counted (page₀ : List ℕ) (at : ℕ) (f : ℕ → List ℕ) (n : ℕ) (page : List ℕ) (p i : ℕ) : Type 0 where
  pub within : i ≤ n
  pub put : Filled page₀ at (texts f i) p page

module _ (page₀ : List ℕ) (at : ℕ) (f : ℕ → List ℕ) (n : ℕ) where
  pub counted_none : Counted page₀ at f n page₀ at 0
  unfolding texts
  counted_none = record { within = omega arith; put = nothing page₀ at }

  pub counted-more : (page m : List ℕ) (p q i : ℕ) → i < n → Counted page₀ at f n page p i → Filled page p (f i) q m → Counted page₀ at f n m q (i + 1)
  unfolding texts
  counted-more page m p q i h a b =
      record { within = omega arith; put = filled-as (filled-then a.put b) (ap (texts f) (sym (add-one i))) }

  pub counted-all : (page : List ℕ) (p i : ℕ) → n ≤ i → Counted page₀ at f n page p i → Filled page₀ at (texts f n) p page
  counted-all page p i h a = let e : i ≡ n = omega (arith, a.within) in filled-as a.put (ap (texts f) e)

  pub counted-kept : (page : List ℕ) (p i : ℕ) → Counted page₀ at f n page p i → length page ≡ length page₀
  counted-kept page p i a = put-kept a.put.put

-- an element past the end
pub past_end : (l : List ℕ) (i : ℕ) → length l ≤ i → 0 ≡ get_or l i 0
past_end l i h = sym (get_or-eq_default l 0 h)

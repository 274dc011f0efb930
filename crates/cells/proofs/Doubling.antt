-- The bytes of a quoted field put one behind the other, and a field with a quote told from one without. Assumes nothing.
use Prim.Native.Nat.{ℕ, zero, suc, ◌≤◌}
use mathlib.Core.Path.{◌≡◌, refl, sym, ap, ◌∙◌}
use mathlib.Core.List.{List, [], ◌∷◌, ◌++◌, append-nil, append_assoc}
use native.Mathlib.Omega.{arith}
use lib.ListN.{length, take, get_or}
use lib.Seq.{take_all, take-suc}
use Rattle.ground.specs.Lists.{all, span_of, other}
use Rattle.ground.proofs.Cases.{by}
use Rattle.ground.proofs.Spans.{all-span, spanned-all}
use Rattle.page.specs.Filled.{Filled}
use Rattle.page.specs.Texts.{texts}
use Rattle.page.proofs.Filling.{filled-as}
use Rattle.page.proofs.Listed.{Counted}
use Rattle.cells.specs.Cells.{twice, doubled, quoted, cell_text}

-- byte i of a quoted text
abbrev pub twice_at : List ℕ → ℕ → List ℕ
twice_at t i = twice (get_or t i 0)

doubled-more : (s : List ℕ) (b : ℕ) → doubled (s ++ b ∷ []) ≡ doubled s ++ twice b
unfolding doubled
doubled-more [] b = append-nil (twice b)
doubled-more (x ∷ s) b = ap (λ (z : List ℕ). twice x ++ z) (doubled-more s b) ∙ sym (append_assoc (twice x) (doubled s) (twice b))

doubled-first : (t : List ℕ) (i : ℕ) → i ≤ length t → texts (twice_at t) i ≡ doubled (take i t)
unfolding texts doubled
doubled-first t zero h = refl
doubled-first t (suc i) h =
    ap (λ (z : List ℕ). z ++ twice_at t i) (doubled-first t i (omega arith))
    ∙ sym (doubled-more (take i t) (get_or t i 0))
    ∙ ap doubled (sym (take-suc t i 0 (omega arith)))

module _ (t : List ℕ) {l m : List ℕ} {at p : ℕ} where
  pub doubled-all : (i : ℕ) → length t ≤ i → Counted l at (twice_at t) (length t) m p i → Filled l at (doubled t) p m
  doubled-all i h a = filled-as a.put (doubled-first t i a.within ∙ ap doubled (take_all i t h))

  pub cell-plain : (k : ℕ) → k ≡ span_of (other 34) t → k ≡ length t → Filled l at t p m → Filled l at (cell_text t) p m
  unfolding cell_text
  cell-plain k e h w = rw (spanned-all (other 34) t (sym e ∙ h)) w

  pub cell-quoted : (k : ℕ) → k ≡ span_of (other 34) t → (k ≡ length t → ⊥) → Filled l at (quoted t) p m → Filled l at (cell_text t) p m
  unfolding cell_text
  cell-quoted k e h w = by (all (other 34) t) (λ a. absurd (h (e ∙ all-span (other 34) t a))) (λ a. rw a w)

-- The fields of a record meet the rules of its row exactly when they are as many and none is at fault. Assumes nothing.
use Prim.Native.Nat.{ℕ, zero, suc, ◌+◌, ◌≤◌, ◌<◌}
use mathlib.Core.Path.{◌≡◌, refl, sym, ap, ◌∙◌, subst}
use mathlib.Core.Bool.{true, false, true≢false, cond}
use mathlib.Core.List.{List, [], ◌∷◌}
use native.Mathlib.Omega.{arith}
use lib.ListN.{length, get_or, drop}
use lib.Seq.{get_or-drop, drop-drop}
use lib.Dec.{eqb}
use borrow.Author.Tests.{ne_eqb}
use Rattle.ground.proofs.Cases.{by}
use Rattle.format.specs.Bytes.{end_space}
use Rattle.format.specs.Records.{Scale, scale_for, kind_in, row_of, count_of, rule_of, obeys, qualities_of, mark_at}
use Rattle.format.specs.Faults.{fault_in, Fine, Stop}
use Rattle.format.specs.declared.Rule.{Rule}
use Rattle.format.specs.declared.Rule.TheVariants.{Indicator}
use Rattle.passing.proofs.Fit.{Ok}
use Rattle.theorems.specs.Grammar.{Each, Record, Meets, Together, IsRecord}
use Rattle.theorems.proofs.Bytes.{Bytes}
use Rattle.theorems.proofs.Ends.{Tidy, tidied, indicator-tidy}
use Rattle.theorems.proofs.Across.{unbroken-together, together-unbroken}

-- rules, met one for one
abbrev pub Obeyed : ℕ → List Rule → Record → Type 0
Obeyed k [] [] = Unit {0}
Obeyed k [] (f ∷ fs) = ⊥
Obeyed k (u ∷ us) [] = ⊥
Obeyed k (u ∷ us) (f ∷ fs) = (obeys k u f ≡ true) × Obeyed k us fs

-- ---- the loop over the fields

module _ (k : ℕ) (z : Scale) (i : ℕ) (u : Rule) (us : List Rule) (e : drop i (row_of k z) ≡ u ∷ us) where
  rule-here : rule_of k z i ≡ u
  unfolding rule_of
  rule-here =
      let j : i + 0 ≡ i = omega arith in
      let a : get_or (drop i (row_of k z)) 0 Indicator ≡ get_or (row_of k z) (i + 0) Indicator = get_or-drop i (row_of k z) 0 Indicator in
      let b : get_or (drop i (row_of k z)) 0 Indicator ≡ u = rw e in
      sym (rw j at a) ∙ b

  rules-next : drop (i + 1) (row_of k z) ≡ us
  rules-next = sym (drop-drop 1 i (row_of k z)) ∙ rw e

fine-obeyed : (k : ℕ) (z : Scale) (o i : ℕ) (us : List Rule) (fs : Record) → drop i (row_of k z) ≡ us → length fs ≡ length us → fault_in k z o i fs ≡ Fine → Obeyed k us fs
unfolding fault_in
fine-obeyed k z o i [] [] e l h = tt
fine-obeyed k z o i [] (f ∷ fs) e l h = absurd (let z : ⊥ = omega arith in z)
fine-obeyed k z o i (u ∷ us) [] e l h = absurd (let z : ⊥ = omega arith in z)
fine-obeyed k z o i (u ∷ us) (f ∷ fs) e l h =
    let h₁ : cond (obeys k u f) (fault_in k z (o + length f + 1) (i + 1) fs) (Stop 6 o (i + 1)) ≡ Fine = rw (rule-here k z i u us e) at h in
    by (obeys k u f)
    (λ t. (t, fine-obeyed k z (o + length f + 1) (i + 1) us fs (rules-next k z i u us e) (omega arith) (rw t at h₁)))
    (λ t. absurd (let z : Stop 6 o (i + 1) ≡ Fine = (rw t at h₁) in let y : true ≡ false = cc in true≢false y))

meets-fine : (k : ℕ) (z : Scale) (o i : ℕ) (us : List Rule) (fs : Record) → drop i (row_of k z) ≡ us → Meets k us fs → fault_in k z o i fs ≡ Fine
unfolding fault_in
meets-fine k z o i [] [] e h = refl
meets-fine k z o i [] (f ∷ fs) e h = absurd h
meets-fine k z o i (u ∷ us) [] e h = absurd h
meets-fine k z o i (u ∷ us) (f ∷ fs) e h =
    rw (rule-here k z i u us e, h.1) (meets-fine k z (o + length f + 1) (i + 1) us fs (rules-next k z i u us e) h.2)

-- ---- the count, the bytes, the ends

pub meets-length : (k : ℕ) (us : List Rule) (fs : Record) → Meets k us fs → length fs ≡ length us
meets-length k [] [] h = refl
meets-length k [] (f ∷ fs) h = absurd h
meets-length k (u ∷ us) [] h = absurd h
meets-length k (u ∷ us) (f ∷ fs) h = ap suc (meets-length k us fs h.2)

meets-bytes : (k : ℕ) (us : List Rule) (fs : Record) → Meets k us fs → Bytes fs
meets-bytes k [] [] h = tt
meets-bytes k [] (f ∷ fs) h = absurd h
meets-bytes k (u ∷ us) [] h = absurd h
meets-bytes k (u ∷ us) (f ∷ fs) h = (h.0.0, meets-bytes k us fs h.2)

-- a field meets its rule, by its number
pub meets_at : (k : ℕ) (us : List Rule) (fs : Record) (i : ℕ) → Meets k us fs → i < length us → obeys k (get_or us i Indicator) (get_or fs i []) ≡ true
meets_at k [] [] i h l = absurd (let z : ⊥ = omega arith in z)
meets_at k [] (f ∷ fs) i h l = absurd h
meets_at k (u ∷ us) [] i h l = absurd h
meets_at k (u ∷ us) (f ∷ fs) zero h l = h.1
meets_at k (u ∷ us) (f ∷ fs) (suc i) h l = meets_at k us fs i h.2 (omega arith)

-- fields that obey rules which leave no space at an end
obeyed-tidy : (k : ℕ) (us : List Rule) (fs : Record) → Each Tidy us → Obeyed k us fs → Each (λ f. end_space f ≡ false) fs
obeyed-tidy k [] [] t h = tt
obeyed-tidy k [] (f ∷ fs) t h = absurd h
obeyed-tidy k (u ∷ us) [] t h = absurd h
obeyed-tidy k (u ∷ us) (f ∷ fs) t h = (t.0 k f h.0, obeyed-tidy k us fs t.1 h.1)

obeyed-meets : (k : ℕ) (us : List Rule) (fs : Record) → Obeyed k us fs → Bytes fs → Each (λ f. end_space f ≡ false) fs → Meets k us fs
obeyed-meets k [] [] h b s = tt
obeyed-meets k [] (f ∷ fs) h b s = h
obeyed-meets k (u ∷ us) [] h b s = h
obeyed-meets k (u ∷ us) (f ∷ fs) h b s = ((b.0, s.0), h.0, obeyed-meets k us fs h.1 b.1 s.1)

-- ---- a record

-- fields of bytes that a field may hold
abbrev pub Fields : Record → Type 0
Fields fs = (1 ≤ length fs) × Bytes fs

-- the rules imply that no field of a record begins or ends with a space
pub no-end-space : (k : ℕ) (z : Scale) (fs : Record) → (kind_in fs ≡ 0 → ⊥) → Obeyed k (row_of k z) fs → Each (λ f. end_space f ≡ false) fs
no-end-space k z [] i h = tt
no-end-space k z (f ∷ fs) i h =
    let w = tidied k z in
    let d : Obeyed k (Indicator ∷ w.tail) (f ∷ fs) = rw w.is at h in
    (indicator-tidy f fs i, obeyed-tidy k w.tail fs w.tidy d.1)

-- n and the decimals of the channel count in a 300 only
pub scale-other : (k n d : ℕ) (fs : Record) → (k ≡ 300 → ⊥) → scale_for k n d fs ≡ scale_for k 0 0 fs
scale-other k n d fs h = rw (ne_eqb k 300 h)

qualities-of : (k n d : ℕ) (fs : Record) → qualities_of k (scale_for k n d fs).n ≡ qualities_of k n
unfolding qualities_of
qualities-of k n d fs = by (eqb k 300) (λ e. rw e) (λ e. rw e)

pub is-record : (k n d : ℕ) (fs : Record) → (k ≡ 0 → ⊥) → Fields fs → kind_in fs ≡ k → Ok k (scale_for k n d fs) fs → IsRecord k n d fs
unfolding count_of
is-record k n d fs i h e o =
    let z : Scale = scale_for k n d fs in
    let b : Obeyed k (row_of k z) fs = fine-obeyed k z 0 0 (row_of k z) fs refl o.0 o.1 in
    record {
      indicator = e;
      meets = obeyed-meets k (row_of k z) fs b h.1 (no-end-space k z fs (λ x. i (sym e ∙ x)) b);
      together = subst (Each (λ i. Together (mark_at k i fs))) (qualities-of k n d fs) (unbroken-together k fs z.n o.2);
    }

pub record-fields : (k n d : ℕ) (fs : Record) → IsRecord k n d fs → Fields fs
record-fields k n d [] r =
    let w = tidied k (scale_for k n d []) in
    absurd (let z : Meets k (Indicator ∷ w.tail) [] = (rw w.is at r.meets) in z)
record-fields k n d (f ∷ fs) r = (omega arith, meets-bytes k (row_of k (scale_for k n d (f ∷ fs))) (f ∷ fs) r.meets)

pub record-ok : (k n d : ℕ) (fs : Record) → IsRecord k n d fs → Ok k (scale_for k n d fs) fs
unfolding count_of
record-ok k n d fs r =
    let z : Scale = scale_for k n d fs in (
      meets-length k (row_of k z) fs r.meets,
      meets-fine k z 0 0 (row_of k z) fs refl r.meets,
      together-unbroken k fs z.n (subst (Each (λ i. Together (mark_at k i fs))) (sym (qualities-of k n d fs)) r.together),
    )

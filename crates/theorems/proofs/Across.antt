-- The rules across fields in 01's words are those that the meaning tests. Assumes nothing.
use Prim.Native.Nat.{ℕ, ◌+◌, ◌≤◌}
use mathlib.Core.Path.{◌≡◌, refl}
use mathlib.Core.Bool.{true, false, true≢false, not, ◌&&◌}
use mathlib.Core.List.{List, [], ◌∷◌}
use native.Mathlib.Omega.{arith}
use lib.ListN.{length}
use lib.Dec.{eqb}
use borrow.Author.Tests.{eqb-true, eqb-false, ne_eqb, not-true, not-false}
use Rattle.ground.proofs.Tests.{and-true}
use Rattle.ground.proofs.Cases.{by}
use Rattle.format.specs.Numbers.{no_reason}
use Rattle.format.specs.Cut.{start_of}
use Rattle.format.specs.Quality.{Mark, needs_reason, across}
use Rattle.format.specs.Records.{mark_at, agrees, qualities_of}
use Rattle.format.specs.Faults.{broken_in, f7, Fine, Stop}
use Rattle.theorems.specs.Grammar.{Each, Record, Together}

module _ (m : Mark) where
  pub agrees-together : agrees m ≡ true → Together m
  unfolding agrees across needs_reason
  agrees-together h =
      let described : ℕ = length m.text in
      let a = and-true (not (needs_reason m.flag && eqb m.reason no_reason) && not (eqb m.reason 0 && eqb described 0)) (not (eqb m.flag 86 && not (eqb m.reason no_reason && eqb described 0))) h in
      let b = and-true (not (needs_reason m.flag && eqb m.reason no_reason)) (not (eqb m.reason 0 && eqb described 0)) a.0 in
      record {
        s-reason = λ e r. absurd (true≢false (let z : (needs_reason m.flag && eqb m.reason no_reason) ≡ false = not-true _ b.0 in rw (e, r) at z));
        f-reason = λ e r. absurd (true≢false (let z : (needs_reason m.flag && eqb m.reason no_reason) ≡ false = not-true _ b.0 in rw (e, r) at z));
        nought = λ e. by (eqb described 0)
            (λ t. absurd (true≢false (let z : (eqb m.reason 0 && eqb described 0) ≡ false = not-true _ b.1 in rw (e, t) at z)))
            (λ t. let f : described ≡ 0 → ⊥ = eqb-false _ _ t in omega arith);
        v-neither = λ e.
            (let z : (eqb m.flag 86 && not (eqb m.reason no_reason && eqb described 0)) ≡ false = not-true _ a.1 in
            let y : not (eqb m.reason no_reason && eqb described 0) ≡ false = rw e at z in
            let w = and-true (eqb m.reason no_reason) (eqb described 0) (not-false _ y) in
            (eqb-true _ _ w.0, eqb-true _ _ w.1));
      }

  pub together-agrees : Together m → agrees m ≡ true
  unfolding agrees across needs_reason
  together-agrees h =
      let described : ℕ = length m.text in
      let a : (needs_reason m.flag && eqb m.reason no_reason) ≡ false =
      by (eqb m.reason no_reason)
      (λ r. by (eqb m.flag 83) (λ t. absurd (h.s-reason (eqb-true _ _ t) (eqb-true _ _ r)))
      (λ t. by (eqb m.flag 70) (λ u. absurd (h.f-reason (eqb-true _ _ u) (eqb-true _ _ r))) (λ u. rw (t, u))))
      (λ r. by (needs_reason m.flag) (λ t. rw (t, r)) (λ t. rw t)) in
      let b : (eqb m.reason 0 && eqb described 0) ≡ false =
      by (eqb m.reason 0)
      (λ r. let l : 1 ≤ described = h.nought (eqb-true _ _ r) in rw (r, ne_eqb described 0 (λ e. omega arith)))
      (λ r. rw r) in
      let c : (eqb m.flag 86 && not (eqb m.reason no_reason && eqb described 0)) ≡ false =
      by (eqb m.flag 86) (λ t. let w = h.v-neither (eqb-true _ _ t) in rw (t, w.0, w.1)) (λ t. rw t) in
      rw (a, b, c)

module _ (k : ℕ) (fs : Record) where
  broken-none : (is : List ℕ) → broken_in k fs is ≡ Fine → Each (λ i. Together (mark_at k i fs)) is
  unfolding broken_in
  broken-none [] h = tt
  broken-none (i ∷ is) h =
      by (agrees (mark_at k i fs))
      (λ e. (agrees-together (mark_at k i fs) e, broken-none is (rw e at h)))
      (λ e. absurd (let z : Stop 7 (start_of i fs) (i + 1) ≡ Fine = (rw e at h) in let y : ◌≡◌ {A = ℕ} 0 1 = cc in let u : ⊥ = omega arith in u))

  none-broken : (is : List ℕ) → Each (λ i. Together (mark_at k i fs)) is → broken_in k fs is ≡ Fine
  unfolding broken_in
  none-broken [] h = refl
  none-broken (i ∷ is) h = rw (together-agrees (mark_at k i fs) h.0) (none-broken is h.1)

  -- no quality field breaks a rule exactly when every quality stands together with its reason and description
  pub unbroken-together : (n : ℕ) → f7 k n fs ≡ Fine → Each (λ i. Together (mark_at k i fs)) (qualities_of k n)
  unbroken-together n h = broken-none (qualities_of k n) h

  pub together-unbroken : (n : ℕ) → Each (λ i. Together (mark_at k i fs)) (qualities_of k n) → f7 k n fs ≡ Fine
  together-unbroken n h = none-broken (qualities_of k n) h

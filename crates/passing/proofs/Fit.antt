-- A record has no fault exactly when each test passes; and the kinds of records by what may come. Assumes nothing.
use Prim.Native.Nat.{ℕ, zero, suc, ◌+◌, ◌≤◌, ◌<◌}
use mathlib.Core.Path.{◌≡◌, sym, ◌∙◌, subst}
use mathlib.Core.Bool.{true, false, true≢false, not, ◌&&◌}
use mathlib.Core.List.{List, [], ◌∷◌}
use native.Mathlib.Omega.{arith}
use lib.ListN.{length}
use lib.Dec.{eqb, leb}
use borrow.Author.Tests.{eqb-true, eq-eqb, ne_eqb, lt-leb, leb-true, leb-false, le-ltb, ltb-false, not-false}
use Rattle.ground.specs.Lists.{all, span_of}
use Rattle.ground.proofs.Tests.{and-true}
use Rattle.ground.proofs.Cases.{by}
use Rattle.ground.proofs.Spans.{span-le, all-span, spanned-all}
use Rattle.format.specs.Bytes.{plain}
use Rattle.format.specs.Cut.{fields, field}
use Rattle.format.specs.Records.{Scale, kind_in, count_of, rule_of, obeys, date_in, first_in, last_in}
use Rattle.format.specs.Order.{Expected, may_come, in_varied, Due}
use Rattle.format.specs.Faults.{◌▹◌, f3, is_open, f10, f4, scale_of, f5, fault_in, f6, f7, is_not_later, f8, covers, is_off, f9, is_alike, f11, is_elsewhere, f12, fault_at, fault_of, Fault, Fine, Stop}
use Rattle.format.proofs.States.{no_kind}
use Rattle.format.proofs.Faults.{both-fine, stop-fine}

-- what 5, 6 and 7 ask of the fields of a record of the kind k, whose rules are made from z
abbrev pub Ok : ℕ → Scale → List (List ℕ) → Type 0
Ok k z fs = (length fs ≡ count_of k z) × (fault_in k z 0 0 fs ≡ Fine) × (f7 k z.n fs ≡ Fine)

-- each field meets its rule
module _ (k : ℕ) (z : Scale) where
  fine-first : (o a : ℕ) (f : List ℕ) (fs : List (List ℕ)) → fault_in k z o a (f ∷ fs) ≡ Fine
      → (obeys k (rule_of k z a) f ≡ true) × (fault_in k z (o + length f + 1) (a + 1) fs ≡ Fine)
  unfolding fault_in
  fine-first o a f fs e =
      by (obeys k (rule_of k z a) f) (λ t. (t, rw t at e)) (λ t. absurd (let y : Stop 6 o (a + 1) ≡ Fine = (rw t at e) in let z : true ≡ false = cc in true≢false z))

  pub fine-unbroken : (o a : ℕ) (fs : List (List ℕ)) → fault_in k z o a fs ≡ Fine → (j : ℕ) → j < length fs → obeys k (rule_of k z (a + j)) (field j fs) ≡ true
  fine-unbroken o a [] e j h = absurd (let z : ⊥ = omega arith in z)
  fine-unbroken o a (f ∷ fs) e zero h = let z : a + 0 ≡ a = omega arith in rw z (fine-first o a f fs e).0
  fine-unbroken o a (f ∷ fs) e (suc j) h =
      let z : a + suc j ≡ a + 1 + j = omega arith in
      rw z (fine-unbroken (o + length f + 1) (a + 1) fs (fine-first o a f fs e).1 j (omega arith))

-- ---- a record without a fault

module _ (st : Due) (r : List ℕ) where
  pub record Fit : Type 0 where
    pub bytes : all plain r ≡ true
    pub free : is_open st (kind_in (fields r)) ≡ false
    pub may : may_come st.expect (kind_in (fields r)) ≡ true
    pub ok : Ok (kind_in (fields r)) (scale_of st (kind_in (fields r)) (fields r)) (fields r)
    pub rises : is_not_later st (kind_in (fields r)) (fields r) ≡ false
    pub cover : is_off st (kind_in (fields r)) (fields r) ≡ false
    pub apart : is_alike st (kind_in (fields r)) (fields r) ≡ false
    pub day : is_elsewhere st (kind_in (fields r)) (fields r) ≡ false

  pub fit-fine : Fit → fault_of st r ≡ Fine
  unfolding fault_of fault_at
  fit-fine h =
      let e : span_of plain r ≡ length r = all-span plain r h.bytes in
      rw (
        e,
        le-ltb (length r) (length r) (omega arith),
        h.free,
        h.may,
        eq-eqb _ _ h.ok.0,
        h.ok.1,
        h.ok.2,
        h.rises,
        h.cover,
        h.apart,
        h.day,
      )

  pub fine-fit : fault_of st r ≡ Fine → Fit
  unfolding fault_of fault_at
  fine-fit e =
      let k : ℕ = kind_in (fields r) in
      let fs : List (List ℕ) = fields r in
      let z : Scale = scale_of st k fs in
      let s₁₂ : Fault = f12 st k fs in
      let s₁₁ : Fault = f11 st k fs ▹ s₁₂ in
      let s₉ : Fault = f9 st k fs ▹ s₁₁ in
      let s₈ : Fault = f8 st k fs ▹ s₉ in
      let s₇ : Fault = f7 k z.n fs ▹ s₈ in
      let s₆ : Fault = f6 k z fs ▹ s₇ in
      let s₅ : Fault = f5 k z fs ▹ s₆ in
      let s₄ : Fault = f4 st k ▹ s₅ in
      let a = both-fine (f3 r) (f10 st k ▹ s₄) e in
      let b = both-fine (f10 st k) s₄ a.1 in
      let c = both-fine (f4 st k) s₅ b.1 in
      let d = both-fine (f5 k z fs) s₆ c.1 in
      let i = both-fine (f6 k z fs) s₇ d.1 in
      let j = both-fine (f7 k z.n fs) s₈ i.1 in
      let f = both-fine (f8 st k fs) s₉ j.1 in
      let g = both-fine (f9 st k fs) s₁₁ f.1 in
      let h = both-fine (f11 st k fs) s₁₂ g.1 in
      let s : length r ≤ span_of plain r = ltb-false _ _ (stop-fine _ _ _ _ a.0) in
      record {
        bytes = spanned-all plain r (omega (arith, span-le plain r));
        free = stop-fine _ _ _ _ b.0;
        may = not-false _ (stop-fine _ _ _ _ c.0);
        ok = (eqb-true _ _ (not-false _ (stop-fine _ _ _ _ d.0)), i.0, j.0);
        rises = stop-fine _ _ _ _ f.0;
        cover = stop-fine _ _ _ _ g.0;
        apart = stop-fine _ _ _ _ h.0;
        day = stop-fine _ _ _ _ h.1;
      }

  -- what it leaves to be relied on of a 300 and of a 400
  pub fit-later : Fit → kind_in (fields r) ≡ 300 → st.date < date_in (fields r)
  unfolding is_not_later
  fit-later f e = leb-false _ _ (rw e at f.rises)

  pub fit-cover : Fit → kind_in (fields r) ≡ 400 → (first_in (fields r) ≡ st.next) × (first_in (fields r) ≤ last_in (fields r)) × (last_in (fields r) ≤ st.n)
  unfolding is_off covers
  fit-cover f e =
      let c : covers st (fields r) ≡ true = not-false _ (rw e at f.cover) in
      let v = and-true (eqb (first_in (fields r)) st.next) (leb (first_in (fields r)) (last_in (fields r)) && leb (last_in (fields r)) st.n) c in
      let w = and-true (leb (first_in (fields r)) (last_in (fields r))) (leb (last_in (fields r)) st.n) v.1 in
      (eqb-true _ _ v.0, leb-true _ _ w.0, leb-true _ _ w.1)

-- ---- what may come

pub data Head (x : Expected) (k : ℕ) : Type 0 where
  h100 : k ≡ 100 → may_come x 100 ≡ true → Head x k
  h200 : k ≡ 200 → may_come x 200 ≡ true → Head x k
  h300 : k ≡ 300 → may_come x 300 ≡ true → Head x k
  h400 : k ≡ 400 → may_come x 400 ≡ true → Head x k
  h500 : k ≡ 500 → may_come x 500 ≡ true → Head x k
  h250 : k ≡ 250 → may_come x 250 ≡ true → Head x k
  h550 : k ≡ 550 → may_come x 550 ≡ true → Head x k
  h900 : k ≡ 900 → may_come x 900 ≡ true → Head x k

pub head : (x : Expected) (k : ℕ) → may_come x k ≡ true → Head x k
head x k h =
    by (eqb k 100) (λ e. h100 (eqb-true k 100 e) (is 100 e))
    λ e₁. by (eqb k 200) (λ e. h200 (eqb-true k 200 e) (is 200 e))
    λ e₂. by (eqb k 300) (λ e. h300 (eqb-true k 300 e) (is 300 e))
    λ e₃. by (eqb k 400) (λ e. h400 (eqb-true k 400 e) (is 400 e))
    λ e₄. by (eqb k 500) (λ e. h500 (eqb-true k 500 e) (is 500 e))
    λ e₅. by (eqb k 250) (λ e. h250 (eqb-true k 250 e) (is 250 e))
    λ e₆. by (eqb k 550) (λ e. h550 (eqb-true k 550 e) (is 550 e))
    λ e₇. by (eqb k 900) (λ e. h900 (eqb-true k 900 e) (is 900 e))
    λ e₈. absurd (true≢false (sym h ∙ no_kind x k e₁ e₂ e₃ e₄ e₅ e₆ e₇ e₈))
  where
    is : (j : ℕ) → eqb k j ≡ true → may_come x j ≡ true
    is j e = subst (λ (i : ℕ). may_come x i ≡ true) (eqb-true k j e) h

-- ---- whether a V day is open

pub free_of : (st : Due) (k : ℕ) → is_open st k ≡ false → (k ≡ 400 → ⊥) → in_varied st.expect ≡ true → st.n < st.next
unfolding is_open
free_of st k h g e =
    let s : (leb st.next st.n && not (eqb k 400)) ≡ false = rw e at h in
    by (leb st.next st.n)
    (λ t. absurd (true≢false (let z : true ≡ false = (rw (t, ne_eqb k 400 g) at s) in z)))
    (λ t. leb-false _ _ t)

pub free-if : (st : Due) (k : ℕ) → (in_varied st.expect ≡ true → st.n < st.next) → is_open st k ≡ false
unfolding is_open
free-if st k h = by (in_varied st.expect) (λ t. rw (t, lt-leb _ _ (h t))) (λ t. rw t)

pub free-400 : (st : Due) → is_open st 400 ≡ false
unfolding is_open
free-400 st = by (in_varied st.expect) (λ t. by (leb st.next st.n) (λ u. rw (t, u)) (λ u. rw (t, u))) (λ t. rw t)

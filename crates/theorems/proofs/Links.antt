-- The fault of one record is the first entry of the table, in 01's order, that is given of it: link by link. Assumes nothing.
use Prim.Native.Nat.{ℕ, zero, suc, ◌+◌, ◌≤◌, ◌<◌}
use mathlib.Core.Path.{◌≡◌, refl, sym, ◌∙◌, subst}
use mathlib.Core.Logic.{inl, inr}
use mathlib.Core.Bool.{Bool, true, false, true≢false, not, ◌&&◌}
use mathlib.Core.List.{List, [], ◌∷◌}
use native.Mathlib.Omega.{arith}
use lib.ListN.{length, get_or, take, length-take}
use lib.Seq.{get_or-take}
use lib.Dec.{eqb, leb, ltb}
use borrow.Author.Tests.{eqb-true, eqb-false, eq-eqb, ne_eqb, le-leb, leb-true, ltb-true, ltb-false, not-true, not-false}
use Rattle.ground.specs.Lists.{all, span_of}
use Rattle.ground.proofs.Tests.{and-true}
use Rattle.ground.proofs.Cases.{by}
use Rattle.ground.proofs.Spans.{spanned-all, span-le}
use Rattle.format.specs.Bytes.{plain}
use Rattle.format.specs.Cut.{fields, field, start_of}
use Rattle.format.specs.Records.{Scale, kind_in, count_of, rule_of, obeys, date_in, first_in, last_in, read_time_in, qualities_of, mark_at, agrees}
use Rattle.format.specs.Order.{may_come, in_varied, Due, alike_with}
use Rattle.format.specs.Faults.{◌▹◌, stop, f3, is_open, f10, f4, scale_of, f5, fault_in, f6, broken_in, f7, is_not_later, f8, covers, is_off, f9, is_alike, f11, on_day, is_elsewhere, f12, fault_at, fault_of, Fault, Fine, Stop}
use Rattle.passing.proofs.Fit.{fine-unbroken}
use Rattle.theorems.specs.Grammar.{Record, Together}
use Rattle.theorems.specs.First.{Entry, Leftmost, entry3, entry10, entry4, entry5, entry6, entry7, entry8, entry9, entry11, entry12, in_order, Never, None, First}
use Rattle.theorems.proofs.Ends.{all-at}
use Rattle.theorems.proofs.Across.{agrees-together, together-agrees}
use Rattle.theorems.proofs.Calendar.{none-on, on-within, within_on}

-- ---- a link of the chain and its entry

record Link (f : Fault) (c : Entry) : Type 0 where
  stops : (x o i : ℕ) → f ≡ Stop x o i → (x ≡ c.number) × c.given o i
  fine : f ≡ Fine → Never c

test-link : (t : Bool) (o i : ℕ) (c : Entry) → (t ≡ true → c.given o i) → (t ≡ false → Never c) → Link (stop t c.number o i) c
test-link true o i c y n =
    record {
      stops = λ x p j e. (let a : x ≡ c.number = cc in let b : o ≡ p = cc in let d : i ≡ j = cc in (a, subst (λ (z : ℕ). c.given z j) b (subst (λ (z : ℕ). c.given o z) d (y refl))));
      fine = λ e. absurd (let z : true ≡ false = cc in true≢false z);
    }
test-link false o i c y n =
    record {
      stops = λ x p j e. absurd (let z : true ≡ false = cc in true≢false z);
      fine = λ e. n refl;
    }

-- ---- the single entries

span-take : (p : ℕ → Bool) (l : List ℕ) → all p (take (span_of p l) l) ≡ true
unfolding span_of
span-take p [] = refl
span-take p (b ∷ l) = by (p b) (λ e. rw (e, e) (span-take p l)) (λ e. rw e)

span-fails : (p : ℕ → Bool) (l : List ℕ) → span_of p l < length l → p (get_or l (span_of p l) 0) ≡ false
unfolding span_of
span-fails p [] h = absurd (let z : ⊥ = omega arith in z)
span-fails p (b ∷ l) h =
    by (p b)
    (λ e. let s : suc (span_of p l) < suc (length l) = (rw e at h) in rw e (span-fails p l (omega arith)))
    (λ e. rw (e, e))

link-3 : (r : List ℕ) → Link (f3 r) (entry3 r)
link-3 r =
    test-link (ltb (span_of plain r) (length r)) (span_of plain r) 0 (entry3 r)
    (λ t. let l = ltb-true _ _ t in (l, span-take plain r, span-fails plain r l, refl))
    (λ t o i g.
    let l : length r ≤ span_of plain r = ltb-false _ _ t in
    let w : plain (get_or r o 0) ≡ true = all-at plain r o (spanned-all plain r (omega (arith, span-le plain r))) g.0 in
    true≢false (sym w ∙ g.2))

module _ (st : Due) (k : ℕ) (z : Scale) (fs : Record) where
  link-10 : Link (f10 st k) (entry10 st k z fs)
  unfolding is_open
  link-10 =
      test-link (is_open st k) 0 0 (entry10 st k z fs)
      (λ t.
      let a = and-true (in_varied st.expect) (leb st.next st.n && not (eqb k 400)) t in
      let b = and-true (leb st.next st.n) (not (eqb k 400)) a.1 in
      (a.0, leb-true _ _ b.0, eqb-false _ _ (not-true _ b.1), refl, refl))
      (λ t o i g. true≢false (let z : true ≡ false = (rw (g.0, le-leb _ _ g.1, ne_eqb _ _ g.2) at t) in z))

  link-4 : Link (f4 st k) (entry4 st k z fs)
  link-4 = test-link (not (may_come st.expect k)) 0 0 (entry4 st k z fs) (λ t. (not-true _ t, refl, refl)) (λ t o i g. true≢false (sym (not-false _ t) ∙ g.0))

  link-5 : Link (f5 k z fs) (entry5 st k z fs)
  link-5 =
      test-link (not (eqb (length fs) (count_of k z))) 0 0 (entry5 st k z fs)
      (λ t. (eqb-false _ _ (not-true _ t), refl, refl))
      (λ t o i g. g.0 (eqb-true _ _ (not-false _ t)))

  link-8 : Link (f8 st k fs) (entry8 st k z fs)
  unfolding is_not_later
  link-8 =
      test-link (is_not_later st k fs) (start_of 1 fs) 2 (entry8 st k z fs)
      (λ t. let a = and-true (eqb k 300) (leb (date_in fs) st.date) t in (eqb-true _ _ a.0, leb-true _ _ a.1, refl, refl))
      (λ t o i g. true≢false (let z : true ≡ false = (rw (eq-eqb _ _ g.0, le-leb _ _ g.1) at t) in z))

  link-9 : Link (f9 st k fs) (entry9 st k z fs)
  unfolding is_off covers
  link-9 =
      test-link (is_off st k fs) (start_of 1 fs) 2 (entry9 st k z fs)
      (λ t.
      let a = and-true (eqb k 400) (not (covers st fs)) t in (
        eqb-true _ _ a.0,
        λ w. true≢false (let z : covers st fs ≡ false = not-true _ a.1 in let y : true ≡ false = (rw (eq-eqb _ _ w.0, le-leb _ _ w.1, le-leb _ _ w.2) at z) in y),
        refl,
        refl,
      ))
      (λ t o i g.
      let z : not (covers st fs) ≡ false = rw (eq-eqb _ _ g.0) at t in
      let a = and-true (eqb (first_in fs) st.next) (leb (first_in fs) (last_in fs) && leb (last_in fs) st.n) (not-false _ z) in
      let b = and-true (leb (first_in fs) (last_in fs)) (leb (last_in fs) st.n) a.1 in
      g.1 (eqb-true _ _ a.0, leb-true _ _ b.0, leb-true _ _ b.1))

  link-11 : Link (f11 st k fs) (entry11 st k z fs)
  unfolding is_alike
  link-11 =
      test-link (is_alike st k fs) 0 0 (entry11 st k z fs)
      (λ t.
      let a = and-true (eqb k 400) (eqb (last_in fs) st.n && alike_with st fs) t in
      let b = and-true (eqb (last_in fs) st.n) (alike_with st fs) a.1 in
      (eqb-true _ _ a.0, eqb-true _ _ b.0, b.1, refl, refl))
      (λ t o i g. true≢false (let z : true ≡ false = (rw (eq-eqb _ _ g.0, eq-eqb _ _ g.1, g.2) at t) in z))

  link-12 : Link (f12 st k fs) (entry12 st k z fs)
  unfolding is_elsewhere
  link-12 =
      test-link (is_elsewhere st k fs) (start_of 3 fs) 4 (entry12 st k z fs)
      (λ t.
      let a = and-true (eqb k 500) (not (on_day st.date (read_time_in fs))) t in
      let b : on_day st.date (read_time_in fs) ≡ false = not-true _ a.1 in (
        eqb-true _ _ a.0,
        λ e. true≢false (let z : on_day st.date 0 ≡ false = (rw e at b) in sym (none-on st.date) ∙ z),
        λ w. true≢false (sym (within_on _ _ w) ∙ b),
        refl,
        refl,
      ))
      (λ t o i g. let z : not (on_day st.date (read_time_in fs)) ≡ false = rw (eq-eqb _ _ g.0) at t in g.2 (on-within _ _ g.1 (not-false _ z)))

-- ---- 6

-- of fields from the number a on, the one that is the j-th from there is the leftmost that breaks its rule
record Breaks (k : ℕ) (z : Scale) (a : ℕ) (fs : Record) (j : ℕ) : Type 0 where
  inside : j < length fs
  broken : obeys k (rule_of k z (a + j)) (field j fs) ≡ false
  before : (l : ℕ) → l < j → obeys k (rule_of k z (a + l)) (field l fs) ≡ true

module _ (k : ℕ) (z : Scale) where
  break-on : (a : ℕ) (f : List ℕ) (fs : Record) (j : ℕ) → obeys k (rule_of k z a) f ≡ true → Breaks k z (a + 1) fs j → Breaks k z a (f ∷ fs) (suc j)
  break-on a f fs j t b =
      let e : (l : ℕ) → a + suc l ≡ a + 1 + l = λ l. omega arith in
      record {
        inside = omega (arith, b.inside);
        broken = rw (e j) b.broken;
        before = earlier;
      }
    where
      earlier : (l : ℕ) → l < suc j → obeys k (rule_of k z (a + l)) (field l (f ∷ fs)) ≡ true
      earlier zero h = let z : a + 0 ≡ a = omega arith in rw z t
      earlier (suc l) h = let z : a + suc l ≡ a + 1 + l = omega arith in rw z (b.before l (omega arith))

  fault-breaks : (o a : ℕ) (fs : Record) (x p i : ℕ) → fault_in k z o a fs ≡ Stop x p i → (x ≡ 6) × (j : ℕ) × Breaks k z a fs j × (p ≡ o + start_of j fs) × (i ≡ a + j + 1)
  unfolding fault_in start_of
  fault-breaks o a [] x p i e = absurd (let z : true ≡ false = cc in true≢false z)
  fault-breaks o a (f ∷ fs) x p i e =
      by (obeys k (rule_of k z a) f)
      (λ t.
      let w = fault-breaks (o + length f + 1) (a + 1) fs x p i (rw t at e) in
      (w.0, suc w.1, break-on a f fs w.1 t w.2, omega (arith, w.3), omega (arith, w.4)))
      (λ t.
      let y : Stop 6 o (a + 1) ≡ Stop x p i = rw t at e in
      let z : a + 0 ≡ a = omega arith in
      let ex : x ≡ 6 = cc in
      let ep : p ≡ o = cc in
      let ei : i ≡ a + 1 = cc in
      (ex, 0, record { inside = omega arith; broken = rw z t; before = λ l h. absurd (let u : ⊥ = omega arith in u) }, omega arith, omega arith))

  link-6 : (st : Due) (fs : Record) → Link (f6 k z fs) (entry6 st k z fs)
  link-6 st fs =
      record {
        stops = λ x o i e.
            (let w = fault-breaks 0 0 fs x o i e in
            let b = w.2 in
            let y : (l : ℕ) → 0 + l ≡ l = λ l. omega arith in
            (w.0, (w.1, b.inside, rw (y w.1) at b.broken, λ l h. rw (y l) at (b.before l h), omega (arith, w.3), omega (arith, w.4))));
        fine = λ e o i g.
            (let y : 0 + g.0 ≡ g.0 = omega arith in
            let t : obeys k (rule_of k z g.0) (field g.0 fs) ≡ true = rw y at (fine-unbroken k z 0 0 fs e g.0 g.1) in
            true≢false (sym t ∙ g.2));
      }

-- ---- 7

module _ (k : ℕ) (fs : Record) where
  broken-leftmost : (js : List ℕ) (x o i : ℕ) → broken_in k fs js ≡ Stop x o i
      → (x ≡ 7) × (j : ℕ) × Leftmost (λ a. Together (mark_at k a fs)) j js × (o ≡ start_of j fs) × (i ≡ j + 1)
  unfolding broken_in
  broken-leftmost [] x o i e = absurd (let z : true ≡ false = cc in true≢false z)
  broken-leftmost (a ∷ js) x o i e =
      by (agrees (mark_at k a fs))
      (λ t. let w = broken-leftmost js x o i (rw t at e) in (w.0, w.1, inr (agrees-together (mark_at k a fs) t, w.2), w.3, w.4))
      (λ t.
      let y : Stop 7 (start_of a fs) (a + 1) ≡ Stop x o i = rw t at e in
      let ex : x ≡ 7 = cc in
      let eo : o ≡ start_of a fs = cc in
      let ei : i ≡ a + 1 = cc in
      (ex, a, inl (refl, λ g. true≢false (sym (together-agrees (mark_at k a fs) g) ∙ t)), eo, ei))

  unbroken-none : (js : List ℕ) (j : ℕ) → broken_in k fs js ≡ Fine → Leftmost (λ a. Together (mark_at k a fs)) j js → ⊥
  unfolding broken_in
  unbroken-none [] j e g = g
  unbroken-none (a ∷ js) j e (inl w) =
      by (agrees (mark_at k a fs))
      (λ t. w.1 (agrees-together (mark_at k a fs) t))
      (λ t. let y : Stop 7 (start_of a fs) (a + 1) ≡ Fine = (rw t at e) in let z : true ≡ false = cc in true≢false z)
  unbroken-none (a ∷ js) j e (inr w) = unbroken-none js j (rw (together-agrees (mark_at k a fs) w.0) at e) w.1

  link-7 : (st : Due) (z : Scale) → Link (f7 k z.n fs) (entry7 st k z fs)
  link-7 st z =
      record {
        stops = λ x o i e. (let w = broken-leftmost (qualities_of k z.n) x o i e in (w.0, (w.1, w.2, w.3, w.4)));
        fine = λ e o i g. unbroken-none (qualities_of k z.n) g.0 e g.1;
      }

-- ---- the chain

-- what a fault says of entries
record Says (f : Fault) (cs : List Entry) : Type 0 where
  first : (x o i : ℕ) → f ≡ Stop x o i → First x o i cs
  none : f ≡ Fine → None cs

says_last : (f : Fault) (c : Entry) → Link f c → Says f (c ∷ [])
says_last f c l = record { first = λ x o i e. inl (l.stops x o i e); none = λ e. (l.fine e, tt) }

says_on : (f g : Fault) (c : Entry) (cs : List Entry) → Link f c → Says g cs → Says (f ▹ g) (c ∷ cs)
says_on Fine g c cs l s = record { first = λ x o i e. inr (l.fine refl, s.first x o i e); none = λ e. (l.fine refl, s.none e) }
says_on (Stop y p j) g c cs l s =
    record { first = λ x o i e. inl (l.stops x o i e); none = λ e. absurd (let z : true ≡ false = cc in true≢false z) }

says : (st : Due) (r : List ℕ) → Says (fault_of st r) (in_order st r)
unfolding fault_of fault_at
says st r =
    let fs : Record = fields r in
    let k : ℕ = kind_in fs in
    let z : Scale = scale_of st k fs in
    says_on _ _ _ _ (link-3 r)
    (says_on _ _ _ _ (link-10 st k z fs)
    (says_on _ _ _ _ (link-4 st k z fs)
    (says_on _ _ _ _ (link-5 st k z fs)
    (says_on _ _ _ _ (link-6 k z st fs)
    (says_on _ _ _ _ (link-7 k fs st z)
    (says_on _ _ _ _ (link-8 st k z fs)
    (says_on _ _ _ _ (link-9 st k z fs)
    (says_on _ _ _ _ (link-11 st k z fs)
    (says_last _ _ (link-12 st k z fs))))))))))

-- ---- both ways

module _ (st : Due) (r : List ℕ) where
  pub fault-first : (x o i : ℕ) → fault_of st r ≡ Stop x o i → First x o i (in_order st r)
  fault-first x o i e = (says st r).first x o i e

  pub fine-none : fault_of st r ≡ Fine → None (in_order st r)
  fine-none e = (says st r).none e

none_first : (cs : List Entry) (x o i : ℕ) → None cs → First x o i cs → ⊥
none_first [] x o i n f = f
none_first (c ∷ cs) x o i n (inl w) = n.0 o i w.1
none_first (c ∷ cs) x o i n (inr w) = none_first cs x o i n.1 w.1

-- each entry is given at one place with one field
abbrev Single : Entry → Type 0
Single c = (o i p j : ℕ) → c.given o i → c.given p j → (o ≡ p) × (i ≡ j)

abbrev Singles : List Entry → Type 0
Singles [] = Unit {0}
Singles (c ∷ cs) = Single c × Singles cs

once : (cs : List Entry) (x o i y p j : ℕ) → Singles cs → First x o i cs → First y p j cs → (x ≡ y) × (o ≡ p) × (i ≡ j)
once [] x o i y p j s f g = absurd f
once (c ∷ cs) x o i y p j s (inl f) (inl g) = let w = s.0 o i p j f.1 g.1 in (f.0 ∙ sym g.0, w.0, w.1)
once (c ∷ cs) x o i y p j s (inl f) (inr g) = absurd (g.0 o i f.1)
once (c ∷ cs) x o i y p j s (inr f) (inl g) = absurd (f.0 p j g.1)
once (c ∷ cs) x o i y p j s (inr f) (inr g) = once cs x o i y p j s.1 f.1 g.1

-- the leftmost of what fails: of two, neither is before the other
leftmost-place : (a b : ℕ) → (a < b → ⊥) → (b < a → ⊥) → a ≡ b
leftmost-place a b h k = by (ltb a b) (λ t. absurd (h (ltb-true a b t))) (λ t. by (ltb b a) (λ u. absurd (k (ltb-true b a u))) (λ u. omega (arith, ltb-false a b t, ltb-false b a u)))

single-3 : (r : List ℕ) → Single (entry3 r)
single-3 r o i p j a b = (
  leftmost-place o p
      (λ l. true≢false (sym (plain-before o p a.0 b.1 l) ∙ a.2))
      (λ l. true≢false (sym (plain-before p o b.0 a.1 l) ∙ b.2)),
  a.3 ∙ sym b.3,
)
  where
    plain-before : (s t : ℕ) → s < length r → all plain (take t r) ≡ true → s < t → plain (get_or r s 0) ≡ true
    plain-before s t h k l =
        let w : plain (get_or (take t r) s 0) ≡ true = all-at plain (take t r) s k (omega (arith, length-take t r)) in
        rw (get_or-take t r s 0 l) at w

module _ (st : Due) (k : ℕ) (z : Scale) (fs : Record) where
  single-6 : Single (entry6 st k z fs)
  single-6 o i p j a b =
      let e : a.0 ≡ b.0 = leftmost-place a.0 b.0 (λ l. true≢false (sym (b.3 a.0 l) ∙ a.2)) (λ l. true≢false (sym (a.3 b.0 l) ∙ b.2)) in
      (a.4 ∙ rw e (sym b.4), a.5 ∙ rw e (sym b.5))

  single-7 : Single (entry7 st k z fs)
  single-7 o i p j a b =
      let e : a.0 ≡ b.0 = one (qualities_of k z.n) a.0 b.0 a.1 b.1 in
      (a.2 ∙ rw e (sym b.2), a.3 ∙ rw e (sym b.3))
    where
      one : (js : List ℕ) (u v : ℕ) → Leftmost (λ c. Together (mark_at k c fs)) u js → Leftmost (λ c. Together (mark_at k c fs)) v js → u ≡ v
      one [] u v f g = absurd f
      one (c ∷ js) u v (inl f) (inl g) = f.0 ∙ sym g.0
      one (c ∷ js) u v (inl f) (inr g) = absurd (f.1 g.0)
      one (c ∷ js) u v (inr f) (inl g) = absurd (g.1 f.0)
      one (c ∷ js) u v (inr f) (inr g) = one js u v f.1 g.1

singles : (st : Due) (r : List ℕ) → Singles (in_order st r)
singles st r =
    let fs : Record = fields r in
    let k : ℕ = kind_in fs in
    let z : Scale = scale_of st k fs in (
      single-3 r,
      (
        λ o i p j a b. (a.3 ∙ sym b.3, a.4 ∙ sym b.4),
        (
          λ o i p j a b. (a.1 ∙ sym b.1, a.2 ∙ sym b.2),
          (
            λ o i p j a b. (a.1 ∙ sym b.1, a.2 ∙ sym b.2),
            (
              single-6 st k z fs,
              (
                single-7 st k z fs,
                (
                  λ o i p j a b. (a.2 ∙ sym b.2, a.3 ∙ sym b.3),
                  (
                    λ o i p j a b. (a.2 ∙ sym b.2, a.3 ∙ sym b.3),
                    (
                      λ o i p j a b. (a.3 ∙ sym b.3, a.4 ∙ sym b.4),
                      (λ o i p j a b. (a.3 ∙ sym b.3, a.4 ∙ sym b.4), tt),
                    ),
                  ),
                ),
              ),
            ),
          ),
        ),
      ),
    )

module _ (st : Due) (r : List ℕ) where
  pub none-fine : None (in_order st r) → fault_of st r ≡ Fine
  none-fine h = go (fault_of st r) refl
    where
      go : (f : Fault) → fault_of st r ≡ f → fault_of st r ≡ Fine
      go Fine e = e
      go (Stop x o i) e = absurd (none_first (in_order st r) x o i h (fault-first st r x o i e))

  pub first-fault : (x o i : ℕ) → First x o i (in_order st r) → fault_of st r ≡ Stop x o i
  first-fault x o i h = go (fault_of st r) refl
    where
      go : (f : Fault) → fault_of st r ≡ f → fault_of st r ≡ Stop x o i
      go Fine e = absurd (none_first (in_order st r) x o i (fine-none st r e) h)
      go (Stop y p j) e =
          let w = once (in_order st r) y p j x o i (singles st r) (fault-first st r y p j e) h in
          e ∙ rw (w.0, w.1, w.2)

-- ---- the numbers are those from 3 to 12

abbrev in_table : ℕ → Bool
in_table x = leb 3 x && leb x 12

abbrev within : List Entry → Bool
within [] = true
within (c ∷ cs) = in_table c.number && within cs

first-within : (cs : List Entry) (x o i : ℕ) → within cs ≡ true → First x o i cs → in_table x ≡ true
first-within [] x o i w f = absurd f
first-within (c ∷ cs) x o i w (inl f) = rw f.0 (and-true (in_table c.number) (within cs) w).0
first-within (c ∷ cs) x o i w (inr f) = first-within cs x o i (and-true (in_table c.number) (within cs) w).1 f.1

pub fault-number : (st : Due) (r : List ℕ) (x o i : ℕ) → fault_of st r ≡ Stop x o i → (3 ≤ x) × (x ≤ 12)
fault-number st r x o i e =
    let w = and-true (leb 3 x) (leb x 12) (first-within (in_order st r) x o i refl (fault-first st r x o i e)) in
    (leb-true _ _ w.0, leb-true _ _ w.1)

-- Marks: the test that two are the same decides it, a fit mark's texts are read back by the rules of their fields, and none that is read back so
-- is shorter. Assumes nothing.
use Rattle.std.proofs.Common.{Option, Some, None}
use Prim.Native.Nat.{ℕ, ◌+◌, ◌≤◌, ◌<◌}
use mathlib.Core.Path.{◌≡◌, refl, sym, ap}
use mathlib.Core.Bool.{Bool, true, false, cond, ◌&&◌, false≢true}
use mathlib.Core.Logic.{◌≢◌}
use mathlib.Core.List.{List, [], ◌∷◌}
use native.Mathlib.Omega.{arith}
use lib.ListN.{length, get_or, drop, length-append, length-drop}
use lib.Dec.{eqb, ltb}
use borrow.Author.Tests.{eq-eqb, ne_eqb, eqb-true, ltb-true}
use Rattle.ground.specs.Lists.{same}
use Rattle.ground.specs.Digits.{padded}
use Rattle.ground.proofs.Tests.{and-true}
use Rattle.ground.proofs.Cases.{same_or, by, both}
use Rattle.ground.proofs.Same.{same-itself, same-sound}
use Rattle.ground.proofs.Decimal.{decimal-below}
use Rattle.ground.proofs.Digits.{length-padded}
use Rattle.format.specs.Numbers.{number_of}
use Rattle.format.specs.Quality.{of_intervals, stands_alone, takes_method, no_method, with_method, method_in, quality_of, Mark, same_mark, grade}
use Rattle.format.specs.Block.{fit_quality, quality_text, reason_text, mark_text}
use Rattle.format.proofs.Numbers.{Got, got}
use Rattle.format.proofs.NumberText.{two_back}

-- ---- the same mark

pub mark-itself : (m : Mark) → same_mark m m ≡ true
unfolding same_mark
mark-itself m =
    both (eqb m.flag m.flag && eqb m.method m.method && eqb m.reason m.reason) (same m.text m.text)
    (both (eqb m.flag m.flag && eqb m.method m.method) (eqb m.reason m.reason)
    (both (eqb m.flag m.flag) (eqb m.method m.method) (eq-eqb m.flag m.flag refl) (eq-eqb m.method m.method refl)) (eq-eqb m.reason m.reason refl))
    (same-itself m.text)

abbrev mark : ℕ → ℕ → ℕ → List ℕ → Mark
mark q m r t = record { flag = q; method = m; reason = r; text = t }

alike : {q q' m m' r r' : ℕ} {t t' : List ℕ} → q ≡ q' → m ≡ m' → r ≡ r' → t ≡ t' → mark q m r t ≡ mark q' m' r' t'
alike e f g h = rw (e, f, g, h)

pub mark-sound : (a b : Mark) → same_mark a b ≡ true → a ≡ b
unfolding same_mark
mark-sound a b e =
    let c1 = and-true (eqb a.flag b.flag && eqb a.method b.method && eqb a.reason b.reason) (same a.text b.text) e in
    let c2 = and-true (eqb a.flag b.flag && eqb a.method b.method) (eqb a.reason b.reason) c1.0 in
    let c3 = and-true (eqb a.flag b.flag) (eqb a.method b.method) c2.0 in
    alike (eqb-true _ _ c3.0) (eqb-true _ _ c3.1) (eqb-true _ _ c2.1) (same-sound _ _ c1.1)

-- two marks, one part after the other
module _ (a b : Mark) where
  pub flags-differ : (a.flag ≡ b.flag → ⊥) → false ≡ same_mark a b
  unfolding same_mark
  flags-differ h = rw (ne_eqb _ _ h)

  pub methods-differ : a.flag ≡ b.flag → (a.method ≡ b.method → ⊥) → false ≡ same_mark a b
  unfolding same_mark
  methods-differ e h = rw (eq-eqb _ _ e, ne_eqb _ _ h)

  pub reasons-differ : a.flag ≡ b.flag → a.method ≡ b.method → (a.reason ≡ b.reason → ⊥) → false ≡ same_mark a b
  unfolding same_mark
  reasons-differ e f h = rw (eq-eqb _ _ e, eq-eqb _ _ f, ne_eqb _ _ h)

  pub texts-compared : {d : Bool} → a.flag ≡ b.flag → a.method ≡ b.method → a.reason ≡ b.reason → d ≡ same a.text b.text → d ≡ same_mark a b
  unfolding same_mark
  texts-compared e f g h = rw (eq-eqb _ _ e, eq-eqb _ _ f, eq-eqb _ _ g) h

-- ---- a quality

-- what stands alone is A, N or V
pub alone-is : {X : Type 0} (k q : ℕ) → stands_alone k q ≡ true → (q ≡ 65 → X) → (q ≡ 78 → X) → (q ≡ 86 → X) → X
unfolding stands_alone
alone-is k q e a n v =
    same_or q 65 a
    (λ f. same_or q 78 n
    (λ g. same_or q 86 v (λ h. absurd (false≢true (rw (ne_eqb q 65 f, ne_eqb q 78 g, ne_eqb q 86 h) at e)))))

-- what stands alone in a 400 does in every record that says the quality of intervals
alone-in : (k q : ℕ) → of_intervals k ≡ true → stands_alone 400 q ≡ true → stands_alone k q ≡ true
unfolding stands_alone
alone-in k q i t = alone-is 400 q t (λ e. rw e) (λ e. rw (e, i)) (λ e. absurd (false≢true (rw e at t)))

-- E, F and S stand alone in no record
pub method-flag : (k q : ℕ) → takes_method q ≡ true → stands_alone k q ≡ false
unfolding takes_method stands_alone
method-flag k q e =
    same_or q 69 (λ h. rw h)
    (λ h. same_or q 70 (λ g. rw g)
    (λ g. same_or q 83 (λ f. rw f) (λ f. absurd (false≢true (rw (ne_eqb q 69 h, ne_eqb q 70 g, ne_eqb q 83 f) at e)))))

-- the text with no method, and with one
pub quality-alone : (q m : ℕ) → m ≡ no_method → quality_text q m ≡ q ∷ []
unfolding quality_text
quality-alone q m e = rw (eq-eqb m no_method e)

pub quality-graded : (q m : ℕ) → m ≢ no_method → quality_text q m ≡ q ∷ padded 2 m
unfolding quality_text
quality-graded q m e = rw (ne_eqb m no_method e)

back_alone : (k q m : ℕ) → stands_alone k q ≡ true → m ≡ no_method → quality_of k (quality_text q m) ≡ Some (grade q m)
unfolding quality_of
back_alone k q m e d = rw (quality-alone q m d, e, d)

back-graded : (k q m : ℕ) → takes_method q ≡ true → m < 100 → quality_of k (quality_text q m) ≡ Some (grade q m)
unfolding quality_of
back-graded k q m t h = rw (quality-graded q m (λ e. omega arith), method-flag k q t, t, two_back m h)

pub quality-back : (k q m : ℕ) → of_intervals k ≡ true → fit_quality q m ≡ true → quality_of k (quality_text q m) ≡ Some (grade q m)
unfolding fit_quality
quality-back k q m i f =
    by (stands_alone 400 q)
    (λ t. back_alone k q m (alone-in k q i t) (eqb-true m no_method (rw t at f)))
    (λ t. let g = and-true (takes_method q) (ltb m 100) (rw t at f) in back-graded k q m g.0 (ltb-true m 100 g.1))

of-alone : (b : Bool) (x q m : ℕ) → cond b (Some (grade x no_method)) None ≡ Some (grade q m) → (b ≡ true) × (m ≡ no_method)
of-alone true x q m e = (refl, sym (ap method_in e))
of-alone false x q m e = let z : ◌≡◌ {A = ℕ} 0 1 = cc in absurd (omega arith)

of-graded : (b : Bool) (x q m : ℕ) (y : Option ℕ) → cond b (with_method x y) None ≡ Some (grade q m) → y ≡ Some m
of-graded true x q m (Some v) e = ap Some (ap method_in e)
of-graded true x q m None e = let z : ◌≡◌ {A = ℕ} 0 1 = cc in absurd (omega arith)
of-graded false x q m y e = let z : ◌≡◌ {A = ℕ} 0 1 = cc in absurd (omega arith)

pub quality-shortest : (k : ℕ) (s : List ℕ) (q m : ℕ) → quality_of k s ≡ Some (grade q m) → length (quality_text q m) ≤ length s
unfolding quality_of
quality-shortest k s q m e =
    by (stands_alone k (get_or s 0 0))
    (λ t. let g = of-alone (eqb (length s) 1) (get_or s 0 0) q m (rw t at e) in
    omega (arith, ap length (quality-alone q m g.1), eqb-true (length s) 1 g.0))
    (λ t. let h = got 2 2 (drop 1 s) m (of-graded (takes_method (get_or s 0 0)) (get_or s 0 0) q m (number_of 2 2 (drop 1 s)) (rw t at e)) in
    let b : m < 100 = omega (arith, rw (two-long s h) at (decimal-below (drop 1 s) h.is), h.number) in
    omega (arith, ap length (quality-graded q m (λ d. omega arith)), length-padded 2 m, length-drop 1 s, h.low))
  where
    two-long : (s : List ℕ) → Got 2 2 (drop 1 s) m → length (drop 1 s) ≡ 2
    two-long s h = omega (arith, h.low, h.high)

-- ---- a mark's text

pub length-mark : (m : Mark) → length (mark_text m) ≡ length (quality_text m.flag m.method) + length (reason_text m.reason) + length m.text + 2
unfolding mark_text
length-mark m = simp length-append (omega arith)

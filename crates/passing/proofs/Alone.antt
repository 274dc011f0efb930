-- A block on its own: its check accepts exactly the bytes that are accepted as a block behind a 200, and these are accepted wherever a day of their date may
-- stand. Assumes nothing.
use Prim.Native.Nat.{ℕ, suc, ◌+◌, ◌<◌}
use mathlib.Core.Path.{◌≡◌, refl, sym, ap, ◌∙◌, subst}
use mathlib.Core.Logic.{◌≢◌, ◌↔◌}
use mathlib.Core.Bool.{true, false, cond, ◌||◌}
use mathlib.Core.List.{List, [], ◌∷◌, ◌++◌}
use native.Mathlib.Omega.{arith}
use lib.ListN.{length}
use lib.Dec.{eqb}
use borrow.Author.Tests.{eqb-false, eq-eqb, ne_eqb, not-false}
use Rattle.ground.proofs.Tests.{and-true}
use Rattle.ground.proofs.Cases.{by, both}
use Rattle.format.specs.Numbers.{intervals_of}
use Rattle.format.specs.Units.{is_unit, decimals_of}
use Rattle.format.specs.Cut.{Lines, line, rest, lines, fields}
use Rattle.format.specs.Records.{kind_in, date_in, update_in, load_in}
use Rattle.format.specs.Order.{first300, may_come, in_day, Due, is_varied}
use Rattle.format.specs.Answers.{accepted, refused}
use Rattle.format.specs.Faults.{◌▹◌, stop, f3, is_open, f10, fault_at, fault_of, Fault, Fine}
use Rattle.format.specs.File.{after, behind200, is_foreign, block_fault_of, end_of, block_walk_of, top_says, block_check_of}
use Rattle.format.proofs.Faults.{both-fine, stop-fine}
use Rattle.format.proofs.States.{implied, only}
use Rattle.passing.specs.Passes.{Passes, kinds_of, are_under, Free, Accepted, top_date, Awaits, Alone}
use Rattle.passing.proofs.Fit.{fine-fit, fit-fine, free_of, free-if}
use Rattle.passing.proofs.Steps.{after-300, after-400, after-500}
use Rattle.passing.proofs.Walk.{not-accepted, on_fine}
use Rattle.passing.proofs.Blocks.{headed, under_one, accepted-there, accepted-later}

-- ---- one record

module _ (st : Due) (r : List ℕ) where
  -- the block's tests are the file's, and that the record is not foreign to it
  pub alone-fine : block_fault_of st r ≡ Fine → (is_foreign st (kind_in (fields r)) ≡ false) × (fault_of st r ≡ Fine)
  unfolding block_fault_of
  alone-fine e =
      let a = both-fine (f3 r) _ e in
      let b = both-fine (f10 st (kind_in (fields r))) _ a.1 in
      let c = both-fine (stop (is_foreign st (kind_in (fields r))) 4 0 0) _ b.1 in
      (stop-fine _ _ _ _ c.0, c.1)

  fine-alone : is_foreign st (kind_in (fields r)) ≡ false → fault_of st r ≡ Fine → block_fault_of st r ≡ Fine
  unfolding block_fault_of fault_of fault_at
  fine-alone h e =
      let a = both-fine (f3 r) _ e in
      let b = both-fine (f10 st (kind_in (fields r))) _ a.1 in
      all-fine (f3 r) (f10 st (kind_in (fields r))) (stop (is_foreign st (kind_in (fields r))) 4 0 0) (fault_of st r) a.0 b.0 (rw h) e
    where
      all-fine : (f g h q : Fault) → f ≡ Fine → g ≡ Fine → h ≡ Fine → q ≡ Fine → (f ▹ g ▹ h ▹ q) ≡ Fine
      all-fine f g h q e₁ e₂ e₃ e₄ = rw (e₁, e₂, e₃, e₄)

-- ---- the records under the 300

-- under a day
abbrev pub Inside : Due → Type 0
Inside st = in_day st.expect ≡ true

module _ (st : Due) (r : List ℕ) where
  pub inside-kind : Inside st → is_foreign st (kind_in (fields r)) ≡ false → (eqb (kind_in (fields r)) 400 || eqb (kind_in (fields r)) 500) ≡ true
  unfolding is_foreign
  inside-kind i h = not-false _ (rw i at h)

  kind-inside : (eqb (kind_in (fields r)) 400 || eqb (kind_in (fields r)) 500) ≡ true → is_foreign st (kind_in (fields r)) ≡ false
  unfolding is_foreign
  kind-inside h = rw h (by (in_day st.expect) (λ t. rw t) (λ t. rw t))

  pub inside-after : (eqb (kind_in (fields r)) 400 || eqb (kind_in (fields r)) 500) ≡ true → Inside (after st r)
  inside-after h = under_one (kind_in (fields r)) h (λ k. rw (after-400 st r k)) (λ k. rw (after-500 st r k))

-- a 300 may come where a day may end
inside-free : (st : Due) → Inside st → is_open st 0 ≡ false → Free st
inside-free st i h = (implied in_day (λ x. may_come x 300) refl st.expect i, free-if st 300 (free_of st 0 h (λ z. omega arith)))

-- what is accepted of a block from a state under its 300 on, behind k records, where its 300 says x
record Rest (x : List ℕ) (st : Due) (k : ℕ) (ls : Lines) (ys : List ℕ) : Type 0 where
  under : are_under (kinds_of ls) ≡ true
  end : Due
  passes : Passes st ls end
  free : Free end
  says : ys ≡ x ++ (k + length (kinds_of ls)) ∷ []

ended : (x : List ℕ) (st : Due) (p k : ℕ) (t ys : List ℕ) → Inside st → block_walk_of x st p k (rest t) ≡ accepted ys → Rest x st k (rest t) ys
unfolding block_walk_of end_of
ended x st p k (b ∷ t) ys i e = not-accepted 2 p k 0 ys (let z : cond (eqb (suc (length t)) 0) (end_of x st p k) (refused 2 p k 0) ≡ accepted ys = (rw i at e) in rw (ne_eqb (suc (length t)) 0 (λ y. omega arith)) at z)
ended x st p k [] ys i e =
    by (is_open st 0)
    (λ o. not-accepted 10 p k 0 ys (rw (i, o) at e))
    (λ o.
    let z : accepted (x ++ k ∷ []) ≡ accepted ys = rw (i, o) at e in
    let y : ys ≡ x ++ k ∷ [] = cc in
    let q : k ≡ k + 0 = omega arith in
    record { under = refl; end = st; passes = (refl, refl); free = inside-free st i o; says = y ∙ ap (λ (j : ℕ). x ++ j ∷ []) q })

walk-rest : (x : List ℕ) (st : Due) (p k : ℕ) (ls : Lines) (ys : List ℕ) → Inside st → block_walk_of x st p k ls ≡ accepted ys → Rest x st k ls ys
unfolding block_walk_of
walk-rest x st p k (rest t) ys i e = ended x st p k t ys i e
walk-rest x st p k (line r ls) ys i e =
    let w = on_fine p k (block_fault_of st r) (block_walk_of x (after st r) (p + length r + 2) (k + 1) ls) ys e in
    let v = alone-fine st r w.0 in
    let u = inside-kind st r i v.0 in
    let g = walk-rest x (after st r) (p + length r + 2) (k + 1) ls ys (inside-after st r u) w.1 in
    let q : k + 1 + length (kinds_of ls) ≡ k + suc (length (kinds_of ls)) = omega arith in
    record {
      under = both _ (are_under (kinds_of ls)) u g.under;
      end = g.end;
      passes = (v.1, g.passes);
      free = g.free;
      says = g.says ∙ ap (λ (j : ℕ). x ++ j ∷ []) q;
    }

rest-walk : (x : List ℕ) (st end : Due) (p k : ℕ) (ls : Lines) → Inside st → are_under (kinds_of ls) ≡ true → Passes st ls end → Free end
    → block_walk_of x st p k ls ≡ accepted (x ++ (k + length (kinds_of ls)) ∷ [])
unfolding block_walk_of end_of
rest-walk x st end p k (rest t) i u h f =
    let g : Free st = subst Free (sym h.1) f in
    let o : is_open st 0 ≡ false = free-if st 0 (free_of st 300 g.1 (λ z. omega arith)) in
    let q : k + 0 ≡ k = omega arith in
    rw (h.0, i, o, q)
rest-walk x st end p k (line r ls) i u h f =
    let w = and-true (eqb (kind_in (fields r)) 400 || eqb (kind_in (fields r)) 500) (are_under (kinds_of ls)) u in
    let q : k + 1 + length (kinds_of ls) ≡ k + suc (length (kinds_of ls)) = omega arith in
    rw (fine-alone st r (kind-inside st r w.0) h.0)
    (rest-walk x (after st r) end (p + length r + 2) (k + 1) ls (inside-after st r w.0) w.1 h.1 f ∙ ap (λ (j : ℕ). accepted (x ++ j ∷ [])) q)

-- ---- the block

-- the 300
pub inside-300 : (st : Due) (r : List ℕ) → kind_in (fields r) ≡ 300 → Inside (after st r)
inside-300 st r k = rw (after-300 st r k) (by (is_varied st.n (fields r)) (λ t. rw t) (λ t. rw t))

-- behind a 200 of n intervals and d decimals, the walk accepts exactly what is accepted as a block
module _ (n d : ℕ) (s : List ℕ) where
  walk_block : (x : List ℕ) (ls : Lines) (ys : List ℕ) → lines s ≡ ls → block_walk_of x (behind200 n d) 0 0 ls ≡ accepted ys
      → Accepted (behind200 n d) s × (ys ≡ x ++ length (kinds_of ls) ∷ [])
  unfolding block_walk_of
  walk_block x (rest t) ys c e = not-accepted 2 0 0 0 ys e
  walk_block x (line r ls) ys c e =
      let st : Due = behind200 n d in
      let w = on_fine 0 0 (block_fault_of st r) (block_walk_of x (after st r) (0 + length r + 2) (0 + 1) ls) ys e in
      let v = alone-fine st r w.0 in
      let k : kind_in (fields r) ≡ 300 = only first300 300 _ refl (fine-fit st r v.1).may in
      let g = walk-rest x (after st r) (0 + length r + 2) (0 + 1) ls ys (inside-300 st r k) w.1 in
      let q : 0 + 1 + length (kinds_of ls) ≡ suc (length (kinds_of ls)) = omega arith in (
        record {
          kinds = rw (c, eq-eqb _ _ k) g.under;
          end = g.end;
          passes = rw c (v.1, g.passes);
          free = g.free;
        },
        g.says ∙ ap (λ (j : ℕ). x ++ j ∷ []) q,
      )

  block-walk : (x : List ℕ) → Accepted (behind200 n d) s → block_walk_of x (behind200 n d) 0 0 (lines s) ≡ accepted (x ++ length (kinds_of (lines s)) ∷ [])
  unfolding block_walk_of is_foreign
  block-walk x a =
      let st : Due = behind200 n d in
      let w = headed st s a in
      let r : List ℕ = w.first in
      let q : 0 + 1 + length (kinds_of w.others) ≡ suc (length (kinds_of w.others)) = omega arith in
      rw (w.is, fine-alone st r refl (fit-fine st r w.fit))
      (rest-walk x (after st r) a.end (0 + length r + 2) (0 + 1) w.others (inside-300 st r w.kind) w.under w.passes a.free ∙ ap (λ (j : ℕ). accepted (x ++ j ∷ [])) q)

-- ---- the check

-- what it answers where it accepts
abbrev answer_of : ℕ → List ℕ → List ℕ
answer_of n s = top_says n (lines s) ++ length (kinds_of (lines s)) ∷ []

-- behind a 200 of m minutes and the unit y
module _ (m y : ℕ) (s : List ℕ) where
  abbrev stand : Due
  stand = behind200 (intervals_of m) (decimals_of y)

  check-block : (xs : List ℕ) → block_check_of m y s ≡ accepted xs → (intervals_of m ≢ 0) × (is_unit y ≡ true) × Accepted stand s × (xs ≡ answer_of (intervals_of m) s)
  unfolding block_check_of
  check-block xs e =
      by (eqb (intervals_of m) 0)
      (λ t. not-accepted 16 0 0 0 xs (rw t at e))
      (λ t. by (is_unit y)
      (λ i.
      let w = walk_block (intervals_of m) (decimals_of y) s (top_says (intervals_of m) (lines s)) (lines s) xs refl (rw (t, i) at e) in
      (eqb-false _ _ t, i, w.0, w.1))
      (λ i. not-accepted 16 0 0 0 xs (rw (t, i) at e)))

  block-check : intervals_of m ≢ 0 → is_unit y ≡ true → Accepted stand s → block_check_of m y s ≡ accepted (answer_of (intervals_of m) s)
  unfolding block_check_of
  block-check z i a = rw (ne_eqb _ _ z, i) (block-walk (intervals_of m) (decimals_of y) s (top_says (intervals_of m) (lines s)) a)

-- the numbers of an answer, one by one
parts : (m y : ℕ) (s : List ℕ) (t n u l k : ℕ) → intervals_of m ≢ 0 → is_unit y ≡ true → (a : Accepted (behind200 (intervals_of m) (decimals_of y)) s)
    → t ∷ n ∷ u ∷ l ∷ k ∷ [] ≡ answer_of (intervals_of m) s → Alone m y s t n u l k
parts m y s t n u l k z is a e =
    let w = headed (behind200 (intervals_of m) (decimals_of y)) s a in
    let r : List ℕ = w.first in
    let q : t ∷ n ∷ u ∷ l ∷ k ∷ [] ≡ top_says (intervals_of m) (line r w.others) ++ length (kinds_of (line r w.others)) ∷ [] = rw w.is at e in
    let i : intervals_of m ≡ n = cc in
    let d : date_in (fields r) ≡ t = cc in
    let v : update_in (intervals_of m) (fields r) ≡ u = cc in
    let o : load_in (intervals_of m) (fields r) ≡ l = cc in
    let c : suc (length (kinds_of w.others)) ≡ k = cc in
    record { intervals = i; known = rw i at z; unit-known = is; accepted = rw i at a; says = rw (w.is, ← i, d, v, o); records = rw w.is c }

-- ---- the theorems

-- The check of a block accepts the bytes with these numbers exactly when they are accepted as a block behind a 200 of that interval length and unit, and say these
-- numbers.
pub alone : (m y : ℕ) (s : List ℕ) (t n u l k : ℕ) → (block_check_of m y s ≡ accepted (t ∷ n ∷ u ∷ l ∷ k ∷ [])) ↔ Alone m y s t n u l k
alone m y s t n u l k = (
  λ e. (let w = check-block m y s (t ∷ n ∷ u ∷ l ∷ k ∷ []) e in parts m y s t n u l k w.0 w.1 w.2 w.3),
  λ w. (let i = w.intervals in
      let e : block_check_of m y s ≡ accepted (answer_of n s) = rw i at (block-check m y s (rw i w.known) w.unit-known (rw i w.accepted)) in
      e ∙ rw (w.says, w.records)),
)

-- It accepts with no other numbers.
pub accepted-alone : (m y : ℕ) (s xs : List ℕ) → block_check_of m y s ≡ accepted xs → (t n u l k : ℕ) × Alone m y s t n u l k × (xs ≡ t ∷ n ∷ u ∷ l ∷ k ∷ [])
accepted-alone m y s xs e =
    let w = check-block m y s xs e in
    let n : ℕ = intervals_of m in
    let d = headed (behind200 n (decimals_of y)) s w.2 in
    let fs : List (List ℕ) = fields d.first in (
      date_in fs,
      n,
      update_in n fs,
      load_in n fs,
      length (kinds_of (lines s)),
      record { intervals = refl; known = w.0; unit-known = w.1; accepted = w.2; says = rw d.is; records = refl },
      w.3 ∙ ap (λ (ls : Lines). top_says n ls ++ length (kinds_of (lines s)) ∷ []) d.is,
    )

-- A block that it accepts, with the date t and n intervals, is accepted in every state that awaits a block of n intervals, the unit's decimals and that date.
pub alone-anywhere : (m y : ℕ) (s : List ℕ) (t n u l k : ℕ) → Alone m y s t n u l k → (st : Due) → Awaits st n (decimals_of y) t → Accepted st s
alone-anywhere m y s t n u l k w st h =
    let d = headed (behind200 n (decimals_of y)) s w.accepted in
    let e : top_says n (line d.first d.others) ≡ t ∷ n ∷ u ∷ l ∷ [] = rw d.is at w.says in
    let i : t ≡ date_in (fields d.first) = cc in
    accepted-there (behind200 n (decimals_of y)) st s w.accepted (rw (d.is, ← i) h)

-- And the other way round: bytes that are accepted as a block in any state of so many intervals and the unit's decimals are accepted on their own, with a date
-- later than the state's.
pub anywhere-alone : (m y : ℕ) (s : List ℕ) (st : Due) → intervals_of m ≢ 0 → is_unit y ≡ true → st.n ≡ intervals_of m → st.decimals ≡ decimals_of y → Accepted st s
    → (t u l : ℕ) × Alone m y s t st.n u l (length (kinds_of (lines s))) × (st.date < t)
unfolding is_open
anywhere-alone m y s st z is i j a =
    let n : ℕ = st.n in
    let d : st.date < top_date (lines s) = accepted-later st s a in
    let b : Accepted (behind200 n (decimals_of y)) s =
    accepted-there st (behind200 n (decimals_of y)) s a (record { free = (refl, refl); intervals = refl; decimals = sym j; earlier = omega arith }) in
    let w = headed st s a in
    let r : List ℕ = w.first in (
      date_in (fields r),
      update_in n (fields r),
      load_in n (fields r),
      record { intervals = sym i; known = rw i z; unit-known = is; accepted = b; says = rw w.is; records = refl },
      rw w.is at d,
    )

-- One step of an accepted walk, inverted: the record is fit and the walk behind it is accepted; so an accepted walk passes to the state that expects the end.
-- Assumes nothing.
use Prim.Native.Nat.{ℕ, suc, ◌+◌, ◌≤◌}
use mathlib.Core.Path.{◌≡◌, refl}
use mathlib.Core.Bool.{true, false, true≢false, cond}
use mathlib.Core.List.{List, [], ◌∷◌}
use native.Mathlib.Omega.{arith}
use lib.ListN.{length}
use lib.Dec.{ltb, eqb}
use borrow.Author.Tests.{ne_eqb, ltb-false, le-ltb}
use Rattle.ground.proofs.Cases.{by}
use Rattle.format.specs.Cut.{Lines, line, rest, lines, fields}
use Rattle.format.specs.Records.{kind_in}
use Rattle.format.specs.Order.{is_end, Due, begun}
use Rattle.format.specs.Faults.{fault_of, Fault, Fine, Stop}
use Rattle.format.specs.Answers.{Answer, accepted, refused, refusal}
use Rattle.format.specs.File.{after, or_go_on, walk_of, most, check_of, IsAccepted}
use Rattle.format.proofs.States.{not-ended}
use Rattle.passing.specs.Passes.{Passes}
use Rattle.passing.proofs.Fit.{Fit, fine-fit}

-- ---- answers

pub not-accepted : {A : Type 0} (x p k i : ℕ) (xs : List ℕ) → refused x p k i ≡ accepted xs → A
not-accepted x p k i xs e = absurd (let z : true ≡ false = cc in true≢false z)

-- where the walk goes on behind a record, the record has no fault
pub on_fine : (p k : ℕ) (f : Fault) (a : Answer) (xs : List ℕ) → or_go_on p k f a ≡ accepted xs → (f ≡ Fine) × (a ≡ accepted xs)
on_fine p k Fine a xs e = (refl, e)
on_fine p k (Stop x o i) a xs e = not-accepted x (p + o) k i xs e

-- ---- one step

module _ (st : Due) (p k : ℕ) where
  pub record Goes (r : List ℕ) (ls : Lines) (xs : List ℕ) : Type 0 where
    pub fine : fault_of st r ≡ Fine
    pub fit : Fit st r
    pub on : walk_of (after st r) (p + length r + 2) (k + 1) ls ≡ accepted xs

  pub goes : (r : List ℕ) (ls : Lines) (xs : List ℕ) → walk_of st p k (line r ls) ≡ accepted xs → Goes r ls xs
  unfolding walk_of
  goes r ls xs e =
      by (is_end st.expect)
      (λ t. not-accepted 13 p k 0 xs (rw t at e))
      (λ t.
      let w = on_fine p k (fault_of st r) (walk_of (after st r) (p + length r + 2) (k + 1) ls) xs (rw t at e) in
      record { fine = w.0; fit = fine-fit st r w.0; on = w.1 })

  -- where the lines end
  pub record Ends (t : List ℕ) (xs : List ℕ) : Type 0 where
    pub expected : is_end st.expect ≡ true
    pub none_left : t ≡ []
    pub answer : xs ≡ st.version ∷ st.channels ∷ st.days ∷ []

  pub ends : (t : List ℕ) (xs : List ℕ) → walk_of st p k (rest t) ≡ accepted xs → Ends t xs
  unfolding walk_of
  ends t xs e =
      by (is_end st.expect)
      (λ s. go t s (rw s at e))
      (λ s. not-accepted 2 p k 0 xs (rw s at e))
    where
      go : (t : List ℕ) → is_end st.expect ≡ true
          → cond (eqb (length t) 0) (accepted (st.version ∷ st.channels ∷ st.days ∷ [])) (refused 13 p k 0) ≡ accepted xs → Ends t xs
      go [] s h = record { expected = s; none_left = refl; answer = cc }
      go (b ∷ t) s h = not-accepted 13 p k 0 xs (rw (ne_eqb (suc (length t)) 0 (λ z. omega arith)) at h)

-- ---- all steps

-- these lines are passed to the state that expects the end, and its counts are the answer
pub record Passed (st : Due) (ls : Lines) (xs : List ℕ) : Type 0 where
  pub end : Due
  pub passes : Passes st ls end
  pub expected : is_end end.expect ≡ true
  pub answer : xs ≡ end.version ∷ end.channels ∷ end.days ∷ []

pub passed : (st : Due) (p k : ℕ) (ls : Lines) (xs : List ℕ) → walk_of st p k ls ≡ accepted xs → Passed st ls xs
passed st p k (rest t) xs e = let w = ends st p k t xs e in record { end = st; passes = (w.none_left, refl); expected = w.expected; answer = w.answer }
passed st p k (line r ls) xs e =
    let g = goes st p k r ls xs e in
    let w = passed (after st r) (p + length r + 2) (k + 1) ls xs g.on in
    record { end = w.end; passes = (g.fine, w.passes); expected = w.expected; answer = w.answer }

-- and what is passed to there is accepted, with those counts
pub passes-walk : (st end : Due) (p k : ℕ) (ls : Lines) → Passes st ls end → is_end end.expect ≡ true → walk_of st p k ls ≡ accepted (end.version ∷ end.channels ∷ end.days ∷ [])
unfolding walk_of
passes-walk st end p k (rest t) h x = rw (h.0, h.1, x)
passes-walk st end p k (line r ls) h x =
    rw (not-ended st.expect (kind_in (fields r)) (fine-fit st r h.0).may, h.0) (passes-walk (after st r) end (p + length r + 2) (k + 1) ls h.1 x)

-- ---- the file

-- an answer that is no refusal 1 is the walk's
pub walk-of : (file : List ℕ) (a : Answer) → check_of file ≡ a → (refusal 1 ≡ a → ⊥) → (length file ≤ most) × (walk_of begun 0 0 (lines file) ≡ a)
unfolding check_of
walk-of file a e n = by (ltb most (length file)) (λ t. absurd (n (rw t at e))) (λ t. (ltb-false _ _ t, rw t at e))

pub of-walk : (file : List ℕ) (a : Answer) → length file ≤ most → walk_of begun 0 0 (lines file) ≡ a → check_of file ≡ a
unfolding check_of
of-walk file a h e = rw (le-ltb most (length file) h) e

-- an accepted file is not too long
pub file-short : (file : List ℕ) → IsAccepted file → length file ≤ most
file-short file a = (walk-of file (accepted a.0) a.1 (not-accepted 1 0 0 0 a.0)).0

-- and passes
pub file-passes : (file xs : List ℕ) → check_of file ≡ accepted xs → Passed begun (lines file) xs
file-passes file xs e = passed begun 0 0 (lines file) xs (walk-of file (accepted xs) e (not-accepted 1 0 0 0 xs)).1

pub passes-file : (file : List ℕ) (end : Due) → length file ≤ most → Passes begun (lines file) end → is_end end.expect ≡ true
    → check_of file ≡ accepted (end.version ∷ end.channels ∷ end.days ∷ [])
passes-file file end l h x = of-walk file (accepted (end.version ∷ end.channels ∷ end.days ∷ [])) l (passes-walk begun end 0 0 (lines file) h x)

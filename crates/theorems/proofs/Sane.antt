-- What holds in every state that the check comes to through records without a fault. Assumes nothing.
use Prim.Native.Nat.{ℕ, zero, suc, ◌≤◌, ◌<◌}
use mathlib.Core.Path.{◌≡◌, refl, sym, ◌∙◌, subst}
use mathlib.Core.Logic.{◌⊎◌, inl, inr}
use mathlib.Core.Bool.{true, false, true≢false, false≢true}
use mathlib.Core.List.{List}
use native.Mathlib.Omega.{arith}
use lib.Dec.{eqb}
use Rattle.ground.proofs.Cases.{by}
use Rattle.format.specs.Quality.{Mark, same_mark}
use Rattle.format.specs.Cut.{Lines, line, rest, lines, fields}
use Rattle.format.specs.Records.{kind_in, version_in, intervals_in, mark_in}
use Rattle.format.specs.Order.{may_come, in_day, in_varied, Shared, none_yet, all_have, they_differ, share_with, Due, begun, is_varied, on100, on250, on550, on900}
use Rattle.format.specs.File.{after}
use Rattle.format.proofs.States.{implied}
use Rattle.passing.proofs.Fit.{Fit, fine-fit, Head, h100, h200, h300, h400, h500, h250, h550, h900, head}
use Rattle.passing.proofs.Steps.{after-100, after-200, after-300, after-400, after-500, after-250, after-550, after-900}
use Rattle.passing.proofs.Counts.{is_first}
use Rattle.theorems.specs.Grammar.{IsRecord}
use Rattle.theorems.specs.Places.{state_in, state_at}
use Rattle.theorems.specs.First.{Clear}
use Rattle.theorems.proofs.Says.{intervals-of}
use Rattle.theorems.proofs.Told.{fit-rec}
use Rattle.theorems.proofs.Links.{none-fine}

pub record Sane (st : Due) : Type 0 where
  -- n is that of a 200, wherever a day may come
  pub many : may_come st.expect 300 ≡ true → (2 ≤ st.n) × (st.n ≤ 288)
  -- there is no date before a 200's first 300
  pub dateless : is_first st.expect ≡ true → st.date ≡ 0
  -- under a V day intervals count from 1, and with no 400 yet more than one is left
  pub counted : in_varied st.expect ≡ true → 1 ≤ st.next
  pub several : in_varied st.expect ≡ true → st.shared ≡ none_yet → st.next < st.n

-- where no day may come
nowhere : (st : Due) → may_come st.expect 300 ≡ false → Sane st
nowhere st l =
    record {
      many = λ h. absurd (true≢false (sym h ∙ l));
      dateless = λ h. absurd (true≢false (sym (implied is_first (λ y. may_come y 300) refl st.expect h) ∙ l));
      counted = λ h. absurd (true≢false (sym (implied in_varied (λ y. may_come y 300) refl st.expect h) ∙ l));
      several = λ h. absurd (true≢false (sym (implied in_varied (λ y. may_come y 300) refl st.expect h) ∙ l));
    }

-- with a 400 there is one
share-some : (x : Shared) (m : Mark) → share_with x m ≡ none_yet → ⊥
share-some none_yet m e = let z : true ≡ false = cc in true≢false z
share-some (all_have a) m e =
    by (same_mark a m)
    (λ t. let y : all_have a ≡ none_yet = (rw t at e) in let z : true ≡ false = cc in true≢false z)
    (λ t. let y : they_differ ≡ none_yet = (rw t at e) in let z : true ≡ false = cc in true≢false z)
share-some they_differ m e = let z : true ≡ false = cc in true≢false z

-- n of a 200
some-n : (n : ℕ) → (n ≡ 288) ⊎ ((n ≡ 96) ⊎ (n ≡ 48)) → (2 ≤ n) × (n ≤ 288)
some-n n (inl e) = (omega arith, omega arith)
some-n n (inr (inl e)) = (omega arith, omega arith)
some-n n (inr (inr e)) = (omega arith, omega arith)

-- behind one record
sane-on : (st : Due) (r : List ℕ) → Sane st → Fit st r → Sane (after st r)
sane-on st r s f = go (head _ _ f.may)
  where
    fs : List (List ℕ)
    fs = fields r

    go : Head st.expect (kind_in (fields r)) → Sane (after st r)
    go (h100 q z) = subst Sane (sym (after-100 st r q)) (nowhere (on100 st fs) (by (eqb (version_in fs) 12) (λ t. rw t) (λ t. rw t)))
    go (h200 q z) =
        let g : IsRecord 200 0 0 fs = fit-rec st r 200 f q (λ y. omega arith) (λ y. omega arith) in
        subst Sane (sym (after-200 st r q))
        (record {
          many = λ h. some-n (intervals_in fs) (intervals-of fs g);
          dateless = λ h. refl;
          counted = λ h. absurd (false≢true h);
          several = λ h. absurd (false≢true h);
        })
    go (h300 q z) =
        subst Sane (sym (after-300 st r q))
        (record {
          many = λ h. s.many z;
          dateless = λ h. absurd (true≢false (sym h ∙ by (is_varied st.n fs) (λ t. rw t) (λ t. rw t)));
          counted = λ h. omega arith;
          several = λ h e. (let w = (s.many z).0 in omega arith);
        })
    go (h400 q z) =
        subst Sane (sym (after-400 st r q))
        (record {
          many = λ h. s.many (implied in_varied (λ y. may_come y 300) refl st.expect z);
          dateless = λ h. absurd (false≢true h);
          counted = λ h. omega arith;
          several = λ h e. absurd (share-some st.shared (mark_in fs) e);
        })
    go (h500 q z) =
        subst Sane (sym (after-500 st r q))
        (record {
          many = λ h. s.many (implied in_day (λ y. may_come y 300) refl st.expect z);
          dateless = λ h. absurd (false≢true h);
          counted = λ h. absurd (false≢true h);
          several = λ h. absurd (false≢true h);
        })
    go (h250 q z) = subst Sane (sym (after-250 st r q)) (nowhere (on250 st fs) refl)
    go (h550 q z) = subst Sane (sym (after-550 st r q)) (nowhere (on550 st fs) refl)
    go (h900 q z) = subst Sane (sym (after-900 st r q)) (nowhere (on900 st fs) refl)

sane-in : (k : ℕ) (st : Due) (ls : Lines) → Sane st → Clear k st ls → Sane (state_in k st ls)
sane-in zero st ls s h = s
sane-in (suc k) st (line r ls) s h = sane-in k (after st r) ls (sane-on st r s (fine-fit st r (none-fine st r h.1))) h.2
sane-in (suc k) st (rest t) s h = absurd h

pub sane-at : (k : ℕ) (file : List ℕ) → Clear k begun (lines file) → Sane (state_at k file)
unfolding state_at
sane-at k file h = sane-in k begun (lines file) (nowhere begun refl) h

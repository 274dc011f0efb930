-- The version that answers a date, and what one version more changes of that. Assumes nothing.
use Prim.Native.Nat.{ℕ, zero, suc, ◌+◌, ◌-◌, ◌≤◌, ◌<◌}
use mathlib.Core.Path.{◌≡◌, refl, sym, ap, ◌∙◌}
use mathlib.Core.Bool.{true}
use mathlib.Core.List.{List, [], ◌∷◌, ◌++◌}
use native.Mathlib.Numerals.{add-one}
use native.Mathlib.Omega.{arith}
use borrow.Author.Tests.{lt-leb, le-leb}
use lib.ListN.{length, get_or, length-append, get_or-append}
use lib.Seq.{get_or-append_seam}
use Rattle.ground.proofs.Cases.{by, split}
use Rattle.format.specs.Dates.{is_date}
use Rattle.tenants.specs.Versions.{Version, none, highest, version_on}
use Rattle.tenants.specs.Calls.{outputs_of, fill_of, ask_of}
use Rattle.history.specs.Stays.{Highest}

-- ---- the highest whose first date is not later

-- among the first k
record Among (vs : List Version) (date k h : ℕ) : Type 0 where
  pub most : h ≤ k
  pub holds : (i : ℕ) → i + 1 ≡ h → (get_or vs i none).first ≤ date
  pub later : (i : ℕ) → h ≤ i → i < k → date < (get_or vs i none).first

among : (vs : List Version) (date k : ℕ) → Among vs date k (highest vs date k)
unfolding highest
among vs date zero = record { most = omega arith; holds = λ i e. absurd (let z : ⊥ = omega arith in z); later = λ i a b. absurd (let z : ⊥ = omega arith in z) }
among vs date (suc k) =
    let r = among vs date k in
    split (get_or vs k none).first date
    (λ l. rw (le-leb (get_or vs k none).first date l)
    (record {
      most = omega arith;
      holds = λ i e. (let z : i ≡ k = omega arith in rw z l);
      later = λ i a b. absurd (let z : ⊥ = omega arith in z);
    }))
    (λ l. rw (lt-leb (get_or vs k none).first date l)
    (record {
      most = omega (arith, r.most);
      holds = r.holds;
      later = λ i a b. split k i (λ c. (let z : i ≡ k = omega arith in rw z l)) (λ c. r.later i a c);
    }))

pub answered : (vs : List Version) (date k : ℕ) → version_on vs date ≡ k → 1 ≤ k → (is_date date ≡ true) × Highest vs date k
unfolding version_on
answered vs date k e h =
    let r = among vs date (length vs) in
    by (is_date date)
    (λ d.
    let z : highest vs date (length vs) ≡ k = (rw d at e) in (
      d,
      record {
        some = h;
        there = omega (arith, r.most);
        holds = λ i q. r.holds i (omega arith);
        later = λ i a b. r.later i (omega arith) b;
      },
    ))
    (λ d. absurd (let z : 0 ≡ k = (rw d at e) in let y : ⊥ = omega arith in y))

pub unanswered : (vs : List Version) (date : ℕ) → version_on vs date ≡ 0 → is_date date ≡ true → (i : ℕ) → i < length vs → date < (get_or vs i none).first
unfolding version_on
unanswered vs date e d i h = let z : highest vs date (length vs) ≡ 0 = (rw d at e) in (among vs date (length vs)).later i (omega arith) h

-- no other version is the highest
pub is-answered : (vs : List Version) (date k : ℕ) → is_date date ≡ true → Highest vs date k → version_on vs date ≡ k
unfolding version_on
is-answered vs date k d w =
    let r = among vs date (length vs) in
    let h : ℕ = highest vs date (length vs) in
    rw d
    (split h k
    (λ a. split k h
    (λ b. (let z : h ≡ k = omega arith in z))
    (λ b. absurd (let z : ⊥ = omega (arith, r.later (k - 1) (omega arith) (omega (arith, w.there)), w.holds (k - 1) (omega (arith, w.some))) in z)))
    (λ a. absurd (let z : ⊥ = omega (arith, w.later (h - 1) (omega arith) (omega (arith, r.most)), r.holds (h - 1) (omega arith)) in z)))

-- ---- one version more

module _ (vs : List Version) (v : Version) where
  there-still : (i : ℕ) → i < length vs → get_or (vs ++ v ∷ []) i none ≡ get_or vs i none
  there-still i h = get_or-append vs (v ∷ []) none i h

  highest-still : (date k : ℕ) → k ≤ length vs → highest (vs ++ v ∷ []) date k ≡ highest vs date k
  unfolding highest
  highest-still date zero h = refl
  highest-still date (suc k) h = rw (there-still k (omega arith), highest-still date k (omega arith))

  one_more : length (vs ++ v ∷ []) ≡ suc (length vs)
  one_more = length-append vs (v ∷ []) ∙ add-one (length vs)

  last-there : get_or (vs ++ v ∷ []) (length vs) none ≡ v
  last-there = get_or-append_seam vs v [] none

  -- dates before it
  pub earlier-date : (date : ℕ) → date < v.first → version_on (vs ++ v ∷ []) date ≡ version_on vs date
  unfolding version_on highest
  earlier-date date h = rw (one_more, last-there, lt-leb v.first date h, highest-still date (length vs) (omega arith))

  -- dates from it on
  pub later-date : (date : ℕ) → is_date date ≡ true → v.first ≤ date → version_on (vs ++ v ∷ []) date ≡ length vs + 1
  unfolding version_on highest
  later-date date d h = rw (d, one_more, last-there, le-leb v.first date h) (sym (add-one (length vs)))

  pub outputs-still : (k : ℕ) → 1 ≤ k → k ≤ length vs → outputs_of (vs ++ v ∷ []) k ≡ outputs_of vs k
  outputs-still k h l = ap (λ (x : Version). x.outputs) (there-still (k - 1) (omega arith))

  pub outputs-last : outputs_of (vs ++ v ∷ []) (length vs + 1) ≡ v.outputs
  outputs-last =
      let z : length vs + 1 - 1 ≡ length vs = omega arith in
      ap (λ (i : ℕ). (get_or (vs ++ v ∷ []) i none).outputs) z ∙ ap (λ (x : Version). x.outputs) last-there

  pub ask-still : (date : ℕ) (keys shares : List ℕ) → date < v.first → ask_of (vs ++ v ∷ []) date keys shares ≡ ask_of vs date keys shares
  unfolding ask_of fill_of
  ask-still date keys shares h =
      split 1 (version_on vs date)
      (λ l.
      let w = answered vs date (version_on vs date) refl l in
      rw (earlier-date date h, outputs-still (version_on vs date) l w.1.there))
      (λ l. rw (earlier-date date h, lt-leb 1 (version_on vs date) l))

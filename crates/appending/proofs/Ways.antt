-- The ways out of adding a version whose entries are known to be fit. Assumes nothing.
use Rattle.std.proofs.Common.{Result, Ok, Err, MatchResult, IsErrAnd}
use Rattle.std.proofs.lemmas.Result.{err_from_is_err_and}
use Prim.Native.Nat.{ℕ, ◌+◌, ◌≤◌, ◌<◌}
use mathlib.Core.Path.{◌≡◌, refl, sym, ◌∙◌}
use mathlib.Core.Bool.{Bool, true, false, not}
use mathlib.Core.List.{List, [], ◌∷◌}
use native.Mathlib.Omega.{arith}
use borrow.Author.Tests.{lt-ltb, le-ltb, not-true, not-false}
use Rattle.ground.proofs.Cases.{by, split}
use Rattle.format.specs.Answers.{accepted, refusal, refused_as}
use Rattle.format.specs.declared.Refusal.{Refusal}
use Rattle.entries.specs.Left.{left}
use Rattle.tenants.specs.Outputs.{Output}
use Rattle.tenants.specs.Versions.{version, count_in, versions_in, may_follow, latest}
use Rattle.tenants.specs.Calls.{with_version, append_of}
use Rattle.appending.specs.Nexts.{next_of}

module _ (m : List ℕ) (first : ℕ) {d : ℕ} (l : d ≡ latest (versions_in m)) {a : Bool} (e : a ≡ may_follow d first) where
  pub next-not : not a ≡ true → Err 24 ≡ next_of m first
  unfolding next_of
  next-not t = rw (← l, ← e, not-true a t)

  module _ (t : not a ≡ false) {n : ℕ} (c : n ≡ count_in m) where
    pub next-full : 32 ≤ n → Err 23 ≡ next_of m first
    unfolding next_of
    next-full h = rw (← l, ← e, not-false a t, ← c, le-ltb n 32 h)

    pub next-behind : n < 32 → Ok n ≡ next_of m first
    unfolding next_of
    next-behind h = rw (← l, ← e, not-false a t, ← c, lt-ltb n 32 h)

-- ---- the refusal as the code makes it of its number

abbrev pub Told : Result ℕ ℕ → Result ℕ Refusal → Type 0
Told x r = MatchResult x (λ n. r ≡ Ok n) (λ k. IsErrAnd r (λ y. refused_as y ≡ refusal k))

pub told-behind : (x : Result ℕ ℕ) {r : Result ℕ Refusal} {n : ℕ} → Told x r → r ≡ Ok n → x ≡ Ok n
told-behind (Ok a) {r} {n} v q = let z : ◌≡◌ {A = Result ℕ Refusal} (Ok a) (Ok n) = sym v ∙ q in cc
told-behind (Err k) {r} {n} v q =
    let p = err_from_is_err_and r v in
    let z : ◌≡◌ {A = Result ℕ Refusal} (Ok n) (Err p.0) = sym q ∙ p.1 in
    let y : ◌≡◌ {A = ℕ} 0 1 = cc in
    absurd (omega arith)

pub told-refused : (x : Result ℕ ℕ) {r : Result ℕ Refusal} {y : Refusal} → Told x r → r ≡ Err y → (k : ℕ) × (x ≡ Err k) × (refused_as y ≡ refusal k)
told-refused (Ok a) {r} {y} v q =
    let z : ◌≡◌ {A = Result ℕ Refusal} (Ok a) (Err y) = sym v ∙ q in
    let w : ◌≡◌ {A = ℕ} 0 1 = cc in
    absurd (omega arith)
told-refused (Err k) {r} {y} v q =
    let p = err_from_is_err_and r v in
    let z : ◌≡◌ {A = Result ℕ Refusal} (Err y) (Err p.0) = sym q ∙ p.1 in
    let w : y ≡ p.0 = cc in
    (k, refl, rw w p.2)

-- ---- what each case says of the map

pub record Goes (m : List ℕ) (first n : ℕ) : Type 0 where
  pub count : n ≡ count_in m
  pub few : n < 32
  pub follows : may_follow (latest (versions_in m)) first ≡ true

module _ (m : List ℕ) (first : ℕ) {x : Result ℕ ℕ} (e : x ≡ next_of m first) where
  pub goes : (n : ℕ) → x ≡ Ok n → Goes m first n
  unfolding next_of
  goes n f =
      by (may_follow (latest (versions_in m)) first)
      (λ a. split 32 (count_in m)
      (λ b. let z : ◌≡◌ {A = ℕ} 0 1 = clash {k = 23} (sym f ∙ e ∙ rw (a, le-ltb (count_in m) 32 b)) in absurd (omega arith))
      (λ b.
      let k : Ok n ≡ Ok (count_in m) = sym f ∙ e ∙ rw (a, lt-ltb (count_in m) 32 b) in
      let c : n ≡ count_in m = cc in
      record { count = c; few = omega arith; follows = a }))
      (λ a. let z : ◌≡◌ {A = ℕ} 0 1 = clash {k = 24} (sym f ∙ e ∙ rw a) in absurd (omega arith))
    where
      clash : {k : ℕ} → Ok n ≡ Err k → ◌≡◌ {A = ℕ} 0 1
      clash h = cc

  -- the refusal, as the code makes it
  pub append-refused : (os : List Output) (k : ℕ) → x ≡ Err k → {y : Refusal} → refused_as y ≡ refusal k → left (refused_as y) m ≡ append_of m (version first os)
  unfolding next_of append_of
  append-refused os k f {y} g =
      by (may_follow (latest (versions_in m)) first)
      (λ a. split 32 (count_in m)
      (λ b.
      let h : Err k ≡ Err 23 = sym f ∙ e ∙ rw (a, le-ltb (count_in m) 32 b) in
      let c : k ≡ 23 = cc in
      rw (a, le-ltb (count_in m) 32 b, g, c))
      (λ b. let z : ◌≡◌ {A = ℕ} 0 1 = clash {n = count_in m} (sym f ∙ e ∙ rw (a, lt-ltb (count_in m) 32 b)) in absurd (omega arith)))
      (λ a.
      let h : Err k ≡ Err 24 = sym f ∙ e ∙ rw a in
      let c : k ≡ 24 = cc in
      rw (a, g, c))
    where
      clash : {n : ℕ} → Err k ≡ Ok n → ◌≡◌ {A = ℕ} 0 1
      clash h = cc

pub append-done : (m : List ℕ) (first : ℕ) (os : List Output) {n : ℕ} → Goes m first n → {c : List ℕ} → c ≡ with_version m (version first os)
    → left (accepted ((n + 1) ∷ [])) c ≡ append_of m (version first os)
unfolding append_of
append-done m first os {n} g e = rw (g.follows, ← g.count, lt-ltb n 32 g.few, e)

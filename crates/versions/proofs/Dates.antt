-- The version that answers a date, and the last one. Assumes nothing.
use Prim.Native.Nat.{ℕ, zero, suc, ◌-◌, ◌≤◌, ◌<◌}
use mathlib.Core.Path.{◌≡◌, sym, ap, ◌∙◌}
use mathlib.Core.Bool.{cond}
use mathlib.Core.List.{List}
use native.Mathlib.Omega.{arith}
use borrow.Author.Tests.{lt-leb, le-leb}
use lib.ListN.{length, get_or}
use lib.Dec.{leb}
use Rattle.ground.specs.Lists.{from}
use Rattle.tenants.specs.Versions.{Version, none, version_at, count_in, versions_in, latest, highest}
use Rattle.versions.proofs.Pieces.{count-versions, version-here}

-- ---- the last one

pub latest-none : (m : List ℕ) {n : ℕ} → n ≡ count_in m → n ≡ 0 → 0 ≡ latest (versions_in m)
unfolding latest versions_in from
latest-none m e z = rw (sym e ∙ z)

pub latest-is : (m : List ℕ) {n : ℕ} → n ≡ count_in m → (n ≡ 0 → ⊥) → {r : ℕ} → r ≡ (version_at m (n - 1)).first → r ≡ latest (versions_in m)
unfolding latest
latest-is m {n} e z {r} f =
    let k : length (versions_in m) - 1 ≡ n - 1 = omega (arith, count-versions m) in
    let v : get_or (versions_in m) (n - 1) none ≡ version_at m (n - 1) = version-here m (n - 1) (omega arith) in
    f ∙ ap (λ (x : Version). x.first) (sym v) ∙ ap (λ (x : ℕ). (get_or (versions_in m) x none).first) (sym k)

-- ---- from the last one down

highest-at : (vs : List Version) (date v : ℕ) → 0 < v → highest vs date v ≡ cond (leb (get_or vs (v - 1) none).first date) v (highest vs date (v - 1))
unfolding highest
highest-at vs date zero h = absurd (let z : ⊥ = omega arith in z)
highest-at vs date (suc k) h = let e : suc k - 1 ≡ k = omega arith in rw e

-- no version above v has a first date that is not later
pub record Above (m : List ℕ) (date v : ℕ) : Type 0 where
  pub within : v ≤ count_in m
  pub same : highest (versions_in m) date v ≡ highest (versions_in m) date (length (versions_in m))

module _ (m : List ℕ) (date : ℕ) where
  pub above-none : {n : ℕ} → n ≡ count_in m → Above m date n
  above-none e = record { within = omega arith; same = ap (highest (versions_in m) date) (e ∙ sym (count-versions m)) }

  module _ (v : ℕ) (h : 0 < v) {first : ℕ} (f : first ≡ (version_at m (v - 1)).first) (r : Above m date v) where
    here : highest (versions_in m) date v ≡ cond (leb first date) v (highest (versions_in m) date (v - 1))
    here =
        highest-at (versions_in m) date v h
        ∙ ap (λ (x : Version). cond (leb x.first date) v (highest (versions_in m) date (v - 1))) (version-here m (v - 1) (omega (arith, r.within)))
        ∙ ap (λ (x : ℕ). cond (leb x date) v (highest (versions_in m) date (v - 1))) (sym f)

    pub above-found : first ≤ date → v ≡ highest (versions_in m) date (length (versions_in m))
    above-found l = sym (here ∙ rw (le-leb first date l)) ∙ r.same

    pub above_more : date < first → Above m date (v - 1)
    above_more l = record { within = omega (arith, r.within); same = sym (here ∙ rw (lt-leb first date l)) ∙ r.same }

  pub above-all : (v : ℕ) → v ≤ 0 → Above m date v → 0 ≡ highest (versions_in m) date (length (versions_in m))
  unfolding highest
  above-all v h r = let z : v ≡ 0 = omega arith in rw z at r.same

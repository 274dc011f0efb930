-- The parts of a version in memory. Assumes nothing.
use Prim.Native.Nat.{ℕ, ◌+◌, ◌≤◌, ◌<◌}
use mathlib.Core.Path.{◌≡◌, sym, ap, ◌∙◌}
use mathlib.Core.List.{List}
use native.Mathlib.Omega.{arith}
use lib.ListN.{length, take, drop, get_or, length-drop}
use lib.Seq.{take-take, drop-drop, length-take-le}
use Rattle.ground.proofs.Spans.{drop-take}
use Rattle.ground.proofs.From.{from-here, length_from}
use Rattle.entries.specs.Little.{piece, number, number_at}
use Rattle.tenants.specs.Versions.{none, version_from, version_place, version_at, count_in, versions_in}

module _ (m : List ℕ) (i : ℕ) {a : ℕ} (p : a ≡ version_place i) where
  pub first-at : {r : ℕ} → r ≡ number_at m a 4 → r ≡ (version_at m i).first
  unfolding version_at version_from
  first-at e = e ∙ ap (λ (x : ℕ). number_at m x 4) p ∙ ap number (sym (take-take 4 1796 (drop (version_place i) m) (omega arith)))

  pub entries-part : {s : List ℕ} → s ≡ piece m (a + 4) 1792 → s ≡ drop 4 (piece m (version_place i) 1796)
  entries-part e =
      e
      ∙ ap (λ (x : ℕ). piece m (x + 4) 1792) p
      ∙ ap (take 1792) (sym (drop-drop 4 (version_place i) m))
      ∙ sym (drop-take 4 1796 (drop (version_place i) m) (omega arith))

-- a version lies inside
pub entries-long : (m : List ℕ) (i : ℕ) → 57476 ≤ length m → i < 32 → {s : List ℕ} → s ≡ drop 4 (piece m (version_place i) 1796) → length s ≡ 1792
entries-long m i l h e =
    let p : length (piece m (version_place i) 1796) ≡ 1796 = length-take-le 1796 (drop (version_place i) m) (omega (arith, length-drop (version_place i) m)) in
    ap length e ∙ length-drop 4 (piece m (version_place i) 1796) ∙ omega arith

-- ---- the versions in use

pub count-versions : (m : List ℕ) → length (versions_in m) ≡ count_in m
unfolding versions_in
count-versions m = length_from (version_at m) 0 (count_in m)

pub version-here : (m : List ℕ) (i : ℕ) → i < count_in m → get_or (versions_in m) i none ≡ version_at m i
unfolding versions_in
version-here m i h = from-here (version_at m) none (count_in m) i h

-- The tests of a map, version by version. Assumes nothing.
use Prim.Native.Nat.{ℕ, ◌+◌, ◌-◌, ◌≤◌, ◌<◌}
use mathlib.Core.Path.{◌≡◌, ap}
use mathlib.Core.Bool.{Bool, true, false, not, ◌&&◌}
use mathlib.Core.List.{List}
use native.Mathlib.Omega.{arith}
use borrow.Author.Tests.{leb-true, not-true, not-false}
use lib.ListN.{length, drop}
use lib.Dec.{leb}
use Rattle.ground.specs.Lists.{all, from}
use Rattle.ground.proofs.Tests.{and-true}
use Rattle.ground.proofs.From.{from_step, from_end}
use Rattle.entries.specs.Little.{piece}
use Rattle.tenants.specs.Outputs.{is_kept, outputs_in}
use Rattle.tenants.specs.Versions.{version_from, version_place, version_at, count_in, versions_in, may_follow, are_versions, is_map}

-- ---- one version

module _ (m : List ℕ) (i t : ℕ) {first : ℕ} (d : first ≡ (version_at m i).first) {a : Bool} (e : a ≡ may_follow t first) where
  pub following : a ≡ true → {s : List ℕ} → s ≡ drop 4 (piece m (version_place i) 1796) → {r : Bool} → r ≡ all is_kept (outputs_in 128 s)
      → r ≡ may_follow t (version_at m i).first && all is_kept (version_at m i).outputs
  unfolding version_at version_from
  following n g f = rw (← d, ← e, n, ← g) f

-- ---- one after the other

-- of n versions those before i passed, and t is the first date of the one before i
pub record Walked (m : List ℕ) (n t i : ℕ) : Type 0 where
  pub within : i ≤ n
  pub same : are_versions t (from (version_at m) i (n - i)) ≡ are_versions 0 (from (version_at m) 0 n)

module _ (m : List ℕ) (n : ℕ) where
  pub walked_none : Walked m n 0 0
  walked_none = record { within = omega arith; same = ap (λ (k : ℕ). are_versions 0 (from (version_at m) 0 k)) (omega arith) }

  module _ (t i : ℕ) (h : i < n) {b : Bool} (q : b ≡ may_follow t (version_at m i).first && all is_kept (version_at m i).outputs) (r : Walked m n t i) where
    pub walked_more : not b ≡ false → {first : ℕ} → first ≡ (version_at m i).first → Walked m n first (i + 1)
    unfolding are_versions
    walked_more x d = record { within = omega arith; same = rw (d) (rw (from_step (version_at m) i n h, ← q, not-false b x) at r.same) }

    pub walked-stops : not b ≡ true → false ≡ are_versions 0 (from (version_at m) 0 n)
    unfolding are_versions
    walked-stops x = rw (from_step (version_at m) i n h, ← q, not-true b x) at r.same

  pub walked_all : (t i : ℕ) → n ≤ i → Walked m n t i → true ≡ are_versions 0 (from (version_at m) 0 n)
  unfolding are_versions
  walked_all t i h r = rw (from_end (version_at m) i n h) at r.same

-- ---- a map

-- what a map is
pub record Mapping (m : List ℕ) : Type 0 where
  pub long : 57476 ≤ length m
  pub few : count_in m ≤ 32
  pub sound : are_versions 0 (versions_in m) ≡ true

pub mapping : (m : List ℕ) → is_map m ≡ true → Mapping m
unfolding is_map
mapping m e =
    let g = and-true (leb 57476 (length m) && leb (count_in m) 32) (are_versions 0 (versions_in m)) e in
    let h = and-true (leb 57476 (length m)) (leb (count_in m) 32) g.0 in
    record { long = leb-true 57476 (length m) h.0; few = leb-true (count_in m) 32 h.1; sound = g.1 }

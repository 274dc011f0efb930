-- The memory with one version more: its count, the bytes of every version, and the versions. Assumes nothing.
use Prim.Native.Nat.{ℕ, ◌+◌, ◌≤◌, ◌<◌}
use mathlib.Core.Path.{◌≡◌, sym, ap, ap₂, ◌∙◌}
use mathlib.Core.Bool.{true}
use mathlib.Core.List.{List, [], ◌∷◌, ◌++◌}
use native.Mathlib.Numerals.{add-one}
use native.Mathlib.Omega.{arith}
use lib.ListN.{length}
use lib.Seq.{sets, length-sets, take_all}
use borrow.Author.Tests.{le-leb}
use Rattle.ground.specs.Lists.{from}
use Rattle.ground.proofs.From.{from-same, from_last}
use Rattle.entries.specs.Little.{piece, in_bytes}
use Rattle.little.proofs.Pieces.{piece-behind, piece-before, piece_of}
use Rattle.little.proofs.Numbers.{length-in, number-back}
use Rattle.tenants.specs.Versions.{Version, version_from, version_bytes, version_place, version_at, count_in, versions_in, may_follow, is_map, latest}
use Rattle.tenants.specs.Calls.{with_version}
use Rattle.versions.proofs.Maps.{Mapping}
use Rattle.history.proofs.Sound.{sound_more}
use Rattle.history.proofs.Fits.{Fits, version-long, version-back}

module _ (m : List ℕ) (v : Version) (w : Mapping m) (few : count_in m < 32) (f : Fits v) where
  -- with the version, and without the new count
  abbrev written : List ℕ
  written = sets m (version_place (count_in m)) (version_bytes v)

  abbrev new : List ℕ
  new = sets written 0 (in_bytes 4 (count_in m + 1))

  abbrev long : ℕ
  long = length m

  written-long : length written ≡ long
  written-long = length-sets m (version_place (count_in m)) (version_bytes v)

  new-count : count_in new ≡ count_in m + 1
  new-count = number-back written 0 4 (count_in m + 1) (omega (arith, written-long, w.long)) (omega arith)

  -- a version stays where the count is written
  piece-counted : (i : ℕ) → piece new (version_place i) 1796 ≡ piece written (version_place i) 1796
  piece-counted i = piece-behind (in_bytes 4 (count_in m + 1)) written (version_place i) 1796 0 (omega (arith, length-in 4 (count_in m + 1)))

  old-bytes : (i : ℕ) → i < count_in m → piece new (version_place i) 1796 ≡ piece m (version_place i) 1796
  old-bytes i h = piece-counted i ∙ piece-before (version_bytes v) m (version_place i) 1796 (version_place (count_in m)) (omega arith)

  new-bytes : piece new (version_place (count_in m)) 1796 ≡ version_bytes v
  new-bytes =
      let l = version-long v f in
      let z : version_place (count_in m) + 0 ≡ version_place (count_in m) = omega arith in
      piece-counted (count_in m)
      ∙ ap (λ (a : ℕ). piece written a 1796) (sym z)
      ∙ piece_of (version_bytes v) m 0 1796 (version_place (count_in m)) (omega (arith, w.long)) (omega arith)
      ∙ take_all 1796 (version_bytes v) (omega arith)

  new-versions : versions_in new ≡ versions_in m ++ v ∷ []
  unfolding versions_in version_at
  new-versions =
      ap (from (version_at new) 0) (new-count ∙ add-one (count_in m))
      ∙ from_last (version_at new) 0 (count_in m)
      ∙ ap₂ (λ (vs : List Version) (x : Version). vs ++ x ∷ [])
      (from-same (version_at m) (version_at new) 0 (count_in m) (λ j a b. ap version_from (old-bytes j (omega arith))))
      (ap (version_at new) (let z : 0 + count_in m ≡ count_in m = omega arith in z) ∙ ap version_from new-bytes ∙ version-back v f)

  new-map : may_follow (latest (versions_in m)) v.first ≡ true → is_map new ≡ true
  unfolding is_map
  new-map d =
      let l : 57476 ≤ length new = omega (arith, length-sets written 0 (in_bytes 4 (count_in m + 1)), written-long, w.long) in
      let c : count_in new ≤ 32 = omega (arith, new-count) in
      rw (le-leb 57476 (length new) l, le-leb (count_in new) 32 c, new-versions, sound_more (versions_in m) v w.sound d f.kept)

-- said of the definition
module _ (m : List ℕ) (v : Version) (w : Mapping m) (few : count_in m < 32) (f : Fits v) where
  pub with-bytes : (i : ℕ) → i < count_in m → piece (with_version m v) (version_place i) 1796 ≡ piece m (version_place i) 1796
  unfolding with_version
  with-bytes i h = old-bytes m v w few f i h

  pub with-versions : versions_in (with_version m v) ≡ versions_in m ++ v ∷ []
  unfolding with_version
  with-versions = new-versions m v w few f

  pub with-map : may_follow (latest (versions_in m)) v.first ≡ true → is_map (with_version m v) ≡ true
  unfolding with_version
  with-map d = new-map m v w few f d

-- Versions that fit their bytes: those that are added, and those that a map holds. Assumes nothing.
use Prim.Native.Nat.{ℕ, zero, suc, ◌-◌, ◌≤◌}
use mathlib.Core.Path.{◌≡◌, refl, sym, ap, ◌∙◌}
use mathlib.Core.Bool.{true, ◌&&◌, ◌||◌}
use mathlib.Core.List.{List, [], ◌∷◌, map}
use native.Mathlib.Omega.{arith}
use lib.ListN.{length, drop, replicate, length-append, length-map}
use lib.Seq.{take_at, drop_at}
use lib.Dec.{leb, eqb}
use Rattle.ground.specs.Lists.{all, same}
use Rattle.ground.proofs.Tests.{and-true, or-other, or-true}
use Rattle.ground.proofs.Cases.{by, both}
use Rattle.ground.proofs.Same.{same-sound}
use Rattle.format.specs.Bytes.{capital}
use Rattle.format.specs.Dates.{is_date}
use Rattle.format.proofs.NumberText.{date-below}
use Rattle.entries.specs.Little.{in_bytes}
use Rattle.entries.specs.Keys.{capitals}
use Rattle.keys.proofs.Capitals.{are-capital, capitals-kept}
use Rattle.little.proofs.Numbers.{length-in, number_in}
use Rattle.tenants.specs.Outputs.{Output, is_channel, is_empty, fit_output, kept_output, is_kept, outputs_given, outputs_in, output_bytes}
use Rattle.tenants.specs.Versions.{Version, version, version_from, version_bytes, version_at, count_in, versions_in, may_follow}
use Rattle.tenants.specs.Calls.{kept_given, outputs_of}
use Rattle.outputs.proofs.Channels.{channel-all}
use Rattle.outputs.proofs.Walks.{given-long}
use Rattle.output_bytes.proofs.Back.{outputs-back, bytes-long}
use Rattle.versions.proofs.Pieces.{count-versions, version-here}
use Rattle.versions.proofs.Maps.{Mapping}
use Rattle.history.proofs.Sound.{sound-kept}

-- a version that fits its bytes
pub record Fits (v : Version) : Type 0 where
  pub dated : is_date v.first ≡ true
  pub kept : all is_kept v.outputs ≡ true
  pub many : length v.outputs ≡ 128

pub follows-dated : (t first : ℕ) → may_follow t first ≡ true → is_date first ≡ true
unfolding may_follow
follows-dated t first e = (and-true (is_date first) (leb t first) e).0

-- ---- its bytes

module _ (v : Version) (f : Fits v) where
  pub version-long : length (version_bytes v) ≡ 1796
  unfolding version_bytes
  version-long = omega (arith, length-append (in_bytes 4 v.first) (output_bytes v.outputs), length-in 4 v.first, bytes-long v.outputs f.kept, f.many)

  pub version-back : version_from (version_bytes v) ≡ v
  unfolding version_from version_bytes
  version-back =
      rw (
        take_at (in_bytes 4 v.first) (output_bytes v.outputs) 4 (length-in 4 v.first),
        drop_at (in_bytes 4 v.first) (output_bytes v.outputs) 4 (length-in 4 v.first),
        number_in 4 v.first (omega (arith, date-below v.first f.dated)),
        outputs-back v.outputs 128 f.many f.kept,
      )

-- ---- entries that are handed in, as adding keeps them

channel-capital : (k : List ℕ) → is_channel k ≡ true → is_channel (capitals k) ≡ true
channel-capital k e = sym (channel-all (capitals k)) ∙ are-capital 12 k (channel-all k ∙ e)

empty-capital : (k : List ℕ) → is_empty k ≡ true → is_empty (capitals k) ≡ true
unfolding is_empty capital same
empty-capital k e = rw (same-sound k (replicate 12 0) e)

fit-kept : (o : Output) → fit_output o ≡ true → is_kept (kept_output o) ≡ true
unfolding is_kept kept_output fit_output
fit-kept o e =
    let a = and-true (leb o.share 1000) (is_channel o.key || is_empty o.key && eqb o.share 0) e in
    by (is_channel o.key)
    (λ c. rw (a.0, channel-capital o.key c, capitals-kept o.key))
    (λ c.
    let b = and-true (is_empty o.key) (eqb o.share 0) (or-other (is_channel o.key) (is_empty o.key && eqb o.share 0) a.1 c) in
    rw (a.0, empty-capital o.key b.0, b.1, or-true (is_channel (capitals o.key)), capitals-kept o.key))

pub all-kept : (os : List Output) → all fit_output os ≡ true → all is_kept (map kept_output os) ≡ true
all-kept [] e = refl
all-kept (o ∷ os) e =
    let a = and-true (fit_output o) (all fit_output os) e in
    both (is_kept (kept_output o)) (all is_kept (map kept_output os)) (fit-kept o a.0) (all-kept os a.1)

pub given-fits : (first : ℕ) (keys shares : List ℕ) → is_date first ≡ true → all fit_output (outputs_given 128 keys shares) ≡ true → Fits (version first (kept_given keys shares))
given-fits first keys shares d e =
    record {
      dated = d;
      kept = all-kept (outputs_given 128 keys shares) e;
      many = length-map (outputs_given 128 keys shares) kept_output ∙ given-long 128 keys shares;
    }

-- ---- entries that a map holds

in-many : (n : ℕ) (s : List ℕ) → length (outputs_in n s) ≡ n
unfolding outputs_in
in-many zero s = refl
in-many (suc n) s = ap suc (in-many n (drop 14 s))

pub held-many : (m : List ℕ) (i : ℕ) → length (version_at m i).outputs ≡ 128
unfolding version_at version_from
held-many m i = in-many 128 _

pub held_fits : (m : List ℕ) (k first : ℕ) → Mapping m → 1 ≤ k → k ≤ count_in m → is_date first ≡ true → Fits (version first (outputs_of (versions_in m) k))
held_fits m k first w h l d =
    record {
      dated = d;
      kept = sound-kept (versions_in m) (k - 1) w.sound (omega (arith, count-versions m));
      many = ap (λ (v : Version). length v.outputs) (version-here m (k - 1) (omega arith)) ∙ held-many m (k - 1);
    }

-- The plain map: the day of a key in it when one day more is kept and when one is left out, and how many days and bytes it has. Assumes nothing.
use Prim.Native.Nat.{ℕ, ◌+◌}
use mathlib.Core.Path.{◌≡◌, refl, sym, ap, ◌∙◌, subst}
use mathlib.Core.Bool.{true, false}
use mathlib.Core.List.{List, [], ◌∷◌, map}
use native.Mathlib.Omega.{arith}
use lib.ListN.{length}
use Rattle.ground.specs.Lists.{sum}
use Rattle.ground.proofs.Cases.{by}
use Rattle.format.specs.Day.{Day}
use Rattle.format.specs.Block.{block_of}
use Rattle.entries.specs.Keys.{Key, capital_key, same_key}
use Rattle.plain.specs.Plain.{Held, day_for, without, bytes_of}
use Rattle.stored.proofs.Keys.{key-is}

-- ---- one day of the list

module _ (x : Key) (d : Held) (ds : List Held) where
  for-here : same_key (capital_key x) d.key ≡ true → day_for x (d ∷ ds) ≡ d.day ∷ []
  unfolding day_for
  for-here t = rw t

  for-on : same_key (capital_key x) d.key ≡ false → day_for x (d ∷ ds) ≡ day_for x ds
  unfolding day_for
  for-on t = rw t

  out-on : same_key (capital_key x) d.key ≡ false → without x (d ∷ ds) ≡ d ∷ without x ds
  unfolding without
  out-on t = rw t

-- letters of either case
pub for-alike : (x y : Key) (ds : List Held) → capital_key y ≡ capital_key x → day_for y ds ≡ day_for x ds
unfolding day_for
for-alike x y [] e = refl
for-alike x y (d ∷ ds) e = rw (e, for-alike x y ds e)

-- ---- all others

-- no day has this key
abbrev pub Absent : Key → List Held → Type 0
Absent k [] = Unit {0}
Absent k (d ∷ ds) = (same_key k d.key ≡ false) × Absent k ds

-- no key twice
abbrev pub Once : List Held → Type 0
Once [] = Unit {0}
Once (d ∷ ds) = Absent d.key ds × Once ds

module _ (x : Key) where
  for-absent : (ds : List Held) → Absent (capital_key x) ds → day_for x ds ≡ []
  unfolding day_for
  for-absent [] a = refl
  for-absent (d ∷ ds) a = for-on x d ds a.0 ∙ for-absent ds a.1

  out-absent : (ds : List Held) → Absent (capital_key x) ds → without x ds ≡ ds
  unfolding without
  out-absent [] a = refl
  out-absent (d ∷ ds) a = out-on x d ds a.0 ∙ ap (λ (es : List Held). d ∷ es) (out-absent ds a.1)

  pub gone : (ds : List Held) → Absent (capital_key x) (without x ds)
  unfolding without
  gone [] = tt
  gone (d ∷ ds) = by (same_key (capital_key x) d.key) (λ t. rw t (gone ds)) (λ t. rw t (t, gone ds))

  absent-out : (k : Key) (ds : List Held) → Absent k ds → Absent k (without x ds)
  unfolding without
  absent-out k [] a = tt
  absent-out k (d ∷ ds) a = by (same_key (capital_key x) d.key) (λ t. rw t (absent-out k ds a.1)) (λ t. rw t (a.0, absent-out k ds a.1))

  pub once-out : (ds : List Held) → Once ds → Once (without x ds)
  unfolding without
  once-out [] o = tt
  once-out (d ∷ ds) o = by (same_key (capital_key x) d.key) (λ t. rw t (once-out ds o.1)) (λ t. rw t (absent-out d.key ds o.0, once-out ds o.1))

  -- the key's own day is left out
  pub for-own : (ds : List Held) → day_for x (without x ds) ≡ []
  for-own ds = for-absent (without x ds) (gone ds)

  -- and every other key's stays
  pub for-other : (y : Key) (ds : List Held) → same_key (capital_key y) (capital_key x) ≡ false → day_for y (without x ds) ≡ day_for y ds
  unfolding without
  for-other y [] n = refl
  for-other y (d ∷ ds) n =
      by (same_key (capital_key x) d.key)
      (λ t.
      let e : capital_key x ≡ d.key = key-is (capital_key x) d.key t in
      rw t (for-other y ds n ∙ sym (for-on y d ds (rw e at n))))
      (λ t. rw t
      (by (same_key (capital_key y) d.key)
      (λ u. for-here y d (without x ds) u ∙ sym (for-here y d ds u))
      (λ u. for-on y d (without x ds) u ∙ for-other y ds n ∙ sym (for-on y d ds u))))

  -- ---- how many, and how many bytes

  -- a sum over the days is the others' and the key's own
  sums : (f : Day → ℕ) (ds : List Held) → Once ds → sum (map (λ (d : Held). f d.day) ds) ≡ sum (map (λ (d : Held). f d.day) (without x ds)) + sum (map f (day_for x ds))
  unfolding without day_for
  sums f [] o = refl
  sums f (d ∷ ds) o =
      by (same_key (capital_key x) d.key)
      (λ t.
      let e : capital_key x ≡ d.key = key-is (capital_key x) d.key t in
      rw (t, out-absent ds (subst (λ (k : Key). Absent k ds) (sym e) o.0)) (omega arith))
      (λ t. let i = sums f ds o.1 in rw t (omega arith))

  pub bytes-out : (ds : List Held) → Once ds → bytes_of ds ≡ bytes_of (without x ds) + sum (map (λ (d : Day). length (block_of d)) (day_for x ds))
  unfolding bytes_of
  bytes-out ds o = sums (λ (d : Day). length (block_of d)) ds o

  pub count-out : (ds : List Held) → Once ds → length ds ≡ length (without x ds) + length (day_for x ds)
  unfolding without day_for
  count-out [] o = refl
  count-out (d ∷ ds) o =
      by (same_key (capital_key x) d.key)
      (λ t.
      let e : capital_key x ≡ d.key = key-is (capital_key x) d.key t in
      rw (t, out-absent ds (subst (λ (k : Key). Absent k ds) (sym e) o.0)) (omega arith))
      (λ t. let i = count-out ds o.1 in rw t (omega arith))

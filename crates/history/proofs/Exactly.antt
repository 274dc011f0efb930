-- "Memory that no such adding gives is 21": memory is a map exactly where making a map and adding versions to it gives that memory. Assumes nothing.
use Prim.Native.Nat.{ℕ, zero, suc, ◌+◌, ◌-◌, ◌*◌, ◌≤◌, ◌<◌}
use mathlib.Core.Path.{◌≡◌, refl, sym, ap, ap₂, ◌∙◌, subst}
use mathlib.Core.Bool.{true}
use mathlib.Core.List.{List, [], ◌∷◌, ◌++◌, map}
use native.Mathlib.Nat.{add-zero}
use native.Mathlib.Numerals.{add-one}
use native.Mathlib.Omega.{arith}
use borrow.Author.Tests.{le-leb, lt-ltb}
use lib.ListN.{length, take, drop, get_or, length-append, length-map, length-drop, take-append-drop}
use lib.Seq.{sets, length-sets, length-take-le, take_at, drop_at, take_all}
use Rattle.ground.specs.Lists.{all, same, from}
use Rattle.ground.proofs.Tests.{and-true}
use Rattle.ground.proofs.Same.{same-sound}
use Rattle.ground.proofs.Digits.{all_map}
use Rattle.ground.proofs.From.{from-same}
use Rattle.ground.proofs.Room.{sets-front}
use Rattle.format.specs.Answers.{accepted}
use Rattle.moving.specs.Moving.{Within}
use Rattle.moving.proofs.Moves.{moved-sets, moved_same}
use Rattle.moving.proofs.Stores.{drop-sets}
use Rattle.entries.specs.Little.{piece, number, in_bytes}
use Rattle.entries.specs.Keys.{capitals, in_capitals}
use Rattle.entries.specs.Left.{Left, left}
use Rattle.little.proofs.Pieces.{piece-behind}
use Rattle.little.proofs.Numbers.{length-in, number-back}
use Rattle.tenants.specs.Outputs.{Output, output, fit_output, kept_output, is_kept, outputs_given, outputs_in, output_bytes, keys_of, shares_of}
use Rattle.tenants.specs.Versions.{Version, version_from, version_bytes, version_place, version_at, count_in, versions_in, is_map}
use Rattle.tenants.specs.Calls.{make_of, with_version, append_of, enough, kept_given, add_of}
use Rattle.output_bytes.proofs.Back.{number-bytes, piece_bytes, bytes_back, kept-sized}
use Rattle.versions.proofs.Maps.{Mapping, mapping}
use Rattle.history.specs.Stays.{AreBytes, Given, made, added}
use Rattle.history.proofs.Sound.{Before, sound-before}
use Rattle.history.proofs.Fits.{held-many}
use Rattle.history.proofs.Theorems.{made-map, adding}

-- ---- what addings give is a map

pub given-map : (m : List ℕ) → Given m → is_map m ≡ true
given-map _ (made m xs e) = (made-map m xs e).0
given-map _ (added m first keys shares xs g e) = (adding m first keys shares xs e).added.map

-- ---- the entries of a map, handed in again

-- as they were kept
pub given_back : (os : List Output) (n : ℕ) → length os ≡ n → all is_kept os ≡ true → outputs_given n (keys_of os) (shares_of os) ≡ os
unfolding outputs_given keys_of
given_back [] zero l e = refl
given_back [] (suc n) l e = absurd (let z : ⊥ = omega arith in z)
given_back (o ∷ os) zero l e = absurd (let z : ⊥ = omega arith in z)
given_back (o ∷ os) (suc n) l e =
    let g = and-true (is_kept o) (all is_kept os) e in
    let t = (kept-sized o g.0).twelve in
    rw (take_at o.key (keys_of os) 12 t, drop_at o.key (keys_of os) 12 t) (ap (λ (x : List Output). o ∷ x) (given_back os n (omega arith) g.1))

keys-many : (os : List Output) → all is_kept os ≡ true → length (keys_of os) ≡ 12 * length os
unfolding keys_of
keys-many [] e = refl
keys-many (o ∷ os) e =
    let g = and-true (is_kept o) (all is_kept os) e in
    omega (arith, length-append o.key (keys_of os), (kept-sized o g.0).twelve, keys-many os g.1)

pub kept-fit : (o : Output) → is_kept o ≡ true → fit_output o ≡ true
unfolding is_kept
kept-fit o e = (and-true (fit_output o) (in_capitals o.key) e).0

kept_same : (o : Output) → is_kept o ≡ true → kept_output o ≡ o
unfolding is_kept kept_output in_capitals
kept_same o e = ap (λ (k : List ℕ). output k o.share) (same-sound (capitals o.key) o.key (and-true (fit_output o) (same (capitals o.key) o.key) e).1)

all_same : (os : List Output) → all is_kept os ≡ true → map kept_output os ≡ os
all_same [] e = refl
all_same (o ∷ os) e =
    let g = and-true (is_kept o) (all is_kept os) e in
    ap₂ (λ (x : Output) (xs : List Output). x ∷ xs) (kept_same o g.0) (all_same os g.1)

-- ---- memory written over with what it holds

own : (l : List ℕ) (a k : ℕ) → a + k ≤ length l → sets l a (piece l a k) ≡ l
own l a k h = let w : Within l a a k = record { from = h; to = h } in sym (moved-sets l a a k w) ∙ sym (moved_same l a a k (omega arith) (omega arith))

version-own : (m : List ℕ) (i : ℕ) → AreBytes m → 57476 ≤ length m → i < 32 → version_bytes (version_at m i) ≡ piece m (version_place i) 1796
unfolding version_at version_from version_bytes
version-own m i f l h =
    let b : List ℕ = piece m (version_place i) 1796 in
    let n : length b ≡ 1796 = length-take-le 1796 (drop (version_place i) m) (omega (arith, length-drop (version_place i) m)) in
    let p : (j : ℕ) → get_or b j 0 < 256 = piece_bytes m (version_place i) 1796 f in
    let q : (j : ℕ) → get_or (drop 4 b) j 0 < 256 = drop-bytes b p in
    let a : in_bytes 4 (number (take 4 b)) ≡ take 4 b = number-bytes 4 (take 4 b) (piece_bytes b 0 4 p) (length-take-le 4 b (omega arith)) in
    let c : output_bytes (outputs_in 128 (drop 4 b)) ≡ drop 4 b =
    bytes_back 128 (drop 4 b) q (omega (arith, length-drop 4 b)) ∙ take_all 1792 (drop 4 b) (omega (arith, length-drop 4 b)) in
    rw (a, c) (take-append-drop 4 b)
  where
    drop-bytes : (s : List ℕ) → ((j : ℕ) → get_or s j 0 < 256) → (j : ℕ) → get_or (drop 4 s) j 0 < 256
    drop-bytes s p j = subst (λ (x : List ℕ). get_or x j 0 < 256) (take_all (length s) (drop 4 s) (omega (arith, length-drop 4 s))) (piece_bytes s 4 (length s) p j)

-- ---- the same map with fewer versions

module _ (m : List ℕ) (w : Mapping m) (f : AreBytes m) where
  at : ℕ → List ℕ
  at j = sets m 0 (in_bytes 4 j)

  at_long : (j : ℕ) → length (at j) ≡ length m
  unfolding at
  at_long j = length-sets m 0 (in_bytes 4 j)

  at_count : (j : ℕ) → j ≤ 32 → count_in (at j) ≡ j
  unfolding at
  at_count j h = number-back m 0 4 j (omega (arith, w.long)) (omega arith)

  at_piece : (j i : ℕ) → piece (at j) (version_place i) 1796 ≡ piece m (version_place i) 1796
  unfolding at
  at_piece j i = piece-behind (in_bytes 4 j) m (version_place i) 1796 0 (omega (arith, length-in 4 j))

  at-versions : (j : ℕ) → j ≤ 32 → versions_in (at j) ≡ from (version_at m) 0 j
  unfolding versions_in version_at
  at-versions j h =
      ap (from (version_at (at j)) 0) (at_count j h) ∙ from-same (version_at m) (version_at (at j)) 0 j (λ i a b. ap version_from (at_piece j i))

  -- those before version j, it, and those behind it
  cut : (f : ℕ → Version) (i k n : ℕ) → from f i (k + suc n) ≡ from f i k ++ f (i + k) ∷ from f (suc (i + k)) n
  unfolding from
  cut f i zero n = rw add-zero (let z : 0 + suc n ≡ suc n = omega arith in ap (from f i) z)
  cut f i (suc k) n =
      let z : suc k + suc n ≡ suc (k + suc n) = omega arith in
      let e : suc i + k ≡ i + suc k = omega arith in
      ap (from f i) z ∙ ap (λ (xs : List Version). f i ∷ xs) (cut f (suc i) k n) ∙ ap (λ (x : ℕ). f i ∷ (from f (suc i) k ++ f x ∷ from f (suc x) n)) e

  before : (j : ℕ) → j < count_in m → Before (from (version_at m) 0 j) (version_at m j)
  unfolding versions_in
  before j h =
      let z : j + suc (count_in m - suc j) ≡ count_in m = omega arith in
      let o : 0 + j ≡ j = omega arith in
      let e : versions_in m ≡ from (version_at m) 0 j ++ version_at m j ∷ from (version_at m) (suc j) (count_in m - suc j) =
      ap (from (version_at m) 0) (sym z)
      ∙ cut (version_at m) 0 j (count_in m - suc j)
      ∙ ap (λ (x : ℕ). from (version_at m) 0 j ++ version_at m x ∷ from (version_at m) (suc x) (count_in m - suc j)) o
      in
      sound-before (from (version_at m) 0 j) (version_at m j) (from (version_at m) (suc j) (count_in m - suc j)) (rw e at w.sound)

  at_map : (j : ℕ) → j < count_in m → is_map (at j) ≡ true
  unfolding is_map
  at_map j h =
      let l : 57476 ≤ length (at j) = omega (arith, at_long j, w.long) in
      let k : j ≤ 32 = omega (arith, w.few) in
      rw (le-leb 57476 (length (at j)) l, at_count j k, le-leb j 32 k, at-versions j k, (before j h).sound)

  -- ---- version j added to the map of those before it

  module _ (j : ℕ) (h : j < count_in m) where
    abbrev os : List Output
    os = (version_at m j).outputs

    abbrev first : ℕ
    first = (version_at m j).first

    fit : all fit_output (outputs_given 128 (keys_of os) (shares_of os)) ≡ true
    fit = let k = (before j h).kept in rw (given_back os 128 (held-many m j) k) (all_map is_kept fit_output kept-fit os k)

    kept : kept_given (keys_of os) (shares_of os) ≡ os
    kept = let k = (before j h).kept in ap (map kept_output) (given_back os 128 (held-many m j) k) ∙ all_same os k

    long-enough : enough (keys_of os) (shares_of os) ≡ true
    unfolding enough
    long-enough =
        let a : 1536 ≤ length (keys_of os) = omega (arith, keys-many os (before j h).kept, held-many m j) in
        let b : 128 ≤ length (shares_of os) = omega (arith, length-map os (λ (o : Output). o.share), held-many m j) in
        rw (le-leb 1536 (length (keys_of os)) a, le-leb 128 (length (shares_of os)) b)

    next : add_of (at j) first (keys_of os) (shares_of os) ≡ left (accepted ((j + 1) ∷ [])) (with_version (at j) (version_at m j))
    unfolding add_of append_of
    next =
        let k : j ≤ 32 = omega (arith, w.few) in
        let n : j < 32 = omega (arith, w.few) in
        rw (at_map j h, long-enough, fit, kept, at-versions j k, (before j h).follows, at_count j k, lt-ltb j 32 n)

    over-again : with_version (at j) (version_at m j) ≡ at (j + 1)
    unfolding with_version at
    over-again =
        let k : j ≤ 32 = omega (arith, w.few) in
        let l : 57476 ≤ length (at j) = omega (arith, at_long j, w.long) in
        let e : sets (at j) (version_place (count_in (at j))) (version_bytes (version_at m j)) ≡ at j =
        ap (λ (x : ℕ). sets (at j) (version_place x) (version_bytes (version_at m j))) (at_count j k)
        ∙ ap (sets (at j) (version_place j)) (version-own m j f w.long (omega (arith, w.few)) ∙ sym (at_piece j j))
        ∙ own (at j) (version_place j) 1796 (omega arith)
        in
        let t : List ℕ = in_bytes 4 (j + 1) in
        let n : length t ≡ 4 = length-in 4 (j + 1) in
        ap₂ (λ (x : List ℕ) (y : ℕ). sets x 0 (in_bytes 4 (y + 1))) e (at_count j k)
        ∙ sets-front (at j) t (omega arith)
        ∙ ap (λ (x : List ℕ). t ++ x) (drop-sets (length t) m 0 (in_bytes 4 j) (omega (arith, length-in 4 j)))
        ∙ sym (sets-front m t (omega (arith, w.long)))

  stages : (j : ℕ) → j ≤ count_in m → Given (at j)
  unfolding at make_of
  stages zero h =
      subst Given (rw (le-leb 57476 (length m) w.long)) (made m (0 ∷ []) (rw (le-leb 57476 (length m) w.long)))
  stages (suc j) h =
      let l : j < count_in m = omega arith in
      let e = next j l in
      let g = added (at j) (first j l) (keys_of (os j l)) (shares_of (os j l)) ((j + 1) ∷ []) (stages j (omega arith)) (ap (λ (x : Left). x.answer) e) in
      subst Given (ap (λ (x : Left). x.memory) e ∙ over-again j l ∙ ap at (add-one j)) g

  at_last : at (count_in m) ≡ m
  unfolding at
  at_last = ap (sets m 0) (number-bytes 4 (take 4 m) (piece_bytes m 0 4 f) (length-take-le 4 m (omega (arith, w.long)))) ∙ own m 0 4 (omega (arith, w.long))

  all-stages : Given m
  all-stages = subst Given at_last (stages (count_in m) (omega arith))

pub map-given : (m : List ℕ) → AreBytes m → is_map m ≡ true → Given m
map-given m f e = all-stages m (mapping m e) f

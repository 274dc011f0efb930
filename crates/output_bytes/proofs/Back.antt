-- Entries as bytes and bytes as entries: each read back from the other. Assumes nothing.
use Prim.Native.Nat.{ℕ, zero, suc, ◌+◌, ◌*◌, ◌/◌, ◌%◌, ◌^◌, ◌≤◌, ◌<◌}
use mathlib.Core.Path.{◌≡◌, refl, sym, ap, ap₂, ◌∙◌}
use mathlib.Core.Bool.{true, ◌&&◌, ◌||◌}
use mathlib.Core.List.{List, [], ◌∷◌, ◌++◌, append_assoc}
use native.Mathlib.Omega.{arith}
use borrow.Author.Tests.{leb-true}
use lib.ListN.{length, take, drop, get_or, replicate, length-append, length-drop}
use lib.Seq.{length-take-le, take_at, drop_at, take-add, get_or-drop}
use lib.Dec.{leb, eqb, lit<}
use Rattle.ground.specs.Lists.{all}
use Rattle.ground.proofs.Tests.{and-true, or-other}
use Rattle.ground.proofs.Cases.{by}
use Rattle.ground.proofs.Same.{same-sound}
use Rattle.entries.specs.Little.{piece, number, number_at, in_bytes}
use Rattle.entries.specs.Keys.{in_capitals}
use Rattle.little.proofs.Numbers.{length-in, number_in}
use Rattle.tenants.specs.Outputs.{Output, is_channel, is_empty, fit_output, is_kept, outputs_in, output_bytes}
use Rattle.outputs.proofs.Channels.{channel-bytes}

-- ---- bytes, as entries, as bytes

-- what holds of each byte of a list holds of each behind the first
bytes-behind : (b : ℕ) (s : List ℕ) → ((i : ℕ) → get_or (b ∷ s) i 0 < 256) → (i : ℕ) → get_or s i 0 < 256
bytes-behind b s f i = f (suc i)

in-number : (s : List ℕ) → ((i : ℕ) → get_or s i 0 < 256) → in_bytes (length s) (number s) ≡ s
unfolding in_bytes number
in-number [] f = refl
in-number (b ∷ s) f =
    let h : b < 256 = f 0 in
    ap₂ (λ (x : ℕ) (y : List ℕ). x ∷ y)
    (let e : (b + 256 * number s) % 256 ≡ b = omega arith in e)
    (ap (in_bytes (length s)) (let e : (b + 256 * number s) / 256 ≡ number s = omega arith in e) ∙ in-number s (bytes-behind b s f))

-- a number of k bytes that are there
pub number-bytes : (k : ℕ) (s : List ℕ) → ((i : ℕ) → get_or s i 0 < 256) → length s ≡ k → in_bytes k (number s) ≡ s
number-bytes k s f e = ap (λ (x : ℕ). in_bytes x (number s)) (sym e) ∙ in-number s f

bytes_drop : (n : ℕ) (s : List ℕ) → ((i : ℕ) → get_or s i 0 < 256) → (i : ℕ) → get_or (drop n s) i 0 < 256
bytes_drop n s f i = rw (get_or-drop n s i 0) (f (n + i))

bytes_take : (n : ℕ) (s : List ℕ) → ((i : ℕ) → get_or s i 0 < 256) → (i : ℕ) → get_or (take n s) i 0 < 256
bytes_take zero s f i = lit< tt
bytes_take (suc n) [] f i = lit< tt
bytes_take (suc n) (b ∷ s) f zero = f 0
bytes_take (suc n) (b ∷ s) f (suc i) = bytes_take n s (bytes-behind b s f) i

-- nor are those of a piece other than bytes
pub piece_bytes : (m : List ℕ) (a k : ℕ) → ((i : ℕ) → get_or m i 0 < 256) → (i : ℕ) → get_or (piece m a k) i 0 < 256
piece_bytes m a k f = bytes_take k (drop a m) (bytes_drop a m f)

pub bytes_back : (n : ℕ) (s : List ℕ) → ((i : ℕ) → get_or s i 0 < 256) → 14 * n ≤ length s → output_bytes (outputs_in n s) ≡ take (14 * n) s
unfolding outputs_in output_bytes
bytes_back zero s f h = refl
bytes_back (suc n) s f h =
    let w : length (take 2 (drop 12 s)) ≡ 2 = length-take-le 2 (drop 12 s) (omega (arith, length-drop 12 s)) in
    let a : in_bytes 2 (number_at s 12 2) ≡ take 2 (drop 12 s) = number-bytes 2 (take 2 (drop 12 s)) (bytes_take 2 (drop 12 s) (bytes_drop 12 s f)) w in
    let ih : output_bytes (outputs_in n (drop 14 s)) ≡ take (14 * n) (drop 14 s) = bytes_back n (drop 14 s) (bytes_drop 14 s f) (omega (arith, length-drop 14 s)) in
    let k : 14 + 14 * n ≡ 14 * suc n = omega arith in
    rw (a, ih, ← take-add 12 2 s) (sym (take-add 14 (14 * n) s) ∙ ap (λ (x : ℕ). take x s) k)

-- ---- entries, as bytes, as entries

-- what a kept entry has
pub record Sized (o : Output) : Type 0 where
  pub twelve : length o.key ≡ 12
  pub small : o.share < 256 ^ 2

pub kept-sized : (o : Output) → is_kept o ≡ true → Sized o
unfolding is_kept fit_output is_empty
kept-sized o e =
    let a = and-true (fit_output o) (in_capitals o.key) e in
    let b = and-true (leb o.share 1000) (is_channel o.key || is_empty o.key && eqb o.share 0) a.0 in
    record {
      twelve =
          by (is_channel o.key)
          (λ c. (channel-bytes o.key c).0)
          (λ c. ap length (same-sound o.key (replicate 12 0) (and-true (is_empty o.key) (eqb o.share 0) (or-other (is_channel o.key) (is_empty o.key && eqb o.share 0) b.1 c)).0));
      small = omega (arith, leb-true o.share 1000 b.0);
    }

-- an entry's bytes, with others behind them
module _ (o : Output) (z : Sized o) (r : List ℕ) where
  entry : List ℕ
  entry = o.key ++ in_bytes 2 o.share

  entry-long : length entry ≡ 14
  unfolding entry
  entry-long = omega (arith, length-append o.key (in_bytes 2 o.share), length-in 2 o.share, z.twelve)

  key_back : take 12 ((o.key ++ in_bytes 2 o.share) ++ r) ≡ o.key
  key_back = rw (append_assoc o.key (in_bytes 2 o.share) r) (take_at o.key (in_bytes 2 o.share ++ r) 12 z.twelve)

  share_back : number_at ((o.key ++ in_bytes 2 o.share) ++ r) 12 2 ≡ o.share
  share_back =
      rw (append_assoc o.key (in_bytes 2 o.share) r, drop_at o.key (in_bytes 2 o.share ++ r) 12 z.twelve, take_at (in_bytes 2 o.share) r 2 (length-in 2 o.share))
      (number_in 2 o.share z.small)

  rest_back : drop 14 ((o.key ++ in_bytes 2 o.share) ++ r) ≡ r
  unfolding entry
  rest_back = drop_at (o.key ++ in_bytes 2 o.share) r 14 entry-long

pub outputs-back : (os : List Output) (n : ℕ) → length os ≡ n → all is_kept os ≡ true → outputs_in n (output_bytes os) ≡ os
unfolding outputs_in output_bytes
outputs-back [] zero l e = refl
outputs-back [] (suc n) l e = absurd (let z : ⊥ = omega arith in z)
outputs-back (o ∷ os) zero l e = absurd (let z : ⊥ = omega arith in z)
outputs-back (o ∷ os) (suc n) l e =
    let g = and-true (is_kept o) (all is_kept os) e in
    let z = kept-sized o g.0 in
    rw (key_back o z (output_bytes os), share_back o z (output_bytes os), rest_back o z (output_bytes os))
    (ap (λ (x : List Output). o ∷ x) (outputs-back os n (omega arith) g.1))

pub bytes-long : (os : List Output) → all is_kept os ≡ true → length (output_bytes os) ≡ 14 * length os
unfolding output_bytes entry
bytes-long [] e = refl
bytes-long (o ∷ os) e =
    let g = and-true (is_kept o) (all is_kept os) e in
    let z = kept-sized o g.0 in
    omega (arith, length-append (o.key ++ in_bytes 2 o.share) (output_bytes os), entry-long o z [], bytes-long os g.1)

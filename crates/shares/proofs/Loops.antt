-- Laws of the loops over weights and remainders: what each has done before place i. Assumes nothing.
use Prim.Native.Nat.{ℕ, zero, suc, ◌+◌, ◌-◌, ◌*◌, ◌/◌, ◌%◌, ◌≤◌, ◌<◌}
use mathlib.Core.Path.{◌≡◌, refl, sym, ap, ◌∙◌}
use mathlib.Core.List.{List, [], ◌∷◌, map, append-nil}
use mathlib.Core.Bool.{Bool, true}
use native.Mathlib.Nat.{mul-le-mul, div-le_self, add-zero, sub-zero}
use native.Mathlib.Numerals.{add-one}
use native.Mathlib.Omega.{arith}
use lib.ListN.{length, get_or, take, drop, set, length-set, length-map, drop_of_length-le}
use lib.Seq.{sets}
use lib.Dec.{eqb, ltb, leb}
use borrow.Author.Tests.{leb-true, lt-ltb, le-ltb}
use Rattle.ground.specs.Lists.{all, sum, from}
use Rattle.ground.proofs.Tests.{and-true}
use Rattle.ground.proofs.Lists.{rest, to_end}
use Rattle.ground.proofs.Room.{sets-front}
use Rattle.ground.proofs.From.{from_step, from_end, length_from}
use Rattle.shares.specs.Shares.{count, floors, remainders, leftover, ahead, part_of, parts_of}
use Rattle.shares.specs.Steps.{Ready, Rounded}
use Rattle.shares.proofs.Sums.{floors-most, leftover-most}
use Rattle.shares.proofs.Counts.{one-as-large, ahead_small}

-- ---- light weights

light-at : (ws : List ℕ) (i : ℕ) → all (λ (w : ℕ). leb w 1000) ws ≡ true → get_or ws i 0 ≤ 1000
light-at [] i e = omega arith
light-at (w ∷ ws) zero e = leb-true w 1000 (and-true (leb w 1000) (all (λ (w : ℕ). leb w 1000) ws) e).0
light-at (w ∷ ws) (suc i) e = light-at ws i (and-true (leb w 1000) (all (λ (w : ℕ). leb w 1000) ws) e).1

pub product-fits : {t s : ℕ} {ws : List ℕ} (i : ℕ) → Ready t s ws → t * get_or ws i 0 ≤ 2880000000000000000
product-fits {t} {s} {ws} i r = mul-le-mul r.total (light-at ws i r.weights.light)

pub part-fits : {t s : ℕ} {ws : List ℕ} (i : ℕ) → Ready t s ws → t * get_or ws i 0 / s ≤ 2880000000000000000
part-fits {t} {s} {ws} i r = omega (arith, div-le_self (t * get_or ws i 0) s, product-fits i r)

-- ---- the remainders, and what remains

-- a list that is stored over one of its length takes its place
pub sets-all : (l xs : List ℕ) → length xs ≡ length l → sets l 0 xs ≡ xs
sets-all l xs e =
    let h : length l ≤ length xs = omega arith in
    sets-front l xs (omega arith) ∙ rw (drop_of_length-le l h, append-nil xs)

pub parts-long : (t : ℕ) (ws : List ℕ) → length (parts_of t ws) ≡ length ws
unfolding parts_of
parts-long t ws = length_from (part_of t ws) 0 (length ws)

pub record Resting (t s : ℕ) (ws rs : List ℕ) (left i : ℕ) : Type 0 where
  pub within : i ≤ length ws
  pub as_long : length rs ≡ length ws
  pub remain : left ≡ leftover t ws + sum (map (λ (w : ℕ). t * w / s) (drop i ws))
  pub rests : sets rs i (map (λ (w : ℕ). t * w % s) (drop i ws)) ≡ remainders t ws

module _ {t s : ℕ} {ws rs : List ℕ} where
  pub resting-none : Ready t s ws → length rs ≡ length ws → Resting t s ws rs t 0
  unfolding leftover floors remainders
  resting-none r e =
      record {
        within = omega arith;
        as_long = e;
        remain = rw r.divisor (omega (arith, floors-most t ws (rw r.divisor at r.some)));
        rests = rw r.divisor (sets-all rs (map (λ (w : ℕ). t * w % sum ws) ws) (length-map ws (λ (w : ℕ). t * w % sum ws) ∙ sym e));
      }

  pub resting-room : {left : ℕ} (i : ℕ) → i < length ws → Resting t s ws rs left i → t * get_or ws i 0 / s ≤ left
  resting-room i h r = omega (arith, rw (rest ws i h) at r.remain)

  pub resting-more : {left : ℕ} (i : ℕ) → i < length ws → Resting t s ws rs left i
      → Resting t s ws (set rs i (t * get_or ws i 0 % s)) (left - t * get_or ws i 0 / s) (i + 1)
  resting-more {left} i h r =
      record {
        within = omega arith;
        as_long = length-set rs i (t * get_or ws i 0 % s) ∙ r.as_long;
        remain = omega (arith, rw (rest ws i h) at r.remain);
        rests = rw (add-one i) (rw (rest ws i h, add-one i) at r.rests);
      }

  pub resting-left : {left i : ℕ} → length ws ≤ i → Resting t s ws rs left i → left ≡ leftover t ws
  resting-left {left} {i} h r = omega (arith, rw (drop_of_length-le ws h) at r.remain)

  pub resting-all : {left i : ℕ} → length ws ≤ i → Resting t s ws rs left i → rs ≡ remainders t ws
  resting-all {left} {i} h r = rw (drop_of_length-le ws h) at r.rests

pub ruleset resting = (resting-none, resting-more, resting-left, resting-all)

-- ---- how many come before a place

-- x or larger: larger, or equal
as-large-is : (x : ℕ) (rs : List ℕ) → count (leb x) rs ≡ count (ltb x) rs + count (eqb x) rs
unfolding count
as-large-is x [] = refl
as-large-is x (y ∷ rs) = omega (arith, one-as-large x y, as-large-is x rs)

count-apart : (p : ℕ → Bool) (i : ℕ) (rs : List ℕ) → count p rs ≡ count p (take i rs) + count p (drop i rs)
unfolding count
count-apart p zero rs = omega arith
count-apart p (suc i) [] = refl
count-apart p (suc i) (y ∷ rs) = omega (arith, count-apart p i rs)

module _ (rs : List ℕ) (i x : ℕ) {a b : ℕ} (p : a ≡ count (leb x) (take i rs)) (q : b ≡ count (ltb x) (take (length rs - (i + 1)) (drop (i + 1) rs))) where
  behind : b ≡ count (ltb x) (drop (i + 1) rs)
  behind = rw (to_end (i + 1) rs) at q

  pub before-is : i < length rs → x ≡ get_or rs i 0 → a + b ≡ ahead rs i
  unfolding ahead count
  before-is h e =
      let d : count (ltb x) (drop i rs) ≡ count (ltb x) (drop (i + 1) rs) = rw (rest rs i h, ← e, le-ltb x x (omega arith)) (omega arith) in
      rw (← e) (omega (arith, p, behind, d, as-large-is x (take i rs), count-apart (ltb x) i rs))

-- ---- the parts

pub record Parting (t : ℕ) (ws parts₀ parts : List ℕ) (i : ℕ) : Type 0 where
  pub within : i ≤ length ws
  pub room : length ws ≤ length parts
  pub as_long : length parts ≡ length parts₀
  pub left : sets parts i (from (part_of t ws) i (length ws - i)) ≡ sets parts₀ 0 (parts_of t ws)

module _ (t : ℕ) (ws : List ℕ) {parts₀ : List ℕ} where
  pub parting-none : length ws ≤ length parts₀ → Parting t ws parts₀ parts₀ 0
  unfolding parts_of
  parting-none h = record { within = omega arith; room = h; as_long = refl; left = rw (sub-zero (length ws)) refl }

  pub parting-more : (i : ℕ) {parts : List ℕ} {p : ℕ} → i < length ws → p ≡ part_of t ws i → Parting t ws parts₀ parts i → Parting t ws parts₀ (set parts i p) (i + 1)
  parting-more i {parts} {p} h e r =
      record {
        within = omega arith;
        room = rw (length-set parts i p) r.room;
        as_long = length-set parts i p ∙ r.as_long;
        left = rw (e, add-one i) (rw (from_step (part_of t ws) i (length ws) h, add-one i) at r.left);
      }

  pub parting-all : (i : ℕ) {parts : List ℕ} → length ws ≤ i → Parting t ws parts₀ parts i → parts ≡ sets parts₀ 0 (parts_of t ws)
  parting-all i {parts} h r = rw (from_end (part_of t ws) i (length ws) h) at r.left

module _ {t s left : ℕ} {ws rs : List ℕ} (i : ℕ) {k : ℕ} (r : Rounded t s left ws rs) (q : k ≡ ahead rs i) where
  pub part-more : k < left → t * get_or ws i 0 / s + 1 ≡ part_of t ws i
  unfolding part_of
  part-more h = rw (← r.rests, ← q, ← r.remain, lt-ltb k left h, r.ready.divisor)

  pub part-down : left ≤ k → t * get_or ws i 0 / s ≡ part_of t ws i
  unfolding part_of
  part-down h = rw (← r.rests, ← q, ← r.remain, le-ltb k left h, r.ready.divisor, add-zero (t * get_or ws i 0 / sum ws))

-- what remains never reaches a remainder of 0
pub part-whole : {t s left : ℕ} {ws rs : List ℕ} (i : ℕ) → Rounded t s left ws rs → get_or rs i 0 ≡ 0 → t * get_or ws i 0 / s ≡ part_of t ws i
part-whole {t} {s} {left} {ws} {rs} i r e =
    let h : leftover t ws ≤ count (ltb 0) (remainders t ws) = leftover-most t ws (rw r.ready.divisor at r.ready.some) in
    let z : get_or rs i 0 ≤ 0 = omega arith in
    let g : count (ltb 0) (remainders t ws) ≤ ahead (remainders t ws) i = ahead_small 0 (remainders t ws) i (rw r.rests at z) in
    part-down i r refl (omega (arith, r.remain, ap (λ (l : List ℕ). ahead l i) r.rests))

pub rests-long : {t s left : ℕ} {ws rs : List ℕ} → Rounded t s left ws rs → length rs ≡ length ws
unfolding remainders
rests-long {t} {ws = ws} r = ap length r.rests ∙ length-map ws (λ (w : ℕ). t * w % sum ws)

pub rests-few : {t s left : ℕ} {ws rs : List ℕ} (i : ℕ) → Rounded t s left ws rs → i < length ws → (i < length rs) × (length rs ≤ 128)
rests-few i r h = omega (arith, rests-long r, r.ready.weights.few)

pub ruleset parting = (parting-none, parting-more, parting-all)

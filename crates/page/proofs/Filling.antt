-- Laws of texts put on a page, as much of each as there is room for: one alone, one that stood in another room before, and one behind the other.
-- Assumes nothing.
use Prim.Native.Nat.{ℕ, ◌+◌, ◌-◌, ◌/◌, ◌^◌, ◌≤◌}
use mathlib.Core.Path.{◌≡◌, sym, ap, ◌∙◌, subst}
use mathlib.Core.List.{List, [], ◌∷◌, ◌++◌, append-nil}
use native.Mathlib.Omega.{arith}
use lib.ListN.{length, take, drop}
use lib.Seq.{take_all, take-append-le, take-append-add, take_at, length-take-le}
use Rattle.ground.specs.Digits.{dec}
use Rattle.ground.specs.Room.{Put}
use Rattle.ground.proofs.Cases.{split}
use Rattle.ground.proofs.Digits.{length-dec, width-most}
use Rattle.ground.proofs.Room.{put_then, put_as, put-kept, sets-front}
use Rattle.format.specs.Block.{value_text}
use Rattle.format.proofs.ValueText.{length_most}
use Rattle.page.specs.Filled.{Filled}

-- the text that fits of two, one behind the other
take-both : (a : ℕ) (xs ys : List ℕ) → take a xs ++ take (a - length (take a xs)) ys ≡ take a (xs ++ ys)
take-both a xs ys =
    split a (length xs)
    (λ h.
    let e : a - length (take a xs) ≡ 0 = omega (arith, length-take-le a xs h) in
    let none : take (a - length (take a xs)) ys ≡ [] = rw e in
    ap (λ (z : List ℕ). take a xs ++ z) none ∙ append-nil (take a xs) ∙ sym (take-append-le a xs ys h))
    (λ h.
    let all : take a xs ≡ xs = take_all a xs (omega arith) in
    let e : length xs + (a - length xs) ≡ a = omega arith in
    ap (λ (z : List ℕ). z ++ take (a - length z) ys) all
    ∙ sym (take-append-add xs ys (a - length xs))
    ∙ ap (λ (k : ℕ). take k (xs ++ ys)) e)

pub filled-then : {l m n xs ys : List ℕ} {at i j : ℕ} → Filled l at xs i m → Filled m i ys j n → Filled l at (xs ++ ys) j n
filled-then {l} {m} {n} {xs} {ys} {at} {i} {j} p q =
    let room : length m - i ≡ length l - at - length (take (length l - at) xs) = omega (arith, put-kept p.put, p.put.behind) in
    record {
      put =
          put_as (put_then p.put q.put)
          (ap (λ (k : ℕ). take (length l - at) xs ++ take k ys) room ∙ take-both (length l - at) xs ys);
    }

-- a byte, and a text behind it
pub filled-sign : {l m n ys : List ℕ} {at i j sign : ℕ} → Filled l at (sign ∷ []) i m → Filled m i ys j n → Filled l at (sign ∷ ys) j n
filled-sign p q = filled-then p q

-- the text under another name
pub filled-as : {l m xs ys : List ℕ} {at i : ℕ} → Filled l at xs i m → xs ≡ ys → Filled l at ys i m
filled-as {l} {m} {at = at} {i = i} p e = subst (λ (z : List ℕ). Filled l at z i m) e p

-- the text that a room starts with
pub put_front : {l m xs : List ℕ} {k : ℕ} → 0 + length xs ≤ length l → Put l 0 xs k m → take k m ≡ xs
put_front {l} {m} {xs} {k} h p =
    ap (take k) (p.room ∙ sets-front l xs (omega arith)) ∙ take_at xs (drop (length xs) l) k (omega (arith, p.behind))

pub filled-front : {l d page m xs : List ℕ} {k at i : ℕ} → 0 + length xs ≤ length l → Put l 0 xs k d → Filled page at (take k d) i m → Filled page at xs i m
filled-front h p q = filled-as q (put_front h p)

-- where a room is long enough for the text that it starts with
pub front-within : {l d xs : List ℕ} {k : ℕ} → 0 + length xs ≤ length l → Put l 0 xs k d → k ≤ length d
front-within h p = omega (arith, p.behind, put-kept p)

pub front_long : {l d xs : List ℕ} {k : ℕ} → 0 + length xs ≤ length l → Put l 0 xs k d → k ≡ length (take k d)
front_long {d = d} {k = k} h p = sym (length-take-le k d (front-within h p))

pub dec-room : (n : ℕ) → 0 + length (dec n) ≤ 20
dec-room n = omega (arith, length-dec n, width-most n)

pub value_room : (v : ℕ) → 0 + length (value_text v) ≤ 27
value_room v = omega (arith, length_most v, dec-room (v / 10 ^ 6))

-- Sixteen values at once: the loops that compare two lists byte by byte, and what two such comparisons say of the values. Assumes nothing.
use Prim.Native.Nat.{ℕ, zero, suc, ◌+◌, ◌-◌, ◌*◌, ◌≤◌, ◌<◌}
use mathlib.Core.Path.{◌≡◌, refl, sym, ◌∙◌}
use mathlib.Core.List.{List, [], ◌∷◌, ◌++◌}
use mathlib.Core.Bool.{Bool, true, false, ◌&&◌}
use native.Mathlib.Omega.{arith}
use lib.ListN.{length, get_or, take, drop, drop_of_length-le, length-append, get_or-append}
use lib.Seq.{get_or-take, get_or-drop, get_or-append-add}
use lib.Dec.{leb}
use borrow.Author.Tests.{eq-eqb, le-leb, lt-leb, leb-true}
use Rattle.ground.specs.Lists.{part}
use Rattle.ground.specs.Digits.{is_digit}
use Rattle.ground.proofs.Tests.{and-true, and-false, and-all}
use Rattle.ground.proofs.Lists.{rest}
use Rattle.ground.proofs.Decimal.{digit-is}
use Rattle.ground.proofs.Spans.{part_length}
use Rattle.format.specs.Records.{millionths}
use Rattle.quick_values.specs.Shapes.{is_thousandths}
use Rattle.quick_values.proofs.Shapes.{thousandths-number}
use Rattle.lumps.specs.Lumps.{no_less, Alike}

-- ---- two lists, byte by byte

-- `ok` says whether no byte before i is less
pub record Held (s t : List ℕ) (i : ℕ) (ok : Bool) : Type 0 where
  pub within : i ≤ length s
  pub long : length s ≡ length t
  pub same : ok && no_less (drop i s) (drop i t) ≡ no_less s t

module _ (s t : List ℕ) where
  pub held_none : length s ≡ length t → Held s t 0 true
  held_none e = record { within = omega arith; long = e; same = refl }

  module _ (i : ℕ) (ok : Bool) (h : i < length s) (r : Held s t i ok) where
    both : no_less (drop i s) (drop i t) ≡ leb (get_or t i 0) (get_or s i 0) && no_less (drop (i + 1) s) (drop (i + 1) t)
    both = let k : i < length t = omega (arith, r.long) in rw (rest s i h, rest t i k)

    pub held_on : get_or t i 0 ≤ get_or s i 0 → Held s t (i + 1) ok
    held_on e = record { within = omega arith; long = r.long; same = rw (both, le-leb _ _ e) at r.same }

    pub held-off : get_or s i 0 < get_or t i 0 → Held s t (i + 1) false
    held-off e = record { within = omega arith; long = r.long; same = rw (both, lt-leb _ _ e, and-false) at r.same }

  pub held-end : (i : ℕ) (ok : Bool) → length s ≤ i → Held s t i ok → ok ≡ no_less s t
  held-end i ok h r = rw (drop_of_length-le s h, and-all) at r.same

pub ruleset pairs = (held_none, held_on, held-off, held-end)

-- each byte, then, is at least the one at its place
no-less-at : (s t : List ℕ) → no_less s t ≡ true → (i : ℕ) → i < length s → i < length t → get_or t i 0 ≤ get_or s i 0
no-less-at [] t h i l m = absurd (let z : ⊥ = omega arith in z)
no-less-at (b ∷ s) [] h i l m = absurd (let z : ⊥ = omega arith in z)
no-less-at (b ∷ s) (c ∷ t) h zero l m = leb-true c b (and-true (leb c b) (no_less s t) h).0
no-less-at (b ∷ s) (c ∷ t) h (suc i) l m = no-less-at s t (and-true (leb c b) (no_less s t) h).1 i (omega arith) (omega arith)

-- ---- a list of six, k times

abbrev pub again : ℕ → List ℕ → List ℕ
again zero s = []
again (suc k) s = s ++ again k s

again-long : (k : ℕ) (s : List ℕ) → length s ≡ 6 → length (again k s) ≡ 6 * k
again-long zero s e = refl
again-long (suc k) s e = length-append s (again k s) ∙ omega (arith, again-long k s e)

again-at : (k j r : ℕ) (s : List ℕ) → length s ≡ 6 → r < 6 → j < k → get_or (again k s) (6 * j + r) 0 ≡ get_or s r 0
again-at zero j r s e h l = absurd (let z : ⊥ = omega arith in z)
again-at (suc k) zero r s e h l =
    let n : 6 * 0 + r ≡ r = omega arith in
    rw n (get_or-append s (again k s) 0 r (omega arith))
again-at (suc k) (suc j) r s e h l =
    let n : 6 * suc j + r ≡ length s + (6 * j + r) = omega arith in
    rw n (get_or-append-add s (again k s) (6 * j + r) 0 ∙ again-at k j r s e h (omega arith))

-- ---- the values

-- the bytes of the least and of the greatest such value, with the comma
abbrev pub low : List ℕ
low = 48 ∷ 46 ∷ 48 ∷ 48 ∷ 48 ∷ 44 ∷ []

abbrev pub high : List ℕ
high = 57 ∷ 46 ∷ 57 ∷ 57 ∷ 57 ∷ 44 ∷ []

shaped : (file : List ℕ) (y : ℕ) → y + 5 ≤ length file → is_digit (get_or file (y + 0) 0) ≡ true → get_or file (y + 1) 0 ≡ 46
    → is_digit (get_or file (y + 2) 0) ≡ true → is_digit (get_or file (y + 3) 0) ≡ true → is_digit (get_or file (y + 4) 0) ≡ true
    → is_thousandths (part file y (y + 5)) ≡ true
unfolding is_thousandths
shaped file y h a b c d e =
    let n : y + 5 - y ≡ 5 = omega arith in
    let l : length (part file y (y + 5)) ≡ 5 = part_length file y (y + 5) h ∙ n in
    let at : (r : ℕ) → r < 5 → get_or (part file y (y + 5)) r 0 ≡ get_or file (y + r) 0 = λ r k. rw (n, get_or-take 5 (drop y file) r 0 k, get_or-drop) in
    rw (eq-eqb _ _ l, at 0 (omega arith), at 1 (omega arith), at 2 (omega arith), at 3 (omega arith), at 4 (omega arith), eq-eqb _ _ b, a, c, d, e)

module _ (file : List ℕ) (x : ℕ) (room : x + 96 ≤ length file) (f : no_less (part file x (x + 96)) (again 16 low) ≡ true)
    (g : no_less (again 16 high) (part file x (x + 96)) ≡ true) where
  byte : (i : ℕ) → i < 96 → get_or (part file x (x + 96)) i 0 ≡ get_or file (x + i) 0
  byte i h = let n : x + 96 - x ≡ 96 = omega arith in rw (n, get_or-take 96 (drop x file) i 0 h, get_or-drop)

  between : (j r : ℕ) → j < 16 → r < 6 → (get_or low r 0 ≤ get_or file (x + 6 * j + r) 0) × (get_or file (x + 6 * j + r) 0 ≤ get_or high r 0)
  between j r h l =
      let i : ℕ = 6 * j + r in
      let n : x + 6 * j + r ≡ x + i = omega arith in
      let m : length (part file x (x + 96)) ≡ 96 = part_length file x (x + 96) room ∙ omega arith in
      let a = no-less-at (part file x (x + 96)) (again 16 low) f i (omega arith) (omega (arith, again-long 16 low refl)) in
      let b = no-less-at (again 16 high) (part file x (x + 96)) g i (omega (arith, again-long 16 high refl)) (omega arith) in
      let a₁ : get_or low r 0 ≤ get_or file (x + i) 0 = rw (byte i (omega arith), again-at 16 j r low refl l h) at a in
      let b₁ : get_or file (x + i) 0 ≤ get_or high r 0 = rw (byte i (omega arith), again-at 16 j r high refl l h) at b in
      rw n (a₁, b₁)

  all_alike : Alike file x 16
  all_alike j h =
      let digit : (r : ℕ) → r < 6 → get_or low r 0 ≡ 48 → get_or high r 0 ≡ 57 → is_digit (get_or file (x + 6 * j + r) 0) ≡ true =
      λ r l p q. (let w = between j r h l in sym (digit-is _ (omega arith) (omega arith))) in
      let dot = between j 1 h (omega arith) in
      let comma = between j 5 h (omega arith) in (
        shaped file (x + 6 * j) (omega arith) (digit 0 (omega arith) refl refl) (omega arith) (digit 2 (omega arith) refl refl) (digit 3 (omega arith) refl refl)
            (digit 4 (omega arith) refl refl),
        omega arith,
      )

-- the ways out: b and c are what the two comparisons answer
pub alike : (file : List ℕ) (x : ℕ) {b c : Bool} → x + 96 ≤ length file → b ≡ no_less (take (x + 96 - x) (drop x file)) (again 16 low) → b ≡ true
    → c ≡ no_less (again 16 high) (take (x + 96 - x) (drop x file)) → c ≡ true → Alike file x 16
alike file x {b} h e n f t = all_alike file x h (sym e ∙ n) (sym f ∙ t)

-- the number of such a value
pub thousand-is : (s : List ℕ) → is_thousandths s ≡ true → (get_or s 0 0 * 1000 + get_or s 2 0 * 100 + get_or s 3 0 * 10 + get_or s 4 0 - 53328) * 1000 ≡ millionths s
unfolding millionths
thousand-is s t = rw (thousandths-number s t)

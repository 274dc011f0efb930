-- A value read byte by byte, its digits and its point. Assumes nothing.
use Rattle.std.proofs.Common.{Some}
use Prim.Native.Nat.{ℕ, suc, ◌+◌, ◌-◌, ◌*◌, ◌^◌, ◌≤◌, ◌<◌}
use mathlib.Core.Path.{◌≡◌, sym, ◌∙◌, ap}
use mathlib.Core.List.{List, [], ◌∷◌, ◌++◌, append-nil}
use mathlib.Core.Bool.{Bool, true, false, not}
use native.Mathlib.Nat.{pow-suc, pow-zero, add-mul, mul_assoc, mul_comm}
use native.Mathlib.Omega.{arith}
use lib.ListN.{length, get_or, take, drop, length-append, length-drop}
use lib.Pow.{pow-add}
use lib.Seq.{take-suc, take-add, drop-drop, get_or-drop, take-append_seam, drop-append-add}
use borrow.Author.Tests.{eq-eqb, ne_eqb, not-false}
use Rattle.ground.specs.Lists.{all, span_of, other, part}
use Rattle.ground.specs.Digits.{is_digit, decimal_from, decimal}
use Rattle.ground.proofs.Digits.{all_append, decimal-append, digit-range}
use Rattle.ground.proofs.Lists.{rest}
use Rattle.ground.proofs.Spans.{part_length}
use Rattle.format.specs.Numbers.{point, before, behind, decimals, fraction_of, value_of}
use Rattle.format.specs.Records.{millionths}
use Rattle.format.proofs.Numbers.{value-below}
use Rattle.format.proofs.NumberText.{digits_are}
use Rattle.format.proofs.ValueText.{point-behind}
use Rattle.ground.proofs.Bytes.{digits-plain}
use Rattle.lines.proofs.Commas.{comma-field, comma-whole}
use Rattle.shorts.specs.Shapes.{Whole, Pointed, Complete, ValueAt}

-- ---- a byte more

part-more : (file : List ℕ) (a q : ℕ) → a ≤ q → q < length file → part file a (q + 1) ≡ part file a q ++ get_or file q 0 ∷ []
part-more file a q h l =
    let m : q + 1 - a ≡ suc (q - a) = omega arith in
    let p : a + (q - a) ≡ q = omega arith in
    let k : q - a < length (drop a file) = omega (arith, length-drop a file) in
    rw m (take-suc (drop a file) (q - a) 0 k ∙ rw (get_or-drop, p))

part_none : (file : List ℕ) (a : ℕ) → part file a a ≡ []
part_none file a = let m : a - a ≡ 0 = omega arith in rw m

digits_more : (s : List ℕ) (b : ℕ) → all is_digit s ≡ true → is_digit b ≡ true → all is_digit (s ++ b ∷ []) ≡ true
digits_more s b h t = all_append is_digit s (b ∷ []) h (rw t)

-- n is that of the digits so far and zeros more; a byte that is a digit brings zeros to ten times as many and 48
number_more : (v b n zeros : ℕ) (s : List ℕ) → is_digit b ≡ true → n ≡ decimal_from v s + zeros
    → n * 10 + b ≡ decimal_from v (s ++ b ∷ []) + (zeros * 10 + 48)
number_more v b n zeros s t e = let r = digit-range b t in rw (decimal-append v s (b ∷ [])) (omega arith)

-- ---- what the text of a value says

-- digits behind a number already read
decimal-shift : (v : ℕ) (s : List ℕ) → decimal_from v s ≡ v * 10 ^ length s + decimal s
decimal-shift v [] = omega (arith, pow-zero 10)
decimal-shift v (b ∷ s) =
    let d : ℕ = b - 48 in
    let k : ℕ = 10 ^ length s in
    let m : (v * 10 + d) * k ≡ v * (k * 10) + (0 * 10 + d) * k = rw (add-mul, mul_assoc) (omega (arith, mul_comm 10 k)) in
    rw (pow-suc 10 (length s)) (omega (arith, decimal-shift (v * 10 + (b - 48)) s, decimal-shift (0 * 10 + (b - 48)) s, m))

whole-number : (u : List ℕ) → all is_digit u ≡ true → 1 ≤ length u → length u ≤ 7 → value_of decimals u ≡ Some (decimal u * 10 ^ 6)
unfolding value_of span_of
whole-number u h l m =
    let p : point u ≡ length u = ap point (sym (append-nil u)) ∙ point-behind u [] h ∙ omega arith in
    rw (eq-eqb (point u) (length u) p, digits_are 1 7 u l m h) (ap Some (omega arith))

scale : (v w n : ℕ) → n ≤ 6 → v * 10 ^ 6 + w * 10 ^ (6 - n) ≡ (v * 10 ^ n + w) * 10 ^ (6 - n)
scale v w n h =
    let e : n + (6 - n) ≡ 6 = omega arith in
    let p : 10 ^ n * 10 ^ (6 - n) ≡ 10 ^ 6 = sym (pow-add 10 n (6 - n)) ∙ ap (λ (k : ℕ). 10 ^ k) e in
    rw (← p) (omega arith)

point-number : (u v : List ℕ) → all is_digit u ≡ true → 1 ≤ length u → length u ≤ 7 → all is_digit v ≡ true → 1 ≤ length v → length v ≤ 6
    → value_of decimals (u ++ 46 ∷ v) ≡ Some (decimal_from (decimal u) v * 10 ^ (6 - length v))
unfolding value_of fraction_of span_of
point-number u v h l m h₂ l₂ m₂ =
    let s : List ℕ = u ++ 46 ∷ v in
    let p : point s ≡ length u = point-behind u (46 ∷ v) h ∙ omega arith in
    let g : (point s ≡ length s → ⊥) = λ r. omega (arith, length-append u (46 ∷ v)) in
    let b : before s ≡ u = ap (λ (k : ℕ). take k s) p ∙ take-append_seam u (46 ∷ v) in
    let c : behind s ≡ v = ap (λ (k : ℕ). drop (k + 1) s) p ∙ drop-append-add u (46 ∷ v) 1 in
    rw (ne_eqb (point s) (length s) g, b, c, digits_are 1 7 u l m h, digits_are 1 6 v l₂ m₂ h₂, decimal-shift (decimal u) v) (ap Some (scale (decimal u) (decimal v) (length v) m₂))

number_is : (s : List ℕ) (v : ℕ) → value_of decimals s ≡ Some v → (v ≡ millionths s) × (v < 10 ^ 13)
unfolding millionths
number_is s v e = (rw e, value-below decimals s v e)

-- ---- the digits before a point

-- what `is_digit` says of the byte at q, and the digits with it
module _ (b : ℕ) {r : Bool} (e : r ≡ is_digit b) (t : not r ≡ false) where
  is_one : is_digit b ≡ true
  is_one = sym e ∙ not-false _ t

  pub in-range : (48 ≤ b) × (b ≤ 57)
  in-range = digit-range b is_one

pub whole-one : (file : List ℕ) (a : ℕ) {n zeros : ℕ} {r : Bool} → a < length file → r ≡ is_digit (get_or file a 0) → not r ≡ false
    → n ≡ 0 * 10 + get_or file a 0 → zeros ≡ 0 * 10 + 48 → Whole file a (a + 1) n zeros
whole-one file a h i o en ez =
    let t = is_one _ i o in
    let k : part file a (a + 1) ≡ get_or file a 0 ∷ [] = rw (part-more file a a (omega arith) h, part_none file a) in
    record {
      some = omega arith;
      few = omega arith;
      within = omega arith;
      digits = rw (k, t);
      number = rw k (omega (arith, digit-range _ t));
    }

module _ {file : List ℕ} {a q n zeros : ℕ} (w : Whole file a q n zeros) where
  pub whole-more : {n₁ zeros₁ : ℕ} {r : Bool} → q < length file → q < a + 7 → r ≡ is_digit (get_or file q 0) → not r ≡ false
      → n₁ ≡ n * 10 + get_or file q 0 → zeros₁ ≡ zeros * 10 + 48 → Whole file a (q + 1) n₁ zeros₁
  whole-more h g i o en ez =
      let t = is_one _ i o in
      let k = part-more file a q (omega (arith, w.some)) h in
      record {
        some = omega (arith, w.some);
        few = omega arith;
        within = omega arith;
        digits = rw k (digits_more (part file a q) _ w.digits t);
        number = rw (k, en, ez) (number_more 0 _ n zeros (part file a q) t w.number);
      }

  long : length (part file a q) ≡ q - a
  long = part_length file a q w.within

  pub whole-low : zeros ≤ n
  whole-low = omega (arith, w.number)

  pub whole-complete : {e : ℕ} → q < e → e ≤ length file → Complete file a e q ((n - zeros) * 1000000)
  whole-complete {e} h g =
      let d : n - zeros ≡ decimal (part file a q) = omega (arith, w.number) in
      let v = number_is (part file a q) _ (whole-number (part file a q) w.digits (omega (arith, long, w.some)) (omega (arith, long, w.few))) in
      record {
        order = omega (arith, w.some);
        room = h;
        within = g;
        plain = digits-plain (part file a q) w.digits;
        is = rw d v.0;
        small = rw d v.1;
      }

  pub whole-point : q < length file → get_or file q 0 ≡ 46 → Pointed file a (q + 1) 0 n zeros
  whole-point h c =
      record {
        p = q;
        behind = omega arith;
        some = w.some;
        few = w.few;
        within = omega arith;
        digits = w.digits;
        point = c;
        decimals = rw (part_none file (q + 1));
        number = rw (part_none file (q + 1)) w.number;
      }

-- ---- and those behind it

module _ {file : List ℕ} {a q m n zeros : ℕ} (w : Pointed file a q m n zeros) where
  pub point-more : {n₁ zeros₁ : ℕ} {r : Bool} → q < length file → r ≡ is_digit (get_or file q 0) → not r ≡ false
      → n₁ ≡ n * 10 + get_or file q 0 → zeros₁ ≡ zeros * 10 + 48 → Pointed file a (q + 1) (m + 1) n₁ zeros₁
  point-more h i o en ez =
      let t = is_one _ i o in
      let k = part-more file (w.p + 1) q (omega (arith, w.behind)) h in
      record {
        p = w.p;
        behind = omega (arith, w.behind);
        some = w.some;
        few = w.few;
        within = omega arith;
        digits = w.digits;
        point = w.point;
        decimals = rw k (digits_more (part file (w.p + 1) q) _ w.decimals t);
        number = rw (k, en, ez) (number_more (decimal (part file a w.p)) _ n zeros (part file (w.p + 1) q) t w.number);
      }

  text : part file a q ≡ part file a w.p ++ 46 ∷ part file (w.p + 1) q
  text =
      let n : q - a ≡ w.p - a + suc m = omega (arith, w.behind, w.some) in
      let k : a + (w.p - a) ≡ w.p = omega (arith, w.some) in
      let d : q - (w.p + 1) ≡ m = omega (arith, w.behind) in
      let r : drop w.p file ≡ 46 ∷ drop (w.p + 1) file = rest file w.p (omega (arith, w.behind, w.within)) ∙ rw w.point in
      rw (n, take-add (w.p - a) (suc m) (drop a file), drop-drop (w.p - a) a file, k, r, ← d)

  pub point-complete : {e unit : ℕ} → 1 ≤ m → m ≤ 6 → unit ≡ 10 ^ (6 - m) → q < e → e ≤ length file → Complete file a e q ((n - zeros) * unit)
  point-complete {e} {unit} l h i g r =
      let u : List ℕ = part file a w.p in
      let v : List ℕ = part file (w.p + 1) q in
      let long-u : length u ≡ w.p - a = part_length file a w.p (omega (arith, w.behind, w.within)) in
      let long-v : length v ≡ m = part_length file (w.p + 1) q w.within ∙ omega (arith, w.behind) in
      let d : n - zeros ≡ decimal_from (decimal u) v = omega (arith, w.number) in
      let x = number_is (part file a q) (decimal_from (decimal u) v * 10 ^ (6 - length v)) (rw text (point-number u v w.digits (omega (arith, long-u, w.some)) (omega (arith, long-u, w.few)) w.decimals (omega (arith, long-v)) (omega (arith, long-v)))) in
      record {
        order = omega (arith, w.some, w.behind);
        room = g;
        within = r;
        plain = rw text (all_append (other 44) u (46 ∷ v) (digits-plain u w.digits) (digits-plain v w.decimals));
        is = rw (d, i, ← long-v) x.0;
        small = rw (d, i, ← long-v) x.1;
      }

-- a value up to q, and a comma there
pub complete-value : {file : List ℕ} {a e q v : ℕ} → Complete file a e q v → get_or file q 0 ≡ 44 → ValueAt file a e v (q + 1)
complete-value {file} {a} {e} {q} {v} k c =
    let m : a + (q - a) ≡ q = omega (arith, k.order) in
    let le : a ≤ e = omega (arith, k.order, k.room) in
    let h : q - a < e - a = omega (arith, k.order, k.room) in
    let cm : get_or file (a + (q - a)) 0 ≡ 44 = rw m c in
    let pl : all (other 44) (part file a (a + (q - a))) ≡ true = rw m k.plain in
    record {
      is = k.is ∙ ap millionths (rw m at (comma-field file a e (q - a) le k.within h cm pl));
      small = k.small;
      cut = rw m at (comma-whole file a e (q - a) le k.within h cm pl);
    }

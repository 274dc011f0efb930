-- Laws of filling, and of the five lists taken together. Assumes nothing.
use Prim.Native.Nat.{ℕ, ◌+◌, ◌-◌, ◌≤◌}
use mathlib.Core.Path.{◌≡◌, refl, ap, ◌∙◌}
use mathlib.Core.List.{List, ◌++◌, map, map-append, append_assoc}
use native.Mathlib.Omega.{arith}
use lib.ListN.{length, replicate, length-map, length-replicate}
use lib.Seq.{sets, length-sets, sets-eq}
use borrow.Rule.Slice.PartMut.{mid_of, put_mid, mid_len, Post-is}
use Rattle.ground.proofs.Lists.{map-replicate}
use Rattle.ground.proofs.Room.{sets-append}
use Rattle.format.specs.declared.Tag.{Tag}
use Rattle.format.specs.Day.{Five, five}
use Rattle.lists.specs.Lists.{stored, Roomy}

-- a part of a list filled
pub part_filled : (l : List ℕ) (i to x : ℕ) {now : List ℕ} → i ≤ to → to ≤ length l → now ≡ replicate (length (mid_of i (to - i) l)) x
    → put_mid i (to - i) l now ≡ sets l i (replicate (to - i) x)
part_filled l i to x h g e =
    let n : length (replicate (to - i) x) ≡ to - i = length-replicate (to - i) x in
    let m : i + length (replicate (to - i) x) ≡ to = omega arith in
    let le : i + length (replicate (to - i) x) ≤ length l = omega arith in
    rw (e, mid_len i to l g, Post-is i to l h, sets-eq (replicate (to - i) x) l i le, m, append_assoc)

-- five fillings are one
pub five-filled : (t : Tag) (i n : ℕ) (a b d e f a₁ b₁ d₁ e₁ f₁ : List ℕ)
    → a₁ ≡ sets a i (replicate n t.flag) → b₁ ≡ sets b i (replicate n t.method) → d₁ ≡ sets d i (replicate n t.reason)
    → e₁ ≡ sets e i (replicate n t.start) → f₁ ≡ sets f i (replicate n t.length)
    → five a₁ b₁ d₁ e₁ f₁ ≡ stored (five a b d e f) i (replicate n t)
unfolding stored
five-filled t i n a b d e f a₁ b₁ d₁ e₁ f₁ p q r s u =
    rw (
      map-replicate (λ (t : Tag). t.flag) n t,
      map-replicate (λ (t : Tag). t.method) n t,
      map-replicate (λ (t : Tag). t.reason) n t,
      map-replicate (λ (t : Tag). t.start) n t,
      map-replicate (λ (t : Tag). t.length) n t,
      p,
      q,
      r,
      s,
      u,
    )

one-append : (f : Tag → ℕ) (l : List ℕ) (i : ℕ) (xs ys : List Tag)
    → sets l i (map f (xs ++ ys)) ≡ sets (sets l i (map f xs)) (i + length xs) (map f ys)
one-append f l i xs ys = rw (map-append f xs ys, sets-append l i (map f xs) (map f ys), length-map xs f)

-- the same of the five together: the one law that a loop over marks needs
pub stored-append : (l : Five) (i : ℕ) (xs ys : List Tag) → stored l i (xs ++ ys) ≡ stored (stored l i xs) (i + length xs) ys
unfolding stored
stored-append l i xs ys =
    rw (
      one-append (λ (t : Tag). t.flag) l.flags i xs ys,
      one-append (λ (t : Tag). t.method) l.methods i xs ys,
      one-append (λ (t : Tag). t.reason) l.reasons i xs ys,
      one-append (λ (t : Tag). t.start) l.starts i xs ys,
      one-append (λ (t : Tag). t.length) l.lengths i xs ys,
    )

-- each list is as long as the one in the other five
pub record Even (l l₀ : Five) : Type 0 where
  pub flags : length l.flags ≡ length l₀.flags
  pub methods : length l.methods ≡ length l₀.methods
  pub reasons : length l.reasons ≡ length l₀.reasons
  pub starts : length l.starts ≡ length l₀.starts
  pub lengths : length l.lengths ≡ length l₀.lengths

pub even-self : (l : Five) → Even l l
even-self l = record { flags = refl; methods = refl; reasons = refl; starts = refl; lengths = refl }

pub even-stored : {l l₀ l₁ : Five} (i : ℕ) (ts : List Tag) → Even l l₀ → l₁ ≡ stored l i ts → Even l₁ l₀
unfolding stored
even-stored {l} {l₀} {l₁} i ts v e =
    record {
      flags = ap (λ (z : Five). length z.flags) e ∙ length-sets l.flags i (map (λ (t : Tag). t.flag) ts) ∙ v.flags;
      methods = ap (λ (z : Five). length z.methods) e ∙ length-sets l.methods i (map (λ (t : Tag). t.method) ts) ∙ v.methods;
      reasons = ap (λ (z : Five). length z.reasons) e ∙ length-sets l.reasons i (map (λ (t : Tag). t.reason) ts) ∙ v.reasons;
      starts = ap (λ (z : Five). length z.starts) e ∙ length-sets l.starts i (map (λ (t : Tag). t.start) ts) ∙ v.starts;
      lengths = ap (λ (z : Five). length z.lengths) e ∙ length-sets l.lengths i (map (λ (t : Tag). t.length) ts) ∙ v.lengths;
    }

-- room for n in lists as long as these is room for any m up to n
pub even-room : {l l₀ : Five} {m n : ℕ} → Even l l₀ → Roomy n l₀ → m ≤ n → Roomy m l
even-room v r h =
    record {
      flags = omega (arith, v.flags, r.flags);
      methods = omega (arith, v.methods, r.methods);
      reasons = omega (arith, v.reasons, r.reasons);
      starts = omega (arith, v.starts, r.starts);
      lengths = omega (arith, v.lengths, r.lengths);
    }

-- Laws of `keep`, `covered` and `placed`. Assumes nothing.
use Prim.Native.Nat.{ℕ, zero, suc, ◌+◌, ◌-◌, ◌≤◌, ◌<◌}
use mathlib.Core.Path.{◌≡◌, refl, sym, ap, ap₂, ◌∙◌}
use mathlib.Core.List.{List, [], ◌∷◌, ◌++◌, append-nil}
use mathlib.Core.Bool.{Bool, true, false, cond, ◌||◌, false≢true}
use native.Mathlib.Omega.{arith}
use lib.ListN.{length, take-append-drop, take, drop, get_or, set, length-append, length-take}
use lib.Seq.{length-take-le, take-add}
use lib.Dec.{leb, ltb, eqb}
use borrow.Author.Tests.{leb-true, ltb-true, le-leb, lt-ltb, eq-eqb, ne_eqb}
use Rattle.ground.proofs.Tests.{refuted, and-true, or-true}
use Rattle.moving.proofs.Moves.{length-stretch}
use Rattle.store.specs.Moves.{among, covered, keep, placed}

-- ---- keep

cond-append : (b : Bool) (x : ℕ) (xs ys : List ℕ) → cond b (x ∷ (xs ++ ys)) (xs ++ ys) ≡ cond b (x ∷ xs) xs ++ ys
cond-append true x xs ys = refl
cond-append false x xs ys = refl

pub keep_append : (c : ℕ → Bool) (i : ℕ) (xs ys : List ℕ) → keep c i (xs ++ ys) ≡ keep c i xs ++ keep c (i + length xs) ys
unfolding keep
keep_append c i [] ys = ap (λ (k : ℕ). keep c k ys) (omega arith)
keep_append c i (x ∷ xs) ys =
    let e : i + 1 + length xs ≡ i + suc (length xs) = omega arith in
    ap (λ (z : List ℕ). cond (c i) (x ∷ z) z) (keep_append c (i + 1) xs ys ∙ ap (λ (k : ℕ). keep c (i + 1) xs ++ keep c k ys) e)
    ∙ cond-append (c i) x (keep c (i + 1) xs) (keep c (i + suc (length xs)) ys)

pub keep-none : (c : ℕ → Bool) (i : ℕ) (xs : List ℕ) → ((x : ℕ) → i ≤ x → x < i + length xs → c x ≡ false) → keep c i xs ≡ []
unfolding keep
keep-none c i [] h = refl
keep-none c i (x ∷ xs) h = rw (h i (omega arith) (omega arith)) (keep-none c (i + 1) xs (λ y a b. h y (omega arith) (omega arith)))

pub keep_all : (c : ℕ → Bool) (i : ℕ) (xs : List ℕ) → ((x : ℕ) → i ≤ x → x < i + length xs → c x ≡ true) → keep c i xs ≡ xs
unfolding keep
keep_all c i [] h = refl
keep_all c i (x ∷ xs) h = rw (h i (omega arith) (omega arith)) (ap (λ (z : List ℕ). x ∷ z) (keep_all c (i + 1) xs (λ y a b. h y (omega arith) (omega arith))))

cond-most : (b : Bool) (x : ℕ) (xs : List ℕ) (n : ℕ) → length xs ≤ n → length (cond b (x ∷ xs) xs) ≤ suc n
cond-most true x xs n h = omega arith
cond-most false x xs n h = omega arith

pub length-keep : (c : ℕ → Bool) (i : ℕ) (xs : List ℕ) → length (keep c i xs) ≤ length xs
unfolding keep
length-keep c i [] = omega arith
length-keep c i (x ∷ xs) = cond-most (c i) x (keep c (i + 1) xs) (length xs) (length-keep c (i + 1) xs)

module _ (c : ℕ → Bool) (room : List ℕ) where
  -- the first p bytes, and n more
  pub kept-add : (p n : ℕ) → p ≤ length room → keep c 0 (take (p + n) room) ≡ keep c 0 (take p room) ++ keep c p (take n (drop p room))
  kept-add p n h =
      let e : 0 + length (take p room) ≡ p = omega (arith, length-take-le p room h) in
      ap (keep c 0) (take-add p n room)
      ∙ keep_append c 0 (take p room) (take n (drop p room))
      ∙ ap (λ (k : ℕ). keep c 0 (take p room) ++ keep c k (take n (drop p room))) e

  -- nothing is kept between p and o
  pub kept-gap : (p o : ℕ) → p ≤ o → o ≤ length room → ((x : ℕ) → p ≤ x → x < o → c x ≡ false) → keep c 0 (take o room) ≡ keep c 0 (take p room)
  kept-gap p o g h f =
      let e : p + (o - p) ≡ o = omega arith in
      let l = length-stretch room p (o - p) (omega arith) in
      ap (λ (k : ℕ). keep c 0 (take k room)) (sym e)
      ∙ kept-add p (o - p) (omega arith)
      ∙ ap (λ (z : List ℕ). keep c 0 (take p room) ++ z) (keep-none c p (take (o - p) (drop p room)) (λ x a b. f x a (omega arith)))
      ∙ append-nil (keep c 0 (take p room))

  -- all is kept of the n bytes from o on
  pub kept_block : (o n : ℕ) → o + n ≤ length room → ((x : ℕ) → o ≤ x → x < o + n → c x ≡ true)
      → keep c 0 (take (o + n) room) ≡ keep c 0 (take o room) ++ take n (drop o room)
  kept_block o n h f =
      let l = length-stretch room o n h in
      kept-add o n (omega arith)
      ∙ ap (λ (z : List ℕ). keep c 0 (take o room) ++ z) (keep_all c o (take n (drop o room)) (λ x a b. f x a (omega arith)))

  pub kept-few : (p : ℕ) → length (keep c 0 (take p room)) ≤ p
  kept-few p = omega (arith, length-keep c 0 (take p room), length-take p room)

  -- the more places, the more bytes
  pub kept_more : (p q : ℕ) → p ≤ q → q ≤ length room → length (keep c 0 (take p room)) ≤ length (keep c 0 (take q room))
  kept_more p q g h =
      let e : p + (q - p) ≡ q = omega arith in
      rw (← e) (rw (kept-add p (q - p) (omega arith)) (simp length-append (omega arith)))

-- the room before p, and from p on
pub keep-split : (c : ℕ → Bool) (room : List ℕ) (p : ℕ) → p ≤ length room → keep c 0 room ≡ keep c 0 (take p room) ++ keep c p (drop p room)
keep-split c room p h =
    let e : 0 + length (take p room) ≡ p = omega (arith, length-take-le p room h) in
    ap (keep c 0) (sym (take-append-drop p room))
    ∙ keep_append c 0 (take p room) (drop p room)
    ∙ ap (λ (k : ℕ). keep c 0 (take p room) ++ keep c k (drop p room)) e

-- two tests that agree
pub keep_same : (a b : ℕ → Bool) (i : ℕ) (xs : List ℕ) → ((x : ℕ) → i ≤ x → a x ≡ b x) → keep a i xs ≡ keep b i xs
unfolding keep
keep_same a b i [] h = refl
keep_same a b i (x ∷ xs) h = ap₂ (λ (t : Bool) (z : List ℕ). cond t (x ∷ z) z) (h i (omega arith)) (keep_same a b (i + 1) xs (λ y g. h y (omega arith)))

-- two tests of which no place passes both
cond_both : (s t : Bool) (x : ℕ) (xs ys zs : List ℕ) → (s ≡ true → t ≡ false) → length xs ≡ length ys + length zs
    → length (cond (s || t) (x ∷ xs) xs) ≡ length (cond s (x ∷ ys) ys) + length (cond t (x ∷ zs) zs)
cond_both true true x xs ys zs h e = absurd (false≢true (sym (h refl)))
cond_both true false x xs ys zs h e = omega arith
cond_both false true x xs ys zs h e = omega arith
cond_both false false x xs ys zs h e = e

pub keep-either : (a b : ℕ → Bool) (i : ℕ) (xs : List ℕ) → ((x : ℕ) → a x ≡ true → b x ≡ false)
    → length (keep (λ (x : ℕ). a x || b x) i xs) ≡ length (keep a i xs) + length (keep b i xs)
unfolding keep
keep-either a b i [] h = refl
keep-either a b i (x ∷ xs) h =
    cond_both (a i) (b i) x (keep (λ (y : ℕ). a y || b y) (i + 1) xs) (keep a (i + 1) xs) (keep b (i + 1) xs) (h i) (keep-either a b (i + 1) xs h)

-- ---- covered

pub covered-in : (os ns : List ℕ) (i x : ℕ) → i < length os → i < length ns → get_or os i 0 ≤ x → x < get_or os i 0 + get_or ns i 0 → covered os ns x ≡ true
unfolding covered
covered-in [] ns i x a b h k = absurd (omega arith)
covered-in (o ∷ os) [] i x a b h k = absurd (omega arith)
covered-in (o ∷ os) (n ∷ ns) zero x a b h k = rw (le-leb o x h, lt-ltb x (o + n) k)
covered-in (o ∷ os) (n ∷ ns) (suc i) x a b h k = rw (covered-in os ns i x (omega arith) (omega arith) h k) (or-true (among o n x))

pub covered_out : (os ns : List ℕ) (x : ℕ) → ((i : ℕ) → i < length os → i < length ns → get_or os i 0 ≤ x → x < get_or os i 0 + get_or ns i 0 → ⊥)
    → covered os ns x ≡ false
unfolding covered
covered_out [] ns x h = refl
covered_out (o ∷ os) [] x h = refl
covered_out (o ∷ os) (n ∷ ns) x h =
    let e : false ≡ among o n x = refuted (among o n x) (λ t. let p = and-true (leb o x) (ltb x (o + n)) t in h 0 (omega arith) (omega arith) (leb-true o x p.0) (ltb-true x (o + n) p.1)) in
    rw (← e) (covered_out os ns x (λ i a b. h (suc i) (omega arith) (omega arith)))

-- ---- placed

pub length-placed : (f : ℕ → ℕ) (os ns : List ℕ) → length (placed f os ns) ≡ length os
unfolding placed
length-placed f [] ns = refl
length-placed f (o ∷ os) [] = refl
length-placed f (o ∷ os) (n ∷ ns) = ap suc (length-placed f os ns)

-- the place of a block
pub placed_at : (f : ℕ → ℕ) (os ns : List ℕ) (i : ℕ) → i < length os → i < length ns → 0 < get_or ns i 0 → get_or (placed f os ns) i 0 ≡ f (get_or os i 0)
unfolding placed
placed_at f [] ns i a b h = absurd (omega arith)
placed_at f (o ∷ os) [] i a b h = absurd (omega arith)
placed_at f (o ∷ os) (n ∷ ns) zero a b h = rw (ne_eqb n 0 (omega arith))
placed_at f (o ∷ os) (n ∷ ns) (suc i) a b h = placed_at f os ns i (omega arith) (omega arith) h

-- the place of what is no block
pub placed-free : (f : ℕ → ℕ) (os ns : List ℕ) (i : ℕ) → i < length os → i < length ns → get_or ns i 0 ≡ 0 → get_or (placed f os ns) i 0 ≡ get_or os i 0
unfolding placed
placed-free f [] ns i a b e = absurd (omega arith)
placed-free f (o ∷ os) [] i a b e = absurd (omega arith)
placed-free f (o ∷ os) (n ∷ ns) zero a b e = rw (eq-eqb n 0 e)
placed-free f (o ∷ os) (n ∷ ns) (suc i) a b e = placed-free f os ns i (omega arith) (omega arith) e

cond_same : (b : Bool) (x : ℕ) → cond b x x ≡ x
cond_same true x = refl
cond_same false x = refl

one_place : (f g : ℕ → ℕ) (o n : ℕ) → (0 < n → f o ≡ g o) → cond (eqb n 0) o (f o) ≡ cond (eqb n 0) o (g o)
one_place f g o zero h = refl
one_place f g o (suc n) h = rw (ne_eqb (suc n) 0 (omega arith)) (h (omega arith))

-- two rules that give each block the same place
pub placed_same : (f g : ℕ → ℕ) (os ns : List ℕ) → ((i : ℕ) → i < length os → i < length ns → 0 < get_or ns i 0 → f (get_or os i 0) ≡ g (get_or os i 0))
    → placed f os ns ≡ placed g os ns
unfolding placed
placed_same f g [] ns h = refl
placed_same f g (o ∷ os) [] h = refl
placed_same f g (o ∷ os) (n ∷ ns) h =
    ap₂ ◌∷◌ (one_place f g o n (λ k. h 0 (omega arith) (omega arith) k)) (placed_same f g os ns (λ i a b. h (suc i) (omega arith) (omega arith)))

-- a rule that moves no block
pub placed-still : (f : ℕ → ℕ) (os ns : List ℕ) → ((o : ℕ) → f o ≡ o) → placed f os ns ≡ os
unfolding placed
placed-still f [] ns h = refl
placed-still f (o ∷ os) [] h = refl
placed-still f (o ∷ os) (n ∷ ns) h = ap₂ ◌∷◌ (one_place f (λ (k : ℕ). k) o n (λ k. h o) ∙ cond_same (eqb n 0) o) (placed-still f os ns h)

-- the rule changes for one block only
pub placed-set : (f g : ℕ → ℕ) (os ns : List ℕ) (k : ℕ) → k < length os → k < length ns → 0 < get_or ns k 0
    → ((i : ℕ) → i < length os → i < length ns → 0 < get_or ns i 0 → (i ≡ k → ⊥) → f (get_or os i 0) ≡ g (get_or os i 0))
    → set (placed f os ns) k (g (get_or os k 0)) ≡ placed g os ns
unfolding placed
placed-set f g [] ns k a b p h = absurd (omega arith)
placed-set f g (o ∷ os) [] k a b p h = absurd (omega arith)
placed-set f g (o ∷ os) (n ∷ ns) zero a b p h =
    rw (ne_eqb n 0 (omega arith))
    (ap (λ (z : List ℕ). g o ∷ z) (placed_same f g os ns (λ i x y m. h (suc i) (omega arith) (omega arith) m (omega arith))))
placed-set f g (o ∷ os) (n ∷ ns) (suc k) a b p h =
    ap₂ ◌∷◌ (one_place f g o n (λ m. h 0 (omega arith) (omega arith) m (omega arith)))
    (placed-set f g os ns k (omega arith) (omega arith) p (λ i x y m d. h (suc i) (omega arith) (omega arith) m (omega arith)))

-- A move in two parts, one behind the other: down the first part goes first, up the last one does. By these two laws each loop's invariant says that moving
-- what is left gives what moving all gives. Assumes nothing.
use Prim.Native.Nat.{ℕ, ◌+◌, ◌-◌, ◌≤◌}
use mathlib.Core.Path.{◌≡◌, refl, sym, ap, ap₂, ◌∙◌}
use mathlib.Core.List.{List, ◌++◌}
use native.Mathlib.Nat.{add-zero, sub-zero}
use native.Mathlib.Omega.{arith}
use lib.ListN.{length, take, drop, length-drop, take-append-drop}
use lib.Seq.{sets, sets-eq, drop-drop, take-add, take_at, length-take-le, length-sets}
use Rattle.ground.specs.Room.{Put}
use Rattle.ground.proofs.Room.{sets-append, sets-front, put-kept}
use Rattle.ground.proofs.Lists.{part-long}
use Rattle.ground.proofs.Spans.{drop-take, part_cut}
use Rattle.moving.specs.Moving.{moved, Within}
use Rattle.moving.proofs.Stores.{take-sets, drop-sets, sets-later}

-- ---- the n bytes from place a on

pub length-stretch : (l : List ℕ) (a n : ℕ) → a + n ≤ length l → length (take n (drop a l)) ≡ n
length-stretch l a n h = length-take-le n (drop a l) (simp length-drop (omega arith))

-- they are the end of the first a + n
pub stretch-end : (a n : ℕ) (l : List ℕ) → take n (drop a l) ≡ drop a (take (a + n) l)
stretch-end a n l = sym (drop-take a (a + n) l (omega arith) ∙ part_cut a n (drop a l))

-- they are k, and the n behind these
pub stretch-add : (l : List ℕ) (a k n : ℕ) → take k (drop a l) ++ take n (drop (a + k) l) ≡ take (k + n) (drop a l)
stretch-add l a k n = rw (← drop-drop k a l) (sym (take-add k n (drop a l)))

-- ---- a move

-- the move as stores one behind the other
pub moved-sets : (l : List ℕ) (a b n : ℕ) → Within l a b n → moved l a b n ≡ sets l b (take n (drop a l))
moved-sets l a b n w =
    let e = length-stretch l a n w.from in
    sym (sets-eq (take n (drop a l)) l b (omega arith)
    ∙ ap (λ (k : ℕ). take b l ++ take n (drop a l) ++ drop (b + k) l) e)

pub length_moved : (l : List ℕ) (a b n : ℕ) → Within l a b n → length (moved l a b n) ≡ length l
length_moved l a b n w = ap length (moved-sets l a b n w) ∙ length-sets l b (take n (drop a l))

-- to where they are
pub moved_same : (l : List ℕ) (a b n : ℕ) → b ≤ a → a ≤ b → l ≡ moved l a b n
moved_same l a b n h g =
    let e : b ≡ a = omega arith in
    rw e (sym (ap (λ (s : List ℕ). s ++ drop (a + n) l) (sym (take-add a n l)) ∙ take-append-drop (a + n) l))

-- through a list of their own
pub moved-through : (l m zs piece : List ℕ) (a b n r s : ℕ) → Within l a b n → n ≤ length zs → Put zs 0 (take (a + n - a) (drop a l)) r piece
    → Put l b (take n piece) s m
    → m ≡ moved l a b n
moved-through l m zs piece a b n r s w h p q =
    let t = take n (drop a l) in
    let e = length-stretch l a n w.from in
    let f : piece ≡ t ++ drop (length t) zs = p.room ∙ ap (sets zs 0) (part_cut a n (drop a l)) ∙ sets-front zs t (omega arith) in
    q.room ∙ ap (sets l b) (ap (take n) f ∙ take_at t (drop (length t) zs) n e) ∙ sym (moved-sets l a b n w)

module _ (l : List ℕ) (a b k n : ℕ) (w : Within l a b (k + n)) where
  -- the stores of both parts
  stores : sets (sets l b (take k (drop a l))) (b + k) (take n (drop (a + k) l)) ≡ moved l a b (k + n)
  stores =
      let e = length-stretch l a k (omega arith) in
      ap (λ (j : ℕ). sets (sets l b (take k (drop a l))) (b + j) (take n (drop (a + k) l))) (sym e)
      ∙ sym (sets-append l b (take k (drop a l)) (take n (drop (a + k) l)))
      ∙ ap (sets l b) (stretch-add l a k n)
      ∙ sym (moved-sets l a b (k + n) w)

  -- down: the stores of the first part are before what is read then
  pub moved_down_lem : b ≤ a → moved (moved l a b k) (a + k) (b + k) n ≡ moved l a b (k + n)
  moved_down_lem h =
      let w₁ : Within l a b k = record { from = omega arith; to = omega arith } in
      let g = length_moved l a b k w₁ in
      let w₂ : Within (moved l a b k) (a + k) (b + k) n = record { from = omega arith; to = omega arith } in
      let e = length-stretch l a k w₁.from in
      moved-sets (moved l a b k) (a + k) (b + k) n w₂
      ∙ ap (λ (m : List ℕ). sets m (b + k) (take n (drop (a + k) m))) (moved-sets l a b k w₁)
      ∙ ap (λ (s : List ℕ). sets (sets l b (take k (drop a l))) (b + k) (take n s)) (drop-sets (a + k) l b (take k (drop a l)) (omega arith))
      ∙ stores

  -- up: those of the last part are behind it
  pub moved_up : a ≤ b → moved (moved l (a + k) (b + k) n) a b k ≡ moved l a b (k + n)
  moved_up h =
      let w₁ : Within l (a + k) (b + k) n = record { from = omega arith; to = omega arith } in
      let g = length_moved l (a + k) (b + k) n w₁ in
      let w₂ : Within (moved l (a + k) (b + k) n) a b k = record { from = omega arith; to = omega arith } in
      let e = length-stretch l a k (omega arith) in
      let t = take n (drop (a + k) l) in
      moved-sets (moved l (a + k) (b + k) n) a b k w₂
      ∙ ap (λ (m : List ℕ). sets m b (take k (drop a m))) (moved-sets l (a + k) (b + k) n w₁)
      ∙ ap (sets (sets l (b + k) t) b)
      (stretch-end a k (sets l (b + k) t) ∙ ap (drop a) (take-sets (a + k) l (b + k) t (omega arith)) ∙ sym (stretch-end a k l))
      ∙ sets-later l b (b + k) (take k (drop a l)) t (omega arith)
      ∙ stores

-- ---- from the first byte on: i bytes are moved

pub record Down (l₀ : List ℕ) (a b n : ℕ) (l : List ℕ) (i : ℕ) : Type 0 where
  pub within : i ≤ n
  pub kept : length l ≡ length l₀
  pub left : moved l (a + i) (b + i) (n - i) ≡ moved l₀ a b n

module _ (l₀ : List ℕ) (a b n : ℕ) where
  pub down-more : (l m : List ℕ) (i k : ℕ) → Within l₀ a b n → b ≤ a → k ≤ n - i → Down l₀ a b n l i → m ≡ moved l (a + i) (b + i) k → Down l₀ a b n m (i + k)
  down-more l m i k w o h r q =
      let e : a + (i + k) ≡ a + i + k = omega arith in
      let f : b + (i + k) ≡ b + i + k = omega arith in
      let g : k + (n - (i + k)) ≡ n - i = omega arith in
      let v : Within l (a + i) (b + i) (k + (n - (i + k))) = record { from = omega arith; to = omega arith } in
      let u : Within l (a + i) (b + i) k = record { from = omega arith; to = omega arith } in
      record {
        within = omega arith;
        kept = ap length q ∙ length_moved l (a + i) (b + i) k u ∙ r.kept;
        left =
            ap (λ (z : List ℕ). moved z (a + (i + k)) (b + (i + k)) (n - (i + k))) q
            ∙ ap₂ (λ (x : ℕ) (y : ℕ). moved (moved l (a + i) (b + i) k) x y (n - (i + k))) e f
            ∙ moved_down_lem l (a + i) (b + i) k (n - (i + k)) v (omega arith)
            ∙ ap (moved l (a + i) (b + i)) g
            ∙ r.left;
      }

-- ---- from the last byte on: i bytes are still to be moved

pub record Up (l₀ : List ℕ) (a b n : ℕ) (l : List ℕ) (i : ℕ) : Type 0 where
  pub within : i ≤ n
  pub kept : length l ≡ length l₀
  pub left : moved l a b i ≡ moved l₀ a b n

module _ (l₀ : List ℕ) (a b n : ℕ) where
  pub up_more : (l m : List ℕ) (i k : ℕ) → Within l₀ a b n → a ≤ b → k ≤ i → Up l₀ a b n l i → m ≡ moved l (a + (i - k)) (b + (i - k)) k → Up l₀ a b n m (i - k)
  up_more l m i k w o h r q =
      let e : i - k + k ≡ i = omega arith in
      let v : Within l a b (i - k + k) = record { from = omega arith; to = omega arith } in
      let u : Within l (a + (i - k)) (b + (i - k)) k = record { from = omega arith; to = omega arith } in
      record {
        within = omega arith;
        kept = ap length q ∙ length_moved l (a + (i - k)) (b + (i - k)) k u ∙ r.kept;
        left = ap (λ (z : List ℕ). moved z a b (i - k)) q ∙ moved_up l a b (i - k) k v o ∙ ap (moved l a b) e ∙ r.left;
      }

-- Slots in use counted: a slot is free exactly where fewer are held than there are. And the live bytes, with a slot more and without it. Assumes nothing.
use Prim.Native.Nat.{ℕ, zero, suc, ◌+◌, ◌-◌, ◌≤◌, ◌<◌}
use mathlib.Core.Path.{◌≡◌, sym, ap, ◌∙◌}
use mathlib.Core.Bool.{true, false, cond, true≢false}
use mathlib.Core.List.{List, [], ◌∷◌}
use native.Mathlib.Omega.{arith}
use lib.ListN.{length, get_or, set}
use lib.Dec.{ltb}
use borrow.Author.Tests.{lt-ltb, le-ltb}
use Rattle.ground.specs.Lists.{from, sum}
use Rattle.ground.proofs.Cases.{split, same_or, by}
use Rattle.ground.proofs.From.{from-same}
use Rattle.store.specs.Used.{used, taken, used_from, held, free_from, none_past}
use Rattle.store.specs.Ranges.{slot_of}
use Rattle.store.specs.Moves.{live}
use Rattle.store.specs.declared.Header.{Header}
use Rattle.used_map.proofs.Slots.{Added, taking, held_more, lowest-first, none-past}

-- ---- how many

module _ (map : ℕ) where
  -- one for each used slot, and every one below n
  count_most : (n i k : ℕ) → ((j : ℕ) → n ≤ j → used map j ≡ false) → length (used_from map i k) ≤ n - i
  unfolding used_from
  count_most n i zero f = omega arith
  count_most n i (suc k) f =
      let r = count_most n (suc i) k f in
      by (used map i)
      (λ t. let l : i < n = split n i (λ g. absurd (true≢false (sym t ∙ f i g))) (λ g. g) in rw t (omega arith))
      (λ t. rw t (omega arith))

  count-least : (n i k : ℕ) → n ≤ i + k → ((j : ℕ) → i ≤ j → j < n → used map j ≡ true) → n - i ≤ length (used_from map i k)
  unfolding used_from
  count-least n i zero l f = omega arith
  count-least n i (suc k) l f =
      let r = count-least n (suc i) k (omega arith) (λ j a b. f j (omega arith) b) in
      split n i
      (λ g. omega arith)
      (λ g. rw (f i (omega arith) g) (omega arith))

-- a slot is free among n exactly where fewer than n are held
pub free-some : (map n : ℕ) → n ≤ 64 → none_past map n ≡ true → ltb (free_from map 0 n) n ≡ ltb (held map) n
unfolding held
free-some map n few past =
    let t : ℕ = free_from map 0 n in
    let w = lowest-first map n 0 in
    let above : (j : ℕ) → n ≤ j → used map j ≡ false = λ j g. none-past map n j past g in
    split n t
    (λ g. le-ltb t n g ∙ sym (le-ltb (length (used_from map 0 64)) n (omega (arith, count-least map n 0 64 (omega arith) (λ j a b. w.below j a (omega arith))))))
    (λ g.
    let a = taking map t (w.free (omega arith)) in
    let more : length (used_from (taken map t) 0 64) ≡ length (used_from map 0 64) + 1 = held_more map (taken map t) t a (omega arith) in
    let most : length (used_from (taken map t) 0 64) ≤ n - 0 =
    count_most (taken map t) n 0 64 (λ j l. a.others j (λ q. let z : ⊥ = omega arith in z) ∙ above j l) in
    lt-ltb t n g ∙ sym (lt-ltb (length (used_from map 0 64)) n (omega arith)))

-- ---- sums

-- of two lists that differ at s only
sum_more : (f g : ℕ → ℕ) (s v k n : ℕ) → k ≤ s → s < k + n → ((i : ℕ) → (i ≡ s → ⊥) → g i ≡ f i) → g s ≡ f s + v → sum (from g k n) ≡ sum (from f k n) + v
unfolding from
sum_more f g s v k zero l h o e = absurd (let z : ⊥ = omega arith in z)
sum_more f g s v k (suc n) l h o e =
    same_or k s
    (λ q.
    let a : g k ≡ f k + v = ap g q ∙ e ∙ ap (λ (i : ℕ). f i + v) (sym q) in
    let b : sum (from g (suc k) n) ≡ sum (from f (suc k) n) = ap sum (from-same f g (suc k) n (λ i c e. o i (λ d. let z : ⊥ = omega arith in z))) in
    omega arith)
    (λ q. let r = sum_more f g s v (suc k) n (omega arith) (omega arith) o e in let a = o k q in omega arith)

-- an element that was 0
pub sum-set : (l : List ℕ) (s v : ℕ) → s < length l → get_or l s 0 ≡ 0 → sum (set l s v) ≡ sum l + v
sum-set [] s v h e = absurd (let z : ⊥ = omega arith in z)
sum-set (x ∷ l) zero v h e = omega arith
sum-set (x ∷ l) (suc s) v h e = let r = sum-set l s v (omega arith) e in omega arith

-- the live bytes with slot s, and without it
module _ (m : List ℕ) (h : Header) where
  pub live_more : (map more s : ℕ) → Added map more s → s < 64 → live m h more ≡ live m h map + (slot_of m h s).size
  unfolding live
  live_more map more s a l =
      sum_more (λ i. cond (used map i) (slot_of m h i).size 0) (λ i. cond (used more i) (slot_of m h i).size 0) s (slot_of m h s).size 0 64 (omega arith) (omega arith)
      (λ i q. rw (a.others i q))
      (rw (a.is, a.was) (omega arith))

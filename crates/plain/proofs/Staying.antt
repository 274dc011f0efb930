-- The live bytes that a put reckons with are those of the blocks of all used slots but the key's. Assumes nothing.
use Prim.Native.Nat.{ℕ, zero, suc, ◌+◌, ◌≤◌}
use mathlib.Core.Path.{◌≡◌, refl, sym, ap, ◌∙◌}
use mathlib.Core.Bool.{true, false, cond, not, true≢false}
use mathlib.Core.List.{List, [], ◌∷◌, map}
use native.Mathlib.Omega.{arith}
use Rattle.ground.specs.Lists.{from, sum}
use Rattle.ground.proofs.Cases.{by, same_or}
use Rattle.entries.specs.Keys.{Key, capital_key, same_key}
use Rattle.store.specs.Used.{used, used_from}
use Rattle.store.specs.Ranges.{slot_of}
use Rattle.store.specs.Store.{slot_key, used_slots}
use Rattle.store.specs.Moves.{live}
use Rattle.store.specs.Calls.{seek, is_there, map_without}
use Rattle.store.specs.declared.Header.{Header}
use Rattle.used_map.proofs.Slots.{freed-fewer, none-past}
use Rattle.plain.specs.Staying.{others_among, bytes_among}
use Rattle.stored.proofs.Keys.{key-is, is_key}
use Rattle.stored.proofs.Seek.{has, there, absent}
use Rattle.stored.proofs.Whole.{Whole, slot-within}
use Rattle.stored.proofs.Holds.{block-length}
use Rattle.plain.proofs.Seat.{none_out, own-seat}

-- ---- the slots

-- past its last used slot a map adds none
used-none : (map i k : ℕ) → ((j : ℕ) → i ≤ j → used map j ≡ false) → used_from map i k ≡ []
unfolding used_from
used-none map i zero f = refl
used-none map i (suc k) f = rw (f i (omega arith)) (used-none map (suc i) k (λ j l. f j (omega arith)))

used-cut : (map i k l : ℕ) → k ≤ l → ((j : ℕ) → i + k ≤ j → used map j ≡ false) → used_from map i l ≡ used_from map i k
unfolding used_from
used-cut map i zero l g f = used-none map i l (λ j h. f j (omega arith))
used-cut map i (suc k) zero g f = absurd (let z : ⊥ = omega arith in z)
used-cut map i (suc k) (suc l) g f =
    ap (λ (is : List ℕ). cond (used map i) (i ∷ is) is) (used-cut map (suc i) k l (omega arith) (λ j h. f j (omega arith)))

module _ (m : List ℕ) (h : Header) (w : Whole m h) (x : Key) where
  -- of the used slots, those stay whose key is another
  stays-used : (j : ℕ) → used h.map j ≡ true → used (map_without m h x) j ≡ not (same_key (capital_key x) (slot_key m h j))
  stays-used j u =
      by (is_there m h x)
      (λ t.
      let f = own-seat m h w x t in
      same_or j (seek m h x)
      (λ q. rw (q, f.free, is_key (capital_key x) (slot_key m h (seek m h x)) (sym (there m h x t).own)))
      (λ q.
      let n : same_key (capital_key x) (slot_key m h j) ≡ false = by (same_key (capital_key x) (slot_key m h j)) (λ k. absurd (f.only j q u (sym (key-is _ _ k)))) (λ k. k) in
      f.others j q ∙ rw (u, n)))
      (λ t.
      let a : has m h x j ≡ false = absent m h x t j (slot-within h.map h.slots j w.past u) in
      let n : same_key (capital_key x) (slot_key m h j) ≡ false = rw u at a in
      rw (none_out m h w x t, u, n))

  out-free : (j : ℕ) → used h.map j ≡ false → used (map_without m h x) j ≡ false
  out-free j u = by (used (map_without m h x) j) (λ t. absurd (true≢false (sym (freed-fewer h.map (seek m h x) j t) ∙ u))) (λ t. t)

  -- ---- their bytes

  sums : (i k : ℕ) → sum (from (λ j. cond (used (map_without m h x) j) (slot_of m h j).size 0) i k) ≡ bytes_among m h (others_among m h x (used_from h.map i k))
  unfolding from used_from others_among bytes_among
  sums i zero = refl
  sums i (suc k) =
      let r = sums (suc i) k in
      by (used h.map i)
      (λ u. by (same_key (capital_key x) (slot_key m h i))
      (λ t. rw (u, t, stays-used i u, t) (omega arith))
      (λ t. let b = block-length m h w i u in rw (u, t, stays-used i u, t) (omega arith)))
      (λ u. rw (u, out-free i u) (omega arith))

  pub live-staying : live m h (map_without m h x) ≡ bytes_among m h (others_among m h x (used_slots h))
  unfolding live
  live-staying =
      sums 0 64 ∙ ap (λ (is : List ℕ). bytes_among m h (others_among m h x is)) (used-cut h.map 0 h.slots 64 w.few (λ j l. none-past h.map h.slots j w.past (omega arith)))

-- The ways out of the tests of a store. Assumes nothing.
use Rattle.std.proofs.Common.{Some, None}
use Prim.Native.Nat.{ℕ, ◌≤◌, ◌<◌}
use mathlib.Core.Path.{◌≡◌, refl}
use mathlib.Core.Bool.{Bool, true, false, ◌&&◌}
use mathlib.Core.List.{List}
use lib.ListN.{length}
use lib.Dec.{leb}
use borrow.Author.Tests.{lt-leb, le-leb, leb-true}
use Rattle.ground.specs.Lists.{all}
use Rattle.ground.proofs.Tests.{and-true}
use Rattle.store.specs.Used.{none_past}
use Rattle.store.specs.Head.{header_of}
use Rattle.store.specs.Ranges.{starts, sizes, laid}
use Rattle.store.specs.Store.{slotted, counted, in_order, used_fit, used_slots, holds_day, pairwise, other_key, ranges_laid, is_store_of, is_store}
use Rattle.store.specs.declared.Header.{Header}
use Rattle.frames.specs.Frames.{framed}
use Rattle.opening.specs.Opens.{opened_of}

pub ranges-are : (m : List ℕ) (h : Header) {os ns : List ℕ} {b : Bool} → os ≡ starts m h h.map → ns ≡ sizes m h h.map → b ≡ laid h.used os ns → b ≡ ranges_laid m h
unfolding ranges_laid
ranges-are m h eo en eb = rw (← eo, ← en) eb

-- the conditions, with the days last
pub in_order_lem : (m : List ℕ) (h : Header)
    → is_store_of m h ≡ (framed h (length m) && ranges_laid m h && all (holds_day m h) (used_slots h) && pairwise (other_key m h) (used_slots h))
unfolding is_store_of framed
in_order_lem m h = refl

pub few_slots : (h : Header) (n : ℕ) → framed h n ≡ true → h.slots ≤ 64
unfolding framed slotted
few_slots h n t =
    let y = and-true (slotted h.slots && counted h && none_past h.map h.slots && in_order h n) (used_fit h) t in
    let x = and-true (slotted h.slots && counted h && none_past h.map h.slots) (in_order h n) y.0 in
    let w = and-true (slotted h.slots && counted h) (none_past h.map h.slots) x.0 in
    let v = and-true (slotted h.slots) (counted h) w.0 in
    leb-true h.slots 64 (and-true (leb 1 h.slots) (leb h.slots 64) v.0).1

module _ (m : List ℕ) where
  pub too_few : length m < 32 → None ≡ opened_of m
  unfolding opened_of is_store
  too_few l = rw (lt-leb 32 (length m) l)

  module _ (l : 32 ≤ length m) {h : Header} (eh : h ≡ header_of m) {b : Bool} (e : b ≡ is_store_of m h) where
    pub opened : b ≡ true → Some h ≡ opened_of m
    unfolding opened_of is_store
    opened t = rw (le-leb 32 (length m) l, ← eh, ← e, t)

    pub not_opened : b ≡ false → None ≡ opened_of m
    unfolding opened_of is_store
    not_opened t = rw (le-leb 32 (length m) l, ← eh, ← e, t)

-- A memory in which one slot changed, and every other used slot says what it said: for every other key the store holds the very block, and the same day. Assumes
-- nothing.
use Prim.Native.Nat.{ℕ, ◌+◌}
use mathlib.Core.Path.{◌≡◌, sym, ap, ◌∙◌}
use mathlib.Core.Bool.{true, false, cond, true≢false}
use mathlib.Core.List.{List, [], ◌∷◌}
use Rattle.ground.proofs.Cases.{by, same_or}
use Rattle.format.specs.Numbers.{intervals_of}
use Rattle.format.specs.Cut.{lines}
use Rattle.format.specs.Day.{Day, day_of}
use Rattle.entries.specs.Keys.{Key, capital_key, same_key}
use Rattle.store.specs.Used.{used}
use Rattle.store.specs.Head.{header_of}
use Rattle.store.specs.Ranges.{slot_of}
use Rattle.store.specs.Store.{slot_key, block_in, block_says, holds_day}
use Rattle.store.specs.Calls.{seek, is_there, day_rows}
use Rattle.store.specs.declared.Header.{Header}
use Rattle.plain.specs.Stays.{day_held, block_held}
use Rattle.stored.proofs.Keys.{is_key}
use Rattle.stored.proofs.Seek.{has, there, seek-same}
use Rattle.stored.proofs.Blocks.{day-moved}

-- ---- one slot

-- slot i has the same key and the same block in both memories, wherever that lies
pub record Alike (m m' : List ℕ) (h h' : Header) (i : ℕ) : Type 0 where
  pub key : slot_key m' h' i ≡ slot_key m h i
  pub minutes : (slot_of m' h' i).minutes ≡ (slot_of m h i).minutes
  pub unit : (slot_of m' h' i).unit ≡ (slot_of m h i).unit
  pub block : block_in m' h' (slot_of m' h' i) ≡ block_in m h (slot_of m h i)

module _ (m m' : List ℕ) (h h' : Header) (i : ℕ) (a : Alike m m' h h' i) where
  alike-says : block_says m' h' (slot_of m' h' i) ≡ block_says m h (slot_of m h i)
  alike-says = rw (a.minutes, a.unit, a.block)

  pub alike-holds : holds_day m' h' i ≡ holds_day m h i
  unfolding holds_day
  alike-holds = rw (a.key, alike-says)

  alike-day : day_of (day_rows m' h' (slot_of m' h' i)) ≡ day_of (day_rows m h (slot_of m h i))
  unfolding day_rows
  alike-day =
      let p : ℕ = h'.room + (slot_of m' h' i).start in
      let q : ℕ = h.room + (slot_of m h i).start in
      rw (a.minutes, a.unit, a.block) (day-moved (intervals_of (slot_of m h i).minutes) (slot_of m h i).unit p q (lines (block_in m h (slot_of m h i))))

-- ---- a store of a known header

abbrev pub day_in : List ℕ → Header → Key → List Day
day_in m h x = cond (is_there m h x) (day_of (day_rows m h (slot_of m h (seek m h x))) ∷ []) []

abbrev pub block_there : List ℕ → Header → Key → List (List ℕ)
block_there m h x = cond (is_there m h x) (block_in m h (slot_of m h (seek m h x)) ∷ []) []

module _ (m : List ℕ) (h : Header) (e : header_of m ≡ h) (x : Key) where
  pub day-held : day_held m x ≡ day_in m h x
  unfolding day_held
  day-held = rw e

  pub block_held_lem : block_held m x ≡ block_there m h x
  unfolding block_held
  block_held_lem = rw e

-- ---- all slots

-- only slot s changed, which is the key's, before and now
pub record Changed (m m' : List ℕ) (h h' : Header) (x : Key) (s : ℕ) : Type 0 where
  pub slots : h'.slots ≡ h.slots
  pub others : (i : ℕ) → (i ≡ s → ⊥) → used h'.map i ≡ used h.map i
  pub alike : (i : ℕ) → (i ≡ s → ⊥) → used h.map i ≡ true → Alike m m' h h' i
  pub was : used h.map s ≡ true → slot_key m h s ≡ capital_key x
  pub is : used h'.map s ≡ true → slot_key m' h' s ≡ capital_key x
  -- no other slot has the key
  pub only : (i : ℕ) → (i ≡ s → ⊥) → used h.map i ≡ true → slot_key m h i ≡ capital_key x → ⊥

-- a slot of another key
not-had : (m : List ℕ) (h : Header) (y : Key) (k : Key) (i : ℕ) → same_key (capital_key y) k ≡ false → (used h.map i ≡ true → slot_key m h i ≡ k) → has m h y i ≡ false
not-had m h y k i n f = by (used h.map i) (λ t. rw (t, f t) n) (λ t. rw t)

module _ (m m' : List ℕ) (h h' : Header) (x : Key) (s : ℕ) (c : Changed m m' h h' x s) (y : Key) (n : same_key (capital_key y) (capital_key x) ≡ false) where
  same-has : (i : ℕ) → has m' h' y i ≡ has m h y i
  same-has i =
      same_or i s
      (λ q. rw q (not-had m' h' y (capital_key x) s n c.is ∙ sym (not-had m h y (capital_key x) s n c.was)))
      (λ q. by (used h.map i)
      (λ t. rw (c.others i q, t, (c.alike i q t).key))
      (λ t. rw (c.others i q, t)))

  same-seek : seek m' h' y ≡ seek m h y
  same-seek = seek-same m m' h h' y c.slots (λ t l. same-has t)

  same-there : is_there m' h' y ≡ is_there m h y
  same-there = rw (same-seek, c.slots)

  -- the slot that holds y is not the one that changed
  alike-there : is_there m h y ≡ true → Alike m m' h h' (seek m h y)
  alike-there t =
      let w = there m h y t in
      c.alike (seek m h y)
      (λ q.
      let u : used h.map s ≡ true = ap (used h.map) (sym q) ∙ w.uses in
      let k : capital_key y ≡ capital_key x = sym w.own ∙ ap (slot_key m h) q ∙ c.was u in
      true≢false (sym (is_key (capital_key y) (capital_key x) k) ∙ n))
      w.uses

  pub same-day : day_in m' h' y ≡ day_in m h y
  same-day =
      by (is_there m h y)
      (λ t. rw (same-there, t, same-seek, alike-day m m' h h' (seek m h y) (alike-there t)))
      (λ t. rw (same-there, t))

  pub same_block : block_there m' h' y ≡ block_there m h y
  same_block =
      by (is_there m h y)
      (λ t. rw (same-there, t, same-seek, (alike-there t).block))
      (λ t. rw (same-there, t))

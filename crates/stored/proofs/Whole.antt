-- A store taken apart, and put together; what it says of its slots. Assumes nothing.
use Prim.Native.Nat.{ℕ, ◌+◌, ◌*◌, ◌≤◌, ◌<◌}
use mathlib.Core.Path.{◌≡◌, refl, sym, ◌∙◌}
use mathlib.Core.Bool.{true, true≢false}
use mathlib.Core.List.{List}
use native.Mathlib.Omega.{arith}
use lib.ListN.{length}
use lib.Dec.{leb}
use borrow.Author.Tests.{leb-true, le-leb, eqb-true, eq-eqb, not-true}
use Rattle.ground.specs.Lists.{all}
use Rattle.ground.proofs.Tests.{and-true}
use Rattle.ground.proofs.Cases.{split, by}
use Rattle.entries.specs.Keys.{same_key}
use Rattle.store.specs.Used.{used, held, none_past}
use Rattle.store.specs.Head.{header_of}
use Rattle.store.specs.Ranges.{starts, sizes}
use Rattle.store.specs.Store.{slotted, counted, in_order, used_fit, used_slots, slot_key, holds_day, pairwise, other_key, ranges_laid, is_store_of, is_store}
use Rattle.store.specs.declared.Header.{Header}
use Rattle.used_map.proofs.Slots.{none-past}
use Rattle.ranges.specs.Laid.{Laid}
use Rattle.ranges.proofs.Meaning.{laid-means, laid-checked}
use Rattle.stored.proofs.Keys.{is_key, key-is}
use Rattle.stored.proofs.Each.{each-used, used-each, pair-used, used_pair}

-- m is a store with the header h
pub record Whole (m : List ℕ) (h : Header) : Type 0 where
  pub header : header_of m ≡ h
  pub long : 32 ≤ length m
  pub some : 1 ≤ h.slots
  pub few : h.slots ≤ 64
  pub days : h.days ≡ held h.map
  pub past : none_past h.map h.slots ≡ true
  pub list : 32 ≤ h.list
  pub order : h.list + 26 * h.slots ≤ h.room
  pub inside : h.room + h.size ≤ length m
  pub fits : h.used ≤ h.size
  pub laid : Laid (starts m h h.map) (sizes m h h.map) h.used
  pub holds : (i : ℕ) → used h.map i ≡ true → holds_day m h i ≡ true
  -- a key of its own
  pub own : (i j : ℕ) → used h.map i ≡ true → used h.map j ≡ true → slot_key m h i ≡ slot_key m h j → i ≡ j

-- a used slot is one of the slots
pub slot-within : (map n i : ℕ) → none_past map n ≡ true → used map i ≡ true → i < n
slot-within map n i e u = split n i (λ g. absurd (true≢false (sym u ∙ none-past map n i e g))) (λ g. g)

module _ (m : List ℕ) (h : Header) where
  -- two used slots with one key are one slot
  unlike : pairwise (other_key m h) (used_slots h) ≡ true
      → (x y : ℕ) → x < y → y < h.slots → used h.map x ≡ true → used h.map y ≡ true → slot_key m h x ≡ slot_key m h y → ⊥
  unfolding other_key
  unlike p x y l g u v k =
      let o = pair-used h.map (other_key m h) 0 h.slots p x y (omega arith) l (omega arith) u v in
      true≢false (sym (is_key (slot_key m h x) (slot_key m h y) k) ∙ not-true (same_key (slot_key m h x) (slot_key m h y)) o)

  keys-own : none_past h.map h.slots ≡ true → pairwise (other_key m h) (used_slots h) ≡ true
      → (i j : ℕ) → used h.map i ≡ true → used h.map j ≡ true → slot_key m h i ≡ slot_key m h j → i ≡ j
  keys-own e p i j u v k =
      split i j
      (λ g. split j i (λ l. omega arith) (λ l. absurd (unlike p i j l (slot-within _ _ j e v) u v k)))
      (λ g. absurd (unlike p j i g (slot-within _ _ i e u) v u (sym k)))

  own_keys : ((i j : ℕ) → used h.map i ≡ true → used h.map j ≡ true → slot_key m h i ≡ slot_key m h j → i ≡ j) → pairwise (other_key m h) (used_slots h) ≡ true
  unfolding other_key
  own_keys f =
      used_pair h.map (other_key m h) 0 h.slots
      (λ x y a l g u v.
      by (same_key (slot_key m h x) (slot_key m h y))
      (λ t. absurd (let z = f x y u v (key-is (slot_key m h x) (slot_key m h y) t) in let w : ⊥ = omega arith in w))
      (λ t. rw t))

  pub is_whole : Whole m h → is_store m ≡ true
  unfolding is_store is_store_of slotted counted in_order used_fit ranges_laid
  is_whole w =
      rw (
        w.header,
        le-leb 32 (length m) w.long,
        le-leb 1 h.slots w.some,
        le-leb h.slots 64 w.few,
        eq-eqb h.days (held h.map) w.days,
        w.past,
        le-leb 32 h.list w.list,
        le-leb (h.list + 26 * h.slots) h.room w.order,
        le-leb (h.room + h.size) (length m) w.inside,
        le-leb h.used h.size w.fits,
        laid-checked h.used (starts m h h.map) (sizes m h h.map) w.laid,
        used-each h.map (holds_day m h) 0 h.slots (λ j a l u. w.holds j u),
        own_keys w.own,
      )

pub whole : (m : List ℕ) → is_store m ≡ true → Whole m (header_of m)
unfolding is_store is_store_of slotted counted in_order used_fit ranges_laid
whole m e =
    let h : Header = header_of m in
    let a = and-true (leb 32 (length m)) (is_store_of m h) e in
    let b = and-true _ (pairwise (other_key m h) (used_slots h)) a.1 in
    let c = and-true _ (all (holds_day m h) (used_slots h)) b.0 in
    let d = and-true _ (ranges_laid m h) c.0 in
    let f = and-true _ (used_fit h) d.0 in
    let g = and-true _ (in_order h (length m)) f.0 in
    let i = and-true _ (none_past h.map h.slots) g.0 in
    let j = and-true (slotted h.slots) (counted h) i.0 in
    let k = and-true (leb 1 h.slots) (leb h.slots 64) j.0 in
    let o = and-true _ (leb (h.room + h.size) (length m)) g.1 in
    let q = and-true (leb 32 h.list) (leb (h.list + 26 * h.slots) h.room) o.0 in
    record {
      header = refl;
      long = leb-true _ _ a.0;
      some = leb-true _ _ k.0;
      few = leb-true _ _ k.1;
      days = eqb-true _ _ j.1;
      past = i.1;
      list = leb-true _ _ q.0;
      order = leb-true _ _ q.1;
      inside = leb-true _ _ o.1;
      fits = leb-true _ _ f.1;
      laid = laid-means h.used (starts m h h.map) (sizes m h h.map) d.1;
      holds = λ t u. each-used h.map (holds_day m h) 0 h.slots c.1 t (omega arith) (omega (arith, slot-within h.map h.slots t i.1 u)) u;
      own = keys-own m h i.1 b.1;
    }

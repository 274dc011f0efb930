-- A put that is accepted leaves a store, which holds the day. Assumes nothing.
use Prim.Native.Nat.{ℕ, ◌+◌, ◌≤◌, ◌<◌}
use mathlib.Core.Path.{◌≡◌, refl, sym, ap, ◌∙◌}
use mathlib.Core.Bool.{true}
use mathlib.Core.List.{List, [], ◌∷◌}
use native.Mathlib.Omega.{arith}
use lib.ListN.{length, get_or}
use lib.Seq.{length-sets}
use borrow.Author.Tests.{eq-eqb}
use Rattle.ground.specs.Lists.{sum}
use Rattle.format.specs.Answers.{accepted}
use Rattle.format.specs.Day.{Day, day_of}
use Rattle.format.specs.Block.{Given, day_given, block_of}
use Rattle.entries.specs.Keys.{Key, capital_key, good_key, kept_key}
use Rattle.entries.specs.declared.Entry.{Entry}
use Rattle.store.specs.Used.{used, taken, none_past}
use Rattle.store.specs.Head.{header_of, header_bytes, header_with}
use Rattle.store.specs.Ranges.{slot_of, starts, sizes}
use Rattle.store.specs.Store.{slot_key, block_in, block_says, is_dated, holds_day}
use Rattle.store.specs.Moves.{live}
use Rattle.store.specs.Calls.{seek, is_there, slot_for, map_without, entry_for, day_rows}
use Rattle.store.specs.declared.Header.{Header}
use Rattle.used_map.proofs.Slots.{Added, taking, freed-fewer, past-below, below-past, taken-below}
use Rattle.ranges.specs.Laid.{Laid}
use Rattle.settling.proofs.Slots.{length-sizes, size-free}
use Rattle.settling.proofs.After.{Sound}
use Rattle.settling.proofs.Entered.{Enters, entered, length-entered, this-slot, this_key, other-slot, other_key_lem, sizes-entered, laid-entered, block-this, block-other}
use Rattle.settling.proofs.Headed.{headed, header-headed, slot-headed, key-headed, starts-headed, sizes-headed, block-headed}
use Rattle.shortest.specs.Writer.{Writable}
use Rattle.stored.proofs.Keys.{kept-key}
use Rattle.stored.proofs.Blocks.{block-some, says-date}
use Rattle.plain.proofs.Written.{check, day-back}
use Rattle.stored.proofs.Whole.{Whole, slot-within}
use Rattle.plain.proofs.Alike.{Alike, Changed, day_in, block_there}
use Rattle.plain.proofs.Change.{found-there, is-there}
use Rattle.plain.proofs.Counts.{sum-set}
use Rattle.plain.proofs.Seat.{Seat, seat}
use Rattle.stored.proofs.Settle.{slot-before, sound}
use Rattle.plain.proofs.Down.{alike-down}
use Rattle.plain.proofs.Again.{Small, past-freed, alike-headed, header-small, whole_again}
use Rattle.plain.proofs.Entered.{entry-fits}

date-given : (g : Given) → (day_given g).date ≡ g.head.date
unfolding day_given
date-given g = refl

-- the key is good and of the day's date, the writer takes the day, a slot is free for it, and there is room for its block
pub record Putting (m : List ℕ) (h : Header) (x : Key) (g : Given) : Type 0 where
  pub good : good_key x ≡ true
  pub dated : g.head.date ≡ x.date
  pub fit : Writable g
  pub within : slot_for m h x < h.slots
  pub fits : live m h (map_without m h x) + length (block_of (day_given g)) ≤ h.size

module _ (m : List ℕ) (h : Header) (w : Whole m h) (z : Small h) (x : Key) (g : Given) (p : Putting m h x g) where
  -- the slot, and the slots that stay
  abbrev s : ℕ
  s = slot_for m h x

  abbrev less : ℕ
  less = map_without m h x

  abbrev block : List ℕ
  block = block_of (day_given g)

  -- where it lies, and where it ends
  abbrev start : ℕ
  start = live m h less

  abbrev end : ℕ
  end = start + length block

  abbrev map' : ℕ
  map' = taken less s

  abbrev e : Entry
  e = entry_for start g (length block)

  abbrev h' : Header
  h' = header_with h map' end

  -- the slot written, and the header
  abbrev d' : List ℕ
  d' = entered m h less block s (capital_key x) e

  abbrev m' : List ℕ
  m' = headed d' h map' end

  t : Seat m h x s
  t = seat m h w x p.within

  o : Sound m h less
  o = sound m h w z.size (seek m h x)

  added : Added less map' s
  added = taking less s t.free

  few : s < 64
  few = omega (arith, p.within, w.few)

  room : 32 ≤ h.room
  room = omega (arith, w.list, w.order)

  enters : Enters m h less map' block s (capital_key x) e
  unfolding entry_for
  enters =
      record {
        sound = o;
        added = added;
        slot = few;
        before = slot-before m h w s p.within;
        some = block-some g.head.length g.head.unit block (check g p.fit).0 (check g p.fit).1;
        fits = p.fits;
        entry = entry-fits x g start (length block) p.good p.fit (omega (arith, p.fits, z.size)) (omega (arith, p.fits, z.size));
        start = refl;
        size = refl;
      }

  long : length d' ≡ length m
  long = length-entered m h less map' block s (capital_key x) e enters

  past : none_past map' h.slots ≡ true
  past =
      let q : none_past less h.slots ≡ true = past-freed h.map h.slots (seek m h x) w.past in
      below-past map' h.slots (taken-below less s h.slots (past-below less h.slots q) p.within)

  -- another used slot says what it said
  alike-entered : (i : ℕ) → (i ≡ s → ⊥) → used less i ≡ true → Alike m d' h h i
  alike-entered i q u =
      let l : i < h.slots = slot-within h.map h.slots i w.past (freed-fewer h.map (seek m h x) i u) in
      let a = alike-down m h w z.size (seek m h x) block p.fits i u in
      let f = other-slot m h less map' block s (capital_key x) e enters i q in
      record {
        key = other_key_lem m h less map' block s (capital_key x) e enters i q (slot-before m h w i l);
        minutes = ap (λ (y : Entry). y.minutes) f ∙ a.minutes;
        unit = ap (λ (y : Entry). y.unit) f ∙ a.unit;
        block = block-other m h less map' block s (capital_key x) e enters i (omega (arith, w.few)) q (added.others i q ∙ u);
      }

  -- ---- the slot

  key-there : slot_key m' h' s ≡ capital_key x
  key-there = key-headed d' h map' end w.list s ∙ this_key m h less map' block s (capital_key x) e enters

  entry-there : slot_of m' h' s ≡ e
  entry-there = slot-headed d' h map' end w.list s ∙ this-slot m h less map' block s (capital_key x) e enters

  block-there : block_in m' h' (slot_of m' h' s) ≡ block
  block-there =
      ap (block_in m' h') (slot-headed d' h map' end w.list s)
      ∙ block-headed d' h map' end room (slot_of d' h s)
      ∙ block-this m h less map' block s (capital_key x) e enters

  says_there : block_says m' h' (slot_of m' h' s) ≡ accepted (check g p.fit).0
  unfolding entry_for
  says_there = rw (block-there, entry-there) (check g p.fit).1

  day-there : day_of (day_rows m' h' (slot_of m' h' s)) ≡ day_given g
  unfolding day_rows header_with entry_for
  day-there = rw (block-there, entry-there) (day-back g p.fit (h.room + start))

  holds-there : holds_day m' h' s ≡ true
  unfolding holds_day is_dated capital_key
  holds-there =
      let b : kept_key (slot_key m' h' s) ≡ true = rw key-there (kept-key x p.good) in
      let c : get_or (check g p.fit).0 0 0 ≡ (slot_key m' h' s).date =
      says-date g.head.length g.head.unit block (check g p.fit).0 (check g p.fit).1 0
      ∙ ap (λ (y : Day). y.date) (day-back g p.fit 0) ∙ date-given g ∙ p.dated ∙ sym (ap (λ (k : Key). k.date) key-there) in
      rw (b, says_there, eq-eqb _ _ c)

  -- ---- the store

  pub changed : Changed m m' h h' x s
  unfolding header_with
  changed =
      record {
        slots = refl;
        others = λ i q. added.others i q ∙ t.others i q;
        alike = λ i q u. alike-headed m d' h map' end i w.list room (alike-entered i q (t.others i q ∙ u));
        was = t.was;
        is = λ u. key-there;
        only = t.only;
      }

  header_is : header_of m' ≡ h'
  header_is = header-headed d' h map' end (omega (arith, long, w.long)) (header-small h map' end z w.few (omega (arith, w.order)) past p.fits)

  -- the ranges are those of the blocks that were moved down, and the new one
  laid-there : Laid (starts m' h' map') (sizes m' h' map') end
  laid-there =
      rw (starts-headed d' h map' end w.list map', sizes-headed d' h map' end w.list map') (laid-entered m h less map' block s (capital_key x) e enters)

  pub put_whole : Whole m' h'
  unfolding header_with
  put_whole =
      whole_again m m' h map' end x s w changed header_is (length-sets d' 0 (header_bytes h') ∙ long) past p.fits laid-there (λ u. holds-there)

  -- ---- what it holds

  put-there : is_there m' h' x ≡ true
  unfolding header_with
  put-there = is-there m m' h h' x s w changed added.is p.within

  put-seek : seek m' h' x ≡ s
  unfolding header_with
  put-seek = found-there m m' h h' x s w changed added.is p.within

  pub put-day : day_in m' h' x ≡ day_given g ∷ []
  put-day = rw (put-there, put-seek, day-there)

  pub put-block : block_there m' h' x ≡ block ∷ []
  put-block = rw (put-there, put-seek, block-there)

  pub put-live : live m' h' map' ≡ end
  unfolding live
  put-live =
      ap sum (sizes-headed d' h map' end w.list map' ∙ sizes-entered m h less map' block s (capital_key x) e enters)
      ∙ sum-set (sizes m h less) s (length block) (omega (arith, few, length-sizes m h less)) (size-free m h less s few t.free)

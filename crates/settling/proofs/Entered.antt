-- The memory after the blocks were moved down with a new one behind them, and a free slot was written for it: the new slot reads back, the others are as
-- they were, all blocks lie apart, and each has its bytes. Assumes nothing.
use Prim.Native.Nat.{ℕ, ◌+◌, ◌≤◌, ◌<◌}
use mathlib.Core.Path.{◌≡◌, sym, ap, ap₂, ◌∙◌}
use mathlib.Core.List.{List}
use mathlib.Core.Bool.{Bool, true, cond}
use native.Mathlib.Omega.{arith}
use lib.ListN.{length, get_or, set, length-append, length-set}
use lib.Seq.{sets, length-sets, get_or-set_same, get_or-set_other}
use Rattle.ground.specs.Lists.{from}
use Rattle.ground.proofs.Cases.{same_or}
use Rattle.ground.proofs.From.{from-here, from_list, length_from}
use Rattle.entries.specs.Little.{piece}
use Rattle.entries.specs.Keys.{Key}
use Rattle.entries.specs.Entries.{entry_bytes}
use Rattle.entries.specs.declared.Entry.{Entry}
use Rattle.store.specs.Used.{used}
use Rattle.store.specs.Ranges.{slot_place, slot_of, starts, sizes}
use Rattle.store.specs.Store.{slot_key, block_in}
use Rattle.store.specs.Moves.{new_starts, live, moved_down}
use Rattle.store.specs.declared.Header.{Header}
use Rattle.used_map.proofs.Slots.{Added}
use Rattle.little.proofs.Pieces.{piece-behind}
use Rattle.little.proofs.Numbers.{length-in}
use Rattle.slots.proofs.Back.{EntryFits, key-kept, entry_kept, key_back, entry-back}
use Rattle.ranges.specs.Laid.{Laid}
use Rattle.ranges.proofs.Laws.{laid-wide, laid-set}
use Rattle.settling.proofs.Blocks.{length-new}
use Rattle.settling.proofs.After.{Sound, length-after, key-after, size-after, sizes-after, starts-after, laid-after, block-after, block_new}

-- slot s is free in the map and used in the other one, in which no other slot changes; it stands before the room, and is written for a block that is not
-- empty and lies behind the others
pub record Enters (m : List ℕ) (h : Header) (map more : ℕ) (block : List ℕ) (s : ℕ) (k : Key) (e : Entry) : Type 0 where
  pub sound : Sound m h map
  pub added : Added map more s
  pub slot : s < 64
  pub before : slot_place h s + 26 ≤ h.room
  pub some : 0 < length block
  pub fits : live m h map + length block ≤ h.size
  pub entry : EntryFits k e
  pub start : e.start ≡ live m h map
  pub size : e.size ≡ length block

-- the memory with that slot written
abbrev pub entered : List ℕ → Header → ℕ → List ℕ → ℕ → Key → Entry → List ℕ
entered m h map block s k e = sets (moved_down m h map block) (slot_place h s) (entry_bytes k e)

length-entry : (k : Key) (e : Entry) → EntryFits k e → length (entry_bytes k e) ≡ 26
unfolding entry_bytes
length-entry k e z = simp (length-append, length-in) (omega (arith, z.nmi, z.suffix))

module _ (m : List ℕ) (h : Header) (map more : ℕ) (block : List ℕ) (s : ℕ) (k : Key) (e : Entry) (z : Enters m h map more block s k e) where
  abbrev moved : List ℕ
  moved = moved_down m h map block

  abbrev new : List ℕ
  new = entered m h map block s k e

  pub length-entered : length (entered m h map block s k e) ≡ length m
  length-entered = length-sets moved (slot_place h s) (entry_bytes k e) ∙ length-after m h map block z.sound z.fits

  -- ---- the slots

  room_in_lem : slot_place h s + 26 ≤ length moved
  room_in_lem = omega (arith, length-after m h map block z.sound z.fits, z.before, z.sound.settles.room)

  pub this-slot : slot_of (entered m h map block s k e) h s ≡ e
  this-slot = entry-back k e moved (slot_place h s) z.entry room_in_lem

  pub this_key : slot_key (entered m h map block s k e) h s ≡ k
  this_key = key_back k e moved (slot_place h s) z.entry room_in_lem

  module _ (i : ℕ) (d : i ≡ s → ⊥) where
    pub other-slot : slot_of (entered m h map block s k e) h i ≡ slot_of (moved_down m h map block) h i
    other-slot = entry_kept moved (entry_bytes k e) (slot_place h s) (slot_place h i) (λ g. omega (arith, length-entry k e z.entry))

    pub other_key_lem : slot_place h i + 26 ≤ h.room → slot_key (entered m h map block s k e) h i ≡ slot_key m h i
    other_key_lem l =
        key-kept moved (entry_bytes k e) (slot_place h s) (slot_place h i) (λ g. omega (arith, length-entry k e z.entry))
        ∙ key-after m h map block z.sound z.fits i l

  -- ---- where the blocks lie

  -- a list of numbers of the slots in which one is new
  one-new : (f : Entry → ℕ) (v : ℕ) → f e ≡ v
      → from (λ i. cond (used more i) (f (slot_of new h i)) 0) 0 64 ≡ set (from (λ i. cond (used map i) (f (slot_of moved h i)) 0) 0 64) s v
  one-new f v q =
      let g : ℕ → ℕ = λ i. cond (used more i) (f (slot_of new h i)) 0 in
      let l = from (λ i. cond (used map i) (f (slot_of moved h i)) 0) 0 64 in
      let n : length l ≡ 64 = length_from (λ i. cond (used map i) (f (slot_of moved h i)) 0) 0 64 in
      let here : g s ≡ v = rw z.added.is (ap f this-slot ∙ q) in
      from_list (set l s v) g 64 (length-set l s v ∙ n) (λ j a.
      same_or j s
      (λ d. ap g d ∙ here ∙ sym (ap (λ (i : ℕ). get_or (set l s v) i 0) d ∙ get_or-set_same l s v 0 (omega (arith, z.slot))))
      (λ d.
      ap₂ (λ (b : Bool) (x : Entry). cond b (f x) 0) (z.added.others j d) (other-slot j d)
      ∙ sym (get_or-set_other l s j v 0 d ∙ from-here (λ i. cond (used map i) (f (slot_of moved h i)) 0) 0 64 j a)))

  pub starts-entered : starts (entered m h map block s k e) h more ≡ set (new_starts m h map) s (live m h map)
  starts-entered =
      one-new (λ x. x.start) (live m h map) z.start ∙ ap (λ (l : List ℕ). set l s (live m h map)) (starts-after m h map block z.sound z.fits)

  pub sizes-entered : sizes (entered m h map block s k e) h more ≡ set (sizes m h map) s (length block)
  sizes-entered = one-new (λ x. x.size) (length block) z.size ∙ ap (λ (l : List ℕ). set l s (length block)) (sizes-after m h map block z.sound z.fits)

  pub laid-entered : Laid (starts (entered m h map block s k e) h more)
      (sizes (entered m h map block s k e) h more)
      (live m h map + length block)
  laid-entered =
      rw (starts-entered, sizes-entered)
      (laid-set s (length block)
      (rw (starts-after m h map block z.sound z.fits, sizes-after m h map block z.sound z.fits) at (laid-after m h map block z.sound z.fits))
      (omega (arith, length-new m h map, z.slot)))

  other-used : (i : ℕ) → (i ≡ s → ⊥) → used more i ≡ true → used map i ≡ true
  other-used i d t = sym (z.added.others i d) ∙ t

  pub sound-entered : Sound (entered m h map block s k e) h more
  sound-entered =
      record {
        settles = record { laid = laid-wide laid-entered z.fits; room = omega (arith, length-entered, z.sound.settles.room) };
        before = λ i l t. same_or i s (λ d. omega (arith, z.before)) (λ d. z.sound.before i l (other-used i d t));
        small = z.sound.small;
        full =
            λ i l t.
            same_or i s
            (λ d. omega (arith, ap (λ (j : ℕ). (slot_of new h j).size) d, ap (λ (x : Entry). x.size) this-slot, z.size, z.some))
            (λ d.
            omega (
              arith,
              ap (λ (x : Entry). x.size) (other-slot i d),
              size-after m h map block z.sound z.fits i l (other-used i d t),
              z.sound.full i l (other-used i d t),
            ));
      }

  -- ---- their bytes

  room-entered : (a n : ℕ) → h.room ≤ a → piece new a n ≡ piece moved a n
  room-entered a n g = piece-behind (entry_bytes k e) moved a n (slot_place h s) (omega (arith, length-entry k e z.entry, z.before))

  pub block-this : block_in (entered m h map block s k e) h (slot_of (entered m h map block s k e) h s) ≡ block
  block-this =
      ap (block_in new h) this-slot
      ∙ ap₂ (λ (a : ℕ) (n : ℕ). piece new (h.room + a) n) z.start z.size
      ∙ room-entered (h.room + live m h map) (length block) (omega arith)
      ∙ block_new m h map block z.sound z.fits

  pub block-other : (i : ℕ) → i < 64 → (i ≡ s → ⊥) → used more i ≡ true
      → block_in (entered m h map block s k e) h (slot_of (entered m h map block s k e) h i)
      ≡ block_in m h (slot_of m h i)
  block-other i l d t =
      ap (block_in new h) (other-slot i d)
      ∙ room-entered (h.room + (slot_of moved h i).start) (slot_of moved h i).size (omega arith)
      ∙ block-after m h map block z.sound z.fits i l (other-used i d t)

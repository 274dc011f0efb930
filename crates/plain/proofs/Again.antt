-- What is a store again: a memory with a new header, in which one slot changed. Assumes nothing.
use Prim.Native.Nat.{ℕ, ◌^◌, ◌≤◌, ◌<◌}
use mathlib.Core.Path.{◌≡◌, refl, ap, ◌∙◌}
use mathlib.Core.Bool.{true}
use mathlib.Core.List.{List}
use native.Mathlib.Nat.{lt_of_lt_of_le}
use native.Mathlib.Omega.{arith}
use lib.ListN.{length}
use lib.Pow.{pow_mono}
use Rattle.entries.specs.Keys.{Key}
use Rattle.entries.specs.declared.Entry.{Entry}
use Rattle.store.specs.Used.{used, freed, none_past}
use Rattle.store.specs.Head.{header_of, header_with}
use Rattle.store.specs.Ranges.{slot_of, starts, sizes}
use Rattle.store.specs.Store.{block_in, holds_day}
use Rattle.store.specs.declared.Header.{Header}
use Rattle.used_map.proofs.Slots.{held-most, past-below, below-past, freed-below}
use Rattle.slots.proofs.Back.{HeaderFits}
use Rattle.ranges.specs.Laid.{Laid}
use Rattle.settling.proofs.Headed.{headed, slot-headed, key-headed, block-headed}
use Rattle.stored.proofs.Whole.{Whole}
use Rattle.plain.proofs.Alike.{Alike, Changed}
use Rattle.plain.proofs.Change.{own-again, holds-again}

-- a slot freed leaves no bit past the slots
pub past-freed : (map n s : ℕ) → none_past map n ≡ true → none_past (freed map s) n ≡ true
past-freed map n s e = below-past (freed map s) n (freed-below map s n (past-below map n e))

-- where the room begins, and its length, fit four bytes
pub record Small (h : Header) : Type 0 where
  pub room : h.room < 2 ^ 32
  pub size : h.size < 2 ^ 32

-- a slot says the same under a new header
pub alike-headed : (m d : List ℕ) (h : Header) (map end i : ℕ) → 32 ≤ h.list → 32 ≤ h.room → Alike m d h h i → Alike m (headed d h map end) h (header_with h map end) i
alike-headed m d h map end i l r a =
    let e = slot-headed d h map end l i in
    record {
      key = key-headed d h map end l i ∙ a.key;
      minutes = ap (λ (x : Entry). x.minutes) e ∙ a.minutes;
      unit = ap (λ (x : Entry). x.unit) e ∙ a.unit;
      block = ap (block_in (headed d h map end) (header_with h map end)) e ∙ block-headed d h map end r (slot_of d h i) ∙ a.block;
    }

-- the numbers of the new header fit
pub header-small : (h : Header) (map end : ℕ) → Small h → h.slots ≤ 64 → h.list ≤ h.room → none_past map h.slots ≡ true → end ≤ h.size → HeaderFits (header_with h map end)
unfolding header_with
header-small h map end z few order past fits =
    record {
      slots = omega arith;
      days = omega (arith, held-most map);
      map = lt_of_lt_of_le (past-below map h.slots past) (pow_mono few);
      list = omega (arith, z.room);
      room = z.room;
      size = z.size;
      used = omega (arith, z.size);
    }

-- put together
pub whole_again : (m m' : List ℕ) (h : Header) (map end : ℕ) (x : Key) (s : ℕ) → Whole m h → Changed m m' h (header_with h map end) x s
    → header_of m' ≡ header_with h map end → length m' ≡ length m → none_past map h.slots ≡ true → end ≤ h.size
    → Laid (starts m' (header_with h map end) map) (sizes m' (header_with h map end) map) end
    → (used map s ≡ true → holds_day m' (header_with h map end) s ≡ true)
    → Whole m' (header_with h map end)
unfolding header_with
whole_again m m' h map end x s w c e l past fits laid holds =
    record {
      header = e;
      long = omega (arith, w.long);
      some = w.some;
      few = w.few;
      days = refl;
      past = past;
      list = w.list;
      order = w.order;
      inside = omega (arith, w.inside);
      fits = fits;
      laid = laid;
      holds = holds-again m m' h (header_with h map end) x s w c holds;
      own = own-again m m' h (header_with h map end) x s w c;
    }

-- A store whose blocks were moved down, but for one that is left out: the used slots that are left say what they said. Assumes nothing.
use Prim.Native.Nat.{ℕ, ◌+◌, ◌^◌, ◌≤◌, ◌<◌}
use mathlib.Core.Path.{◌≡◌, ap}
use mathlib.Core.Bool.{true}
use mathlib.Core.List.{List}
use native.Mathlib.Omega.{arith}
use lib.ListN.{length}
use Rattle.entries.specs.declared.Entry.{Entry}
use Rattle.store.specs.Used.{used, freed}
use Rattle.store.specs.Moves.{live, moved_down}
use Rattle.store.specs.declared.Header.{Header}
use Rattle.used_map.proofs.Slots.{freed-fewer}
use Rattle.settling.proofs.After.{key-after, used-after, block-after}
use Rattle.stored.proofs.Whole.{Whole, slot-within}
use Rattle.stored.proofs.Settle.{slot-before, sound}
use Rattle.plain.proofs.Alike.{Alike}

module _ (m : List ℕ) (h : Header) (w : Whole m h) where
  module _ (small : h.size < 2 ^ 32) (s : ℕ) (block : List ℕ) (fits : live m h (freed h.map s) + length block ≤ h.size) where
    pub alike-down : (i : ℕ) → used (freed h.map s) i ≡ true → Alike m (moved_down m h (freed h.map s) block) h h i
    alike-down i u =
        let l : i < h.slots = slot-within h.map h.slots i w.past (freed-fewer h.map s i u) in
        let o = sound m h w small s in
        let e = used-after m h (freed h.map s) block o fits i (omega (arith, w.few)) u in
        record {
          key = key-after m h (freed h.map s) block o fits i (slot-before m h w i l);
          minutes = ap (λ (x : Entry). x.minutes) e;
          unit = ap (λ (x : Entry). x.unit) e;
          block = block-after m h (freed h.map s) block o fits i (omega (arith, w.few)) u;
        }

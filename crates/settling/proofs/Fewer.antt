-- A slot given free: the blocks that stay lie as they lay. Assumes nothing.
use Prim.Native.Nat.{ℕ, ◌<◌}
use mathlib.Core.Path.{◌≡◌, sym, ◌∙◌}
use mathlib.Core.List.{List}
use mathlib.Core.Bool.{true}
use native.Mathlib.Omega.{arith}
use lib.ListN.{get_or}
use Rattle.ground.proofs.Cases.{by}
use Rattle.store.specs.Used.{used, freed}
use Rattle.store.specs.Ranges.{starts, sizes}
use Rattle.store.specs.declared.Header.{Header}
use Rattle.used_map.proofs.Slots.{freed-fewer}
use Rattle.ranges.specs.Laid.{Laid}
use Rattle.ranges.proofs.Laws.{laid-fewer}
use Rattle.settling.specs.Settling.{Settles}
use Rattle.settling.proofs.After.{Sound}
use Rattle.settling.proofs.Slots.{length-starts, length-sizes, start-used, size-used, size-free}

module _ (m : List ℕ) (h : Header) (map s : ℕ) where
  abbrev less : ℕ
  less = freed map s

  -- a range that has bytes is that of a slot in use
  stays : (i : ℕ) → i < 64 → 0 < get_or (sizes m h less) i 0 → used less i ≡ true
  stays i l g = by (used less i) (λ t. t) (λ t. absurd (omega (arith, size-free m h less i l t)))

  pub fewer : {n : ℕ} → Laid (starts m h map) (sizes m h map) n → Laid (starts m h (freed map s)) (sizes m h (freed map s)) n
  fewer r =
      let a = length-starts m h less in
      laid-fewer r (a ∙ sym (length-sizes m h less)) (a ∙ sym (length-starts m h map))
      (λ i l g.
      let d : i < 64 = omega arith in
      let t = stays i d g in
      start-used m h less i d t ∙ sym (start-used m h map i d (freed-fewer map s i t)))
      (λ i l g.
      let d : i < 64 = omega arith in
      let t = stays i d g in
      size-used m h less i d t ∙ sym (size-used m h map i d (freed-fewer map s i t)))

  pub settles-fewer : Settles m h map → Settles m h (freed map s)
  settles-fewer k = record { laid = fewer k.laid; room = k.room }

  pub sound-fewer : Sound m h map → Sound m h (freed map s)
  sound-fewer k =
      record {
        settles = settles-fewer k.settles;
        before = λ i l t. k.before i l (freed-fewer map s i t);
        small = k.small;
        full = λ i l t. k.full i l (freed-fewer map s i t);
      }

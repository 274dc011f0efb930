-- Bytes without a comma, with a comma or the record's end behind them, are a field. Assumes nothing.
use Prim.Native.Nat.{ℕ, ◌+◌, ◌-◌, ◌≤◌, ◌<◌}
use mathlib.Core.Path.{◌≡◌, sym}
use mathlib.Core.List.{List}
use mathlib.Core.Bool.{true}
use native.Mathlib.Omega.{arith}
use lib.ListN.{length, get_or, take}
use lib.Seq.{get_or-take, get_or-drop}
use Rattle.ground.specs.Lists.{all, span_of, other, part}
use Rattle.ground.proofs.Spans.{span-le, span-block, part_length, part-take}
use Rattle.ground.proofs.Prefix.{prefix-most}
use Rattle.format.specs.Cut.{fields, field}
use Rattle.format.proofs.Cut.{field-here}
use Rattle.lines.specs.Places.{Cut, Stops}
use Rattle.lines.proofs.Cuts.{first-is, cut-more}

-- ---- what follows m bytes

module _ (file : List ℕ) (a e m : ℕ) (within : e ≤ length file) where
  pub stops-comma : m < e - a → get_or file (a + m) 0 ≡ 44 → Stops file a e m
  stops-comma h c =
      let w : length (part file a e) ≡ e - a = part_length file a e within in
      let g : get_or (part file a e) m 0 ≡ 44 = rw (get_or-take, get_or-drop) c in
      record { room = omega arith; span = prefix-most (other 44) (part file a e) m (omega arith) (rw g) }

  pub stops_end : m ≡ e - a → Stops file a e m
  stops_end h = record { room = omega arith; span = omega (arith, span-le (other 44) (part file a e), part_length file a e within) }

  -- ---- m bytes that are a field

  module _ (le : a ≤ e) (s : Stops file a e m) where
    pub long : length (part file a (a + m)) ≡ m
    long = omega (arith, part_length file a (a + m) (omega (arith, s.room)), s.room)

    module _ (plain : all (other 44) (part file a (a + m)) ≡ true) where
      pub span-is : span_of (other 44) (part file a e) ≡ m
      span-is =
          let w : length (part file a e) ≡ e - a = part_length file a e within in
          let t : take m (part file a e) ≡ part file a (a + m) = part-take file a e m s.room in
          omega (arith, span-block (other 44) m (part file a e) (omega (arith, s.room)) (rw t plain), s.span)

      pub field_is : field 0 (fields (part file a e)) ≡ part file a (a + m)
      field_is = rw (field-here (part file a e), span-is, part-take file a e m s.room)

-- ---- a field by the comma behind it

-- m bytes from a on hold no comma, and one follows
module _ (file : List ℕ) (a e m : ℕ) (le : a ≤ e) (within : e ≤ length file) (h : m < e - a) (c : get_or file (a + m) 0 ≡ 44)
    (plain : all (other 44) (part file a (a + m)) ≡ true) where
  span-m : m ≡ span_of (other 44) (part file a e)
  span-m = sym (span-is file a e m within le (stops-comma file a e m within h c) plain)

  pub comma-field : part file a (a + m) ≡ field 0 (fields (part file a e))
  comma-field = first-is file a e m le within span-m

  pub comma-cut : Cut file a e (a + m) (a + m + 1)
  comma-cut = cut-more file a e m le within span-m (omega arith)

  pub comma-whole : Cut file a e (a + span_of (other 44) (part file a e)) (a + m + 1)
  comma-whole = rw (← span-m) comma-cut

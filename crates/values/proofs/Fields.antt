-- A field of the record whose value was read, by the comma behind its bytes or by its cut. Assumes nothing.
use Prim.Native.Nat.{ℕ, ◌+◌, ◌-◌, ◌≤◌, ◌<◌, ◌^◌}
use mathlib.Core.Path.{◌≡◌, sym, ◌∙◌, ap}
use mathlib.Core.List.{List}
use mathlib.Core.Bool.{Bool, true}
use lib.ListN.{length, get_or, take, drop}
use Rattle.ground.specs.Lists.{span_of, other, part}
use Rattle.format.specs.Cut.{fields, field}
use Rattle.format.specs.Records.{millionths}
use Rattle.quick_values.specs.Shapes.{is_thousandths}
use Rattle.quick_values.proofs.Shapes.{thousandths-plain}
use Rattle.lines.specs.Places.{Cut}
use Rattle.lines.proofs.Commas.{comma-field, comma-whole}
use Rattle.std.proofs.Common.{Option, Some}
use Rattle.shorts.specs.declared.Valued.{Valued}
use Rattle.shorts.specs.Shapes.{ValueAt, Shown}

-- o is what `thousandths` answers of the five bytes from a on, which a comma follows
module _ (file : List ℕ) (a e : ℕ) (le : a ≤ e) (within : e ≤ length file) {o : Bool} (h : 5 < e - a) (c : get_or file (a + 5) 0 ≡ 44)
    (eo : o ≡ is_thousandths (take (a + 5 - a) (drop a file))) (t : o ≡ true) where
  pub five-value : {v : ℕ} → v ≡ millionths (take (a + 5 - a) (drop a file)) → v ≡ millionths (field 0 (fields (part file a e)))
  five-value ev = ev ∙ ap millionths (comma-field file a e 5 le within h c (thousandths-plain _ (sym eo ∙ t)))

  pub five-cut : Cut file a e (a + span_of (other 44) (part file a e)) (a + 5 + 1)
  five-cut = comma-whole file a e 5 le within h c (thousandths-plain _ (sym eo ∙ t))

-- what a try came to, taken over
module _ (file : List ℕ) (a e : ℕ) {t : Option Valued} (x : Valued) (s : Shown file a e t) (q : t ≡ Some x) where
  taken : ValueAt file a e x.v x.next
  taken = rw q at s

  pub taken_is : x.v ≡ millionths (field 0 (fields (part file a e)))
  taken_is = taken.is

  pub taken-small : x.v < 10 ^ 13
  taken-small = taken.small

  pub taken-cut : Cut file a e (a + span_of (other 44) (part file a e)) x.next
  taken-cut = taken.cut

-- any other field
module _ (file : List ℕ) (a e b x : ℕ) (k : Cut file a e b x) where
  pub cut-value : {v : ℕ} → v ≡ millionths (take (b - a) (drop a file)) → v ≡ millionths (field 0 (fields (part file a e)))
  cut-value ev = ev ∙ ap millionths (sym k.here)

  pub cut-whole : Cut file a e (a + span_of (other 44) (part file a e)) x
  cut-whole = rw (← k.to) k

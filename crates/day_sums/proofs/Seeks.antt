-- The ways out of looking for a day, and what is read at its places. Assumes nothing.
use Prim.Native.Nat.{ℕ}
use mathlib.Core.Path.{◌≡◌, ◌∙◌}
use mathlib.Core.List.{List}
use Rattle.std.proofs.Common.{Option, Some, None, Result, Err}
use lib.ListN.{drop}
use Rattle.ground.specs.Lists.{part, sum}
use Rattle.format.specs.Cut.{fields, field}
use Rattle.format.specs.Records.{intervals_in, values_in}
use Rattle.format.specs.Answers.{refusal, refused_as, checked_as}
use Rattle.format.specs.File.{check_of, IsAccepted}
use Rattle.format.specs.Day.{days_of, values_of}
use Rattle.format.specs.declared.Refusal.{Refusal}
use Rattle.format.specs.declared.Checked.{Checked}
use Rattle.lines.specs.Places.{Rest}
use Rattle.lines.proofs.Cuts.{rest-first}
use Rattle.day.specs.Places.{day_at, located, inside}
use Rattle.day.specs.declared.Place.{Place}
use Rattle.day.proofs.Find.{day-order, day-within, heads-found}
use Rattle.day_sums.specs.Sought.{found, missing, day_in, rows_of, Within}
use Rattle.day_sums.specs.declared.DayAt.{DayAt}

module _ (file : List ℕ) (day : ℕ) where
  pub seek-refused : (c : Result Checked Refusal) (x : Refusal) → checked_as c ≡ check_of file → c ≡ Err x → missing (refused_as x) ≡ day_in file day
  unfolding day_in
  seek-refused c x e h = rw (← e, h)

  module _ (w : IsAccepted file) (p : Option Place) (l : located file p ≡ drop day (days_of file)) where
    pub seek-none : p ≡ None → (r : Refusal) → refused_as r ≡ refusal 14 → missing (refused_as r) ≡ day_in file day
    unfolding day_in
    seek-none h r er = rw (er, w.1, ← l, h)

    pub seek_found : (q : Place) → p ≡ Some q → found (day_at file q.at q.end q.under) ≡ day_in file day
    unfolding day_in
    seek_found q h = rw (w.1, ← l, h)

pub seek-within : (file : List ℕ) (p : Option Place) (q : Place) → p ≡ Some q → inside file p → Within file record { start = q.at; end = q.end; under = q.under }
seek-within file p q h i = record { order = day-order file p q h i; inside = day-within file p q h i; heads = heads-found file p q h i }

-- ---- what is read there

pub field-there : (file : List ℕ) (fs : List (List ℕ)) (p i x e : ℕ) {f : List ℕ} → Rest file fs p i x e → f ≡ field 0 (fields (part file x e)) → f ≡ field i fs
field-there file fs p i x e s h = h ∙ rest-first s

pub sum-there : (file : List ℕ) (d : DayAt) (n s : ℕ) → n ≡ intervals_in (fields (part file d.under.at d.under.end))
    → s ≡ sum (values_in n (fields (part file d.start d.end))) → s ≡ sum (values_of (rows_of file d).block)
unfolding values_of
sum-there file d n s en es = rw (← en) es

-- A 400 that was read in one go, for the contracts of the inner functions.
use Rattle.std.specs.Prelude.{ℕ, ◌≡◌, List, Some, Result, Ok, Err}
use Rattle.ground.specs.Lists.{part}
use Rattle.format.specs.Cut.{fields, field}
use Rattle.format.specs.Records.{no_scale, first_in, last_in}
use Rattle.format.specs.Day.{row_at, tag_at}
use Rattle.format.specs.Faults.{fault_in, Fine}
use Rattle.format.specs.Quality.{quality_of, grade}
use Rattle.format.specs.declared.Tag.{Tag}
use Rattle.lines.specs.Places.{Starts}
use Rattle.record.specs.Walk.{Broken}
use Rattle.runs.specs.declared.Run.{Run}
use Rattle.record.specs.declared.BadField.{BadField}

-- its intervals
pub record Spans (file : List ℕ) (at e from to : ℕ) : Type 0 where
  pub first : from ≡ first_in (fields (part file at e))
  pub last : to ≡ last_in (fields (part file at e))

-- its quality, which stands at q
pub record Grades (file : List ℕ) (at e q flag method : ℕ) : Type 0 where
  pub place : Starts file (fields (part file at e)) at 3 q e
  pub is : Some (grade flag method) ≡ quality_of 400 (field 3 (fields (part file at e)))

-- every field meets its rule; its intervals, where its quality stands, and its mark
pub record Ran (file : List ℕ) (at e from to q : ℕ) (t : Tag) : Type 0 where
  pub fault : fault_in 400 no_scale 0 0 (fields (part file at e)) ≡ Fine
  pub spans : Spans file at e from to
  pub quality : Starts file (fields (part file at e)) at 3 q e
  pub tag : t ≡ tag_at 400 (row_at at (part file at e)) 3

abbrev pub Runs : List ℕ → ℕ → ℕ → Result Run BadField → Type 0
Runs file at e (Ok r) = Ran file at e r.from r.to r.quality r.mark
Runs file at e (Err b) = Broken file at e 400 no_scale b.place b.field

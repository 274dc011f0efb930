-- The fields of a 250 that are shown of a read, as parts of its record.
use Rattle.std.specs.Prelude.{ℕ, ◌+◌, ◌≡◌, List, length}
use Rattle.ground.specs.Lists.{part}
use Rattle.format.specs.Cut.{fields, field}
use Rattle.lines.specs.Places.{Rest}
use Rattle.records.specs.declared.reads.Place.{Place}
use Rattle.records.specs.declared.reads.Read.{Read}

-- the field behind n fields from place a on, and where the one behind it starts
pub record Found (s : List ℕ) (a n : ℕ) (p : Place) : Type 0 where
  pub here : part s p.from p.to ≡ field n (fields (part s a (length s)))
  pub rest : Rest s (fields (part s a (length s))) a (n + 1) p.next (length s)

-- field i from 0
abbrev pub Stands : List ℕ → ℕ → Place → Type 0
Stands s i p = part s p.from p.to ≡ field i (fields s)

pub record IsRead (s : List ℕ) (r : Read) : Type 0 where
  pub nmi : Stands s 1 r.nmi
  pub suffix : Stands s 4 r.suffix
  pub previous : Stands s 9 r.previous
  pub current : Stands s 14 r.current
  pub quality : Stands s 15 r.quality
  pub reason : Stands s 16 r.reason
  pub description : Stands s 17 r.description
  pub quantity : Stands s 18 r.quantity
  pub unit : Stands s 19 r.unit

-- `month_lists::fill_place` meets its contract. Assumes nothing.
use Rattle.day.proofs.Find.{under-order, under-within}
use Rattle.filling.proofs.Cases.{day-here}
use Rattle.month_lists.proofs.Stretch.{none-n, none-laid, first-n, reaches, day-laid}
use Rattle.month_lists.proofs.fill_place.Goals as goal

pub intervals_of-n-requires : goal.intervals_of-n-requires
intervals_of-n-requires c = (search under-order, search under-within)

pub unit_of-unit-requires : goal.unit_of-unit-requires
unit_of-unit-requires c = (search under-order, search under-within)

pub fill_stretch-t-requires : goal.fill_stretch-t-requires
fill_stretch-t-requires c = (search day-here, reaches _ _ _ 0 _ c.in-Some.is c.intervals_of-n.ensures _ _ _ c.requires.2)

pub note_day-requires : goal.note_day-requires
note_day-requires c = c.requires.2.daily

pub returns-in-None : goal.returns-in-None
returns-in-None c = record { n = search none-n; lists = search none-laid }

pub returns-in-Some : goal.returns-in-Some
returns-in-Some c = record { n = first-n _ _ _ 0 _ c.in-Some.is c.intervals_of-n.ensures; lists = day-laid _ _ _ _ _ c.in-Some.is c.intervals_of-n.ensures _ _ _ c.requires.2 _ _ _ _ _ _ c.unit_of-unit.ensures c.fill_stretch-t.ensures c.note_day.ensures }

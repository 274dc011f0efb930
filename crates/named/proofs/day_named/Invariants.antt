-- `named::day_named` meets its contract. Assumes nothing.
use mathlib.Core.Path.{◌≡◌}
use Rattle.day.specs.Places.{DayAhead}
use Rattle.named.specs.Named.{has_key, first_from, days_up_to}
use Rattle.named.proofs.day_named.Given as goal

abbrev pub invariant-loop-k : goal.invariant-loop-k
invariant-loop-k l = DayAhead l.file l.k l.from
    × (first_from (has_key l.nmi l.suffix l.date) l.k (days_up_to l.file l.k l.end) ≡ first_from (has_key l.nmi l.suffix l.date) l.first (days_up_to l.file l.first l.end))

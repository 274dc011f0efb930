-- Where a day stands in a file that was accepted, as places, for the contracts of the inner functions.
use Rattle.std.specs.Prelude.{ℕ, ◌+◌, ◌≤◌, ◌<◌, ◌≡◌, List, length}
use Rattle.format.specs.Cut.{field}
use Rattle.lines.specs.Places.{LineEnd}
use Rattle.day.specs.Places.{Heads, channel_at}
use Rattle.day.specs.declared.Under.{Under}
use Rattle.whose.specs.Whose.{channels_before, nmi_field, suffix_field}

-- its 300 from a to e, under a 200 that has an NMI and a suffix, with so many channels before it
pub record Stands (file : List ℕ) (a e : ℕ) (u : Under) (before : ℕ) : Type 0 where
  pub line : LineEnd file a e
  pub room : e + 2 ≤ length file
  pub heads : Heads file u
  pub nmi : 0 < length (field nmi_field (channel_at file u).cells)
  pub suffix : 0 < length (field suffix_field (channel_at file u).cells)
  pub channels : before ≡ channels_before file a
  pub some : 1 ≤ before

-- The table of a store's slots.
use Rattle.std.specs.Prelude.{ℕ, List, [], ◌∷◌, ◌++◌}
use Rattle.ground.specs.Digits.{dec}
use Rattle.ground.specs.Text.{bytes}
use Rattle.phrase.specs.Phrases.{date_text, time_text, cell_text, right_text, counted_text}
use Rattle.listing.specs.Lines.{columns}

abbrev pub headings : List ℕ
headings = bytes "slot  NMI         suffix  date        minutes  unit   updated              bytes"

-- the line of a slot in use: its number from 0, its key, interval length, unit, update time and the bytes of its block
unfoldable pub slot_text : ℕ → List ℕ → List ℕ → ℕ → ℕ → List ℕ → ℕ → ℕ → ℕ → List ℕ
slot_text slot nmi suffix date minutes unit update size =
    columns
    (right_text 4 slot ∷ cell_text 6 nmi ∷ cell_text 18 suffix ∷ cell_text 26 (date_text date) ∷ right_text 45 minutes ∷ cell_text 47 unit
    ∷ cell_text 54 (time_text update) ∷ right_text 80 size ∷ [])

unfoldable pub days_text : ℕ → ℕ → List ℕ
days_text days slots = counted_text days (bytes "day") ++ bytes " in " ++ counted_text slots (bytes "slot")

unfoldable pub room_text : ℕ → ℕ → List ℕ
room_text used free = counted_text used (bytes "byte") ++ bytes " of the room used, " ++ dec free ++ bytes " free"

-- the days held in so many slots, and the bytes of the room that blocks have and that are free
unfoldable pub held_text : ℕ → ℕ → ℕ → ℕ → List ℕ
held_text days slots used free = days_text days slots ++ bytes "; " ++ room_text used free

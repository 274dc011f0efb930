-- What is said of the calls of a store.
use Rattle.std.specs.Prelude.{ℕ, cond, List, ◌++◌, eqb}
use Rattle.ground.specs.Digits.{dec}
use Rattle.ground.specs.Text.{bytes}
use Rattle.phrase.specs.Phrases.{counted_text, date_text}

unfoldable pub names_text : List ℕ → List ℕ → List ℕ
names_text nmi suffix = nmi ++ bytes " " ++ suffix

-- NEM1234567 E1 on 2004-01-01
unfoldable pub key_text : List ℕ → List ℕ → ℕ → List ℕ
key_text nmi suffix date = names_text nmi suffix ++ bytes " on " ++ date_text date

unfoldable pub room_text : ℕ → List ℕ
room_text room = counted_text room (bytes "byte") ++ bytes " of room"

-- made: 10 slots, 9708 bytes of room
unfoldable pub made_text : ℕ → ℕ → List ℕ
made_text slots room = bytes "made: " ++ counted_text slots (bytes "slot") ++ bytes ", " ++ room_text room

unfoldable pub number_text : ℕ → List ℕ
number_text k = bytes "day " ++ dec k ++ bytes ", "

-- which day of a file it is, before what became of it
unfoldable pub day_text : ℕ → List ℕ → List ℕ → ℕ → List ℕ
day_text k nmi suffix date = number_text k ++ key_text nmi suffix date ++ bytes ": "

-- a put keeps the number of days where the key was there
unfoldable pub kept_text : ℕ → ℕ → List ℕ
kept_text before days = cond (eqb before days) (bytes "kept, in the place of an older one") (bytes "kept, new")

unfoldable pub holds_text : ℕ → List ℕ
holds_text days = bytes "; the store holds " ++ counted_text days (bytes "day")

unfoldable pub counts_text : ℕ → ℕ → List ℕ
counts_text kept refused = dec kept ++ bytes " kept, " ++ dec refused ++ bytes " not kept"

-- behind the days of a file
unfoldable pub summary_text : ℕ → ℕ → ℕ → List ℕ
summary_text kept refused days = counts_text kept refused ++ holds_text days

unfoldable pub deleted_text : ℕ → List ℕ
deleted_text days = bytes "deleted" ++ holds_text days

-- A day that is handed in: its first line, and its lists, which stand one behind the other with 300 places for each.
use Rattle.std.specs.Prelude.{ℕ, ◌+◌, ◌*◌, ◌%◌, ◌<◌, ◌≡◌, Bool, cond, ◌&&◌, List, [], ◌∷◌, length, get_or, leb, ltb}
use Rattle.ground.specs.Lists.{all, part}
use Rattle.format.specs.declared.DayHead.{DayHead}
use Rattle.sheet.specs.declared.Sheet.{Sheet}

-- ---- the first line

-- the day's head, how much room is lent, how many places each list has, and how long the text is
unfoldable pub sheet_of : List ℕ → Sheet
sheet_of n =
    record {
      date = get_or n 0 0;
      «length» = get_or n 1 0;
      update = get_or n 2 0;
      load = get_or n 3 0;
      unit = get_or n 4 0;
      room = get_or n 5 0;
      values = get_or n 6 0;
      flags = get_or n 7 0;
      methods = get_or n 8 0;
      reasons = get_or n 9 0;
      starts = get_or n 10 0;
      lengths = get_or n 11 0;
      text = get_or n 12 0;
    }

-- each number is one that the interface, or the case, can hold
unfoldable pub can_be : Sheet → Bool
can_be s = leb s.date 4294967295 && leb s.«length» 4294967295 && leb s.unit 255 && leb s.room 131072 && leb s.text 4096

unfoldable pub day_of : Sheet → DayHead
day_of s = record { date = s.date % 4294967296; «length» = s.«length» % 4294967296; update = s.update; load = s.load; unit = s.unit % 256 }

-- how many places a list has, by its number from 0
unfoldable pub places_of : Sheet → ℕ → ℕ
places_of s i = get_or (s.values ∷ s.flags ∷ s.methods ∷ s.reasons ∷ s.starts ∷ []) i s.lengths

-- ---- the lists

unfoldable pub least_of : ℕ → ℕ → ℕ
least_of a b = cond (ltb a b) a b

-- the first n places of a list, by its number from 0
unfoldable pub stretch_of : List ℕ → ℕ → ℕ → List ℕ
stretch_of lists i n = part lists (i * 300) (i * 300 + least_of n 300)

-- each number is below another
unfoldable pub all_below : ℕ → List ℕ → Bool
all_below most s = all (λ (x : ℕ). ltb x most) s

-- flags, methods and reasons are in their types' range
unfoldable pub are_narrow : Sheet → List ℕ → Bool
are_narrow s lists =
    all_below 256 (stretch_of lists 1 s.flags) && all_below 256 (stretch_of lists 2 s.methods) && all_below 65536 (stretch_of lists 3 s.reasons)

-- the first n of 300 places hold what f makes of a list's numbers; one that is not there counts as 0
pub record Holds (f : ℕ → ℕ) (list r : List ℕ) (n : ℕ) : Type 0 where
  pub long : 300 ≡ length r
  pub is : (i : ℕ) → i < n → get_or r i 0 ≡ f (get_or list i 0)

-- 01, Records: "Every record ends in CR LF. Fields are split by commas and none contains one."
use Rattle.std.specs.Prelude.{ℕ, zero, suc, ◌+◌, List, [], ◌∷◌, Bool, cond, ◌&&◌, length, get_or, eqb}
use Rattle.ground.specs.Lists.{other}

-- a CR, then a LF
abbrev pub is_crlf : ℕ → ℕ → Bool
is_crlf a b = eqb a 13 && eqb b 10

-- the records of a file, each without its CR LF, and what is left behind the last CR LF
pub data Lines : Type 0 where
  line : List ℕ → Lines → Lines
  rest : List ℕ → Lines

-- the byte b in front of the first of the lines
abbrev pub on_first : ℕ → Lines → Lines
on_first b (line r ls) = line (b ∷ r) ls
on_first b (rest t) = rest (b ∷ t)

unfoldable pub lines : List ℕ → Lines
lines [] = rest []
lines (b ∷ []) = rest (b ∷ [])
lines (b ∷ c ∷ s) = cond (is_crlf b c) (line [] (lines s)) (on_first b (lines (c ∷ s)))

-- the byte b in front of the first of the fields
abbrev pub on_field : ℕ → List (List ℕ) → List (List ℕ)
on_field b [] = (b ∷ []) ∷ []
on_field b (f ∷ fs) = (b ∷ f) ∷ fs

-- the fields of a record: what stands between its commas
unfoldable pub fields : List ℕ → List (List ℕ)
fields [] = [] ∷ []
fields (b ∷ s) = cond (other 44 b) (on_field b (fields s)) ([] ∷ fields s)

-- the field of a number from 0, empty where there is none
abbrev pub field : ℕ → List (List ℕ) → List ℕ
field i fs = get_or fs i []

-- where the field of a number from 0 starts in its record
unfoldable pub start_of : ℕ → List (List ℕ) → ℕ
start_of zero fs = 0
start_of (suc i) [] = 0
start_of (suc i) (f ∷ fs) = length f + 1 + start_of i fs

-- Whether what was lent is as it was lent.
use Rattle.std.specs.Prelude.{ℕ, Bool, cond, ◌&&◌, List, [], ◌∷◌, ◌++◌, drop, eqb}
use Rattle.ground.specs.Lists.{all}
use Rattle.ground.specs.Text.{bytes}
use Rattle.format.specs.Day.{Five}

-- every place from one on holds the mark
unfoldable pub kept : ℕ → ℕ → List ℕ → Bool
kept mark from xs = all (λ x. eqb x mark) (drop from xs)

-- what every place of a list is lent with, by the width of its numbers: nothing that an interval of a day has, so that a place that was filled is seen
abbrev pub wide_mark : ℕ
wide_mark = 18446744073709551557

abbrev pub half_mark : ℕ
half_mark = 42405

abbrev pub byte_mark : ℕ
byte_mark = 165

-- each of six lists, from place n on
unfoldable pub kept_all : ℕ → List ℕ → Five → Bool
kept_all n vs ms =
    kept wide_mark n vs && (kept byte_mark n ms.flags && (kept byte_mark n ms.methods
    && (kept half_mark n ms.reasons && (kept wide_mark n ms.starts && kept wide_mark n ms.lengths))))

-- a line's end, behind a word where something has changed
unfoldable pub ending : Bool → List ℕ
ending k = cond k (10 ∷ []) (bytes " changed" ++ 10 ∷ [])

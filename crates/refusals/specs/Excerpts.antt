-- A record's line cut to 80 columns, and a mark under a place of it.
use Rattle.std.specs.Prelude.{ℕ, ◌+◌, ◌-◌, Bool, cond, List, [], ◌∷◌, ◌++◌, length, get_or, leb, ltb}
use Rattle.ground.specs.Lists.{part}
use Rattle.ground.specs.Text.{bytes}
use Rattle.page.specs.Texts.{texts}
use Rattle.phrase.specs.Phrases.{blank}

-- a byte as it can be shown: '?' for one that is not plain
unfoldable pub shown : ℕ → ℕ
shown b = cond (ltb b 32) 63 (cond (ltb 126 b) 63 b)

abbrev pub shown_at : List ℕ → ℕ → List ℕ
shown_at s i = shown (get_or s i 0) ∷ []

unfoldable pub shown_text : List ℕ → List ℕ
shown_text s = texts (shown_at s) (length s)

-- dots where something of the line is left out
unfoldable pub dots : Bool → List ℕ
dots cut = cond cut (bytes "...") []

-- from where the line is shown, so that the column stands among the first 60
unfoldable pub shown_from : ℕ → ℕ
shown_from column = cond (ltb column 60) 0 (column - 40)

-- up to where, so that what is shown has at most 80 columns with its dots
unfoldable pub shown_to : ℕ → ℕ → ℕ
shown_to from n = cond (leb (n - from) 77) n (from + 74)

-- the bytes from one place up to another, and dots where the line goes on
unfoldable pub cut_text : List ℕ → ℕ → ℕ → List ℕ
cut_text r from to = dots (ltb 0 from) ++ shown_text (part r from to) ++ dots (ltb to (length r))

unfoldable pub excerpt : List ℕ → ℕ → List ℕ
excerpt r column = cut_text r (shown_from column) (shown_to (shown_from column) (length r))

-- as many spaces as there are dots at the front
unfoldable pub lead : ℕ → ℕ
lead from = cond (ltb 0 from) 3 0

-- the mark under the column
unfoldable pub mark : ℕ → List ℕ
mark column = blank (lead (shown_from column)) ++ blank (column - shown_from column) ++ bytes "^"

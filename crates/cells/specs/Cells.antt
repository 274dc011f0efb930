-- A field of a table, as RFC 4180 has it.
use Rattle.std.specs.Prelude.{ℕ, cond, List, [], ◌∷◌, ◌++◌, eqb}
use Rattle.ground.specs.Lists.{all, other}

abbrev quote : ℕ
quote = 34

-- a byte between two quotes: a quote is written twice
unfoldable pub twice : ℕ → List ℕ
twice b = cond (eqb b quote) (quote ∷ quote ∷ []) (b ∷ [])

-- a text with each of its quotes written twice
unfoldable pub doubled : List ℕ → List ℕ
doubled [] = []
doubled (b ∷ s) = twice b ++ doubled s

-- a text between two quotes, with its own doubled
unfoldable pub quoted : List ℕ → List ℕ
quoted t = quote ∷ [] ++ doubled t ++ quote ∷ []

-- a field: as it is where it has no quote, else between two
unfoldable pub cell_text : List ℕ → List ℕ
cell_text t = cond (all (other quote) t) t (quoted t)

-- a field, and the comma before the next one
unfoldable pub field_text : List ℕ → List ℕ
field_text t = t ++ 44 ∷ []

-- A cover by runs, each so many places with one mark; the longest runs of a list of marks. Over any marks, with a test that two are the same.
use Rattle.std.specs.Prelude.{ℕ, ◌+◌, Bool, true, cond, ◌&&◌, List, [], ◌∷◌, ◌++◌, replicate, leb}

-- so many places with that mark
pub data Run (X : Type 0) : Type 0 where
  run : ℕ → X → Run X

-- the marks that a cover gives, place after place
unfoldable pub spell : {X : Type 0} → List (Run X) → List X
spell [] = []
spell (run k m ∷ c) = replicate k m ++ spell c

-- no run is empty
unfoldable pub proper : {X : Type 0} → List (Run X) → Bool
proper [] = true
proper (run k m ∷ c) = leb 1 k && proper c

-- a run before others: one with the first of them, if that has the same mark
unfoldable pub glue : {X : Type 0} → (X → X → Bool) → ℕ → X → List (Run X) → List (Run X)
glue same k m [] = run k m ∷ []
glue same k m (run j x ∷ c) = cond (same m x) (run (k + j) m ∷ c) (run k m ∷ run j x ∷ c)

-- the longest runs
unfoldable pub runs : {X : Type 0} → (X → X → Bool) → List X → List (Run X)
runs same [] = []
runs same (m ∷ ms) = glue same 1 m (runs same ms)

-- How many intervals of a day have which quality.
use Rattle.std.specs.Prelude.{ℕ, ◌+◌, cond, List, [], ◌∷◌, take, eqb}
use Rattle.measures.specs.declared.counts.Counts.{Counts}

-- 1 for x itself
unfoldable pub one : ℕ → ℕ → ℕ
one x b = cond (eqb b x) 1 0

-- how many of a list are x
unfoldable pub count_of : ℕ → List ℕ → ℕ
count_of x [] = 0
count_of x (b ∷ s) = one x b + count_of x s

-- A, E, F, S and N among the first n flags
unfoldable pub counts_of : List ℕ → ℕ → Counts
counts_of flags n =
    record {
      actual = count_of 65 (take n flags);
      estimated = count_of 69 (take n flags);
      final_substituted = count_of 70 (take n flags);
      substituted = count_of 83 (take n flags);
      null = count_of 78 (take n flags);
    }

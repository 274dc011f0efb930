-- What a measuring of a day's values answers.
use Rattle.std.specs.Prelude.{ℕ, List, cond, length, Option, Some, None}
use Rattle.ground.specs.Lists.{all}
use Rattle.format.specs.Block.{fit_value, values_text}

-- the length of their text, or that one is not fit where a value has at most d decimals
unfoldable pub measure_of : ℕ → List ℕ → Option ℕ
measure_of d vs = cond (all (fit_value d) vs) (Some (length (values_text vs))) None

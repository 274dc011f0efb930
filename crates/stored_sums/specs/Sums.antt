-- The tickets of 02, 12: "of a day that the store holds: 21 for the store, 14 for the key". What its values add up to.
use Rattle.std.specs.Prelude.{ℕ, List, [], ◌∷◌, cond}
use Rattle.ground.specs.Lists.{sum}
use Rattle.format.specs.Answers.{Answer, accepted, refusal}
use Rattle.format.specs.Day.{values_of}
use Rattle.entries.specs.Keys.{Key}
use Rattle.store.specs.Head.{header_of}
use Rattle.store.specs.Ranges.{slot_of}
use Rattle.store.specs.Store.{is_store}
use Rattle.store.specs.Calls.{seek, is_there, day_rows}

-- of the day of a key that is there
unfoldable pub sum_at : List ℕ → Key → ℕ
sum_at m x = sum (values_of (day_rows m (header_of m) (slot_of m (header_of m) (seek m (header_of m) x))))

unfoldable pub stored_sum_of : List ℕ → Key → Answer
stored_sum_of m x = cond (is_store m) (cond (is_there m (header_of m) x) (accepted (sum_at m x ∷ [])) (refusal 14)) (refusal 21)

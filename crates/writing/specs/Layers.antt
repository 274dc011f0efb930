-- What each layer of the writer answers and leaves: where the day is fit, where its lists are long enough, and where nothing is known of it.
use Rattle.std.specs.Prelude.{ℕ, ◌≡◌, List, [], ◌∷◌, Bool, length, leb, Result}
use Rattle.format.specs.declared.Refusal.{Refusal}
use Rattle.format.specs.Day.{Day}
use Rattle.format.specs.Answers.{Answer, accepted, written_as}
use Rattle.format.specs.Block.{block_of, records_of, unless, left_by}
use Rattle.format.specs.declared.Written.{Written}

-- a fit day: room or 15
unfoldable pub placed_of : Day → ℕ → Answer
placed_of d room = unless (leb (length (block_of d)) room) 15 (accepted (length (block_of d) ∷ records_of d ∷ []))

-- a day that is fit or not: 16
unfoldable pub answered_of : Bool → Day → ℕ → Answer
answered_of fit d room = unless fit 16 (placed_of d room)

-- the same where the block just fills the room
unfoldable pub measured_of : Bool → Day → Answer
measured_of fit d = answered_of fit d (length (block_of d))

-- the answer to a day where the room has so many bytes, and what it leaves of the room
pub record Writes (answer_of : Day → ℕ → Answer) (d : Day) (room : List ℕ) (w : Result Written Refusal) (after : List ℕ) : Type 0 where
  pub answer : written_as w ≡ answer_of d (length room)
  pub left : after ≡ left_by (answer_of d (length room)) (block_of d) room

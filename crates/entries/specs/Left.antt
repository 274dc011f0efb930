-- What a call on lent memory answers, and every byte of memory that it leaves.
use Rattle.std.specs.Prelude.{ℕ, List, Bool, cond}
use Rattle.format.specs.Answers.{Answer, refusal}

pub record Left : Type 0 where
  pub answer : Answer
  pub memory : List ℕ

abbrev pub left : Answer → List ℕ → Left
left a m = record { answer = a; memory = m }

-- a refusal leaves every byte of memory
abbrev pub refuse : ℕ → List ℕ → Left
refuse x m = left (refusal x) m

-- the refusal x unless the test holds
abbrev pub unless : Bool → ℕ → List ℕ → Left → Left
unless t x m l = cond t l (refuse x m)

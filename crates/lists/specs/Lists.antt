-- The five lists of marks: what it is to store marks in them, and to have room for so many.
use Rattle.std.specs.Prelude.{ℕ, ◌≤◌, List, map, length}
use Rattle.std.proofs.lemmas.List.Edits.{sets}
use Rattle.format.specs.declared.Tag.{Tag}
use Rattle.format.specs.Day.{Five, five}

-- each list with its share of the tags stored from place i on
unfoldable pub stored : Five → ℕ → List Tag → Five
stored l i ts =
    five
    (sets l.flags i (map (λ (t : Tag). t.flag) ts))
    (sets l.methods i (map (λ (t : Tag). t.method) ts))
    (sets l.reasons i (map (λ (t : Tag). t.reason) ts))
    (sets l.starts i (map (λ (t : Tag). t.start) ts))
    (sets l.lengths i (map (λ (t : Tag). t.length) ts))

-- no list is shorter than n
pub record Roomy (n : ℕ) (l : Five) : Type 0 where
  pub flags : n ≤ length l.flags
  pub methods : n ≤ length l.methods
  pub reasons : n ≤ length l.reasons
  pub starts : n ≤ length l.starts
  pub lengths : n ≤ length l.lengths

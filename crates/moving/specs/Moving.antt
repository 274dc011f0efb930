-- Bytes moved inside one list, and a stretch of a file at its start replaced.
use Rattle.std.specs.Prelude.{ℕ, ◌+◌, ◌-◌, ◌≤◌, ◌≡◌, List, ◌++◌, length, take, drop}
use Rattle.format.specs.Day.{over}

-- the list with its n bytes from place a on stored from place b on, as they were
abbrev pub moved : List ℕ → ℕ → ℕ → ℕ → List ℕ
moved l a b n = take b l ++ take n (drop a l) ++ drop (b + n) l

-- both stretches lie inside
pub record Within (l : List ℕ) (a b n : ℕ) : Type 0 where
  pub from : a + n ≤ length l
  pub to : b + n ≤ length l

-- the file with the block in the place of its bytes a up to e
abbrev pub spliced : List ℕ → ℕ → ℕ → List ℕ → List ℕ
spliced file a e block = take a file ++ (block ++ drop e file)

-- the first n bytes of the room have such a stretch, and the room holds the file with the block in its place
pub record Fitting (room : List ℕ) (n a e : ℕ) (block : List ℕ) : Type 0 where
  pub order : a ≤ e
  pub inside : e ≤ n
  pub file : n ≤ length room
  pub fits : n - (e - a) + length block ≤ length room

-- the file at the room's start was spliced so: its new length, and the room
pub record Spliced (old : List ℕ) (n a e : ℕ) (block : List ℕ) (r : ℕ) (new : List ℕ) : Type 0 where
  pub bytes : r ≡ length (spliced (take n old) a e block)
  pub room : new ≡ over (spliced (take n old) a e block) old

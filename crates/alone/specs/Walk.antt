-- The walk over a block that is a part of longer memory, from a place of it to its end.
use Rattle.std.specs.Prelude.{ℕ, ◌-◌, ◌≤◌, ◌<◌, ◌≡◌, List, [], ◌∷◌, ◌++◌, Bool, false, cond, length, drop, get_or, ltb, Option, Some, None, Result, Ok, Err}
use Rattle.ground.specs.Lists.{span_of}
use Rattle.format.specs.Bytes.{plain}
use Rattle.format.specs.Cut.{lines, fields}
use Rattle.format.specs.Records.{kind_in}
use Rattle.format.specs.Order.{Due}
use Rattle.format.specs.Faults.{is_open}
use Rattle.format.specs.Answers.{Answer, accepted, refused, refused_as}
use Rattle.format.specs.declared.Refusal.{Refusal}
use Rattle.format.specs.Numbers.{intervals_of}
use Rattle.format.specs.File.{behind200, is_foreign, block_walk_of, top_says, block_check_of}
use Rattle.lines.specs.Places.{LineEnd, Looked}
use Rattle.lines.specs.declared.Found.{Found}
use Rattle.order.specs.State.{seen, closed, Kept}
use Rattle.alone.specs.declared.BlockWalk.{BlockWalk}
use Rattle.alone.specs.declared.Walked.{Walked}

-- a refusal without a field
abbrev pub refused_at : ℕ → ℕ → ℕ → Answer
refused_at x p k = refused x p k 0

-- the block starts at `start`: what is to be answered of its records from k on, the first of which starts at p, where xs is what its 300 says
abbrev pub on_from : List ℕ → ℕ → List ℕ → Due → ℕ → ℕ → Answer
on_from memory start xs st p k = block_walk_of xs st (p - start) k (lines (drop p memory))

abbrev pub left_of : List ℕ → ℕ → List ℕ → BlockWalk → Answer
left_of memory start xs t = on_from memory start xs (seen memory t.state) t.at t.records

-- behind a 200 of n intervals whose values have at most d decimals: what is to be answered of the block, where xs is what its 300 says
abbrev pub whole_of : List ℕ → ℕ → ℕ → ℕ → List ℕ → Answer
whole_of memory start n d xs = on_from memory start xs (behind200 n d) start 0

-- the date in the answer that a check of a block gives
unfoldable pub date_said : Answer → Option ℕ
date_said (accepted xs) = Some (get_or xs 0 0)
date_said (refused x p k i) = None

-- the record r is no part of the block, and neither 3 nor 10 comes before that
unfoldable pub is_foreign_here : Due → List ℕ → Bool
is_foreign_here st r =
    cond (ltb (span_of plain r) (length r)) false (cond (is_open st (kind_in (fields r))) false (is_foreign st (kind_in (fields r))))

-- before the first record
abbrev pub first_walk : ℕ → ℕ → ℕ → BlockWalk
first_walk start n d = record { at = start; records = 0; state = closed 2 12 n d 0 0 0 }

-- the walk is on its way
pub record Walking (memory : List ℕ) (start : ℕ) (t : BlockWalk) : Type 0 where
  pub order : start ≤ t.at
  pub within : t.at ≤ length memory
  pub few : t.records ≤ t.at
  pub kept : Kept memory t.at t.state

-- at place p stands a record, which was looked at
pub record Stands (memory : List ℕ) (p : ℕ) (f : Found) : Type 0 where
  pub looked : Looked memory p f.end f.bad f.commas
  pub more : f.end ≡ length memory → ⊥

-- behind a record it is on its way, and further, and what is left of the answer is a walk from there; or its refusal is the answer
abbrev pub Turned : List ℕ → ℕ → BlockWalk → Result BlockWalk Refusal → Type 0
Turned memory start t (Ok u) = Walking memory start u × (t.at < u.at) × ((xs : List ℕ) → left_of memory start xs t ≡ left_of memory start xs u)
Turned memory start t (Err x) = (xs : List ℕ) → left_of memory start xs t ≡ refused_as x

-- what the walk from t on comes to, whatever the 300 says: the block is whole, with so many records, or its refusal is the answer
abbrev pub Ended : List ℕ → ℕ → BlockWalk → Result ℕ Refusal → Type 0
Ended memory start t (Ok k) = (xs : List ℕ) → left_of memory start xs t ≡ accepted (xs ++ k ∷ [])
Ended memory start t (Err x) = (xs : List ℕ) → left_of memory start xs t ≡ refused_as x

-- the same from the first record on
abbrev pub Entire : List ℕ → ℕ → ℕ → ℕ → Result ℕ Refusal → Type 0
Entire memory start n d (Ok k) = (xs : List ℕ) → whole_of memory start n d xs ≡ accepted (xs ++ k ∷ [])
Entire memory start n d (Err x) = (xs : List ℕ) → whole_of memory start n d xs ≡ refused_as x

-- a block of so many records behind a 200 of m minutes and that unit, whose 300 ends at e
pub record IsBlock (memory : List ℕ) (start m unit k e : ℕ) : Type 0 where
  pub line : LineEnd memory start e
  pub more : e ≡ length memory → ⊥
  pub is : block_check_of m unit (drop start memory) ≡ accepted (top_says (intervals_of m) (lines (drop start memory)) ++ k ∷ [])

abbrev pub WalkedAs : List ℕ → ℕ → ℕ → ℕ → Result Walked Refusal → Type 0
WalkedAs memory start m unit (Ok w) = IsBlock memory start m unit w.records w.end
WalkedAs memory start m unit (Err x) = block_check_of m unit (drop start memory) ≡ refused_as x

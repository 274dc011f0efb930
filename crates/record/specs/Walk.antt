-- A walk over the fields of a record, for the contracts of the inner functions.
use Rattle.std.specs.Prelude.{ℕ, ◌+◌, ◌≤◌, ◌<◌, ◌≡◌, List, cond, length, drop, eqb, Result, Ok, Err}
use Rattle.ground.specs.Lists.{part}
use Rattle.format.specs.Cut.{fields, start_of}
use Rattle.format.specs.Records.{Scale, scale_for, kind_in, count_of}
use Rattle.format.specs.Faults.{fault_in, Fine, Stop}
use Rattle.lines.specs.Places.{Starts}
use Rattle.record.specs.declared.Spot.{Spot}
use Rattle.record.specs.declared.BadField.{BadField}
use Rattle.record.specs.declared.Asked.{Asked}

-- the fields that later rules ask for, by number from 0, where 0 is none: a 200's interval length and unit, a 300's quality, a 500's read time, a 250's
-- qualities; a 400 is read by a crate of its own
unfoldable pub first_asked : ℕ → ℕ → ℕ
first_asked k n =
    cond (eqb k 200) 8 (cond (eqb k 300) (n + 2) (cond (eqb k 500) 3 (cond (eqb k 250) 10 0)))

unfoldable pub second_asked : ℕ → ℕ
second_asked k = cond (eqb k 200) 7 (cond (eqb k 250) 15 0)

-- a record of the kind k whose rules are made from z, with as many fields as its kind has
pub record Typed (file : List ℕ) (at e k : ℕ) (z : Scale) : Type 0 where
  pub order : at ≤ e
  pub within : e ≤ length file
  pub kind : k ≡ kind_in (fields (part file at e))
  pub some : k ≡ 0 → ⊥
  pub small : z.n ≤ 288
  pub few : z.decimals ≤ 6
  pub count : length (fields (part file at e)) ≡ count_of k z

-- what the rules of the record from at to e are made from, in a channel of n intervals whose values have at most d decimals
abbrev pub scale_at : List ℕ → ℕ → ℕ → ℕ → ℕ → ℕ → Scale
scale_at file at e k n d = scale_for k n d (fields (part file at e))

-- the fields before i meet their rules
pub record Obeyed (k : ℕ) (z : Scale) (fs : List (List ℕ)) (i : ℕ) : Type 0 where
  pub within : i ≤ length fs
  pub same : fault_in k z 0 0 fs ≡ fault_in k z (start_of i fs) i (drop i fs)

-- a loop that has passed i fields of the record stands at b, behind the last of them
pub record Along (file : List ℕ) (at e k : ℕ) (z : Scale) (i b : ℕ) : Type 0 where
  pub high : b ≤ e
  pub few : i ≤ b
  pub here : b + 1 ≡ at + start_of i (fields (part file at e))
  pub passed : Obeyed k z (fields (part file at e)) i

-- from i on the loop went on to r, and passed no field that is asked for
pub record Goes (file : List ℕ) (at e k : ℕ) (z : Scale) (i b : ℕ) (r : Spot) : Type 0 where
  pub along : Along file at e k z r.i r.b
  pub on : b ≤ r.b
  pub more : i ≤ r.i
  pub first : first_asked k z.n < r.i → first_asked k z.n < i
  pub second : second_asked k < r.i → second_asked k < i

-- every field meets its rule, and those that are asked for start at p and q
pub record Sound (file : List ℕ) (at e k : ℕ) (z : Scale) (p q : ℕ) : Type 0 where
  pub fault : fault_in k z 0 0 (fields (part file at e)) ≡ Fine
  pub first : Starts file (fields (part file at e)) at (first_asked k z.n) p e
  pub second : Starts file (fields (part file at e)) at (second_asked k) q e

-- the leftmost field that breaks its rule
pub record Broken (file : List ℕ) (at e k : ℕ) (z : Scale) (o i : ℕ) : Type 0 where
  pub fault : fault_in k z 0 0 (fields (part file at e)) ≡ Stop 6 o i
  pub within : at + o ≤ e

abbrev pub Walks : List ℕ → ℕ → ℕ → ℕ → Scale → Result Asked BadField → Type 0
Walks file at e k z (Ok a) = Sound file at e k z a.first a.second
Walks file at e k z (Err b) = Broken file at e k z b.place b.field

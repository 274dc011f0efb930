-- A value that is being read from place a of the file on, for the contracts of the inner functions: n and `zeros` are those of its digits up to q.
use Rattle.std.specs.Prelude.{ℕ, ◌+◌, ◌≤◌, ◌<◌, ◌^◌, ◌≡◌, List, true, length, get_or, Option, Some, None}
use Rattle.ground.specs.Lists.{all, span_of, other, part}
use Rattle.ground.specs.Digits.{is_digit, decimal_from, decimal}
use Rattle.format.specs.Cut.{fields, field}
use Rattle.format.specs.Records.{millionths}
use Rattle.lines.specs.Places.{Cut}
use Rattle.shorts.specs.declared.Valued.{Valued}

-- digits, and no more than a value may have
pub record Whole (file : List ℕ) (a q n zeros : ℕ) : Type 0 where
  pub some : a < q
  pub few : q ≤ a + 7
  pub within : q ≤ length file
  pub digits : all is_digit (part file a q) ≡ true
  pub number : n ≡ decimal (part file a q) + zeros

-- digits, a point at p, and m digits behind it
pub record Pointed (file : List ℕ) (a q m n zeros : ℕ) : Type 0 where
  pub p : ℕ
  pub behind : q ≡ p + 1 + m
  pub some : a < p
  pub few : p ≤ a + 7
  pub within : q ≤ length file
  pub digits : all is_digit (part file a p) ≡ true
  pub point : get_or file p 0 ≡ 46
  pub decimals : all is_digit (part file (p + 1) q) ≡ true
  pub number : n ≡ decimal_from (decimal (part file a p)) (part file (p + 1) q) + zeros

-- a value v, inside a record that ends at e
pub record Complete (file : List ℕ) (a e q v : ℕ) : Type 0 where
  pub order : a ≤ q
  pub room : q < e
  pub within : e ≤ length file
  pub plain : all (other 44) (part file a q) ≡ true
  pub is : v ≡ millionths (part file a q)
  pub small : v < 10 ^ 13

-- the field at a has the value v, and the next one starts at x
pub record ValueAt (file : List ℕ) (a e v x : ℕ) : Type 0 where
  pub is : v ≡ millionths (field 0 (fields (part file a e)))
  pub small : v < 10 ^ 13
  pub cut : Cut file a e (a + span_of (other 44) (part file a e)) x

-- a try says nothing where it did not come to a value
abbrev pub Shown : List ℕ → ℕ → ℕ → Option Valued → Type 0
Shown file a e (Some x) = ValueAt file a e x.v x.next
Shown file a e None = Unit

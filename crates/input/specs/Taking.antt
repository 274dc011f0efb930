-- How bytes that were read are taken: one at the cursor, one that is expected, and a digit of a number.
use Rattle.std.specs.Prelude.{ℕ, ◌+◌, ◌-◌, ◌*◌, ◌^◌, cond, ◌&&◌, Option, Some, None, List, length, get_or, leb, ltb, eqb}
use Rattle.ground.specs.Digits.{is_digit}
use Rattle.input.specs.declared.bytes.Cursor.{Cursor}

-- the byte at the cursor, where the buffer holds one that is not yet used
unfoldable pub held_of : List ℕ → Cursor → Option (ℕ × Cursor)
held_of buf c = cond (ltb c.at c.end && ltb c.at (length buf)) (Some (get_or buf c.at 0, record { at = c.at + 1; end = c.end })) None

-- the cursor behind n bytes that the buffer held; nothing is left in it where it held fewer
unfoldable pub behind_of : Cursor → ℕ → Cursor
behind_of c n = cond (ltb c.at c.end && leb n (c.end - c.at)) (record { at = c.at + n; end = c.end }) (record { at = 0; end = 0 })

-- behind a byte, if it is the one that is expected
abbrev pub expected_of : ℕ → Option (ℕ × Cursor) → Option Cursor
expected_of x (Some (b, c)) = cond (eqb b x) (Some c) None
expected_of x None = None

-- the number that v and one more digit write, if the byte is a digit and the number is below 2^64
unfoldable pub grown_of : ℕ → ℕ → Option ℕ
grown_of v b = cond (is_digit b && ltb (v * 10 + (b - 48)) (2 ^ 64)) (Some (v * 10 + (b - 48))) None

-- the byte behind number i of n: a space, and another behind the last
unfoldable pub end_after : ℕ → ℕ → ℕ → ℕ
end_after i n last = cond (ltb (i + 1) n) 32 last

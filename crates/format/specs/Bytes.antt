-- 01, Records: "Bytes are 0x20 to 0x7E (H)." "No field begins or ends with a space." And the bytes that 01's section Fields speaks of.
use Rattle.std.specs.Prelude.{ℕ, ◌-◌, List, Bool, cond, not, ◌&&◌, ◌||◌, length, get_or, leb, eqb}
use Rattle.ground.specs.Lists.{all}
use Rattle.ground.specs.Digits.{is_digit}

-- a byte that a record may hold
abbrev pub plain : ℕ → Bool
plain b = leb 32 b && leb b 126

-- a byte that a field may hold: "Fields are split by commas and none contains one."
unfoldable pub field_byte : ℕ → Bool
field_byte b = leb 32 b && leb b 126 && not (eqb b 44)

unfoldable pub is_capital : ℕ → Bool
is_capital b = leb 65 b && leb b 90

unfoldable pub is_letter : ℕ → Bool
is_letter b = is_capital b || (leb 97 b && leb b 122)

-- a letter as a capital, for where case doesn't count; any other byte as it is
unfoldable pub capital : ℕ → ℕ
capital b = cond (leb 97 b && leb b 122) (b - 32) b

unfoldable pub is_alnum : ℕ → Bool
is_alnum b = is_digit b || is_letter b

-- a space at the start or at the end
unfoldable pub end_space : List ℕ → Bool
end_space s = eqb (get_or s 0 0) 32 || eqb (get_or s (length s - 1) 0) 32

-- least to most bytes, of any kind that a field may hold, with no space at either end. (Fields of the other rules hold no space at all.)
unfoldable pub is_text : ℕ → ℕ → List ℕ → Bool
is_text least most s = leb least (length s) && leb (length s) most && not (end_space s)

-- least to most bytes that each pass a test
unfoldable pub are_all : (ℕ → Bool) → ℕ → ℕ → List ℕ → Bool
are_all p least most s = leb least (length s) && leb (length s) most && all p s

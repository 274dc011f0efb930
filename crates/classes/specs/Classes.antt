-- The classes of bytes that one loop tests: each is a test of the meaning.
use Rattle.std.specs.Prelude.{ℕ, Bool}
use Rattle.ground.specs.Lists.{other}
use Rattle.ground.specs.Digits.{is_digit}
use Rattle.format.specs.Bytes.{is_capital, is_alnum}
use Rattle.classes.specs.declared.Class.{Class}
use Rattle.classes.specs.declared.Class.TheVariants.{Digit, Capital, Alnum, NoHash}

abbrev pub in_class : Class → ℕ → Bool
in_class Digit = is_digit
in_class Capital = is_capital
in_class Alnum = is_alnum
in_class NoHash = other 35

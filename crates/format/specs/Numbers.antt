-- 01, Fields: "Value and quantity: 1 to 7 digits, then nothing, or a point and 1 to 6 digits. It is held as a whole number of millionths."
-- "Previous and current read: 1 to 15 bytes, digits with at most one point that stands between digits. Index read: the same or empty."
-- "Start, end, interval length and reason code are written without leading zeros, though `0` itself may stand (H). Start and end have 1 to 4
-- digits, reason 1 to 3 or empty. Interval length is 5, 15 or 30." And, in Records: "n is 1440 divided by the interval length."
use Rattle.std.specs.Prelude.{ℕ, ◌+◌, ◌-◌, ◌*◌, ◌/◌, ◌^◌, min, List, Bool, cond, ◌&&◌, ◌||◌, length, get_or, take, drop, leb, ltb, eqb, Option, Some, None, is_some, unwrap_or}
use Rattle.ground.specs.Lists.{all, span_of, other}
use Rattle.ground.specs.Digits.{is_digit, decimal}
use Rattle.format.specs.Bytes.{are_all}

-- ---- numbers that a field holds or not

abbrev pub is_number : Option ℕ → Bool
is_number x = is_some x

-- the number, 0 where there is none
abbrev pub number_in : Option ℕ → ℕ
number_in x = unwrap_or x 0

-- a number that passes a test
abbrev pub that : (ℕ → Bool) → Option ℕ → Option ℕ
that p (Some v) = cond (p v) (Some v) None
that p None = None

-- where the field is empty, that number; else what the rule says
abbrev pub or_empty : ℕ → (List ℕ → Option ℕ) → List ℕ → Option ℕ
or_empty v rule s = cond (eqb (length s) 0) (Some v) (rule s)

-- least to most digits and nothing else: the number that they write
unfoldable pub number_of : ℕ → ℕ → List ℕ → Option ℕ
number_of least most s = cond (are_all is_digit least most s) (Some (decimal s)) None

-- ---- start, end, interval length, reason

-- a zero with more behind it
unfoldable pub leading_zero : List ℕ → Bool
leading_zero s = ltb 1 (length s) && eqb (get_or s 0 0) 48

unfoldable pub small_of : ℕ → List ℕ → Option ℕ
small_of most s = cond (leading_zero s) None (number_of 1 most s)

unfoldable pub interval_of : List ℕ → Option ℕ
interval_of s = small_of 4 s

unfoldable pub is_length : ℕ → Bool
is_length m = eqb m 5 || eqb m 15 || eqb m 30

unfoldable pub length_of : List ℕ → Option ℕ
length_of s = that is_length (small_of 2 s)

-- n, for an interval length of m minutes; 0 where m is none
unfoldable pub intervals_of : ℕ → ℕ
intervals_of m = cond (is_length m) (1440 / m) 0

-- "reason (65535 if none)"
abbrev pub no_reason : ℕ
no_reason = 65535

unfoldable pub reason_of : List ℕ → Option ℕ
reason_of s = or_empty no_reason (small_of 3) s

-- ---- values

-- where the first point stands, or the length where there is none; what stands before it, and what behind it
abbrev pub point : List ℕ → ℕ
point s = span_of (other 46) s

abbrev pub before : List ℕ → List ℕ
before s = take (point s) s

abbrev pub behind : List ℕ → List ℕ
behind s = drop (point s + 1) s

-- 01's limit for every unit: how many digits may stand behind the point at most
abbrev pub decimals : ℕ
decimals = 6

abbrev pub times : ℕ → Option ℕ → Option ℕ
times k (Some v) = Some (v * k)
times k None = None

-- 1 to d digits behind a point (6 at most, whatever d is), as millionths
unfoldable pub fraction_of : ℕ → List ℕ → Option ℕ
fraction_of d s = times (10 ^ (6 - length s)) (number_of 1 (min d 6) s)

-- a whole number and millionths together
abbrev pub amount : Option ℕ → Option ℕ → Option ℕ
amount (Some w) (Some m) = Some (w * 10 ^ 6 + m)
amount (Some w) None = None
amount None m = None

-- a value with at most d decimals
unfoldable pub value_of : ℕ → List ℕ → Option ℕ
value_of d s =
    cond (eqb (point s) (length s))
    (amount (number_of 1 7 s) (Some 0))
    (amount (number_of 1 7 (before s)) (fraction_of d (behind s)))

-- ---- register reads

-- one digit or more, and nothing else
unfoldable pub are_digits : List ℕ → Bool
are_digits s = leb 1 (length s) && all is_digit s

unfoldable pub is_read : List ℕ → Bool
is_read s = leb (length s) 15 && cond (eqb (point s) (length s)) (are_digits s) (are_digits (before s) && are_digits (behind s))

unfoldable pub is_index_read : List ℕ → Bool
is_index_read s = eqb (length s) 0 || is_read s

-- 01, Fields: "Quality: `A` alone, or `E`, `F`, `S` with two digits, or in a 300 only `V` alone. Capitals only: these values are enumerated, so case
-- counts." "Rules across fields: S and F need a reason. Reason 0 needs a description. V has neither. In a 250 this holds for previous and for current."
-- 02, 6: "Some providers send `N`, with no method, for null data. Accept it in 300 and 400 records, not in a 250."
use Rattle.std.specs.Prelude.{ℕ, List, [], Bool, cond, not, ◌&&◌, ◌||◌, length, get_or, drop, eqb, Option, Some, None, is_some}
use Rattle.ground.specs.Lists.{same}
use Rattle.format.specs.Numbers.{number_of, no_reason}
use Rattle.format.specs.declared.Grade.{Grade}

-- ---- a quality

-- "The flag is held as its letter's byte."
abbrev pub flag_a : ℕ
flag_a = 65

abbrev pub flag_e : ℕ
flag_e = 69

abbrev pub flag_f : ℕ
flag_f = 70

abbrev pub flag_n : ℕ
flag_n = 78

abbrev pub flag_s : ℕ
flag_s = 83

abbrev pub flag_v : ℕ
flag_v = 86

-- the kinds of record that say the quality of intervals
abbrev pub of_intervals : ℕ → Bool
of_intervals k = eqb k 300 || eqb k 400

-- the flags that stand alone in a record of the kind k: A, in a 300 and in a 400 N, and in a 300 V
unfoldable pub stands_alone : ℕ → ℕ → Bool
stands_alone k q = eqb q flag_a || (eqb q flag_n && of_intervals k) || (eqb q flag_v && eqb k 300)

-- those that take a method
unfoldable pub takes_method : ℕ → Bool
takes_method q = eqb q flag_e || eqb q flag_f || eqb q flag_s

-- "method (255 if none)"
abbrev pub no_method : ℕ
no_method = 255

-- a quality by its flag and its method
abbrev pub grade : ℕ → ℕ → Grade
grade q m = record { flag = q; method = m }

-- a flag with the number that is its method
abbrev pub with_method : ℕ → Option ℕ → Option Grade
with_method q (Some m) = Some (grade q m)
with_method q None = None

-- the quality that a field of a record of the kind k says; its flag is the first byte
unfoldable pub quality_of : ℕ → List ℕ → Option Grade
quality_of k s =
    cond (stands_alone k (get_or s 0 0))
    (cond (eqb (length s) 1) (Some (grade (get_or s 0 0) no_method)) None)
    (cond (takes_method (get_or s 0 0)) (with_method (get_or s 0 0) (number_of 2 2 (drop 1 s))) None)

abbrev pub is_graded : Option Grade → Bool
is_graded x = is_some x

abbrev pub flag_in : Option Grade → ℕ
flag_in (Some g) = g.flag
flag_in None = 0

abbrev pub method_in : Option Grade → ℕ
method_in (Some g) = g.method
method_in None = no_method

-- ---- the rules across fields

unfoldable pub needs_reason : ℕ → Bool
needs_reason q = eqb q flag_s || eqb q flag_f

-- a flag, a reason and a description of so many bytes may stand together
unfoldable pub across : ℕ → ℕ → ℕ → Bool
across flag reason described =
    not (needs_reason flag && eqb reason no_reason)
    && not (eqb reason 0 && eqb described 0)
    && not (eqb flag flag_v && not (eqb reason no_reason && eqb described 0))

-- ---- quality, reason and description of an interval

pub record Mark : Type 0 where
  pub flag : ℕ
  pub method : ℕ
  pub reason : ℕ
  pub text : List ℕ

abbrev pub no_mark : Mark
no_mark = record { flag = 0; method = no_method; reason = no_reason; text = [] }

unfoldable pub same_mark : Mark → Mark → Bool
same_mark a b = eqb a.flag b.flag && eqb a.method b.method && eqb a.reason b.reason && same a.text b.text

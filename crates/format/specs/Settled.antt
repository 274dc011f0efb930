-- 01, Settled cases: "Those with a star are proved together as rows of one statement about the definitions." And cases of 02, 1, 6 and 8.
use Rattle.std.specs.Prelude.{ℕ, ◌≡◌, List, [], ◌∷◌, ◌++◌, Option, Some, None}
use Prim.Native.String.{String}
use Rattle.ground.specs.Text.{bytes}
use Rattle.format.specs.Numbers.{value_of}
use Rattle.format.specs.Units.{unit_of, decimals_named}
use Rattle.format.specs.Dates.{date_of}
use Rattle.format.specs.Quality.{quality_of, grade}
use Rattle.format.specs.Answers.{accepted, refused}
use Rattle.format.specs.File.{check_of}

-- records, each with its CR LF
abbrev pub records : List String → List ℕ
records [] = []
records (r ∷ rs) = bytes r ++ 13 ∷ 10 ∷ records rs

-- a file with one half-hour day: its 300, and the records under it
abbrev pub one_day : String → List String → List ℕ
one_day day rs =
    records ("100,NEM12,200401011200,MDP1,RETAILER" ∷ "200,NEM1234567,E1,1,E1,N1,METER1,kWh,30," ∷ day ∷ []) ++ records rs ++ records ("900" ∷ [])

-- one with a V day, with these 400s under it
abbrev pub varied : List String → List ℕ
varied rs =
    one_day "300,20040101,1,1,1,1,1,1,1,1,1,1,1,1,1,1,1,1,1,1,1,1,1,1,1,1,1,1,1,1,1,1,1,1,1,1,1,1,1,1,1,1,1,1,1,1,1,1,1,1,V,,,20040102010203," rs

-- a value in that unit: "01's value cases are read with units that allow them" (02, 8)
abbrev pub value_in : String → String → Option ℕ
value_in unit s = value_of (decimals_named (bytes unit)) (bytes s)

pub record Settled : Type 0 where
  pub held : value_in "kWh" "17.461" ≡ Some 17461000
  pub leading_zeros : value_in "kWh" "003.40" ≡ Some 3400000
  pub nought : value_in "kWh" "0" ≡ Some 0
  pub largest : value_in "MWh" "9999999.999999" ≡ Some 9999999999999
  pub no_whole : value_in "kWh" ".5" ≡ None
  pub no_fraction : value_in "kWh" "5." ≡ None
  pub eight-digits : value_in "kWh" "12345678" ≡ None
  pub eight-before-point : value_in "kWh" "12345678.5" ≡ None
  -- 02, 8: "Refuse a unit that isn't there, and a value with more decimals than its unit allows"; zeros at its end count
  pub four : value_in "kWh" "1.2345" ≡ Some 1234500
  pub five : value_in "kWh" "1.23456" ≡ None
  pub five-zeros : value_in "kWh" "1.50000" ≡ None
  pub capitals : unit_of (bytes "KVARH") ≡ Some 4
  pub small-letters : unit_of (bytes "pf") ≡ Some 22
  pub no-unit : unit_of (bytes "kWhh") ≡ None
  pub leap : date_of (bytes "20000229") ≡ Some 20000229
  pub no-leap : date_of (bytes "21000229") ≡ None
  pub e52 : (k : ℕ) → quality_of k (bytes "E52") ≡ Some (grade 69 52)
  pub small-v : (k : ℕ) → quality_of k (bytes "v") ≡ None
  pub a14 : (k : ℕ) → quality_of k (bytes "A14") ≡ None
  -- 02, 6: "`N`, with no method, for null data. Accept it in 300 and 400 records, not in a 250."
  pub null-in-300 : quality_of 300 (bytes "N") ≡ Some (grade 78 255)
  pub null-in-400 : quality_of 400 (bytes "N") ≡ Some (grade 78 255)
  pub null-in-250 : quality_of 250 (bytes "N") ≡ None
  pub n14 : quality_of 400 (bytes "N14") ≡ None
  -- record 4 starts at 224, and its quality at 234
  pub s14 : check_of (varied ("400,1,24,A,," ∷ "400,25,48,S14,," ∷ [])) ≡ refused 7 234 4 4
  pub covered : check_of (varied ("400,1,31,A,," ∷ "400,32,48,E52,," ∷ [])) ≡ accepted (12 ∷ 1 ∷ 1 ∷ [])
  pub gap : check_of (varied ("400,1,31,A,," ∷ "400,33,48,E52,," ∷ [])) ≡ refused 9 228 4 2
  -- record 3 starts at 210
  pub past_the_end : check_of (varied ("400,1,49,A,," ∷ [])) ≡ refused 9 214 3 2
  -- 02, 1: "a read at 20031221000000 belongs to 20031220"
  pub midnight :
      check_of
      (one_day "300,20031220,1,1,1,1,1,1,1,1,1,1,1,1,1,1,1,1,1,1,1,1,1,1,1,1,1,1,1,1,1,1,1,1,1,1,1,1,1,1,1,1,1,1,1,1,1,1,1,1,A,,,20031221003500,"
      ("500,O,,20031221000000," ∷ []))
      ≡ accepted (12 ∷ 1 ∷ 1 ∷ [])

-- Records that are passed without a fault, by the very steps that the check of a file takes; and 01: "A day block is a 300 record with the 400 and 500
-- records under it": when bytes are accepted as one, and where one may stand.
use Rattle.std.specs.Prelude.{ℕ, ◌<◌, ◌≡◌, ◌≢◌, Bool, true, false, cond, ◌&&◌, ◌||◌, List, [], ◌∷◌, length, eqb}
use Rattle.ground.specs.Lists.{all}
use Rattle.format.specs.Numbers.{intervals_of}
use Rattle.format.specs.Units.{is_unit, decimals_of}
use Rattle.format.specs.Cut.{Lines, line, rest, lines, fields}
use Rattle.format.specs.Records.{kind_in, unit_in, date_in}
use Rattle.format.specs.Order.{may_come, Due, begun}
use Rattle.format.specs.Faults.{is_open, fault_of, Fine}
use Rattle.format.specs.File.{after, behind200, top_says}
use Rattle.format.specs.Day.{no_channel}

-- ---- passed

-- from the state a on, no record is at fault, nothing is left behind the last CR LF, and there the state is e
abbrev pub Passes : Due → Lines → Due → Type 0
Passes a (rest t) e = (t ≡ []) × (a ≡ e)
Passes a (line r ls) e = (fault_of a r ≡ Fine) × Passes (after a r) ls e

-- the check of a file comes through these bytes, with no fault, to the state st
abbrev pub Leads : List ℕ → Due → Type 0
Leads before st = Passes begun (lines before) st

-- the kinds of the records, in their order
abbrev pub kinds_of : Lines → List ℕ
kinds_of (rest t) = []
kinds_of (line r ls) = kind_in (fields r) ∷ kinds_of ls

-- the fields of the last 200 in these lines, fs where there is none
abbrev pub head_in : List (List ℕ) → Lines → List (List ℕ)
head_in fs (rest t) = fs
head_in fs (line r ls) = head_in (cond (eqb (kind_in (fields r)) 200) (fields r) fs) ls

-- the unit of the last 200 in these bytes: the one that a day right behind them stands under
abbrev pub unit_before : List ℕ → ℕ
unit_before before = unit_in (head_in no_channel.cells (lines before))

-- ---- accepted as a block

-- 400s and 500s, which stand under a 300
abbrev pub are_under : List ℕ → Bool
are_under ks = all (λ x. eqb x 400 || eqb x 500) ks

-- a 300, and under it 400s and 500s
abbrev pub is_block : List ℕ → Bool
is_block [] = false
is_block (k ∷ ks) = eqb k 300 && are_under ks

-- a 300 may come here, and no V day is open: behind a 200, or where a day may end
abbrev pub Free : Due → Type 0
Free st = (may_come st.expect 300 ≡ true) × (is_open st 300 ≡ false)

-- the bytes b are accepted as a block where the state is st
pub record Accepted (st : Due) (b : List ℕ) : Type 0 where
  pub kinds : is_block (kinds_of (lines b)) ≡ true
  pub end : Due
  pub passes : Passes st (lines b) end
  pub free : Free end

-- the date of a block's 300
abbrev pub top_date : Lines → ℕ
top_date (rest t) = 0
top_date (line r ls) = date_in (fields r)

-- ---- where a block may stand

-- a block of n intervals with this date, whose values have at most d decimals, may stand here: behind a 200 of that n and a unit of these decimals, or under it
-- behind another day of an earlier date
pub record Awaits (st : Due) (n d date : ℕ) : Type 0 where
  pub free : Free st
  pub intervals : st.n ≡ n
  pub decimals : st.decimals ≡ d
  pub earlier : st.date < date

-- ---- a block on its own

-- behind a 200 of this interval length, of n intervals, and this unit, the bytes b are accepted as a block: its 300 says the date t, the update time u and the
-- load time l, and it has k records
pub record Alone (minutes unit : ℕ) (b : List ℕ) (t n u l k : ℕ) : Type 0 where
  pub intervals : intervals_of minutes ≡ n
  pub known : n ≢ 0
  pub unit-known : is_unit unit ≡ true
  pub accepted : Accepted (behind200 n (decimals_of unit)) b
  pub says : top_says n (lines b) ≡ t ∷ n ∷ u ∷ l ∷ []
  pub records : length (kinds_of (lines b)) ≡ k

-- ---- what is counted

-- nothing before the 100
pub record Counts (st : Due) : Type 0 where
  pub none : may_come st.expect 100 ≡ true → (st.days ≡ 0) × (st.channels ≡ 0)

-- 01, Refusal numbers, for the whole file: "1: file longer than 1,048,576 bytes", asked before all else; "2: no CR LF from here to the end, 900 not yet
-- read", at the record's start; "13: bytes after the 900 record", at the first of them. "A record number counts the complete records before it."
use Rattle.std.specs.Prelude.{ℕ, ◌+◌, ◌≡◌, List, [], ◌∷◌, ◌++◌, Bool, cond, not, ◌&&◌, ◌||◌, length, ltb, eqb}
use Rattle.format.specs.Cut.{Lines, line, rest, lines, fields}
use Rattle.format.specs.Numbers.{intervals_of}
use Rattle.format.specs.Units.{is_unit, decimals_of}
use Rattle.format.specs.Records.{kind_in, date_in, update_in, load_in}
use Rattle.format.specs.Answers.{Answer, accepted, refused, refusal}
use Rattle.format.specs.Order.{first300, is_end, Due, due, begun, in_day, after_of}
use Rattle.format.specs.Faults.{◌▹◌, stop, f3, is_open, f10, fault_of, Fault, Fine, Stop}

-- the state after the record r
abbrev pub after : Due → List ℕ → Due
after st r = after_of st (kind_in (fields r)) (fields r)

-- the fault of record k, which starts at p, or else what comes behind it
abbrev pub or_go_on : ℕ → ℕ → Fault → Answer → Answer
or_go_on p k Fine a = a
or_go_on p k (Stop x o i) a = refused x (p + o) k i

-- the answer from record k on, which starts at p
unfoldable pub walk_of : Due → ℕ → ℕ → Lines → Answer
walk_of st p k (rest t) =
    cond (is_end st.expect)
    (cond (eqb (length t) 0) (accepted (st.version ∷ st.channels ∷ st.days ∷ [])) (refused 13 p k 0))
    (refused 2 p k 0)
walk_of st p k (line r ls) =
    cond (is_end st.expect) (refused 13 p k 0) (or_go_on p k (fault_of st r) (walk_of (after st r) (p + length r + 2) (k + 1) ls))

abbrev pub most : ℕ
most = 1048576

-- what a check of the file answers: version, channels, days; or the first refusal
unfoldable pub check_of : List ℕ → Answer
check_of file = cond (ltb most (length file)) (refusal 1) (walk_of begun 0 0 (lines file))

-- the file is accepted
abbrev pub IsAccepted : List ℕ → Type 0
IsAccepted file = (xs : List ℕ) × (check_of file ≡ accepted xs)

-- ---- a block on its own

-- The tickets of 02: "bytes that are accepted as one day block behind a 200 of a given interval length and unit, without a date before it. [..] Its refusals
-- have places and record numbers counted from the block's start." Its tests are the file's, in the file's order, and those below.

-- behind a 200 of n intervals whose values have at most d decimals
abbrev pub behind200 : ℕ → ℕ → Due
behind200 n d = due first300 12 n d 0 0 0

-- "first record must be a 300" (no other may come behind a 200), "and what follows may only be a 400 or a 500"
unfoldable pub is_foreign : Due → ℕ → Bool
is_foreign st k = in_day st.expect && not (eqb k 400 || eqb k 500)

-- "(else 4; a 10 is asked before it, as in a file)"
unfoldable pub block_fault_of : Due → List ℕ → Fault
block_fault_of st r =
    f3 r ▹ f10 st (kind_in (fields r)) ▹ stop (is_foreign st (kind_in (fields r))) 4 0 0 ▹ fault_of st r

-- where the block's bytes end, behind k records, at p: "the bytes end where a V day's cover is short: 10 at the block's end, record number the count of its
-- records"; else they are a block, and x is what it says
unfoldable pub end_of : List ℕ → Due → ℕ → ℕ → Answer
end_of x st p k = cond (is_open st 0) (refused 10 p k 0) (accepted (x ++ k ∷ []))

-- the answer from record k on, which starts at p: "no CR LF from here on: 2 at the record's start; no bytes at all: 2 at 0"
unfoldable pub block_walk_of : List ℕ → Due → ℕ → ℕ → Lines → Answer
block_walk_of x st p k (rest t) = cond (in_day st.expect && eqb (length t) 0) (end_of x st p k) (refused 2 p k 0)
block_walk_of x st p k (line r ls) = or_go_on p k (block_fault_of st r) (block_walk_of x (after st r) (p + length r + 2) (k + 1) ls)

-- what the first of the lines says, as a 300 of n intervals: date, n, update time, load time
abbrev pub top_says : ℕ → Lines → List ℕ
top_says n (line r ls) = date_in (fields r) ∷ n ∷ update_in n (fields r) ∷ load_in n (fields r) ∷ []
top_says n (rest t) = []

-- what a check of the block answers, behind a 200 of so many minutes and that unit: date, n, update time, load time and its number of records, or the first
-- refusal; "An interval length or unit that is none: 16, before all else."
unfoldable pub block_check_of : ℕ → ℕ → List ℕ → Answer
block_check_of minutes unit block =
    cond (eqb (intervals_of minutes) 0 || not (is_unit unit)) (refusal 16)
    (block_walk_of (top_says (intervals_of minutes) (lines block)) (behind200 (intervals_of minutes) (decimals_of unit)) 0 0 (lines block))

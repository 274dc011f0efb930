-- The state in the code, which holds a description as a place of the file, and what the meaning's state says there.
use Rattle.std.specs.Prelude.{ℕ, ◌+◌, ◌≤◌, ◌≡◌, List, Bool, false, cond, length, leb, Result, Ok, Err}
use Rattle.ground.specs.Lists.{part}
use Rattle.format.specs.Quality.{Mark, no_method}
use Rattle.format.specs.Numbers.{no_reason}
use Rattle.format.specs.Cut.{fields}
use Rattle.format.specs.Order.{Shared, none_yet, all_have, they_differ, share_with, are_alike, Due, after_of}
use Rattle.format.specs.File.{after}
use Rattle.format.specs.Faults.{◌▹◌, scale_of, f7, f8, f9, f11, f12, fault_in, fault_of, Fault, Fine, Stop}
use Rattle.format.specs.declared.Tag.{Tag}
use Rattle.lines.specs.Places.{Starts}
use Rattle.follows.specs.Tests.{mark_of, expected_as}
use Rattle.record.specs.Walk.{Typed, Sound}
use Rattle.order.specs.declared.State.{State}
use Rattle.record.specs.declared.BadField.{BadField}
use Rattle.order.specs.declared.Stop as stop

-- ---- the state

-- what the day's 400s so far have in common, where the next has to start at this interval: the mark of the first, if they are alike
abbrev pub shared_as : List ℕ → ℕ → Tag → Bool → Shared
shared_as file next t alike = cond (leb next 1) none_yet (cond alike (all_have (mark_of file t)) they_differ)

-- what the code's state says
abbrev pub seen : List ℕ → State → Due
seen file st =
    record {
      expect = expected_as st.expect;
      version = st.version;
      n = st.n;
      decimals = st.decimals;
      date = st.date;
      next = st.next;
      shared = shared_as file st.next st.mark st.alike;
      channels = st.channels;
      days = st.days;
    }

abbrev pub no_tag : Tag
no_tag = record { flag = 0; method = no_method; reason = no_reason; start = 0; length = 0 }

-- where no V day is open
abbrev pub closed : ℕ → ℕ → ℕ → ℕ → ℕ → ℕ → ℕ → State
closed x v n m t c d = record { expect = x; version = v; n = n; decimals = m; date = t; next = 0; mark = no_tag; alike = false; channels = c; days = d }

-- the number stands for a state, a V day's intervals are counted from 1, the description lies in the file, and no count is past the place that the walk has come to
pub record Kept (file : List ℕ) (at : ℕ) (st : State) : Type 0 where
  pub known : st.expect ≤ 9
  pub begun : st.expect ≡ 4 → 1 ≤ st.next
  pub within : st.mark.start + st.mark.length ≤ length file
  pub small : st.n ≤ 288
  pub few : st.decimals ≤ 6
  pub channels : st.channels ≤ at
  pub days : st.days ≤ at

-- the fields of the record from at to e
abbrev pub cells : List ℕ → ℕ → ℕ → List (List ℕ)
cells file at e = fields (part file at e)

-- its field i starts at a
abbrev pub Here : List ℕ → ℕ → ℕ → ℕ → ℕ → Type 0
Here file at e i a = Starts file (cells file at e) at i a e

-- the state s is what is due behind a record that ends at e
pub record After (file : List ℕ) (e : ℕ) (st : Due) (s : State) : Type 0 where
  pub is : seen file s ≡ st
  pub kept : Kept file (e + 1) s

-- ---- a step

-- what comes of a record: the state behind it, or its first fault
pub data Next : Type 0 where
  goes : Due → Next
  stops : ℕ → ℕ → ℕ → Next

abbrev pub or_stop : Fault → Due → Next
or_stop Fine st = goes st
or_stop (Stop x o i) st = stops x o i

unfoldable pub next_of : Due → List ℕ → Next
next_of st r = or_stop (fault_of st r) (after st r)

-- the faults that are asked for once every field meets its rule
unfoldable pub late_of : Due → ℕ → List (List ℕ) → Fault
late_of st k fs = f7 k (scale_of st k fs).n fs ▹ f8 st k fs ▹ f9 st k fs ▹ f11 st k fs ▹ f12 st k fs

-- from 6 on: what comes of a record whose kind may come and whose fields are as many as they have to be
unfoldable pub further_of : Due → ℕ → List (List ℕ) → Next
further_of st k fs = or_stop (fault_in k (scale_of st k fs) 0 0 fs ▹ late_of st k fs) (after_of st k fs)

unfoldable pub last_of : Due → ℕ → List (List ℕ) → Next
last_of st k fs = or_stop (late_of st k fs) (after_of st k fs)

-- what the code's step says
-- a field that breaks its rule is 6
abbrev pub stop_of : BadField → stop.Stop
stop_of b = record { number = 6; place = b.place; field = b.field }

abbrev pub step_as : List ℕ → Result State stop.Stop → Next
step_as file (Ok st) = goes (seen file st)
step_as file (Err x) = stops x.number x.place x.field

-- behind a record that ends at e the state is kept; a fault's place lies in the record
abbrev pub Holds : List ℕ → ℕ → ℕ → Result State stop.Stop → Type 0
Holds file at e (Ok st) = Kept file (e + 1) st
Holds file at e (Err x) = at + x.place ≤ e

-- with this mark, all of the day's 400s have one
unfoldable pub alike_to : Due → Mark → Bool
alike_to st m = are_alike (share_with st.shared m)

-- a record of the kind k whose fields meet their rules, with the places that are asked for
pub record Ready (file : List ℕ) (at e k p q : ℕ) (st : State) : Type 0 where
  pub kept : Kept file at st
  pub typed : Typed file at e k (scale_of (seen file st) k (cells file at e))
  pub sound : Sound file at e k (scale_of (seen file st) k (cells file at e)) p q

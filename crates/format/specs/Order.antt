-- 01, Records: "Order: a 100; then for NEM12 one or more 200s, each with one or more day blocks, and for NEM13 one or more 250s, each with at most one 550;
-- then a 900 and the end of the file. Under a 300 come its 400s, then any number of 500s. 400s stand only under a 300 of quality V (H)."
-- And, in A day: "What may come next travels as one state, handed in and handed back at each record."
use Rattle.std.specs.Prelude.{ℕ, ◌+◌, List, [], ◌∷◌, Bool, true, false, cond, ◌||◌, length, eqb}
use Rattle.format.specs.Quality.{flag_v, flag_in, quality_of, Mark, same_mark}
use Rattle.format.specs.Cut.{field}
use Rattle.format.specs.Records.{version_in, intervals_in, decimals_in, date_in, last_in, quality300, mark_in}

-- ---- what may come next

pub data Expected : Type 0 where
  -- "a 100"
  the100 : Expected
  -- "then for NEM12 one or more 200s": its first
  first200 : Expected
  -- "each with one or more day blocks": a 200's first 300
  first300 : Expected
  -- under a 300 of another quality than V
  under_day : Expected
  -- "400s stand only under a 300 of quality V (H)": under one, with its 400s
  under_varied : Expected
  -- "then any number of 500s": behind one
  behind500 : Expected
  -- "for NEM13 one or more 250s": its first
  first250 : Expected
  -- "each with at most one 550": behind a 250, and behind its 550
  behind250 : Expected
  behind550 : Expected
  -- "then a 900 and the end of the file"
  the_end : Expected

-- the kinds of the records that may come there; a day may end (10 keeps a V day open until its cover is complete)
abbrev pub kinds_at : Expected → List ℕ
kinds_at the100 = 100 ∷ []
kinds_at first200 = 200 ∷ []
kinds_at first300 = 300 ∷ []
kinds_at under_day = 200 ∷ 300 ∷ 500 ∷ 900 ∷ []
kinds_at under_varied = 200 ∷ 300 ∷ 400 ∷ 500 ∷ 900 ∷ []
kinds_at behind500 = 200 ∷ 300 ∷ 500 ∷ 900 ∷ []
kinds_at first250 = 250 ∷ []
kinds_at behind250 = 250 ∷ 550 ∷ 900 ∷ []
kinds_at behind550 = 250 ∷ 900 ∷ []
kinds_at the_end = []

abbrev pub is_one_of : ℕ → List ℕ → Bool
is_one_of k [] = false
is_one_of k (j ∷ js) = eqb k j || is_one_of k js

-- a record of the kind k may come where x is expected
abbrev pub may_come : Expected → ℕ → Bool
may_come x k = is_one_of k (kinds_at x)

-- under a day, V or not, or behind a 500: where a 500 may come
abbrev pub in_day : Expected → Bool
in_day x = may_come x 500

-- under a V day: where a 400 may come
abbrev pub in_varied : Expected → Bool
in_varied x = may_come x 400

-- behind the 900: where no record may come
abbrev pub is_end : Expected → Bool
is_end x = eqb (length (kinds_at x)) 0

-- 01, A day: "If all its intervals have the same quality, reason and description": what the marks of a day's 400s so far have in common
pub data Shared : Type 0 where
  -- there is none yet
  none_yet : Shared
  -- all have this mark
  all_have : Mark → Shared
  they_differ : Shared

-- with one more
abbrev pub share_with : Shared → Mark → Shared
share_with none_yet m = all_have m
share_with (all_have a) m = cond (same_mark a m) (all_have a) they_differ
share_with they_differ m = they_differ

abbrev pub are_alike : Shared → Bool
are_alike none_yet = false
are_alike (all_have m) = true
are_alike they_differ = false

pub record Due : Type 0 where
  pub expect : Expected
  -- 12 or 13, once the 100 is read
  pub version : ℕ
  -- n of the channel, and how many decimals its values may have
  pub n : ℕ
  pub decimals : ℕ
  -- the date of the day before, in this 200
  pub date : ℕ
  -- the interval at which the next 400 has to start
  pub next : ℕ
  -- what the day's 400s so far have in common
  pub shared : Shared
  -- so far
  pub channels : ℕ
  pub days : ℕ

-- where no V day is open
abbrev pub due : Expected → ℕ → ℕ → ℕ → ℕ → ℕ → ℕ → Due
due x v n m t c d = record { expect = x; version = v; n = n; decimals = m; date = t; next = 0; shared = none_yet; channels = c; days = d }

-- before the first record
abbrev pub begun : Due
begun = due the100 0 0 0 0 0 0

-- ---- what a record does to the state, where it has no fault

-- a 300 of n intervals has quality V
unfoldable pub is_varied : ℕ → List (List ℕ) → Bool
is_varied n fs = eqb (flag_in (quality_of 300 (field (quality300 n) fs))) flag_v

-- with this 400, all of the day's 400s have one mark
unfoldable pub alike_with : Due → List (List ℕ) → Bool
alike_with st fs = are_alike (share_with st.shared (mark_in fs))

abbrev pub on100 : Due → List (List ℕ) → Due
on100 st fs = due (cond (eqb (version_in fs) 12) first200 first250) (version_in fs) 0 0 0 0 0

abbrev pub on200 : Due → List (List ℕ) → Due
on200 st fs = due first300 st.version (intervals_in fs) (decimals_in fs) 0 (st.channels + 1) st.days

abbrev pub on300 : Due → List (List ℕ) → Due
on300 st fs =
    record {
      expect = cond (is_varied st.n fs) under_varied under_day;
      version = st.version;
      n = st.n;
      decimals = st.decimals;
      date = date_in fs;
      next = 1;
      shared = none_yet;
      channels = st.channels;
      days = st.days + 1;
    }

abbrev pub on400 : Due → List (List ℕ) → Due
on400 st fs =
    record {
      expect = under_varied;
      version = st.version;
      n = st.n;
      decimals = st.decimals;
      date = st.date;
      next = last_in fs + 1;
      shared = share_with st.shared (mark_in fs);
      channels = st.channels;
      days = st.days;
    }

abbrev pub on500 : Due → List (List ℕ) → Due
on500 st fs = due behind500 st.version st.n st.decimals st.date st.channels st.days

abbrev pub on250 : Due → List (List ℕ) → Due
on250 st fs = due behind250 st.version 0 0 0 (st.channels + 1) st.days

abbrev pub on550 : Due → List (List ℕ) → Due
on550 st fs = due behind550 st.version 0 0 0 st.channels st.days

abbrev pub on900 : Due → List (List ℕ) → Due
on900 st fs = due the_end st.version 0 0 0 st.channels st.days

-- after a record of the kind k
unfoldable pub after_of : Due → ℕ → List (List ℕ) → Due
after_of st k fs =
    cond (eqb k 100) (on100 st fs)
    (cond (eqb k 200) (on200 st fs)
    (cond (eqb k 300) (on300 st fs)
    (cond (eqb k 400) (on400 st fs)
    (cond (eqb k 500) (on500 st fs)
    (cond (eqb k 250) (on250 st fs)
    (cond (eqb k 550) (on550 st fs) (on900 st fs)))))))

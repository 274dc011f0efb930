-- The first fault, as 01's section Refusal numbers has it: for each number from 3 to 12 when it is "given" and at which "place", one entry each; their order,
-- "In one record: 2, 3, 10, 4, 5, 6 (leftmost field), 7 (leftmost quality), 8 or 9, 11 or 12"; and when a check of a whole file gives which number.
use Rattle.std.specs.Prelude.{ℕ, zero, suc, ◌+◌, ◌≤◌, ◌<◌, ◌≡◌, ◌≢◌, ◌⊎◌, List, [], ◌∷◌, true, false, length, take, get_or}
use Rattle.ground.specs.Lists.{all}
use Rattle.format.specs.Bytes.{plain}
use Rattle.format.specs.Cut.{Lines, line, rest, lines, fields, field, start_of}
use Rattle.format.specs.Records.{Scale, kind_in, count_of, rule_of, obeys, date_in, first_in, last_in, read_time_in, qualities_of, mark_at}
use Rattle.format.specs.Order.{may_come, in_varied, is_end, Due, begun, alike_with}
use Rattle.format.specs.Faults.{scale_of}
use Rattle.format.specs.File.{after}
use Rattle.theorems.specs.Grammar.{Record, Together, Within}
use Rattle.theorems.specs.Places.{place_of, past, state_at}

-- ---- the table

-- a refusal's number, and when it is given at a place, counted from the record's start, with a field's number from 1 or 0
pub record Entry : Type 1 where
  pub number : ℕ
  pub given : ℕ → ℕ → Type 0

-- of a list of field numbers from 0, j is the first that does not have the property
abbrev pub Leftmost : (ℕ → Type 0) → ℕ → List ℕ → Type 0
Leftmost P j [] = ⊥
Leftmost P j (a ∷ js) = ((j ≡ a) × (P a → ⊥)) ⊎ (P a × Leftmost P j js)

-- "byte outside 0x20 to 0x7E in the record, a lone CR or LF too": that byte
abbrev pub entry3 : List ℕ → Entry
entry3 r = record { number = 3; given = λ o i. (o < length r) × (all plain (take o r) ≡ true) × (plain (get_or r o 0) ≡ false) × (i ≡ 0) }

-- of a record of the kind k with the fields fs, where st is the state before it, and its rules are made from z
module _ (st : Due) (k : ℕ) (z : Scale) (fs : Record) where
  -- "a V day's cover isn't complete and this record isn't a 400": record start
  abbrev pub entry10 : Entry
  entry10 = record { number = 10; given = λ o i. (in_varied st.expect ≡ true) × (st.next ≤ st.n) × (k ≢ 400) × (o ≡ 0) × (i ≡ 0) }

  -- "first field is no indicator, or this record may not come here": record start
  abbrev pub entry4 : Entry
  entry4 = record { number = 4; given = λ o i. (may_come st.expect k ≡ false) × (o ≡ 0) × (i ≡ 0) }

  -- "wrong number of fields": record start
  abbrev pub entry5 : Entry
  entry5 = record { number = 5; given = λ o i. (length fs ≢ count_of k z) × (o ≡ 0) × (i ≡ 0) }

  -- "a field breaks its rule or has an end space": field start, leftmost field
  abbrev pub entry6 : Entry
  entry6 = record {
    number = 6;
    given = λ o i.
        ((j : ℕ) × (j < length fs) × (obeys k (rule_of k z j) (field j fs) ≡ false) × ((l : ℕ) → l < j → obeys k (rule_of k z l) (field l fs) ≡ true)
        × (o ≡ start_of j fs) × (i ≡ j + 1));
  }

  -- "a rule across fields is broken": start of the quality field, leftmost quality
  abbrev pub entry7 : Entry
  entry7 = record {
    number = 7;
    given = λ o i. ((j : ℕ) × Leftmost (λ a. Together (mark_at k a fs)) j (qualities_of k z.n) × (o ≡ start_of j fs) × (i ≡ j + 1));
  }

  -- "date not later than the day before it in this 200": date field
  abbrev pub entry8 : Entry
  entry8 = record { number = 8; given = λ o i. (k ≡ 300) × (date_in fs ≤ st.date) × (o ≡ start_of 1 fs) × (i ≡ 2) }

  -- "a 400's start or end breaks the cover rule": start field
  abbrev pub entry9 : Entry
  entry9 = record {
    number = 9;
    given = λ o i. (k ≡ 400) × ((first_in fs ≡ st.next) × (first_in fs ≤ last_in fs) × (last_in fs ≤ st.n) → ⊥) × (o ≡ start_of 1 fs) × (i ≡ 2);
  }

  -- "the 400 that completes the cover leaves the whole day alike": record start
  abbrev pub entry11 : Entry
  entry11 = record { number = 11; given = λ o i. (k ≡ 400) × (last_in fs ≡ st.n) × (alike_with st fs ≡ true) × (o ≡ 0) × (i ≡ 0) }

  -- "read time's date differs", as 02, 1 mends it: read time field
  abbrev pub entry12 : Entry
  entry12 = record {
    number = 12;
    given = λ o i. (k ≡ 500) × (read_time_in fs ≢ 0) × (Within st.date (read_time_in fs) → ⊥) × (o ≡ start_of 3 fs) × (i ≡ 4);
  }

-- ---- their order

abbrev pub in_order : Due → List ℕ → List Entry
in_order st r =
    let fs = fields r in
    let k = kind_in fs in
    let z = scale_of st k fs in
    entry3 r ∷ entry10 st k z fs ∷ entry4 st k z fs ∷ entry5 st k z fs ∷ entry6 st k z fs ∷ entry7 st k z fs ∷ entry8 st k z fs ∷ entry9 st k z fs
    ∷ entry11 st k z fs ∷ entry12 st k z fs ∷ []

-- the entry is given nowhere
abbrev pub Never : Entry → Type 0
Never c = (o i : ℕ) → c.given o i → ⊥

-- none of the entries is given
abbrev pub None : List Entry → Type 0
None [] = Unit {0}
None (c ∷ cs) = Never c × None cs

-- the first entry that is given has the number x, and is given at o with the field i
abbrev pub First : ℕ → ℕ → ℕ → List Entry → Type 0
First x o i [] = ⊥
First x o i (c ∷ cs) = ((x ≡ c.number) × c.given o i) ⊎ (Never c × First x o i cs)

-- ---- the file

-- there are k records, none of them behind the 900, and of none is an entry given after those before it
abbrev pub Clear : ℕ → Due → Lines → Type 0
Clear zero st ls = Unit {0}
Clear (suc k) st (line r ls) = (is_end st.expect ≡ false) × None (in_order st r) × Clear k (after st r) ls
Clear (suc k) st (rest t) = ⊥

-- the number x with place q, record k and field i is given to the file
pub data GivenTo (file : List ℕ) (x q k i : ℕ) : Type 0 where
  -- "file longer than 1,048,576 bytes", "asked before all else"
  too_long : 1048576 < length file → x ≡ 1 → q ≡ 0 → k ≡ 0 → i ≡ 0 → GivenTo file x q k i
  -- "no CR LF from here to the end, 900 not yet read": record start
  no_end : length file ≤ 1048576 → Clear k begun (lines file) → (t : List ℕ) → past k (lines file) ≡ rest t → is_end (state_at k file).expect ≡ false
      → x ≡ 2 → q ≡ place_of k file → i ≡ 0 → GivenTo file x q k i
  -- record k, with the bytes r, is the first of which an entry is given
  at-fault : length file ≤ 1048576 → Clear k begun (lines file) → (r : List ℕ) (more : Lines) → past k (lines file) ≡ line r more → is_end (state_at k file).expect ≡ false
      → (o : ℕ) → First x o i (in_order (state_at k file) r) → q ≡ place_of k file + o → GivenTo file x q k i
  -- "bytes after the 900 record": first of them
  behind-end : length file ≤ 1048576 → Clear k begun (lines file) → place_of k file < length file → is_end (state_at k file).expect ≡ true
      → x ≡ 13 → q ≡ place_of k file → i ≡ 0 → GivenTo file x q k i

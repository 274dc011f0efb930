-- What the grammar of a file has a reading answer and leave: a day, and a channel's total.
use Rattle.std.specs.Prelude.{ℕ, ◌+◌, ◌^◌, ◌≤◌, ◌<◌, ◌≡◌, true, false, List, [], ◌∷◌, map, length, drop}
use Rattle.format.specs.Answers.{Answer, accepted, refusal}
use Rattle.format.specs.Day.{Day, Five, Outcome, outcome, over, over_five, room_for}
use Rattle.format.specs.declared.Tag.{Tag}
use Rattle.theorems.specs.Grammar.{Each, Content}
use Rattle.theorems.specs.Days.{meanings, totals}
use Rattle.shortest.specs.Blocks.{mark_of}

-- "the start and length of its description in the file (start 0 if the length is 0)"
abbrev pub Points : List ℕ → Tag → Type 0
Points file t = (t.start + t.length ≤ length file) × (t.length ≡ 0 → t.start ≡ 0)

-- what a reading of day k answers and leaves, in lists that held vs and ms
pub record ReadExactly (file : List ℕ) (k : ℕ) (content : Content) (vs : List ℕ) (ms : Five) (left : Outcome) : Type 0 where
  -- the grammar's day k: days are "numbered from 0 in file order"
  pub day : Day
  pub more : List Day
  pub is : drop k (meanings content) ≡ day ∷ more
  -- of each interval the flag, method and reason, and a start and length at which the file's bytes are the description
  pub tags : List Tag
  pub marks : map (mark_of file) tags ≡ day.marks
  pub points : Each (Points file) tags
  -- the lists are long enough: "The answer also has the date, n, update time and load time", and by 02, 8, the unit; "Lists longer than n keep their tail"
  pub reads : room_for day.n vs ms ≡ true
      → left ≡ outcome (accepted (day.date ∷ day.n ∷ day.update ∷ day.load ∷ day.unit ∷ [])) (over day.values vs) (over_five tags ms)
  -- "a lent list [..] is too short"
  pub short : room_for day.n vs ms ≡ false → left ≡ outcome (refusal 15) vs ms

-- what a channel's total is answered as
pub record TotalExactly (channel : ℕ) (content : Content) (answer : Answer) : Type 0 where
  -- the grammar's total of it
  pub total : ℕ
  pub more : List ℕ
  pub is : drop channel (totals content) ≡ total ∷ more
  pub answered : answer ≡ accepted (total ∷ [])
  -- 02, request 7: 64 bits hold it
  pub below : total < 2 ^ 64

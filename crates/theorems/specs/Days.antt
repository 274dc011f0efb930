-- What the grammar's blocks and channels say: the days of a file with the places of their records, what each means, the day that bytes are as a block, and the
-- channels' values and totals.
use Rattle.std.specs.Prelude.{ℕ, ◌+◌, ◌≡◌, List, [], ◌∷◌, ◌++◌, map, length, drop}
use Rattle.ground.specs.Lists.{sum}
use Rattle.format.specs.Records.{unit_in, decimals_in, intervals_in, values_in, quantity_in}
use Rattle.format.specs.Day.{Row, BlockRows, DayRows, days_of, Day, day_of}
use Rattle.theorems.specs.Grammar.{Record, join, text, IsRecord, Block, IsBlock, Channel, Reading, Content, nem12, nem13, InFormat}

-- ---- places

-- the place behind these records, the first of which starts at p
abbrev pub behind : ℕ → List Record → ℕ
behind p [] = p
behind p (r ∷ rs) = behind (p + length (join r) + 2) rs

-- a record that starts at p
abbrev pub record_at : ℕ → Record → Row
record_at p r = record { place = p; cells = r }

-- records one after another from p on, with their places
abbrev pub rows_at : ℕ → List Record → List Row
rows_at p [] = []
rows_at p (r ∷ rs) = record_at p r ∷ rows_at (p + length (join r) + 2) rs

-- ---- days

abbrev pub rows_of : Block → List Record
rows_of b = b.top ∷ (b.runs ++ b.extra)

-- a block of n intervals in the unit u at p, with the places of its records
abbrev pub block_at : ℕ → ℕ → ℕ → Block → BlockRows
block_at p n u b = record { n = n; unit = u; top = record_at p b.top; runs = rows_at (p + length (join b.top) + 2) b.runs }

-- the day that a block at p is under the 200 c
abbrev pub day_at : ℕ → Row → Block → DayRows
day_at p c b = record { channel = c; block = block_at p (intervals_in c.cells) (unit_in c.cells) b }

abbrev pub block_days : ℕ → Row → List Block → List DayRows
block_days p c [] = []
block_days p c (b ∷ bs) = day_at p c b ∷ block_days (behind p (rows_of b)) c bs

abbrev pub behind_blocks : ℕ → List Block → ℕ
behind_blocks p [] = p
behind_blocks p (b ∷ bs) = behind_blocks (behind p (rows_of b)) bs

abbrev pub channel_days : ℕ → List Channel → List DayRows
channel_days p [] = []
channel_days p (c ∷ cs) =
    block_days (p + length (join c.head) + 2) (record_at p c.head) c.blocks
    ++ channel_days (behind_blocks (p + length (join c.head) + 2) c.blocks) cs

-- the days of a content at p; "A NEM13 file has no days."
abbrev pub content_days : ℕ → Content → List DayRows
content_days p (nem12 cs) = channel_days p cs
content_days p (nem13 rs) = []

-- ---- what they mean: date, n, unit, times, values and marks, whatever their places

-- a block as a day of n intervals in the unit u
unfoldable pub day_in : ℕ → ℕ → Block → Day
day_in n u b = day_of (block_at 0 n u b)

-- the day d with its unit u
abbrev pub in_unit : ℕ → Day → Day
in_unit u d = record { date = d.date; n = d.n; unit = u; update = d.update; load = d.load; values = d.values; marks = d.marks }

-- a day of a file
abbrev pub meant : DayRows → Day
meant x = day_of x.block

abbrev pub block_meanings : ℕ → ℕ → List Block → List Day
block_meanings n u [] = []
block_meanings n u (b ∷ bs) = day_in n u b ∷ block_meanings n u bs

abbrev pub channel_meanings : List Channel → List Day
channel_meanings [] = []
channel_meanings (c ∷ cs) = block_meanings (intervals_in c.head) (unit_in c.head) c.blocks ++ channel_meanings cs

abbrev pub meanings : Content → List Day
meanings (nem12 cs) = channel_meanings cs
meanings (nem13 rs) = []

-- in some way in which the file is in the format, its day k is this one
pub record Means (file : List ℕ) (k : ℕ) (day : Day) : Type 0 where
  pub v : ℕ
  pub c : ℕ
  pub d : ℕ
  pub how : InFormat file v c d
  pub more : List Day
  pub is : drop k (meanings how.content) ≡ day ∷ more

-- the bytes s are, as a block behind this 200, the day
pub record ReadsAs (head : Record) (s : List ℕ) (day : Day) : Type 0 where
  pub is-head : IsRecord 200 0 0 head
  pub block : Block
  pub good : IsBlock (intervals_in head) (decimals_in head) block
  pub bytes : s ≡ text (rows_of block)
  pub is : day ≡ day_in (intervals_in head) (unit_in head) block

-- the file of a 100, a 200, these bytes and a 900
abbrev pub around : Record → Record → List ℕ → Record → List ℕ
around header head s last = text (header ∷ head ∷ []) ++ (s ++ text (last ∷ []))

-- at p in the file stands a block that is this day
pub record StandsAt (file : List ℕ) (p : ℕ) (day : Day) : Type 0 where
  pub before : List ℕ
  pub block : List ℕ
  pub after : List ℕ
  pub is : file ≡ before ++ (block ++ after)
  pub place : length before ≡ p
  pub head : Record
  pub reads : ReadsAs head block day

-- the file's day k has one meaning: it is what a reading finds, it stands in the file at its place, and no other day is day k
pub record OneDay (file : List ℕ) (k : ℕ) : Type 0 where
  pub rows : DayRows
  pub more : List DayRows
  pub found : drop k (days_of file) ≡ rows ∷ more
  pub means : Means file k (meant rows)
  pub only : (other : Day) → Means file k other → other ≡ meant rows
  pub stands : StandsAt file rows.block.top.place (meant rows)

-- ---- totals: "A 200's total is the sum of its days' values; a 250's is its quantity."

-- the values of a 200's days, each of n intervals
abbrev pub block_values : ℕ → List Block → List ℕ
block_values n [] = []
block_values n (b ∷ bs) = values_in n b.top ++ block_values n bs

abbrev pub channel_values : List Channel → List (List ℕ)
channel_values [] = []
channel_values (c ∷ cs) = block_values (intervals_in c.head) c.blocks ∷ channel_values cs

abbrev pub reading_values : List Reading → List (List ℕ)
reading_values [] = []
reading_values (r ∷ rs) = (quantity_in r.head ∷ []) ∷ reading_values rs

-- the values that each channel adds up
abbrev pub values : Content → List (List ℕ)
values (nem12 cs) = channel_values cs
values (nem13 rs) = reading_values rs

-- how many they are in all
abbrev pub value_count : Content → ℕ
value_count x = sum (map length (values x))

abbrev pub totals : Content → List ℕ
totals x = map sum (values x)

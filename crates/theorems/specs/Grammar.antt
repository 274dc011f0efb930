-- The format as a grammar: what a file is made of, in the words of 01's sections Records, Fields and A day and of 02, and the bytes that this writes. It
-- says nothing of how a file is read: no refusal, no order of tests, no place, no state. What a single field may hold is cited from the meaning (`row_of`,
-- `obeys`), and so are what one field says (`date_in`, `first_in`, ..), how many decimals a unit allows (`decimals_in`, `scale_for`) and the day after a date
-- (`day_after`).
use Rattle.std.specs.Prelude.{ℕ, ◌+◌, ◌*◌, ◌/◌, ◌%◌, ◌≤◌, ◌<◌, ◌≡◌, ◌≢◌, ◌⊎◌, List, [], ◌∷◌, ◌++◌, true, false, length}
use Rattle.ground.specs.Lists.{all}
use Rattle.format.specs.Bytes.{field_byte, end_space}
use Rattle.format.specs.Numbers.{no_reason}
use Rattle.format.specs.Dates.{day_after}
use Rattle.format.specs.Quality.{flag_s, flag_f, flag_v, Mark}
use Rattle.format.specs.Cut.{field}
use Rattle.format.specs.Records.{kind_in, row_of, obeys, version_in, decimals_in, intervals_in, scale_for, date_in, first_in, last_in, read_time_in, qualities_of, mark_at, mark_in}
use Rattle.format.specs.Order.{is_varied}
use Rattle.format.specs.declared.Rule.{Rule}

-- ---- words for lists

-- each element has the property
abbrev pub Each : {A : Type 0} → (A → Type 0) → List A → Type 0
Each P [] = Unit {0}
Each P (x ∷ xs) = P x × Each P xs

-- each number is less than the next
abbrev pub Rising : List ℕ → Type 0
Rising [] = Unit {0}
Rising (a ∷ []) = Unit {0}
Rising (a ∷ b ∷ ts) = (a < b) × Rising (b ∷ ts)

-- ---- the bytes of records

-- a record is its fields, in their order
abbrev pub Record : Type 0
Record = List (List ℕ)

-- "Fields are split by commas"
unfoldable pub join : Record → List ℕ
join [] = []
join (f ∷ []) = f
join (f ∷ g ∷ fs) = f ++ 44 ∷ join (g ∷ fs)

-- "Every record ends in CR LF."
unfoldable pub text : List Record → List ℕ
text [] = []
text (r ∷ rs) = join r ++ 13 ∷ 10 ∷ text rs

-- ---- one record

-- "Bytes are 0x20 to 0x7E", commas split fields "and none contains one", "No field begins or ends with a space."
abbrev pub Clean : List ℕ → Type 0
Clean f = (all field_byte f ≡ true) × (end_space f ≡ false)

-- the fields of a record of the kind k meet these rules, one for one
abbrev pub Meets : ℕ → List Rule → Record → Type 0
Meets k [] [] = Unit {0}
Meets k [] (f ∷ fs) = ⊥
Meets k (u ∷ us) [] = ⊥
Meets k (u ∷ us) (f ∷ fs) = Clean f × (obeys k u f ≡ true) × Meets k us fs

-- "S and F need a reason. Reason 0 needs a description. V has neither."
pub record Together (m : Mark) : Type 0 where
  pub s-reason : m.flag ≡ flag_s → m.reason ≢ no_reason
  pub f-reason : m.flag ≡ flag_f → m.reason ≢ no_reason
  pub nought : m.reason ≡ 0 → 1 ≤ length m.text
  pub v-neither : m.flag ≡ flag_v → (m.reason ≡ no_reason) × (length m.text ≡ 0)

-- a record of the kind k: its first field is that indicator, its fields are those of the table's row, and where it has a quality (a 250 has two), the rules
-- across fields hold. n is the number of a 300's intervals, and d how many decimals its values may have, both 0 for the other kinds: 02, 8 refuses "a value with
-- more decimals than its unit allows". A 250 has its own unit, and "01's limits [..] stand alone for the quantity of a 250 whose unit isn't known"
pub record IsRecord (k n d : ℕ) (fs : Record) : Type 0 where
  pub indicator : kind_in fs ≡ k
  pub meets : Meets k (row_of k (scale_for k n d fs)) fs
  pub together : Each (λ i. Together (mark_at k i fs)) (qualities_of k n)

-- ---- a day

-- "A day block is a 300 record with the 400 and 500 records under it."
pub record Block : Type 0 where
  pub top : Record
  pub runs : List Record
  pub extra : List Record

-- 400s that "cover intervals [a] to n in order: the first starts at [a], each next at the last end plus 1, none ends before it starts or after n"
abbrev pub Covers : ℕ → ℕ → List Record → Type 0
Covers n a [] = a ≡ n + 1
Covers n a (r ∷ rs) = (first_in r ≡ a) × (first_in r ≤ last_in r) × (last_in r ≤ n) × Covers n (last_in r + 1) rs

-- each of these 400s gives its intervals this quality, reason and description
abbrev pub Marked : Mark → List Record → Type 0
Marked m rs = Each (λ r. mark_in r ≡ m) rs

-- "all its intervals have the same quality, reason and description" (a 400 has one interval or more)
abbrev pub Alike : List Record → Type 0
Alike rs = (m : Mark) × Marked m rs

-- 02, 1, of the date t: a read time x "has the 300's date with a time other than 00:00:00, or is 00:00:00 of the day after"
abbrev pub Within : ℕ → ℕ → Type 0
Within t x = ((x / 1000000 ≡ t) × (x % 1000000 ≢ 0)) ⊎ (x ≡ day_after t * 1000000)

-- a 500 under a day of the date t: its read time, "if given", is within that day
abbrev pub Extra : ℕ → Record → Type 0
Extra t fs = IsRecord 500 0 0 fs × (1 ≤ length (field 3 fs) → Within t (read_time_in fs))

-- a day of n intervals, whose values have at most d decimals
pub record IsBlock (n d : ℕ) (b : Block) : Type 0 where
  pub top : IsRecord 300 n d b.top
  pub runs : Each (IsRecord 400 0 0) b.runs
  pub extra : Each (Extra (date_in b.top)) b.extra
  -- "400s stand only under a 300 of quality V"
  pub only-v : is_varied n b.top ≡ false → b.runs ≡ []
  -- "A V day's 400s cover intervals 1 to n in order"
  pub covers : is_varied n b.top ≡ true → Covers n 1 b.runs
  -- or else "the day should not have been V"
  pub unlike : is_varied n b.top ≡ true → Alike b.runs → ⊥

abbrev pub dates_of : List Block → List ℕ
dates_of [] = []
dates_of (b ∷ bs) = date_in b.top ∷ dates_of bs

-- ---- a file

-- a 200 with its day blocks
pub record Channel : Type 0 where
  pub head : Record
  pub blocks : List Block

pub record IsChannel (c : Channel) : Type 0 where
  pub head : IsRecord 200 0 0 c.head
  -- "one or more day blocks"
  pub some : 1 ≤ length c.blocks
  -- each with the n of this 200's interval length and the decimals of its unit
  pub blocks : Each (IsBlock (intervals_in c.head) (decimals_in c.head)) c.blocks
  -- "Dates rise strictly within one 200"
  pub rising : Rising (dates_of c.blocks)

-- a 250 with its 550
pub record Reading : Type 0 where
  pub head : Record
  pub codes : List Record

pub record IsReading (r : Reading) : Type 0 where
  pub head : IsRecord 250 0 0 r.head
  -- "at most one 550"
  pub few : length r.codes ≤ 1
  pub codes : Each (IsRecord 550 0 0) r.codes

-- what stands between the 100 and the 900
pub data Content : Type 0 where
  nem12 : List Channel → Content
  nem13 : List Reading → Content

-- "for NEM12 one or more 200s [..] and for NEM13 one or more 250s"
abbrev pub IsContent : ℕ → Content → Type 0
IsContent v (nem12 cs) = (v ≡ 12) × (1 ≤ length cs) × Each IsChannel cs
IsContent v (nem13 rs) = (v ≡ 13) × (1 ≤ length rs) × Each IsReading rs

-- the records of each, and then those that follow
abbrev pub blocks_then : List Block → List Record → List Record
blocks_then [] t = t
blocks_then (b ∷ bs) t = b.top ∷ (b.runs ++ (b.extra ++ blocks_then bs t))

abbrev pub channels_then : List Channel → List Record → List Record
channels_then [] t = t
channels_then (c ∷ cs) t = c.head ∷ blocks_then c.blocks (channels_then cs t)

abbrev pub readings_then : List Reading → List Record → List Record
readings_then [] t = t
readings_then (r ∷ rs) t = r.head ∷ (r.codes ++ readings_then rs t)

abbrev pub content_then : Content → List Record → List Record
content_then (nem12 cs) t = channels_then cs t
content_then (nem13 rs) t = readings_then rs t

-- "A channel is one 200 or 250 record and a day is one 300 record"
abbrev pub channels_in : Content → ℕ
channels_in (nem12 cs) = length cs
channels_in (nem13 rs) = length rs

abbrev pub blocks_in : List Channel → ℕ
blocks_in [] = 0
blocks_in (c ∷ cs) = length c.blocks + blocks_in cs

abbrev pub days_in : Content → ℕ
days_in (nem12 cs) = blocks_in cs
days_in (nem13 rs) = 0

-- the file is a NEM12 or NEM13 file of the version v with c channels and d days: "a 100; then [its content]; then a 900 and the end of the file", of at most
-- so many bytes
pub record InFormatUpTo (most : ℕ) (file : List ℕ) (v c d : ℕ) : Type 0 where
  pub header : Record
  pub content : Content
  pub last : Record
  pub is-header : IsRecord 100 0 0 header
  pub is-content : IsContent v content
  pub is_last : IsRecord 900 0 0 last
  pub bytes : file ≡ text (header ∷ content_then content (last ∷ []))
  pub short : length file ≤ most
  pub version : v ≡ version_in header
  pub channels : c ≡ channels_in content
  pub days : d ≡ days_in content

-- of at most 1,048,576 bytes
abbrev pub InFormat : List ℕ → ℕ → ℕ → ℕ → Type 0
InFormat file v c d = InFormatUpTo 1048576 file v c d

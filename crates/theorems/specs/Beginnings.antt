-- The beginnings of files that are in the format, the length limit aside: which bytes go on to such a file, and which record may follow them there.
use Rattle.std.specs.Prelude.{ℕ, ◌+◌, ◌<◌, ◌≡◌, ◌≢◌, ◌⊎◌, List, [], ◌∷◌, ◌++◌, take}
use Rattle.format.specs.Cut.{Lines, line, rest, lines, fields}
use Rattle.format.specs.Records.{kind_in, date_in}
use Rattle.theorems.specs.Grammar.{InFormatUpTo}
use Rattle.theorems.specs.Places.{place_of, past}

-- ---- any bytes

-- the bytes s go on to a file that is in the format, however long
abbrev pub GoesOn : List ℕ → Type 0
GoesOn s = (more : List ℕ) × (most v c d : ℕ) × InFormatUpTo most (s ++ more) v c d

-- the bytes r are one record, without its CR LF
abbrev pub IsOne : List ℕ → Type 0
IsOne r = lines (r ++ 13 ∷ 10 ∷ []) ≡ line r (rest [])

-- in some file that is in the format, however long, the record r stands right behind the bytes s
abbrev pub MayFollow : List ℕ → List ℕ → Type 0
MayFollow s r = IsOne r × GoesOn (s ++ (r ++ 13 ∷ 10 ∷ []))

-- a record of the kind n may follow there
abbrev pub KindMayFollow : List ℕ → ℕ → Type 0
KindMayFollow s n = (r : List ℕ) × (kind_in (fields r) ≡ n) × MayFollow s r

-- ---- a file's records

-- the bytes before record k
abbrev pub bytes_before : ℕ → List ℕ → List ℕ
bytes_before k file = take (place_of k file) file

-- record k has the bytes r
abbrev pub HasRecord : ℕ → List ℕ → List ℕ → Type 0
HasRecord k file r = (more : Lines) × (past k (lines file) ≡ line r more)

-- ---- where no record of a kind is left

-- the day before record k in its 200 has the last date that there is: that of a 300 with no 200 between the two
pub record LastDate (k : ℕ) (file : List ℕ) : Type 0 where
  pub j : ℕ
  pub earlier : j < k
  pub top : List ℕ
  pub is : HasRecord j file top
  pub kind : kind_in (fields top) ≡ 300
  pub date : date_in (fields top) ≡ 21991231
  pub no-200 : (l : ℕ) (r : List ℕ) → j < l → l < k → HasRecord l file r → kind_in (fields r) ≢ 200

-- record k stands behind a complete cover: the record before it is a 400, and a 900 may follow
pub record CoverDone (k : ℕ) (file : List ℕ) : Type 0 where
  pub j : ℕ
  pub before : k ≡ j + 1
  pub run : List ℕ
  pub is : HasRecord j file run
  pub kind : kind_in (fields run) ≡ 400
  pub ends : KindMayFollow (bytes_before k file) 900

-- no record of the kind n may follow there, and this is why
abbrev pub NoneLeft : ℕ → ℕ → List ℕ → Type 0
NoneLeft n k file = (KindMayFollow (bytes_before k file) n → ⊥) × (((n ≡ 300) × LastDate k file) ⊎ ((n ≡ 400) × CoverDone k file))

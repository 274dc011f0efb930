-- A record and its fields as places of the file, for the contracts of the inner functions: at, a place where a record starts; e, where it ends,
-- which is where its CR LF stands or the file ends.
use Rattle.std.specs.Prelude.{ℕ, suc, ◌+◌, ◌-◌, ◌≤◌, ◌<◌, ◌≡◌, List, [], ◌∷◌, cond, length, take, drop, ltb}
use Rattle.ground.specs.Lists.{span_of, other, part}
use Rattle.format.specs.Bytes.{plain}
use Rattle.format.specs.Cut.{is_crlf, fields, field, start_of}

-- how many bytes stand before the first CR LF, or all where there is none
unfoldable pub line_len : List ℕ → ℕ
line_len [] = 0
line_len (b ∷ []) = 1
line_len (b ∷ c ∷ s) = cond (is_crlf b c) 0 (suc (line_len (c ∷ s)))

-- the record at a place ends at e
pub record LineEnd (file : List ℕ) (at e : ℕ) : Type 0 where
  pub order : at ≤ e
  pub within : e ≤ length file
  pub is : e ≡ at + line_len (drop at file)

-- no CR LF begins in the first i bytes, so that the first record's end may be looked for behind them
pub record Unended (s : List ℕ) (i : ℕ) : Type 0 where
  pub within : i ≤ length s
  pub same : line_len s ≡ i + line_len (drop i s)

-- the first `stop` bytes are plain, and `commas` of them are commas
pub record Scanned (s : List ℕ) (stop commas : ℕ) : Type 0 where
  pub within : stop ≤ length s
  pub few : commas ≤ stop
  pub span : span_of plain s ≡ stop + span_of plain (drop stop s)
  pub count : commas + 1 ≡ length (fields (take stop s))

-- the record at a place ends at e, its first byte that is not plain stands at `bad`, and so many commas before that byte
pub record Looked (file : List ℕ) (at e bad commas : ℕ) : Type 0 where
  pub ends : LineEnd file at e
  pub order : at ≤ bad
  pub within : bad ≤ e
  pub few : commas ≤ bad
  pub first : bad ≡ at + span_of plain (part file at e)
  pub count : commas + 1 ≡ length (fields (part file at bad))

-- from a to e stand at least m bytes, and no more than m before the first comma
pub record Stops (file : List ℕ) (a e m : ℕ) : Type 0 where
  pub room : m ≤ e - a
  pub span : span_of (other 44) (part file a e) ≤ m

-- in a record that ends at e, the field at a ends at b, which is the first comma or e, and the next one starts at x, behind that comma; x is e where
-- there is none. The rest follows: what that field is, and the fields behind it. One that is not there reads as an empty one, so nobody has to know how
-- many there are.
pub record Cut (file : List ℕ) (a e b x : ℕ) : Type 0 where
  pub to : b ≡ a + span_of (other 44) (part file a e)
  pub next : x ≡ cond (ltb b e) (b + 1) e
  pub order : a ≤ b
  pub on : b ≤ x
  pub ends : x ≤ e
  pub within : e ≤ length file
  pub here : field 0 (fields (part file a e)) ≡ part file a b
  pub later : (j : ℕ) → field (suc j) (fields (part file a e)) ≡ field j (fields (part file x e))
  pub place : (j : ℕ) → 0 < length (field (suc j) (fields (part file a e)))
      → a + start_of (suc j) (fields (part file a e)) ≡ x + start_of j (fields (part file x e))

-- the fields fs of the record at p, from field i on, are those of the part of the file from a to e
pub record Rest (file : List ℕ) (fs : List (List ℕ)) (p i a e : ℕ) : Type 0 where
  pub ends : a ≤ e
  pub within : e ≤ length file
  pub same : (j : ℕ) → field (i + j) fs ≡ field j (fields (part file a e))
  pub place : (j : ℕ) → 0 < length (field (i + j) fs) → p + start_of (i + j) fs ≡ a + start_of j (fields (part file a e))

-- field i of the record at p is there, and starts at a
pub record Starts (file : List ℕ) (fs : List (List ℕ)) (p i a e : ℕ) : Type 0 where
  pub place : a ≡ p + start_of i fs
  pub rest : Rest file fs p i a e

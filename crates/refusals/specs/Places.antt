-- What a refusal says to a person, before the line that it speaks of.
use Rattle.std.specs.Prelude.{ℕ, cond, List, [], ◌++◌, eqb}
use Rattle.ground.specs.Digits.{dec}
use Rattle.ground.specs.Text.{bytes}
use Rattle.format.specs.declared.Refusal.{Refusal}
use Rattle.phrase.specs.Phrases.{counted_text}
use Rattle.words.specs.Names.{name_of}
use Rattle.words.specs.Meanings.{meaning_of}

-- the number, and what it means
unfoldable pub headline : ℕ → List ℕ
headline x = bytes "refused: " ++ dec x ++ bytes ", " ++ meaning_of x

-- how many fields there are, and how many there have to be
unfoldable pub counts : ℕ → ℕ → List ℕ
counts count asked = bytes "this record has " ++ counted_text count (bytes "field") ++ bytes ", and has to have " ++ dec asked

unfoldable pub spot : ℕ → ℕ → List ℕ
spot place k = bytes "at byte " ++ dec place ++ bytes ", record " ++ dec k

-- 0 is no kind
unfoldable pub of_kind : ℕ → List ℕ
of_kind kind = cond (eqb kind 0) [] (bytes " (a " ++ dec kind ++ bytes ")")

unfoldable pub bracketed : ℕ → ℕ → ℕ → List ℕ
bracketed kind field count = bytes " (" ++ name_of kind field count ++ bytes ")"

-- 0 is no field
unfoldable pub of_field : ℕ → ℕ → ℕ → List ℕ
of_field kind field count = cond (eqb field 0) [] (bytes ", field " ++ dec field ++ bracketed kind field count)

-- where a refusal stands, in a record of a kind that has so many fields
unfoldable pub whereabouts : Refusal → ℕ → ℕ → List ℕ
whereabouts x kind count = spot x.place x.«record» ++ of_kind kind ++ of_field kind x.field count

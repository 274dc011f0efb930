-- What is said of the calls of a tenant map.
use Rattle.std.specs.Prelude.{ℕ, ◌+◌, cond, List, ◌++◌, eqb}
use Rattle.ground.specs.Digits.{dec}
use Rattle.ground.specs.Text.{bytes}
use Rattle.phrase.specs.Phrases.{counted_text, date_text}
use Rattle.words.specs.Lists.{numbered}

unfoldable pub version_text : ℕ → List ℕ
version_text v = bytes "version " ++ dec v

-- ---- a version that was added

unfoldable pub counts_text : ℕ → ℕ → List ℕ
counts_text used channels = bytes ": " ++ counted_text used (bytes "output") ++ bytes " in use, " ++ counted_text channels (bytes "channel")

-- version 2 added, from 2024-07-01: 3 outputs in use, 1 channel
unfoldable pub added_text : ℕ → ℕ → ℕ → ℕ → List ℕ
added_text v first used channels = version_text v ++ bytes " added, from " ++ date_text first ++ counts_text used channels

-- ---- from when to when a version holds

-- next is the first date of the version behind it, 0 where there is none
unfoldable pub until_text : ℕ → List ℕ
until_text next = cond (eqb next 0) (bytes " on") (bytes " up to the day before " ++ date_text next)

-- version 1, from 2024-01-01 up to the day before 2024-07-01
unfoldable pub span_text : ℕ → ℕ → ℕ → List ℕ
span_text v first next = version_text v ++ bytes ", from " ++ date_text first ++ until_text next

-- ---- how many of how many

-- 2 of 32 versions
unfoldable pub out_of_text : ℕ → List ℕ → List ℕ
out_of_text n of = dec n ++ bytes " of " ++ of

-- ---- what is wrong with a line of a table

-- by the number of the field at fault, from 0: none of them, the four, then an output with two lines and a share by itself
abbrev pub faults : List ℕ
faults =
    bytes "not four fields, which are output,NMI,suffix,share;"
    ++ bytes "no output, which is a number from 0 to 127;"
    ++ bytes "no NMI, which is 10 letters or digits;"
    ++ bytes "no suffix, which is 2 letters or digits;"
    ++ bytes "no share, which is a whole number from 0 to 1000;"
    ++ bytes "an output that has a line already;"
    ++ bytes "a share without NMI and suffix"

unfoldable pub wrong_text : ℕ → List ℕ
wrong_text fault = numbered (fault + 1) faults

-- refused: line 2 of the table: no output, which is a number from 0 to 127
unfoldable pub fault_text : ℕ → ℕ → List ℕ
fault_text line fault = bytes "refused: line " ++ dec line ++ bytes " of the table: " ++ wrong_text fault

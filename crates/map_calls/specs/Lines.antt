-- The lines in which the probe answers the calls of a tenant map.
use Rattle.std.specs.Prelude.{ℕ, ◌+◌, ◌*◌, List, [], ◌∷◌, ◌++◌, cond, take, get_or, replicate}
use Rattle.ground.specs.Lists.{part}
use Rattle.ground.specs.Digits.{dec}
use Rattle.page.specs.Texts.{texts}
use Rattle.answer_lines.specs.Lines.{line_of}
use Rattle.calls.specs.Kept.{kept, byte_mark, half_mark, ending}
use Rattle.calls.specs.Lines.{lent}
use Rattle.entries.specs.Left.{Left}
use Rattle.tenants.specs.Versions.{version_place, count_in}
use Rattle.tenants.specs.Calls.{Mapped}
use Rattle.map_kept.specs.Kept.{kept_after, filled_in, lent_kept}

-- ---- a call that may change memory

-- the answer, and whether memory is kept
unfoldable pub left_text : Left → ℕ → ℕ → List ℕ → List ℕ
left_text l a e was = line_of l.answer ++ ending (kept_after l.answer a e l.memory was)

-- a making writes the count
abbrev pub make_text : Left → List ℕ → List ℕ
make_text l was = left_text l 4 4 was

-- adding and going back write the version behind those that there were, too
abbrev pub add_text : Left → List ℕ → List ℕ
add_text l was = left_text l (version_place (count_in was)) (version_place (count_in was) + 1796) was

-- ---- the map on a date

-- a key: its bytes, or a dash where they are all 0
unfoldable pub key_text : List ℕ → List ℕ
key_text key = cond (kept 0 0 key) (45 ∷ []) key

-- output i: a space, its key, a slash and its share
unfoldable pub output_text : List ℕ → List ℕ → ℕ → List ℕ
output_text keys shares i = 32 ∷ key_text (part keys (12 * i) (12 * i + 12)) ++ 47 ∷ dec (get_or shares i 0)

-- the answer, its outputs, and whether the lists are kept behind these
unfoldable pub on_text : Mapped → List ℕ
on_text o =
    line_of o.answer
    ++ texts (output_text o.keys o.shares) (filled_in o.answer)
    ++ ending (lent_kept (filled_in o.answer) o.keys o.shares)

-- k key bytes of 2,000, and s shares of 300, that hold their marks
unfoldable pub lent_keys : ℕ → List ℕ
lent_keys k = take k (replicate 2000 byte_mark)

abbrev pub lent_shares : ℕ → List ℕ
lent_shares s = lent s half_mark

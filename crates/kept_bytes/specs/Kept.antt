-- From where on a call leaves memory as it was.
use Rattle.std.specs.Prelude.{ℕ, ◌+◌, List}
use Rattle.format.specs.Answers.{Answer, accepted, refused}
use Rattle.store.specs.Head.{header_of}

-- from where on memory has to be as it was: from a place behind an accepted call, all of it behind a refusal
abbrev pub kept_from : Answer → ℕ → ℕ
kept_from (accepted xs) place = place
kept_from (refused x p k i) place = 0

-- where the used bytes end
unfoldable pub used_end : List ℕ → ℕ
used_end m = (header_of m).room + (header_of m).used

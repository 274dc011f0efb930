-- What a call of a tenant map leaves as it was: of memory, and of the lists that it fills.
use Rattle.std.specs.Prelude.{ℕ, ◌*◌, List, Bool, ◌&&◌, drop}
use Rattle.ground.specs.Lists.{part, same}
use Rattle.format.specs.Answers.{Answer, accepted, refused}
use Rattle.calls.specs.Kept.{kept, byte_mark, half_mark}
use Rattle.kept_bytes.specs.Kept.{kept_from}

-- memory is as it was, but for the count in front and the bytes from place a up to place e
unfoldable pub kept_but : ℕ → ℕ → List ℕ → List ℕ → Bool
kept_but a e m was = same (part m 4 a) (part was 4 a) && same (drop e m) (drop e was)

-- behind a refusal all of it
unfoldable pub kept_after : Answer → ℕ → ℕ → List ℕ → List ℕ → Bool
kept_after (accepted xs) a e m was = kept_but a e m was
kept_after (refused x p k i) a e m was = same m was

-- the outputs that the lists hold: 128 behind an accepted answer, none behind a refusal
abbrev pub filled_in : Answer → ℕ
filled_in a = kept_from a 128

-- the lists hold their marks behind n outputs
unfoldable pub lent_kept : ℕ → List ℕ → List ℕ → Bool
lent_kept n keys shares = kept byte_mark (12 * n) keys && kept half_mark n shares

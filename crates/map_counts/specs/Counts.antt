-- What is counted in the 1,792 bytes of a version's entries: outputs in use, channels, and a channel's outputs and shares.
use Rattle.std.specs.Prelude.{ℕ, ◌+◌, ◌*◌, Bool, cond, not, ◌&&◌, List, eqb}
use Rattle.ground.specs.Lists.{same, from, sum}
use Rattle.entries.specs.Little.{piece, number_at}
use Rattle.tenants.specs.Outputs.{is_empty}

-- the key and the share of an output from 0
abbrev pub key_of : List ℕ → ℕ → List ℕ
key_of e i = piece e (14 * i) 12

abbrev pub share_of : List ℕ → ℕ → ℕ
share_of e i = number_at e (14 * i + 12) 2

abbrev pub is_used : List ℕ → ℕ → Bool
is_used e i = not (is_empty (key_of e i))

-- ---- outputs in use

unfoldable pub one_used : List ℕ → ℕ → ℕ
one_used e i = cond (is_used e i) 1 0

unfoldable pub used_in : List ℕ → ℕ
used_in e = sum (from (one_used e) 0 128)

-- ---- a channel

unfoldable pub one_on : List ℕ → List ℕ → ℕ → ℕ
one_on e key i = cond (same (key_of e i) key) 1 0

-- how many of the first n outputs have the key
unfoldable pub outputs_on : List ℕ → List ℕ → ℕ → ℕ
outputs_on e key n = sum (from (one_on e key) 0 n)

unfoldable pub share_on : List ℕ → List ℕ → ℕ → ℕ
share_on e key i = cond (same (key_of e i) key) (share_of e i) 0

-- what the shares of its outputs add up to
unfoldable pub shares_on : List ℕ → List ℕ → ℕ
shares_on e key = sum (from (share_on e key) 0 128)

-- ---- channels

-- an output in use whose key no output before it has
unfoldable pub is_first : List ℕ → ℕ → Bool
is_first e i = is_used e i && eqb (outputs_on e (key_of e i) i) 0

unfoldable pub one_first : List ℕ → ℕ → ℕ
one_first e i = cond (is_first e i) 1 0

-- each channel has one such output
unfoldable pub channels_in : List ℕ → ℕ
channels_in e = sum (from (one_first e) 0 128)

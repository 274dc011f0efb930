-- 02, 11: "Keep versions 1 to 32 of a map of 128 entries". "Each version has a first date, not earlier than that of the version before it. A date is answered by
-- the highest version whose first date isn't later." And the tickets of 02: "Memory: version count 4 (0 to 32, little-endian), then 32 versions of 1,796 bytes:
-- first date 4, then 128 entries of 14".
use Rattle.std.specs.Prelude.{ℕ, zero, suc, ◌+◌, ◌-◌, ◌*◌, List, [], ◌∷◌, ◌++◌, Bool, true, cond, ◌&&◌, length, drop, get_or, leb}
use Rattle.ground.specs.Lists.{all, from}
use Rattle.format.specs.Dates.{is_date}
use Rattle.entries.specs.Little.{piece, number_at, in_bytes}
use Rattle.tenants.specs.Outputs.{Output, is_kept, outputs_in, output_bytes}

pub record Version : Type 0 where
  pub first : ℕ
  pub outputs : List Output

abbrev pub version : ℕ → List Output → Version
version first outputs = record { first = first; outputs = outputs }

-- what stands where there is no version
abbrev pub none : Version
none = version 0 []

-- ---- in memory

-- what the bytes of a version say, and the bytes of a version
unfoldable pub version_from : List ℕ → Version
version_from b = version (number_at b 0 4) (outputs_in 128 (drop 4 b))

unfoldable pub version_bytes : Version → List ℕ
version_bytes v = in_bytes 4 v.first ++ output_bytes v.outputs

-- where the version behind i others stands
abbrev pub version_place : ℕ → ℕ
version_place i = 4 + 1796 * i

unfoldable pub version_at : List ℕ → ℕ → Version
version_at m i = version_from (piece m (version_place i) 1796)

-- how many versions are in use
abbrev pub count_in : List ℕ → ℕ
count_in m = number_at m 0 4

-- the versions in use, version 1 first
unfoldable pub versions_in : List ℕ → List Version
versions_in m = from (version_at m) 0 (count_in m)

-- ---- a map

-- a first date that may come behind the date t: "a date that falls or is none is 24"
unfoldable pub may_follow : ℕ → ℕ → Bool
may_follow t first = is_date first && leb t first

-- "each version in use has a real first date not earlier than the one before it, and entries that adding takes, in the form that adding keeps"; the date before
-- these versions is t
unfoldable pub are_versions : ℕ → List Version → Bool
are_versions t [] = true
are_versions t (v ∷ vs) = may_follow t v.first && all is_kept v.outputs && are_versions v.first vs

-- "57,476 bytes or more, count at most 32"
unfoldable pub is_map : List ℕ → Bool
is_map m = leb 57476 (length m) && leb (count_in m) 32 && are_versions 0 (versions_in m)

-- ---- dates

-- the first date of the last version; 0 where there is none
unfoldable pub latest : List Version → ℕ
latest vs = (get_or vs (length vs - 1) none).first

-- the highest of the first k versions whose first date isn't later; 0 where there is none
unfoldable pub highest : List Version → ℕ → ℕ → ℕ
highest vs date zero = 0
highest vs date (suc k) = cond (leb (get_or vs k none).first date) (suc k) (highest vs date k)

-- the version that answers a date; 0 for "a query whose date is none or has no version"
unfoldable pub version_on : List Version → ℕ → ℕ
version_on vs date = cond (is_date date) (highest vs date (length vs)) 0

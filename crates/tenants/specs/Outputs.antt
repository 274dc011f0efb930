-- 02, 11: "a map of 128 entries, each an NMI and suffix with a share from 0 to 1000". "An unused output has an empty key and share 0." And the tickets of 02: "An
-- unused output has a key of twelve 0 bytes and share 0. Kept keys have capital letters."
use Rattle.std.specs.Prelude.{ℕ, zero, suc, List, [], ◌∷◌, ◌++◌, map, Bool, ◌&&◌, ◌||◌, take, drop, get_or, replicate, leb, eqb}
use Rattle.ground.specs.Lists.{same}
use Rattle.format.specs.Texts.{is_nmi, is_suffix}
use Rattle.entries.specs.Little.{number_at, in_bytes}
use Rattle.entries.specs.Keys.{capitals, in_capitals}

-- an entry of a map: a key of twelve bytes, NMI and suffix, and a share
pub record Output : Type 0 where
  pub key : List ℕ
  pub share : ℕ

abbrev pub output : List ℕ → ℕ → Output
output key share = record { key = key; share = share }

-- ---- which entries adding takes

-- an NMI of 10 bytes and a suffix of 2
unfoldable pub is_channel : List ℕ → Bool
is_channel key = is_nmi (take 10 key) && is_suffix (drop 10 key)

-- "twelve 0 bytes for none"
unfoldable pub is_empty : List ℕ → Bool
is_empty key = same key (replicate 12 0)

-- "a share above 1000, a bad key or a share without one is 25"
unfoldable pub fit_output : Output → Bool
fit_output o = leb o.share 1000 && (is_channel o.key || is_empty o.key && eqb o.share 0)

-- the entry as adding keeps it
unfoldable pub kept_output : Output → Output
kept_output o = output (capitals o.key) o.share

-- an entry "that adding takes, in the form that adding keeps"
unfoldable pub is_kept : Output → Bool
is_kept o = fit_output o && in_capitals o.key

-- ---- lists of them

-- the first n entries that lists of keys and shares hand in
unfoldable pub outputs_given : ℕ → List ℕ → List ℕ → List Output
outputs_given zero keys shares = []
outputs_given (suc n) keys shares = output (take 12 keys) (get_or shares 0 0) ∷ outputs_given n (drop 12 keys) (drop 1 shares)

-- the first n entries that bytes of memory hold, "entries of 14: NMI 10, suffix 2, share 2"
unfoldable pub outputs_in : ℕ → List ℕ → List Output
outputs_in zero b = []
outputs_in (suc n) b = output (take 12 b) (number_at b 12 2) ∷ outputs_in n (drop 14 b)

-- entries as bytes of memory
unfoldable pub output_bytes : List Output → List ℕ
output_bytes [] = []
output_bytes (o ∷ os) = o.key ++ in_bytes 2 o.share ++ output_bytes os

-- their keys one behind the other, and their shares
unfoldable pub keys_of : List Output → List ℕ
keys_of [] = []
keys_of (o ∷ os) = o.key ++ keys_of os

abbrev pub shares_of : List Output → List ℕ
shares_of os = map (λ (o : Output). o.share) os

-- 02, 11, call by call: what each answers, and every byte that it leaves.
use Rattle.std.specs.Prelude.{ℕ, ◌+◌, ◌-◌, List, [], ◌∷◌, map, Bool, cond, ◌&&◌, length, get_or, leb, ltb, Result, Ok, Err}
use Rattle.std.proofs.lemmas.List.Edits.{sets}
use Rattle.ground.specs.Lists.{all}
use Rattle.format.specs.Answers.{Answer, accepted, refusal, refused_as}
use Rattle.format.specs.Day.{over}
use Rattle.format.specs.declared.Refusal.{Refusal}
use Rattle.entries.specs.Little.{in_bytes}
use Rattle.entries.specs.Left.{Left, left, unless}
use Rattle.tenants.specs.Outputs.{Output, fit_output, kept_output, outputs_given, keys_of, shares_of}
use Rattle.tenants.specs.Versions.{Version, version, none, version_bytes, version_place, count_in, versions_in, may_follow, is_map, latest, version_on}

-- the version's number
abbrev pub versioned_as : Result ℕ Refusal → Answer
versioned_as (Ok v) = accepted (v ∷ [])
versioned_as (Err x) = refused_as x

-- ---- make

-- "15 if fewer than 57,476 bytes; else version count 0 is written, no other byte changes, and it answers version 0"
unfoldable pub make_of : List ℕ → Left
make_of m = unless (leb 57476 (length m)) 15 m (left (accepted (0 ∷ [])) (sets m 0 (in_bytes 4 0)))

-- ---- add

-- "Nothing before the new version and nothing behind it changes but the count."
unfoldable pub with_version : List ℕ → Version → List ℕ
with_version m v = sets (sets m (version_place (count_in m)) (version_bytes v)) 0 (in_bytes 4 (count_in m + 1))

-- one version more, whose entries are kept ones: "a date that falls or is none is 24", "full is 23"; its number is answered
unfoldable pub append_of : List ℕ → Version → Left
append_of m v =
    unless (may_follow (latest (versions_in m)) v.first) 24 m
    (unless (ltb (count_in m) 32) 23 m
    (left (accepted ((count_in m + 1) ∷ [])) (with_version m v)))

-- "15 for fewer than 1,536 key bytes or 128 shares"
unfoldable pub enough : List ℕ → List ℕ → Bool
enough keys shares = leb 1536 (length keys) && leb 128 (length shares)

-- the entries that are handed in, as adding keeps them
abbrev pub kept_given : List ℕ → List ℕ → List Output
kept_given keys shares = map kept_output (outputs_given 128 keys shares)

-- "Order: 21, [15,] 25, 24, 23."
unfoldable pub add_of : List ℕ → ℕ → List ℕ → List ℕ → Left
add_of m first keys shares =
    unless (is_map m) 21 m
    (unless (enough keys shares) 15 m
    (unless (all fit_output (outputs_given 128 keys shares)) 25 m
    (append_of m (version first (kept_given keys shares)))))

-- ---- go back

-- versions are numbered from 1
unfoldable pub is_number : List Version → ℕ → Bool
is_number vs k = leb 1 k && leb k (length vs)

-- the entries of version k
abbrev pub outputs_of : List Version → ℕ → List Output
outputs_of vs k = (get_or vs (k - 1) none).outputs

-- "Going back to version k adds a new version equal to k under a new first date." "21, 14 (no version of that number, 0 too), 24, 23"
unfoldable pub back_of : List ℕ → ℕ → ℕ → Left
back_of m k first =
    unless (is_map m) 21 m
    (unless (is_number (versions_in m) k) 14 m
    (append_of m (version first (outputs_of (versions_in m) k))))

-- ---- ask

-- what asking for a date answers, and the lent lists as it leaves them
pub record Mapped : Type 0 where
  pub answer : Answer
  pub keys : List ℕ
  pub shares : List ℕ

abbrev pub mapped : Answer → List ℕ → List ℕ → Mapped
mapped a keys shares = record { answer = a; keys = keys; shares = shares }

-- "it answers the version and fills 1,536 key bytes and 128 shares; more places keep what they held"
unfoldable pub fill_of : List Version → ℕ → List ℕ → List ℕ → Mapped
fill_of vs k keys shares = mapped (accepted (k ∷ [])) (over (keys_of (outputs_of vs k)) keys) (over (shares_of (outputs_of vs k)) shares)

-- "21, 14, 15", over the versions of a map
unfoldable pub ask_of : List Version → ℕ → List ℕ → List ℕ → Mapped
ask_of vs date keys shares =
    cond (leb 1 (version_on vs date))
    (cond (enough keys shares) (fill_of vs (version_on vs date) keys shares) (mapped (refusal 15) keys shares))
    (mapped (refusal 14) keys shares)

unfoldable pub on_of : List ℕ → ℕ → List ℕ → List ℕ → Mapped
on_of m date keys shares = cond (is_map m) (ask_of (versions_in m) date keys shares) (mapped (refusal 21) keys shares)

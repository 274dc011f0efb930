-- 02, 12: "Given a day's total, its channel's key and the map for that date, each output on that channel gets total times share over the channel's sum of shares,
-- rounded down, with what remains given one each to the largest remainders, lower output first when equal. [..] Order: a total above 2,880,000,000,000,000 (27),
-- fewer than 128 places lent (15), a map entry that adding would refuse (25), channel shares that add up to 0 (26)."
use Rattle.std.specs.Prelude.{ℕ, List, [], ◌∷◌, ◌++◌, Bool, not, ◌&&◌, length, leb, eqb, Result, Ok, Err}
use Rattle.ground.specs.Lists.{all, sum}
use Rattle.format.specs.Texts.{is_nmi, is_suffix}
use Rattle.format.specs.Cut.{field}
use Rattle.format.specs.Records.{date_in}
use Rattle.format.specs.Answers.{Answer, accepted, refused_as}
use Rattle.format.specs.Day.{values_of, over}
use Rattle.format.specs.declared.Refusal.{Refusal}
use Rattle.entries.specs.Keys.{Key, capitals}
use Rattle.entries.specs.Left.{Left, left, unless}
use Rattle.store.specs.Head.{header_of}
use Rattle.store.specs.Store.{is_store}
use Rattle.store.specs.Calls.{is_there}
use Rattle.tenants.specs.Outputs.{Output, fit_output, outputs_given, keys_of, shares_of}
use Rattle.tenants.specs.Versions.{versions_in, is_map, version_on}
use Rattle.tenants.specs.Calls.{enough, outputs_of}
use Rattle.whose.specs.Whose.{nmi_field, suffix_field}
use Rattle.shares.specs.Shares.{count, parts_of}
use Rattle.channel_shares.specs.OnChannel.{has_key, weights_of}
use Rattle.day_sums.specs.Sought.{Sought, found, missing, day_in}
use Rattle.stored_sums.specs.Sums.{sum_at}

-- how many outputs are on the channel
abbrev pub split_as : Result ℕ Refusal → Answer
split_as (Ok n) = accepted (n ∷ [])
split_as (Err x) = refused_as x

-- ---- a total

-- the output is on the channel, letters of either case; "a bad NMI or suffix is on none"
unfoldable pub is_on : List ℕ → List ℕ → Output → Bool
is_on nmi suffix o = is_nmi nmi && is_suffix suffix && has_key (capitals (nmi ++ suffix)) o

-- "channel shares that add up to 0 (26)"; else "parts 0 to 127 are set, more keep what they held; `outputs` counts those on the channel"
unfoldable pub shared_of : ℕ → (Output → Bool) → List Output → List ℕ → Left
shared_of t on os ps =
    unless (not (eqb (sum (weights_of on os)) 0)) 26 ps
    (left (accepted (count on os ∷ [])) (over (parts_of t (weights_of on os)) ps))

-- "27; 15 for fewer than 128 parts, 128 shares or 1,536 key bytes; 25; 26"
unfoldable pub split_of : ℕ → List ℕ → List ℕ → List ℕ → List ℕ → List ℕ → Left
split_of t nmi suffix keys shares ps =
    unless (leb t 2880000000000000) 27 ps
    (unless (leb 128 (length ps) && enough keys shares) 15 ps
    (unless (all fit_output (outputs_given 128 keys shares)) 25 ps
    (shared_of t (is_on nmi suffix) (outputs_given 128 keys shares) ps)))

-- ---- a day

-- the outputs that a map has on a date
abbrev pub outputs_on : List ℕ → ℕ → List Output
outputs_on m date = outputs_of (versions_in m) (version_on (versions_in m) date)

-- "21 for the memory, 14 for the date; then as `split` of the day's sum with its channel's key and the map on its date"
unfoldable pub split_on : ℕ → List ℕ → List ℕ → ℕ → List ℕ → List ℕ → Left
split_on t nmi suffix date m ps =
    unless (is_map m) 21 ps
    (unless (leb 1 (version_on (versions_in m) date)) 14 ps
    (split_of t nmi suffix (keys_of (outputs_on m date)) (shares_of (outputs_on m date)) ps))

-- of a file: "the file's refusal, 14 for the day"
abbrev pub split_sought : Sought → List ℕ → List ℕ → Left
split_sought (found d) m ps =
    split_on (sum (values_of d.block)) (field nmi_field d.channel.cells) (field suffix_field d.channel.cells) (date_in d.block.top.cells) m ps
split_sought (missing a) m ps = left a ps

unfoldable pub split_day_of : List ℕ → ℕ → List ℕ → List ℕ → Left
split_day_of file day m ps = split_sought (day_in file day) m ps

-- "of a day that the store holds: 21 for the store, 14 for the key; then the same"
unfoldable pub split_stored_of : List ℕ → Key → List ℕ → List ℕ → Left
split_stored_of s x m ps =
    unless (is_store s) 21 ps
    (unless (is_there s (header_of s) x) 14 ps
    (split_on (sum_at s x) x.nmi x.suffix x.date m ps))

-- A channel as places of the file, for the contracts of the inner functions.
use Rattle.std.specs.Prelude.{ℕ, ◌+◌, ◌≤◌, ◌≡◌, List, [], ◌∷◌, length, drop, Option, Some, None}
use Rattle.ground.specs.Lists.{part}
use Rattle.format.specs.Cut.{lines, fields}
use Rattle.format.specs.Records.{intervals_in, quantity_in}
use Rattle.format.specs.Total.{totals_from}
use Rattle.sums.specs.Sums.{sum_at}
use Rattle.channel.specs.declared.Channel.{Channel}
use Rattle.channel.specs.declared.ChannelStart.{ChannelStart}
use Rattle.channel.specs.declared.Channel.TheVariants.{Days, Quantity}

-- the totals of the channels of a file, and from place p on
abbrev pub totals_in : List ℕ → List ℕ
totals_in file = totals_from (lines file)

abbrev pub totals_at : List ℕ → ℕ → List ℕ
totals_at file p = totals_in (drop p file)

-- the channel of a number is found from there
pub record ChannelAhead (file : List ℕ) (channel : ℕ) (from : ChannelStart) : Type 0 where
  pub within : from.at ≤ length file
  pub is : drop channel (totals_in file) ≡ drop from.left (totals_at file from.at)

-- the totals from the channel that was found
abbrev pub totalled : List ℕ → Option Channel → List ℕ
totalled file (Some (Days a e)) = sum_at file (e + 2) (intervals_in (fields (part file a e))) ∷ totals_at file (e + 2)
totalled file (Some (Quantity a e)) = quantity_in (fields (part file a e)) ∷ totals_at file (e + 2)
totalled file None = []

abbrev pub inside : List ℕ → Option Channel → Type 0
inside file (Some (Days a e)) = (a ≤ e) × (e + 2 ≤ length file)
inside file (Some (Quantity a e)) = (a ≤ e) × (e + 2 ≤ length file)
inside file None = Unit

-- and the channel behind it is found from there
pub record Behind (file : List ℕ) (c : Option Channel) (from : ChannelStart) : Type 0 where
  pub within : from.at ≤ length file
  pub is : drop 1 (totalled file c) ≡ drop from.left (totals_at file from.at)

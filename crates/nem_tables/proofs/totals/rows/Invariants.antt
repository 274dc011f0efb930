use Rattle.std.proofs.Common.{◌-◌}
use Rattle.format.specs.File.{IsAccepted}
use Rattle.channel.specs.Places.{ChannelAhead}
use Rattle.nem_tables.proofs.totals.rows.Given as goal

abbrev pub invariant-loop-k : goal.invariant-loop-k
invariant-loop-k g l = IsAccepted l.file × ChannelAhead l.file l.k l.from

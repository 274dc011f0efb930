use Rattle.std.proofs.Common.{◌-◌}
use Rattle.channel.specs.Places.{ChannelAhead}
use Rattle.nem_csv.proofs.reads.show.Given as goal

abbrev pub invariant-loop-k : goal.invariant-loop-k
invariant-loop-k g l = ChannelAhead l.file l.k l.from

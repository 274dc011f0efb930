-- The file is accepted, since its check answers so.
use Rattle.std.proofs.Common.{rules}
use Rattle.checking.proofs.Answered.{is-accepted}
use Rattle.nem_tables.proofs.all_days.show.Goals as goal

pub lines-requires : goal.lines-requires
lines-requires g c = (search is-accepted, search rules)

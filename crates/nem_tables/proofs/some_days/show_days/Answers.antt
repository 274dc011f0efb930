-- The file is accepted, since its check answers so.
use Rattle.std.proofs.Common.{rules}
use Rattle.checking.proofs.Answered.{is-accepted}
use Rattle.nem_tables.proofs.some_days.show_days.Goals as goal

pub show_all-requires : goal.show_all-requires
show_all-requires g c = (search is-accepted, search rules)

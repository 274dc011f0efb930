-- The file is accepted, since its check answers so.
use Rattle.std.proofs.Common.{rules}
use Rattle.checking.proofs.Answered.{is-accepted}
use Rattle.nem_tables.proofs.totals.show.Goals as goal

pub rows-requires : goal.rows-requires
rows-requires g c = (search is-accepted, search rules)

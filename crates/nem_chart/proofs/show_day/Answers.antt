-- The file is accepted, since its check answers so.
use Rattle.std.proofs.Common.{rules}
use Rattle.checking.proofs.Answered.{is-accepted}
use Rattle.nem_chart.proofs.show_day.Goals as goal

pub show_found-requires : goal.show_found-requires
show_found-requires g c = (search is-accepted, search rules)

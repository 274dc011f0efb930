-- `reading::read_day::read_day` meets its contract. Assumes nothing.
use Rattle.checking.proofs.Answered.{is-accepted}
use Rattle.reading.proofs.Entries.{read-refused}
use borrow.Author.Rules.{rules}
use Rattle.std.proofs.lemmas.Result.{err_from_is_err_and}
use Rattle.reading.proofs.read_day.read_day.Goals as goal

pub read_noted-r-requires : goal.read_noted-r-requires
read_noted-r-requires c = (is-accepted _ _ c.check_and_note-t.ensures.is _ c.in_ok-t.was, search rules)

pub returns-in_err-t : goal.returns-in_err-t
returns-in_err-t c =
    let p = err_from_is_err_and c.from_residual.result c.from_residual.ensures.1 in
    rw (p.1, p.2) (read-refused _ _ c.check_and_note-t.ensures.is _ c.in_err-t.was _ _ _)

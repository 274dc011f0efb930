-- `reading::total::total` meets its contract. Assumes nothing.
use Rattle.checking.proofs.Answered.{is-accepted}
use Rattle.reading.proofs.Entries.{total-refused}
use borrow.Author.Rules.{rules}
use Rattle.std.proofs.lemmas.Result.{err_from_is_err_and}
use Rattle.reading.proofs.total.total.Goals as goal

pub total_noted-r-requires : goal.total_noted-r-requires
total_noted-r-requires c = (is-accepted _ _ c.check_and_note-t.ensures.is _ c.in_ok-t.was, search rules)

pub returns-in_err-t : goal.returns-in_err-t
returns-in_err-t c =
    let p = err_from_is_err_and c.from_residual.result c.from_residual.ensures.1 in
    rw (p.1, p.2) (total-refused _ _ c.check_and_note-t.ensures.is _ c.in_err-t.was _)

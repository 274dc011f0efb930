-- `month::read_days` meets its contract. Assumes nothing.
use Rattle.checking.proofs.Answered.{is-accepted}
use Rattle.month.proofs.Ways.{file-refused, file-read}
use borrow.Author.Rules.{rules}
use Rattle.std.proofs.lemmas.Result.{err_from_is_err_and}
use Rattle.month.proofs.read_days.Goals as goal

pub read_checked-requires : goal.read_checked-requires
read_checked-requires c = (is-accepted _ _ c.check_and_note-t.ensures.is _ c.in_ok-t.was, search rules)

pub returns-in_err-t : goal.returns-in_err-t
returns-in_err-t c =
    let p = err_from_is_err_and c.from_residual.result c.from_residual.ensures.1 in
    rw (p.1, p.2) (file-refused _ _ _ _ _ c.check_and_note-t.ensures.is _ c.in_err-t.was)

pub returns : goal.returns
returns c = file-read _ _ _ _ (is-accepted _ _ c.check_and_note-t.ensures.is _ c.in_ok-t.was) _ _ c.read_checked.ensures

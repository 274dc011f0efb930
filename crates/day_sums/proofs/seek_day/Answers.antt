-- `day_sums::seek_day` meets its contract. Assumes nothing.
use Rattle.day_sums.proofs.Seeks.{seek-refused}
use Rattle.checking.proofs.Answered.{is-accepted}
use borrow.Author.Rules.{rules}
use Rattle.std.proofs.lemmas.Result.{err_from_is_err_and}
use Rattle.day_sums.proofs.seek_day.Goals as goal

pub seek_noted-requires : goal.seek_noted-requires
seek_noted-requires c = (is-accepted _ _ c.check_and_note-t.ensures.is _ c.in_ok-t.was, search rules)

pub returns-in_err-t : goal.returns-in_err-t
returns-in_err-t c =
    let p = err_from_is_err_and c.from_residual.result c.from_residual.ensures.1 in
    record { is = rw (p.1, p.2) (seek-refused _ _ _ _ c.check_and_note-t.ensures.is c.in_err-t.was); within = rw p.1 (search rules) }

-- `whose::find_day` meets its contract. Assumes nothing.
use Rattle.checking.proofs.Answered.{is-accepted}
use Rattle.whose.proofs.Found.{find-refused}
use borrow.Author.Rules.{rules}
use Rattle.std.proofs.lemmas.Result.{err_from_is_err_and}
use Rattle.whose.proofs.find_day.Goals as goal

pub found_noted-requires : goal.found_noted-requires
found_noted-requires c = (is-accepted _ _ c.check_and_note-t.ensures.is _ c.in_ok-t.was, search rules, search rules)

pub returns-in_err-t : goal.returns-in_err-t
returns-in_err-t c =
    let p = err_from_is_err_and c.from_residual.result c.from_residual.ensures.1 in
    rw (p.1, p.2) (find-refused _ _ _ _ c.check_and_note-t.ensures.is c.in_err-t.was)

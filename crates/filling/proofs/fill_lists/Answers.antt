-- `filling::fill_lists` meets its contract. Assumes nothing.
use Rattle.filling.proofs.Fill.{covered-is, fill_is}
use borrow.Author.Rules.{rules}
use Rattle.filling.proofs.fill_lists.Goals as goal

pub put_marks-requires : goal.put_marks-requires
put_marks-requires c = (search rules, search covered-is, search rules)

pub returns : goal.returns
returns c = search fill_is

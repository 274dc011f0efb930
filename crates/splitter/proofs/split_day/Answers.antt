-- `splitter::split_day` meets its contract. Assumes nothing.
use Rattle.std.proofs.lemmas.Result.{err_from_is_err_and}
use Rattle.splitter.proofs.Days.{sought-within, day-refused, day-split}
use Rattle.splitter.proofs.split_day.Goals as goal

pub sum_of-requires : goal.sum_of-requires
sum_of-requires c = sought-within _ c.in_ok-at.was c.seek_day.ensures.within

pub nmi_of-requires : goal.nmi_of-requires
nmi_of-requires c = sought-within _ c.in_ok-at.was c.seek_day.ensures.within

pub suffix_of-requires : goal.suffix_of-requires
suffix_of-requires c = sought-within _ c.in_ok-at.was c.seek_day.ensures.within

pub date_of-requires : goal.date_of-requires
date_of-requires c = sought-within _ c.in_ok-at.was c.seek_day.ensures.within

pub returns-in_err-at : goal.returns-in_err-at
returns-in_err-at c =
    let p = err_from_is_err_and c.from_residual.result c.from_residual.ensures.1 in
    rw (p.1, p.2) (day-refused _ _ _ _ c.seek_day.ensures.is c.in_err-at.was)

pub returns : goal.returns
returns c = day-split _ _ _ _ c.seek_day.ensures.is c.in_ok-at.was c.sum_of.ensures c.nmi_of.ensures c.suffix_of.ensures c.date_of.ensures c.split_on.ensures

-- `alone::walk_bytes` meets its contract. Assumes nothing.
use Rattle.alone.proofs.Walks.{few, stands, length-16, unit-16, whole-none, whole-stopped, whole-block}
use borrow.Author.Rules.{rules}
use mathlib.Core.Path.{refl, ap}
use mathlib.Core.Bool.{not}
use Rattle.std.proofs.lemmas.Result.{err_from_is_err_and}
use Rattle.alone.proofs.walk_bytes.Goals as goal

pub returns-then-n-eq0 : goal.returns-then-n-eq0
returns-then-n-eq0 c = search length-16

pub returns-then-not-is_unit : goal.returns-then-not-is_unit
returns-then-not-is_unit c = search unit-16

pub returns-in_default : goal.returns-in_default
returns-in_default c = search whole-none

pub walk_block-requires : goal.walk_block-requires
walk_block-requires c = (search stands, search few, search rules)

pub returns-in_err-records : goal.returns-in_err-records
returns-in_err-records c =
    let p = err_from_is_err_and c.from_residual.result c.from_residual.ensures.1 in
    rw (p.1, p.2)
    (whole-stopped _ _ _ _ _ c.intervals-n.ensures c.if-n-eq0.false c.is_unit.ensures (ap not c.if-not-is_unit.false) c.record_at-handed.ensures c.decimals.ensures.is c.in_err-records.ensures refl)

pub returns : goal.returns
returns c = whole-block _ _ _ _ _ c.intervals-n.ensures c.if-n-eq0.false c.is_unit.ensures (ap not c.if-not-is_unit.false) c.record_at-handed.ensures c.decimals.ensures.is c.in_ok-records.ensures c.in-Some.is refl

-- `stored_sums::stored_sum` meets its contract. Assumes nothing.
use Rattle.std.proofs.lemmas.Result.{err_from_is_err_and}
use Rattle.opening.proofs.Ways.{told-header, told-none}
use Rattle.stored_sums.proofs.Ways.{sum-21, sum-14, sum-there}
use Rattle.getting.proofs.Gets.{slot-readable}
use Rattle.stored_sums.proofs.stored_sum.Goals as goal

pub returns-in_err-h : goal.returns-in_err-h
returns-in_err-h c =
    let p = err_from_is_err_and c.from_residual.result c.from_residual.ensures.1 in
    let t = told-none c.open_store.result c.bare.result c.ok_or.ensures.value c.in_err-h.was in
    rw (p.1, p.2, t.1) (sum-21 c.args.memory.now _ c.open_store.ensures t.0 c.bare.ensures)

pub returns-then-h-i : goal.returns-then-h-i
returns-then-h-i c = sum-14 c.args.memory.now _ c.open_store.ensures (told-header c.open_store.result c.bare.result c.ok_or.ensures.value c.in_ok-h.was) c.find_slot-i.ensures c.if-h-i.true c.bare-then-h-i.ensures

pub sum_block-requires : goal.sum_block-requires
sum_block-requires c = slot-readable c.args.memory.now _ c.open_store.ensures (told-header c.open_store.result c.bare.result c.ok_or.ensures.value c.in_ok-h.was) c.find_slot-i.ensures c.if-h-i.false c.place.ensures c.read_entry-e.ensures

pub returns : goal.returns
returns c = sum-there c.args.memory.now _ c.open_store.ensures (told-header c.open_store.result c.bare.result c.ok_or.ensures.value c.in_ok-h.was) c.find_slot-i.ensures c.if-h-i.false c.place.ensures c.read_entry-e.ensures c.sum_block.ensures

-- `deleting::delete_day` meets its contract. Assumes nothing.
use Rattle.std.proofs.lemmas.Result.{err_from_is_err_and}
use Rattle.opening.proofs.Ways.{told-header, told-none}
use Rattle.deleting.proofs.Ways.{delete-21, delete-14, delete-settles, deleted}
use Rattle.deleting.proofs.delete_day.Goals as goal

pub returns-in_err-h : goal.returns-in_err-h
returns-in_err-h c =
    let p = err_from_is_err_and c.from_residual.result c.from_residual.ensures.1 in
    let t = told-none c.open_store.result c.bare.result c.ok_or.ensures.value c.in_err-h.was in
    rw (p.1, p.2, t.1) (delete-21 c.args.memory.now _ c.open_store.ensures t.0 c.bare.ensures)

pub returns-then-h-i : goal.returns-then-h-i
returns-then-h-i c = delete-14 c.args.memory.now _ c.open_store.ensures (told-header c.open_store.result c.bare.result c.ok_or.ensures.value c.in_ok-h.was) c.find_slot-i.ensures c.if-h-i.true c.bare-then-h-i.ensures

pub keep_only-requires : goal.keep_only-requires
keep_only-requires c = delete-settles c.args.memory.now _ c.open_store.ensures (told-header c.open_store.result c.bare.result c.ok_or.ensures.value c.in_ok-h.was) c.find_slot-i.ensures c.set_free.ensures

pub returns : goal.returns
returns c = deleted c.args.memory.now _ c.open_store.ensures (told-header c.open_store.result c.bare.result c.ok_or.ensures.value c.in_ok-h.was) c.find_slot-i.ensures c.set_free.ensures c.if-h-i.false c.keep_only.ensures

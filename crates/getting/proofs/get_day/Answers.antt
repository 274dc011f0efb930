-- `getting::get_day` meets its contract. Assumes nothing.
use Rattle.std.proofs.lemmas.Result.{err_from_is_err_and}
use Rattle.opening.proofs.Ways.{told-header, told-none}
use Rattle.getting.proofs.Gets.{get-21, get-14, slot-readable, get-read}
use Rattle.getting.proofs.get_day.Goals as goal

pub returns-in_err-h : goal.returns-in_err-h
returns-in_err-h c =
    let p = err_from_is_err_and c.from_residual.result c.from_residual.ensures.1 in
    let t = told-none c.open_store.result c.bare.result c.ok_or.ensures.value c.in_err-h.was in
    rw (p.1, p.2, t.1) (get-21 c.args.memory.now _ c.open_store.ensures _ _ t.0 c.bare.ensures)

pub returns-then-h-i : goal.returns-then-h-i
returns-then-h-i c = get-14 c.args.memory.now _ c.open_store.ensures (told-header c.open_store.result c.bare.result c.ok_or.ensures.value c.in_ok-h.was) c.find_slot-i.ensures _ _ c.if-h-i.true c.bare-then-h-i.ensures

pub read_block-requires : goal.read_block-requires
read_block-requires c = slot-readable c.args.memory.now _ c.open_store.ensures (told-header c.open_store.result c.bare.result c.ok_or.ensures.value c.in_ok-h.was) c.find_slot-i.ensures c.if-h-i.false c.place.ensures c.read_entry-e.ensures

pub returns : goal.returns
returns c = get-read c.args.memory.now _ c.open_store.ensures (told-header c.open_store.result c.bare.result c.ok_or.ensures.value c.in_ok-h.was) c.find_slot-i.ensures c.if-h-i.false c.place.ensures c.read_entry-e.ensures _ _ c.read_block.ensures

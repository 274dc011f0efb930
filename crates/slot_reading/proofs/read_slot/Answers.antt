-- `slot_reading::read_slot` meets its contract. Assumes nothing.
use Rattle.std.proofs.lemmas.Result.{err_from_is_err_and}
use Rattle.opening.proofs.Ways.{told-header, told-none}
use Rattle.slot_reading.proofs.SlotWays.{not-store, slot_read}
use Rattle.slot_reading.proofs.read_slot.Goals as goal

pub returns-in_err-h : goal.returns-in_err-h
returns-in_err-h c =
    let p = err_from_is_err_and c.from_residual.result c.from_residual.ensures.1 in
    let t = told-none c.open_store.result c.bare.result c.ok_or.ensures.value c.in_err-h.was in
    rw (p.1, p.2, t.1) (not-store c.args.memory.now c.args.slot c.open_store.ensures t.0 c.bare.ensures)

pub returns : goal.returns
returns c = slot_read c.args.memory.now c.args.slot c.open_store.ensures (told-header c.open_store.result c.bare.result c.ok_or.ensures.value c.in_ok-h.was) c.read_opened.ensures

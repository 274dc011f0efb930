-- `putting::put_day` meets its contract. Assumes nothing.
use Rattle.std.proofs.lemmas.Result.{err_from_is_err_and}
use Rattle.opening.proofs.Ways.{told-header, told-none}
use Rattle.putting.proofs.Ways.{put-21, opens}
use Rattle.putting.proofs.put_day.Goals as goal

pub returns-in_err-h : goal.returns-in_err-h
returns-in_err-h c =
    let p = err_from_is_err_and c.from_residual.result c.from_residual.ensures.1 in
    let t = told-none c.open_store.result c.bare.result c.ok_or.ensures.value c.in_err-h.was in
    rw (p.1, p.2, t.1) (put-21 c.args.memory.now _ _ _ c.open_store.ensures t.0 c.bare.ensures)

pub put_opened-requires : goal.put_opened-requires
put_opened-requires c = opens c.args.memory.now c.open_store.ensures (told-header c.open_store.result c.bare.result c.ok_or.ensures.value c.in_ok-h.was)

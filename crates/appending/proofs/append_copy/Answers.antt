-- `appending::append_copy` meets its contract. Assumes nothing.
use Rattle.std.proofs.lemmas.Result.{err_from_is_err_and}
use Rattle.appending.proofs.Ways.{goes, told-behind, told-refused, append-refused, append-done}
use Rattle.versions.proofs.Maps.{mapping}
use native.Mathlib.Omega.{arith}
use Rattle.appending.proofs.append_copy.Goals as goal

pub put_copy-requires : goal.put_copy-requires
put_copy-requires c =
    let m = mapping c.args.memory.now c.requires.0 in
    let g = goes c.args.memory.now c.args.first c.next_version.ensures c.in_ok-n.n (told-behind c.next_version.result c.map_err.ensures.cases c.in_ok-n.was) in
    (omega (arith, m.long), g.count, g.few, omega (arith, g.count))

pub returns-in_err-n : goal.returns-in_err-n
returns-in_err-n c =
    let p = err_from_is_err_and c.from_residual.result c.from_residual.ensures.1 in
    let t = told-refused c.next_version.result c.map_err.ensures.cases c.in_err-n.was in
    rw (p.1, p.2) (append-refused c.args.memory.now c.args.first c.next_version.ensures _ t.0 t.1 t.2)

pub returns : goal.returns
returns c =
    append-done c.args.memory.now c.args.first _
    (goes c.args.memory.now c.args.first c.next_version.ensures c.in_ok-n.n (told-behind c.next_version.result c.map_err.ensures.cases c.in_ok-n.was))
    c.put_copy.ensures

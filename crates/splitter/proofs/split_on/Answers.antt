-- `splitter::split_on` meets its contract. Assumes nothing.
use Rattle.std.proofs.lemmas.Result.{err_from_is_err_and}
use mathlib.Core.Path.{refl}
use lib.ListN.{replicate}
use Rattle.splitter.proofs.Days.{on-refused, on-version}
use Rattle.splitter.proofs.split_on.Goals as goal

pub returns-in_err-map_on : goal.returns-in_err-map_on
returns-in_err-map_on c =
    let p = err_from_is_err_and c.from_residual.result c.from_residual.ensures.1 in
    rw (p.1, p.2) (on-refused _ _ _ _ _ _ (replicate 1536 0) (replicate 128 0) refl refl c.in_err-map_on.was c.map_on.ensures)

pub returns : goal.returns
returns c = on-version _ _ _ _ _ _ (replicate 1536 0) (replicate 128 0) refl refl c.in_ok-map_on.was c.map_on.ensures c.split.ensures

-- `taking::is_kept_since` meets its contract. Assumes nothing.
use Rattle.taking.proofs.Ways.{kept-since}
use Rattle.taking.proofs.is_kept_since.Goals as goal

pub returns-then-i-h : goal.returns-then-i-h
returns-then-i-h c = search kept-since

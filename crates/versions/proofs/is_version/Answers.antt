-- `versions::is_version` meets its contract. Assumes nothing.
use Rattle.versions.proofs.Maps.{following}
use Rattle.versions.proofs.Pieces.{entries-long}
use Rattle.versions.proofs.is_version.Goals as goal

pub are_kept-requires : goal.are_kept-requires
are_kept-requires c = search entries-long

pub returns-then-may_follow : goal.returns-then-may_follow
returns-then-may_follow c = search following

-- The file is accepted, since its check answers so.
use Rattle.std.proofs.Common.{rules}
use Rattle.checking.proofs.Answered.{is-accepted}
use Rattle.nem_store.proofs.put.put_file.Goals as goal

pub fill-requires : goal.fill-requires
fill-requires g c = (search is-accepted, search rules)

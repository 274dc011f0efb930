-- `outputs::is_kept` meets its contract. Assumes nothing.
use Rattle.ground.proofs.Lists.{part-long}
use Rattle.outputs.proofs.Channels.{kept_entry}
use native.Mathlib.Omega.{arith}
use Rattle.outputs.proofs.is_kept.Goals as goal

pub slice_bounds-key-end : goal.slice_bounds-key-end
slice_bounds-key-end c = part-long 12 c.args.entry.now (omega arith)

pub returns : goal.returns
returns c = search kept_entry

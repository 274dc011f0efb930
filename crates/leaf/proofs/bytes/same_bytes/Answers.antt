-- `leaf::bytes::same_bytes` meets its contract. Assumes nothing.
use mathlib.Core.Path.{◌∙◌}
use Rattle.leaf.proofs.Cases.{pointwise-same}
use Rattle.leaf.proofs.bytes.same_bytes.Goals as goal

pub returns : goal.returns
returns c = c.eq.ensures ∙ pointwise-same c.args.f.now c.args.g.now

-- `lines::plain_span` meets its contract. Assumes nothing.
use Rattle.lines.proofs.Passes.{passes}
use native.Mathlib.Omega.{arith}
use Rattle.lines.proofs.plain_span.Goals as goal

pub chunks-long-requires : goal.chunks-long-requires
chunks-long-requires c = search (passes, arith)

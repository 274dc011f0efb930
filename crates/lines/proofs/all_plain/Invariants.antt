-- `lines::all_plain` meets its contract. Assumes nothing.
use Rattle.format.specs.Bytes.{plain}
use Rattle.lines.proofs.Passes.{Held}
use Rattle.lines.proofs.all_plain.Given as goal

abbrev pub invariant-loop-b : goal.invariant-loop-b
invariant-loop-b l = Held plain l.s l.b-index l.ok

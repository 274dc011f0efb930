-- `lines::line_len` meets its contract. Assumes nothing.
use Prim.Native.Nat.{◌+◌}
use Rattle.lines.specs.Places.{line_len}
use lib.ListN.{drop}
use mathlib.Core.Path.{◌≡◌}
use Rattle.lines.proofs.line_len.Given as goal

abbrev pub invariant-loop-i : goal.invariant-loop-i
invariant-loop-i l = line_len l.s ≡ l.i + line_len (drop l.i l.s)

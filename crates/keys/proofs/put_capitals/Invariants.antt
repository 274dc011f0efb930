-- `keys::put_capitals` meets its contract: i bytes of the capitals are written (`Copied`). Each place is inside by the contract. Assumes nothing.
use Rattle.text.proofs.Loops.{Copied}
use Rattle.entries.specs.Keys.{capitals}
use Rattle.keys.proofs.put_capitals.Given as goal

abbrev pub invariant-loop-i : goal.invariant-loop-i
invariant-loop-i l = Copied l.initial.m l.at (capitals l.s) l.m l.i

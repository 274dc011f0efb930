-- `text::digits::put_digits` meets its contract. Assumes nothing.
use Rattle.text.proofs.Loops.{Shown}
use Rattle.text.proofs.digits.put_digits.Given as goal

abbrev pub invariant-loop-j : goal.invariant-loop-j
invariant-loop-j l = Shown l.initial.room l.at l.k l.n l.room l.j l.m

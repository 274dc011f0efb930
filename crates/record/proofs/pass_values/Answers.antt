-- `record::pass_values` meets its contract: the values before those that are left are passed. Assumes nothing.
use Rattle.record.proofs.Turns.{value-left, along-at, along-value, held-past}
use borrow.Author.Rules.{rules}
use native.Mathlib.Omega.{arith}
use Rattle.record.proofs.pass_values.Goals as goal

pub loop-left-init : goal.loop-left-init
loop-left-init c = (along-at _ _ _ _ _ _ _ _ c.requires.1 (omega arith), omega arith, search rules, omega arith)

pub value_held-h-requires : goal.value_held-h-requires
value_held-h-requires c = let h = value-left _ _ _ _ _ _ _ c.requires.0 c.loop-left.invariant.0 (omega arith) in (omega (arith, h), search rules, search rules)

pub loop-left-preserved : goal.loop-left-preserved
loop-left-preserved c = let p = held-past _ _ _ _ c.value_held-h.ensures c.in-Some.is in (search along-value, omega arith, omega (arith, p), omega arith)

pub returns : goal.returns
returns c = (along-at _ _ _ _ _ _ _ _ c.loop-left.invariant.0 (omega arith), search rules, omega arith, search rules)

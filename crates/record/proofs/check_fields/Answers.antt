-- `record::check_fields` meets its contract. Assumes nothing.
use Rattle.record.proofs.Turns.{turn-stops, turn_on, turn-past, asked-for, along-first, along-end, noted-none, noted-first, noted-second}
use borrow.Author.Rules.{rules}
use native.Mathlib.Omega.{arith}
use Rattle.record.proofs.check_fields.Goals as goal

pub loop-b-init : goal.loop-b-init
loop-b-init c = (search asked-for, search rules, search along-first, search noted-none, search noted-none, omega arith)

pub returns-in_default : goal.returns-in_default
returns-in_default c = search turn-stops

pub passed-s-requires : goal.passed-s-requires
passed-s-requires c = (c.requires.0, turn_on _ _ _ _ _ _ _ _ c.requires.0 c.loop-b.invariant.2 c.loop-b-test.true c.held_at-h.ensures c.in-Some.is, omega arith, c.requires.1)

pub loop-b-smaller : goal.loop-b-smaller
loop-b-smaller c = let p = turn-past _ _ _ _ _ _ _ _ c.requires.0 c.loop-b.invariant.2 c.loop-b-test.true c.held_at-h.ensures c.in-Some.is in omega (arith, p, c.passed-s.ensures.on)

pub loop-b-preserved : goal.loop-b-preserved
loop-b-preserved c = (search rules, search rules, c.passed-s.ensures.along, search noted-first, search noted-second, omega (arith, c.passed-s.ensures.more))

pub returns : goal.returns
returns c = search along-end

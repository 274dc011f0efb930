-- `month_lists::fill_days` meets its contract. Assumes nothing.
use Prim.Native.Nat.{◌+◌}
use Rattle.day.specs.Places.{located}
use Rattle.filling.proofs.Cases.{place-sound}
use Rattle.month_lists.proofs.Lay.{alike, still_alike}
use Rattle.month_lists.proofs.Turn.{begins, ready, goes_on_lem, ends}
use Rattle.months.specs.Month.{daily}
use native.Mathlib.Omega.{arith}
use Rattle.month_lists.proofs.fill_days.Goals as goal

pub loop-i-init : goal.loop-i-init
loop-i-init c = (omega arith, begins _ _ _ _ _ c.requires, alike _)

pub fill_place-n-requires : goal.fill_place-n-requires
fill_place-n-requires c = (c.find_day-place.ensures.inside, place-sound _ (c.args.first + c.loop-i.i) c.find_day-place.result c.find_day-place.ensures.is c.requires.accepted, ready _ _ _ _ _ _ _ _ c.requires.order c.loop-i.invariant.0 c.loop-i.invariant.1 c.find_day-place.result c.find_day-place.ensures.is)

pub overflow_add-k : goal.overflow_add-k
overflow_add-k c = let r = ready _ _ _ _ _ _ _ _ c.requires.order c.loop-i.invariant.0 c.loop-i.invariant.1 c.find_day-place.result c.find_day-place.ensures.is in omega (arith, c.before.before.before.before.before.before.before.before.before.before.before.before.before.before.before.before.before.before.before.before.before.before.before.before.before.before.before.before.before.before.before.before.before.before.before.before.before.before.before.before.before.before.before.before.before.before.before.before.before.well_formed, r.long.values, c.fill_place-n.ensures.n, c.loop-i.invariant.2.values)

pub overflow_add-i : goal.overflow_add-i
overflow_add-i c = let r = ready _ _ _ _ _ _ _ _ c.requires.order c.loop-i.invariant.0 c.loop-i.invariant.1 c.find_day-place.result c.find_day-place.ensures.is in omega (arith, c.before.before.before.before.before.before.before.before.before.before.before.before.before.before.before.before.before.before.before.before.before.before.before.before.before.before.before.before.before.before.before.before.before.before.before.before.before.before.before.before.before.before.before.before.before.before.before.before.before.well_formed, r.daily.counts, c.loop-i.invariant.2.counts)

pub overflow_sub-last : goal.overflow_sub-last
overflow_sub-last c = c.requires.order

pub returns-then-last-first : goal.returns-then-last-first
returns-then-last-first c = ends _ _ _ _ _ _ _ _ c.requires.order (omega (arith, c.loop-i.invariant.0)) c.if-last-first.true (goes_on_lem _ _ _ _ _ _ _ _ c.requires.order c.loop-i.invariant.0 c.loop-i.invariant.1 c.find_day-place.result c.find_day-place.ensures.is c.requires.accepted _ c.behind-next.ensures _ _ c.fill_place-n.ensures.n c.fill_place-n.ensures.lists)

pub loop-i-smaller : goal.loop-i-smaller
loop-i-smaller c = omega (arith, c.loop-i.invariant.0, c.if-last-first.false)

pub loop-i-preserved : goal.loop-i-preserved
loop-i-preserved c = (omega (arith, c.if-last-first.false), goes_on_lem _ _ _ _ _ _ _ _ c.requires.order c.loop-i.invariant.0 c.loop-i.invariant.1 c.find_day-place.result c.find_day-place.ensures.is c.requires.accepted _ c.behind-next.ensures _ _ c.fill_place-n.ensures.n c.fill_place-n.ensures.lists, still_alike (located c.args.file.now c.find_day-place.result) c.loop-i.k c.loop-i.i _ _ _ c.loop-i.invariant.2 c.fill_place-n.ensures.lists)

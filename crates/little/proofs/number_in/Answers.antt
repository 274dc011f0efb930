-- `little::number_in` meets its contract: v is the number of the bytes that were read, from the last on (`Gathered`), and eight bytes fit. A byte is below 256 by
-- its type. Assumes nothing.
use Rattle.std.proofs.lemmas.List.{length_push}
use Rattle.std.proofs.lemmas.Iterator.Adapters.{YieldsList-from_rev_slice}
use Rattle.std.proofs.lemmas.Iterator.Consumers.{YieldsList-turn, YieldsList-end}
use Rattle.little.proofs.Numbers.{gathered_none, gathered_next, next-times, next-fits, gathered-all}
use Rattle.little.proofs.number_in.Goals as goal

pub loop-b-init : goal.loop-b-init
loop-b-init c = (tt, tt, gathered_none _ c.requires)

pub overflow_mul-v : goal.overflow_mul-v
overflow_mul-v c =
    let t = YieldsList-turn (YieldsList-from_rev_slice c.args.s.now cc) c.loop-b.yielded _ c.loop-b.yielded_by _ _ c.in-Some.b c.in-Some.is c.next.ensures.steps in
    next-times c.args.s.now _ _ _ t.0 t.1 c.type_inv.s c.loop-b.invariant.2

pub overflow_add-v : goal.overflow_add-v
overflow_add-v c =
    let t = YieldsList-turn (YieldsList-from_rev_slice c.args.s.now cc) c.loop-b.yielded _ c.loop-b.yielded_by _ _ c.in-Some.b c.in-Some.is c.next.ensures.steps in
    rw c.from.ensures (next-fits c.args.s.now _ _ _ t.0 t.1 c.type_inv.s c.loop-b.invariant.2)

pub loop-b-preserved : goal.loop-b-preserved
loop-b-preserved c =
    let t = YieldsList-turn (YieldsList-from_rev_slice c.args.s.now cc) c.loop-b.yielded _ c.loop-b.yielded_by _ _ c.in-Some.b c.in-Some.is c.next.ensures.steps in
    (tt, tt, rw c.from.ensures (gathered_next c.args.s.now _ _ _ t.0 t.1 c.type_inv.s c.loop-b.invariant.2 (length_push c.loop-b.yielded c.in-Some.b)))

pub returns : goal.returns
returns c =
    let t = YieldsList-end (YieldsList-from_rev_slice c.args.s.now cc) c.loop-b.yielded _ c.loop-b.yielded_by _ _ c.in-None.is c.next.ensures.steps in
    let p = gathered-all c.args.s.now _ _ t.1 c.loop-b.invariant.2 in
    record { is = p.0; small = p.1 }

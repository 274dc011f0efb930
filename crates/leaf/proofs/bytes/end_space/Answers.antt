-- `leaf::bytes::end_space` meets its contract. Assumes nothing.
use mathlib.Core.Path.{refl}
use Prim.Native.Nat.{◌-◌}
use lib.ListN.{length}
use Rattle.format.specs.Bytes.{end_space}
use Rattle.leaf.proofs.Cases.{space-at}
use Rattle.leaf.proofs.bytes.end_space.Goals as goal

pub returns-then-eq : goal.returns-then-eq
unfolding end_space
returns-then-eq c =
    let s = c.args.f.now in
    let e = space-at s 0 c.first.result _ c.eq.ensures refl c.first.ensures.value in
    rw (← e, c.if-eq.true)

pub returns-else-eq : goal.returns-else-eq
unfolding end_space
returns-else-eq c =
    let s = c.args.f.now in
    let e = space-at s 0 c.first.result _ c.eq.ensures refl c.first.ensures.value in
    let l = space-at s (length s - 1) c.last.result _ c.eq-else-eq.ensures refl c.last.ensures.value in
    rw (← e, c.if-eq.false, ← l)

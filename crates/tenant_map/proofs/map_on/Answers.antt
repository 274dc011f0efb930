-- `tenant_map::map_on` meets its contract. Assumes nothing.
use Rattle.tenant_map.proofs.Asks.{on-few, on-long, on-no-map, on_none, on-short, on-filled}
use Rattle.tenant_map.proofs.Changes.{keys-enough, shares-enough}
use lib.ListN.{length}
use native.Mathlib.Omega.{arith}
use mathlib.Core.Path.{ap}
use mathlib.Core.Bool.{not}
use Rattle.tenant_map.proofs.map_on.Goals as goal

pub returns-then-not-is_map : goal.returns-then-not-is_map
returns-then-not-is_map c = search on-no-map

pub returns-then-v-eq0 : goal.returns-then-v-eq0
returns-then-v-eq0 c = search on_none

pub returns-then-not-are_enough : goal.returns-then-not-are_enough
returns-then-not-are_enough c = on-short c.args.memory.now c.args.date _ _ c.is_map.ensures (ap not c.if-not-is_map.false) c.version_on-v.ensures c.if-v-eq0.false c.are_enough.ensures (ap not c.if-not-are_enough.true) c.bare-then-not-are_enough.ensures

pub fill-requires : goal.fill-requires
fill-requires c = (on-long c.args.memory.now c.args.date c.is_map.ensures (ap not c.if-not-is_map.false) c.version_on-v.ensures, omega (arith, on-few c.args.memory.now c.args.date c.is_map.ensures (ap not c.if-not-is_map.false) c.version_on-v.ensures c.if-v-eq0.false), keys-enough (length c.args.keys.now) (length c.args.shares.now) c.are_enough.ensures (ap not c.if-not-are_enough.false), shares-enough (length c.args.keys.now) (length c.args.shares.now) c.are_enough.ensures (ap not c.if-not-are_enough.false))

pub returns : goal.returns
returns c = on-filled c.args.memory.now c.args.date _ _ c.is_map.ensures (ap not c.if-not-is_map.false) c.version_on-v.ensures c.if-v-eq0.false c.are_enough.ensures (ap not c.if-not-are_enough.false) c.fill.ensures.keys c.fill.ensures.shares

-- `tenant_map::add_version` meets its contract. Assumes nothing.
use Rattle.tenant_map.proofs.Changes.{keys-enough, shares-enough, map-told, add-no-map, add-short, add-unfit, add_fit}
use lib.ListN.{length}
use mathlib.Core.Path.{ap}
use mathlib.Core.Bool.{not}
use Rattle.tenant_map.proofs.add_version.Goals as goal

pub returns-then-not-is_map : goal.returns-then-not-is_map
returns-then-not-is_map c = search add-no-map

pub returns-then-not-are_enough : goal.returns-then-not-are_enough
returns-then-not-are_enough c = search add-short

pub are_fit-requires : goal.are_fit-requires
are_fit-requires c = (keys-enough (length c.args.keys.now) (length c.args.shares.now) c.are_enough.ensures (ap not c.if-not-are_enough.false), shares-enough (length c.args.keys.now) (length c.args.shares.now) c.are_enough.ensures (ap not c.if-not-are_enough.false))

pub returns-then-not-are_fit : goal.returns-then-not-are_fit
returns-then-not-are_fit c = search add-unfit

pub append_given-requires : goal.append_given-requires
append_given-requires c = (map-told c.args.memory.now c.is_map.ensures (ap not c.if-not-is_map.false), keys-enough (length c.args.keys.now) (length c.args.shares.now) c.are_enough.ensures (ap not c.if-not-are_enough.false), shares-enough (length c.args.keys.now) (length c.args.shares.now) c.are_enough.ensures (ap not c.if-not-are_enough.false))

pub returns : goal.returns
returns c = search add_fit

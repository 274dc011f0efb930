-- `tenant_map::back_to` meets its contract. Assumes nothing.
use Rattle.tenant_map.proofs.Changes.{map-told, back-no-map, back-zero, back-past, back-there}
use native.Mathlib.Omega.{arith}
use mathlib.Core.Path.{ap}
use mathlib.Core.Bool.{not}
use Rattle.tenant_map.proofs.back_to.Goals as goal

pub returns-then-not-is_map : goal.returns-then-not-is_map
returns-then-not-is_map c = search back-no-map

pub returns-then-version-eq0 : goal.returns-then-version-eq0
returns-then-version-eq0 c = search back-zero

pub returns-then-n-version : goal.returns-then-n-version
returns-then-n-version c = search back-past

pub append_copy-requires : goal.append_copy-requires
append_copy-requires c = (map-told c.args.memory.now c.is_map.ensures (ap not c.if-not-is_map.false), omega (arith, c.count-n.ensures))

pub returns : goal.returns
returns c = search back-there

-- `tenant_map::fill` meets its contract. Assumes nothing.
use Rattle.tenant_map.proofs.Asks.{keys-of-version, shares-of-version}
use Rattle.versions.proofs.Pieces.{entries-long}
use native.Mathlib.Omega.{arith}
use Rattle.tenant_map.proofs.fill.Goals as goal

pub fill_keys-requires : goal.fill_keys-requires
fill_keys-requires c = (search entries-long, omega arith)

pub fill_shares-requires : goal.fill_shares-requires
fill_shares-requires c = (search entries-long, omega arith)

pub returns : goal.returns
returns c = record { keys = search keys-of-version; shares = search shares-of-version }

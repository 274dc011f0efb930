-- `map_table::with_key` meets its contract. Assumes nothing.
use Rattle.map_table.proofs.Ways.{keyless, no-nmi, no-suffix, with_all}
use Rattle.map_table.proofs.with_key.Goals as goal

pub returns-then-is_keyless : goal.returns-then-is_keyless
returns-then-is_keyless c = search keyless

pub returns-then-not-nmi : goal.returns-then-not-nmi
returns-then-not-nmi c = search no-nmi

pub returns-then-not-suffix : goal.returns-then-not-suffix
returns-then-not-suffix c = search no-suffix

pub returns : goal.returns
returns c = search with_all

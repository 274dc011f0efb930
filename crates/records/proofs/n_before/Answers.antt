-- `records::n_before` meets its contract. Assumes nothing.
use Rattle.records.proofs.Lookup.{n-is, n-most}
use Rattle.records.proofs.n_before.Goals as goal

pub returns : goal.returns
returns c = record { is = search n-is; most = search n-most }

-- `sheet::given_lists::halves_of` meets its contract. Assumes nothing.
use Rattle.std.proofs.Common.{◌%◌, rules, tests}
use Rattle.sheet.proofs.Sheets.{holds-made}
use Rattle.sheet.proofs.given_lists.halves_of.Goals as goal

pub returns : goal.returns
returns c = holds-made _ _ (λ z. z % 65536) _ _ (λ i v q k. search (rules, tests)) c.from_fn.ensures.items

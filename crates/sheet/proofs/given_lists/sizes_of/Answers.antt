-- `sheet::given_lists::sizes_of` meets its contract. Assumes nothing.
use Rattle.std.proofs.Common.{rules, tests}
use Rattle.sheet.proofs.Sheets.{holds-made}
use Rattle.sheet.proofs.given_lists.sizes_of.Goals as goal

pub returns : goal.returns
returns c = holds-made _ _ (λ z. z) _ _ (λ i v q k. search (rules, tests)) c.from_fn.ensures.items

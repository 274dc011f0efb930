-- `sheet::given_lists::below` meets its contract. Assumes nothing.
use Rattle.std.proofs.Common.{rules, tests}
use Rattle.std.proofs.lemmas.Iterator.{YieldsList-from_slice}
use Rattle.std.proofs.lemmas.Iterator.Search.{all_from_yields_List}
use Rattle.sheet.proofs.Sheets.{below-all}
use Rattle.sheet.proofs.given_lists.below.Goals as goal

pub returns : goal.returns
returns c = below-all _ _ (all_from_yields_List _ _ _ _ c.all.ensures.ran (YieldsList-from_slice c.args.list.now cc) (λ x b q k. search (rules, tests)))

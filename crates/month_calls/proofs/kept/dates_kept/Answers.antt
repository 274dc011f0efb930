-- `month_calls::kept::dates_kept` meets its contract. Assumes nothing.
use Rattle.std.proofs.Common.{rules, tests}
use Rattle.std.proofs.lemmas.Iterator.{YieldsList-from_slice}
use Rattle.std.proofs.lemmas.Iterator.Adapters.{YieldsList-from_skip}
use Rattle.std.proofs.lemmas.Iterator.Search.{all_from_yields_List}
use Rattle.calls.proofs.Looked.{kept-all}
use Rattle.month_calls.proofs.kept.dates_kept.Goals as goal

pub returns : goal.returns
returns c =
    kept-all _ _ _
    (all_from_yields_List _ _ _ _ c.all.ensures.ran (YieldsList-from_skip c.args.from (YieldsList-from_slice _ cc) cc) (λ x b q k. search (rules, tests)))

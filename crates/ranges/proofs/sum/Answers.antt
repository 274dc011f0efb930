-- `ranges::sum` meets its contract: it is std's sum of the lengths (`sum-is`). Assumes nothing.
use mathlib.Core.Path.{◌∙◌}
use borrow.Author.Rules.{rules}
use borrow.Author.Tests.{tests}
use Rattle.std.proofs.lemmas.Iterator.{YieldsList-from_slice, YieldsList-from_map}
use Rattle.std.proofs.lemmas.Iterator.Consumers.{sum_by_from_yields_List}
use Rattle.ranges.proofs.Sums.{sum-is}
use Rattle.ranges.proofs.sum.Goals as goal

pub returns : goal.returns
returns c =
    sum_by_from_yields_List (λ n. n) _ c.map.result _ c.sum.ensures.ran
    (YieldsList-from_map _ (λ x. x) (YieldsList-from_slice c.args.lengths.now cc) c.map.ensures.closure (λ x r q k. search (rules, tests)))
    ∙ sum-is _

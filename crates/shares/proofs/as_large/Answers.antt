-- `shares::as_large` meets its contract: it is std's sum of the tests' values (`count-sum`). Assumes nothing.
use mathlib.Core.Path.{◌∙◌}
use lib.Dec.{leb}
use borrow.Author.Rules.{rules}
use borrow.Author.Tests.{tests}
use native.Mathlib.Omega.{arith}
use Rattle.std.proofs.lemmas.Iterator.{YieldsList-from_slice, YieldsList-from_map}
use Rattle.std.proofs.lemmas.Iterator.Consumers.{sum_by_from_yields_List, fits_by_from_yields_list}
use Rattle.shares.specs.Shares.{one}
use Rattle.shares.proofs.Counts.{count-sum, count-length}
use Rattle.shares.proofs.as_large.Goals as goal

pub sum-requires-clause-fits : goal.sum-requires-clause-fits
sum-requires-clause-fits c =
    fits_by_from_yields_list (λ r. one (leb c.args.x r)) c.args.rs.now c.map.result _
    (YieldsList-from_map _ _ (YieldsList-from_slice c.args.rs.now cc) c.map.ensures.closure (λ x r q k. search (rules, tests)))
    (omega (arith, count-sum (leb c.args.x) c.args.rs.now, count-length (leb c.args.x) c.args.rs.now))

pub returns-clause-is : goal.returns-clause-is
returns-clause-is c =
    sum_by_from_yields_List (λ r. one (leb c.args.x r)) _ c.map.result _ c.sum.ensures.ran
    (YieldsList-from_map _ _ (YieldsList-from_slice c.args.rs.now cc) c.map.ensures.closure (λ x r q k. search (rules, tests)))
    ∙ count-sum _ _

pub returns-clause-most : goal.returns-clause-most
returns-clause-most c = omega (arith, returns-clause-is c, count-length (leb c.args.x) c.args.rs.now)

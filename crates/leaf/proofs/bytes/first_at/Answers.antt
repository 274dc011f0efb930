-- `leaf::bytes::first_at` meets its contract. Assumes nothing.
use mathlib.Core.Path.{◌∙◌}
use lib.Dec.{eqb}
use Rattle.std.proofs.Common.{rules, tests}
use Rattle.std.proofs.lemmas.Iterator.{YieldsList-from_slice}
use Rattle.std.proofs.lemmas.Iterator.Search.{position_from_yields_List}
use Rattle.leaf.proofs.Cases.{first-is}
use Rattle.leaf.proofs.bytes.first_at.Goals as goal

pub returns-clause-is : goal.returns-clause-is
returns-clause-is c =
    let s = c.args.f.now in
    let x = c.args.x in
    c.unwrap_or.ensures
    ∙ first-is x s (position_from_yields_List (λ b. eqb b x) _ _ _ c.position.ensures.ran (YieldsList-from_slice s cc) (λ y b q k. search (rules, tests)))

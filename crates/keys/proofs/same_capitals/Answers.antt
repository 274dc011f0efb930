-- `keys::same_capitals` meets its contract: lists of one length are the same if each pair is (`same-zip`). Assumes nothing.
use mathlib.Core.Path.{◌∙◌}
use borrow.Author.Rules.{rules}
use borrow.Author.Tests.{ne_eqb, tests}
use lib.Dec.{eqb}
use Rattle.std.proofs.lemmas.Iterator.{YieldsList-from_slice, YieldsList-from_zip}
use Rattle.std.proofs.lemmas.Iterator.Search.{all_from_yields_List}
use Rattle.format.specs.Bytes.{capital}
use Rattle.keys.proofs.Letters.{alike-not, same-zip}
use Rattle.keys.proofs.same_capitals.Goals as goal

pub returns-then-given-kept : goal.returns-then-given-kept
returns-then-given-kept c =
    all_from_yields_List (λ p. eqb (capital p.0) p.1) c.all.new.self _ _ c.all.ensures.ran
    (YieldsList-from_zip (YieldsList-from_slice c.args.given.now cc) (YieldsList-from_slice c.args.kept.now cc)) (λ x b q k. search (rules, tests))
    ∙ same-zip _ _ c.if-given-kept.true

pub returns-else-given-kept : goal.returns-else-given-kept
returns-else-given-kept c = ne_eqb _ _ c.if-given-kept.false ∙ alike-not _ _ c.if-given-kept.false

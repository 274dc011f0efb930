-- `fit::are_field_bytes` meets its contract. Assumes nothing.
use mathlib.Core.Path.{◌∙◌}
use borrow.Author.Rules.{rules}
use Rattle.ground.proofs.Tests.{tests}
use Rattle.std.proofs.lemmas.Iterator.{YieldsList-from_slice}
use Rattle.std.proofs.lemmas.Iterator.Search.{all_from_yields_List}
use Rattle.format.specs.Bytes.{field_byte}
use Rattle.fit.proofs.Marks.{all-is}
use Rattle.fit.proofs.are_field_bytes.Goals as goal

pub returns : goal.returns
returns c =
    all_from_yields_List field_byte _ _ _ c.all.ensures.ran (YieldsList-from_slice c.args.f.now cc) (λ x b q k. search (rules, tests))
    ∙ all-is field_byte c.args.f.now

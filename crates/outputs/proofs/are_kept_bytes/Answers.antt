-- `outputs::are_kept_bytes` meets its contract. Assumes nothing.
use mathlib.Core.Path.{◌∙◌}
use borrow.Author.Rules.{rules}
use borrow.Author.Tests.{tests}
use Rattle.std.proofs.lemmas.Iterator.{YieldsList-from_slice}
use Rattle.std.proofs.lemmas.Iterator.Search.{all_from_yields_List}
use Rattle.outputs.specs.Taken.{kept_byte}
use Rattle.outputs.proofs.Channels.{all-each}
use Rattle.outputs.proofs.are_kept_bytes.Goals as goal

pub returns : goal.returns
returns c =
    all_from_yields_List kept_byte c.all.new.self _ _ c.all.ensures.ran (YieldsList-from_slice c.args.key.now cc) (λ x b q k. search (rules, tests))
    ∙ all-each kept_byte c.args.key.now

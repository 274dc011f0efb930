-- `classes::all_in` meets its contract. Assumes nothing.
use mathlib.Core.Path.{◌∙◌}
use Rattle.std.proofs.Common.{rules, tests}
use Rattle.std.proofs.lemmas.Iterator.{YieldsList-from_slice}
use Rattle.std.proofs.lemmas.Iterator.Search.{all_from_yields_List}
use Rattle.classes.specs.Classes.{in_class}
use Rattle.classes.proofs.Cases.{all-is}
use Rattle.classes.proofs.all_in.Goals as goal

pub returns : goal.returns
returns c =
    let s = c.args.f.now in
    let p = in_class c.args.c in
    all_from_yields_List p _ _ _ c.all.ensures.ran (YieldsList-from_slice s cc) (λ x b q k. search (rules, tests)) ∙ all-is p s

-- `named::same_letters` meets its contract. Assumes nothing.
use native.Mathlib.Omega.{arith}
use Rattle.std.proofs.lemmas.Bool.Decides.{nat_tests}
use Rattle.named.proofs.Letters.{letters-are}
use Rattle.named.proofs.same_letters.Goals as goal

pub returns : goal.returns
returns c =
    let e = letters-are c.args.f.now c.args.g.now c.eq_ignore_ascii_case.ensures.test.0 c.eq_ignore_ascii_case.ensures.test.1 in grind (arith, nat_tests)

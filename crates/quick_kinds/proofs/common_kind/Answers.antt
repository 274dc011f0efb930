-- `quick_kinds::common_kind` meets its contract. Assumes nothing.
use Rattle.quick_kinds.proofs.Indicators.{kind-hundreds, kind-250}
use Prim.Native.Nat.{◌≤◌}
use lib.ListN.{get_or}
use native.Mathlib.Omega.{arith}
use Rattle.quick_kinds.proofs.common_kind.Goals as goal

pub returns-in-49-to-53-eq48-eq48 : goal.returns-in-49-to-53-eq48-eq48
returns-in-49-to-53-eq48-eq48 c =
    let low : 49 ≤ get_or c.args.f.now 0 0 = grind arith in
    let high : get_or c.args.f.now 0 0 ≤ 53 = grind arith in
    λ _. rw c.from.ensures (kind-hundreds _ c.requires (omega arith) (omega arith) low high)

pub returns-in-50-eq53-eq48 : goal.returns-in-50-eq53-eq48
returns-in-50-eq53-eq48 c = λ _. kind-250 _ c.requires (omega arith) (omega arith) (omega arith)

-- `shorts::short_at` meets its contract. Assumes nothing.
use Rattle.shorts.proofs.Shorts.{in-range, whole-one, whole-more, whole-point, whole-complete, whole-low}
use native.Mathlib.Omega.{arith}
use mathlib.Core.Path.{ap}
use mathlib.Core.Bool.{not}
use Rattle.shorts.proofs.short_at.Goals as goal

pub more-d1-requires : goal.more-d1-requires
more-d1-requires c =
    let r = in-range _ c.is_digit.ensures (ap not c.if-not-is_digit.false) in
    (omega arith, omega arith, r.0, r.1)

pub fraction-requires : goal.fraction-requires
fraction-requires c =
    let w₁ = whole-one c.args.file.now c.args.a (omega arith) c.is_digit.ensures (ap not c.if-not-is_digit.false) c.more-d1.ensures.is.0 c.more-d1.ensures.is.1 in
    (whole-point w₁ (omega arith) c.if-b2-eq46.true, omega arith, omega arith, omega arith)

pub ended-requires : goal.ended-requires
ended-requires c =
    let w₁ = whole-one c.args.file.now c.args.a (omega arith) c.is_digit.ensures (ap not c.if-not-is_digit.false) c.more-d1.ensures.is.0 c.more-d1.ensures.is.1 in
    (whole-complete w₁ (omega arith) (omega arith), whole-low w₁)

pub more-d2-requires : goal.more-d2-requires
more-d2-requires c =
    let r = in-range _ c.is_digit-2.ensures (ap not c.if-not-is_digit-2.false) in
    (omega arith, omega arith, r.0, r.1)

pub fraction-requires-then-b3-eq46 : goal.fraction-requires-then-b3-eq46
fraction-requires-then-b3-eq46 c =
    let w₁ = whole-one c.args.file.now c.args.a (omega arith) c.is_digit.ensures (ap not c.if-not-is_digit.false) c.more-d1.ensures.is.0 c.more-d1.ensures.is.1 in
    let w₂ = whole-more w₁ (omega arith) (omega arith) c.is_digit-2.ensures (ap not c.if-not-is_digit-2.false) c.more-d2.ensures.is.0 c.more-d2.ensures.is.1 in
    (whole-point w₂ (omega arith) c.if-b3-eq46.true, omega arith, omega arith, omega arith)

pub ended-requires-then-not-is_digit-3 : goal.ended-requires-then-not-is_digit-3
ended-requires-then-not-is_digit-3 c =
    let w₁ = whole-one c.args.file.now c.args.a (omega arith) c.is_digit.ensures (ap not c.if-not-is_digit.false) c.more-d1.ensures.is.0 c.more-d1.ensures.is.1 in
    let w₂ = whole-more w₁ (omega arith) (omega arith) c.is_digit-2.ensures (ap not c.if-not-is_digit-2.false) c.more-d2.ensures.is.0 c.more-d2.ensures.is.1 in
    (whole-complete w₂ (omega arith) (omega arith), whole-low w₂)

pub more-requires : goal.more-requires
more-requires c =
    let r = in-range _ c.is_digit-3.ensures (ap not c.if-not-is_digit-3.false) in
    (omega arith, omega arith, r.0, r.1)

pub behind_three-requires : goal.behind_three-requires
behind_three-requires c =
    let w₁ = whole-one c.args.file.now c.args.a (omega arith) c.is_digit.ensures (ap not c.if-not-is_digit.false) c.more-d1.ensures.is.0 c.more-d1.ensures.is.1 in
    let w₂ = whole-more w₁ (omega arith) (omega arith) c.is_digit-2.ensures (ap not c.if-not-is_digit-2.false) c.more-d2.ensures.is.0 c.more-d2.ensures.is.1 in
    let w₃ = whole-more w₂ (omega arith) (omega arith) c.is_digit-3.ensures (ap not c.if-not-is_digit-3.false) c.more.ensures.is.0 c.more.ensures.is.1 in
    (w₃, omega arith, omega arith, omega arith)

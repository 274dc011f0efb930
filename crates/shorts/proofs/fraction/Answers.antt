-- `shorts::fraction` meets its contract. Assumes nothing.
use Rattle.shorts.proofs.Shorts.{in-range, point-more, point-complete}
use mathlib.Core.Path.{refl}
use native.Mathlib.Omega.{arith}
use mathlib.Core.Path.{ap}
use mathlib.Core.Bool.{not}
use Rattle.shorts.proofs.fraction.Goals as goal

pub more-d1-requires : goal.more-d1-requires
more-d1-requires c =
    let r = in-range _ c.is_digit.ensures (ap not c.if-not-is_digit.false) in
    (omega arith, omega (arith, c.requires.0.number), r.0, r.1)

pub ended-requires : goal.ended-requires
ended-requires c =
    let p₁ = point-more c.requires.0 (omega arith) c.is_digit.ensures (ap not c.if-not-is_digit.false) c.more-d1.ensures.is.0 c.more-d1.ensures.is.1 in
    (point-complete p₁ (omega arith) (omega arith) refl (omega arith) (omega arith), omega arith)

pub more-d2-requires : goal.more-d2-requires
more-d2-requires c =
    let r = in-range _ c.is_digit-2.ensures (ap not c.if-not-is_digit-2.false) in
    (omega arith, omega arith, r.0, r.1)

pub ended-requires-then-not-is_digit-3 : goal.ended-requires-then-not-is_digit-3
ended-requires-then-not-is_digit-3 c =
    let p₁ = point-more c.requires.0 (omega arith) c.is_digit.ensures (ap not c.if-not-is_digit.false) c.more-d1.ensures.is.0 c.more-d1.ensures.is.1 in
    let p₂ = point-more p₁ (omega arith) c.is_digit-2.ensures (ap not c.if-not-is_digit-2.false) c.more-d2.ensures.is.0 c.more-d2.ensures.is.1 in
    (point-complete p₂ (omega arith) (omega arith) refl (omega arith) (omega arith), omega arith)

pub more-requires : goal.more-requires
more-requires c =
    let r = in-range _ c.is_digit-3.ensures (ap not c.if-not-is_digit-3.false) in
    (omega arith, omega arith, r.0, r.1)

pub ended-requires-2 : goal.ended-requires-2
ended-requires-2 c =
    let p₁ = point-more c.requires.0 (omega arith) c.is_digit.ensures (ap not c.if-not-is_digit.false) c.more-d1.ensures.is.0 c.more-d1.ensures.is.1 in
    let p₂ = point-more p₁ (omega arith) c.is_digit-2.ensures (ap not c.if-not-is_digit-2.false) c.more-d2.ensures.is.0 c.more-d2.ensures.is.1 in
    let p₃ = point-more p₂ (omega arith) c.is_digit-3.ensures (ap not c.if-not-is_digit-3.false) c.more.ensures.is.0 c.more.ensures.is.1 in
    (point-complete p₃ (omega arith) (omega arith) refl (omega arith) (omega arith), omega arith)

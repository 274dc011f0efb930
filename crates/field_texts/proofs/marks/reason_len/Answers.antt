-- `field_texts::marks::reason_len` meets its contract. Assumes nothing.
use Rattle.field_texts.proofs.Texts.{reason-zero, reason-width}
use borrow.Author.Rules.{rules}
use native.Mathlib.Omega.{arith}
use Rattle.field_texts.proofs.marks.reason_len.Goals as goal

pub returns-then-reason-eq-NO_REASON : goal.returns-then-reason-eq-NO_REASON
returns-then-reason-eq-NO_REASON c = (search reason-zero, omega arith)

pub returns-else-reason-eq-NO_REASON : goal.returns-else-reason-eq-NO_REASON
returns-else-reason-eq-NO_REASON c = (let w = rw c.from.ensures at c.digits_len.ensures.0 in search reason-width, search rules)

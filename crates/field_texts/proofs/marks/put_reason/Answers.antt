-- `field_texts::marks::put_reason` meets its contract. Assumes nothing.
use Rattle.field_texts.proofs.Texts.{reason-room, put-no-reason, put-some-reason}
use Rattle.field_texts.proofs.marks.put_reason.Goals as goal

pub returns-then-reason-eq-NO_REASON : goal.returns-then-reason-eq-NO_REASON
returns-then-reason-eq-NO_REASON c = search put-no-reason

pub put_dec-requires : goal.put_dec-requires
put_dec-requires c = rw c.from.ensures (search reason-room)

pub returns-else-reason-eq-NO_REASON : goal.returns-else-reason-eq-NO_REASON
returns-else-reason-eq-NO_REASON c = let p = rw c.from.ensures at c.put_dec.ensures in search put-some-reason

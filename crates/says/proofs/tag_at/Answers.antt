-- `says::tag_at` meets its contract. Assumes nothing.
use Rattle.says.proofs.Fields.{tag_is, graded}
use Rattle.says.proofs.tag_at.Goals as goal

pub returns : goal.returns
returns c = tag_is _ _ _ _ _ _ _ _ _ _ _ _ _ _ _ c.field_at-q.ensures c.field_at-r.ensures c.field_at-d.ensures c.quality.ensures (graded c.quality.result c.unwrap_or-g.ensures).0 (graded c.quality.result c.unwrap_or-g.ensures).1 c.reason_of.ensures c.start_of.ensures

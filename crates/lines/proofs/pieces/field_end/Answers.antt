-- `lines::pieces::field_end` meets its contract. Assumes nothing.
use Rattle.lines.proofs.Steps.{eights}
use Rattle.lines.proofs.pieces.field_end.Goals as goal

pub loop-e-init : goal.loop-e-init
loop-e-init c = search eights

pub comma_marks-marks-requires : goal.comma_marks-marks-requires
comma_marks-marks-requires c = search eights

pub returns-then-marks-ne0 : goal.returns-then-marks-ne0
returns-then-marks-ne0 c = search eights

pub loop-e-preserved : goal.loop-e-preserved
loop-e-preserved c = search eights

-- `value_texts::put_values` meets its contract. Assumes nothing.
use Rattle.format.specs.Block.{values_text}
use Rattle.ground.proofs.Room.{Left}
use lib.ListN.{drop}
use Rattle.value_texts.proofs.put_values.Given as goal

abbrev pub invariant-loop-v : goal.invariant-loop-v
invariant-loop-v l = Left l.initial.room l.at (values_text l.values) l.room l.p (values_text (drop l.v-index l.values))

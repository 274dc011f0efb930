-- `value_texts::put_values` meets its contract. Assumes nothing.
use Rattle.value_texts.proofs.ValueList.{value_room, comma-room, values-step, values-done}
use Rattle.value_texts.proofs.put_values.Goals as goal

pub put_value-e-requires : goal.put_value-e-requires
put_value-e-requires c = search value_room

pub put_byte-p-requires : goal.put_byte-p-requires
put_byte-p-requires c = search comma-room

pub loop-v-preserved : goal.loop-v-preserved
loop-v-preserved c = search values-step

pub returns : goal.returns
returns c = search values-done

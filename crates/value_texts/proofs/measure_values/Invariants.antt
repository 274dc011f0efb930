-- `value_texts::measure_values` meets its contract. Assumes nothing.
use Rattle.value_texts.proofs.ValueList.{Counted}
use Rattle.value_texts.proofs.measure_values.Given as goal

abbrev pub invariant-loop-v : goal.invariant-loop-v
invariant-loop-v l = Counted l.d l.values l.bytes l.v-index

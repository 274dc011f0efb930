-- `value_texts::measure_values` meets its contract. Assumes nothing.
use Rattle.value_texts.proofs.ValueList.{some-part, counted-large, counted-broken, counted-more, counted-all}
use Rattle.value_texts.proofs.measure_values.Goals as goal
use Rattle.value_texts.proofs.measure_values.Goals.{then-v-ge-LIMIT-via-then-v-ge-LIMIT, then-v-ge-LIMIT-via-else-v-ge-LIMIT+then-v-part-ne0}

pub nonzero_rem-v : goal.nonzero_rem-v
nonzero_rem-v c = search some-part

pub returns-then-v-ge-LIMIT : goal.returns-then-v-ge-LIMIT
returns-then-v-ge-LIMIT c =
    elim c.then-v-ge-LIMIT.branch [
      | then-v-ge-LIMIT-via-then-v-ge-LIMIT w ↦ search counted-large
      | then-v-ge-LIMIT-via-else-v-ge-LIMIT+then-v-part-ne0 w ↦ search counted-broken
    ]

pub loop-v-preserved : goal.loop-v-preserved
loop-v-preserved c = search counted-more

pub returns : goal.returns
returns c = search counted-all

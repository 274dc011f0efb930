-- `covers::measure_runs` meets its contract. Assumes nothing.
use Rattle.covers.proofs.Covers.{marked-long, marked-fit, summed-none, summed-fits, summed-all, summed-more}
use native.Mathlib.Omega.{arith}
use Rattle.covers.proofs.measure_runs.Goals as goal

pub loop-i-init : goal.loop-i-init
loop-i-init c = search summed-none

pub tag_at-t-requires : goal.tag_at-t-requires
tag_at-t-requires c = search marked-long

pub run_len-bytes-requires : goal.run_len-bytes-requires
run_len-bytes-requires c = (search marked-fit, omega arith, omega arith)

pub overflow_add-bytes : goal.overflow_add-bytes
overflow_add-bytes c = search summed-fits

pub loop-i-preserved : goal.loop-i-preserved
loop-i-preserved c = search summed-more

pub returns : goal.returns
returns c = search summed-all

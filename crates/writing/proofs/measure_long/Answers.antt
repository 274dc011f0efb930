-- `writing::measure_long` meets its contract. Assumes nothing.
use Rattle.writing.proofs.Refusals.{day-fit, day-bytes, unfit-measured, fit-measured}
use Rattle.writing.proofs.measure_long.Goals as goal

pub measure_block-size-requires : goal.measure_block-size-requires
measure_block-size-requires c = (search day-fit, search day-bytes)

pub returns-in-None : goal.returns-in-None
returns-in-None c = search unfit-measured

pub returns-in-Some : goal.returns-in-Some
returns-in-Some c = search fit-measured

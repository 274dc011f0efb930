-- `writing::write_long` meets its contract. Assumes nothing.
use Rattle.writing.proofs.Refusals.{day-fit, day-bytes, unfit, fit_written}
use Rattle.writing.proofs.write_long.Goals as goal

pub write_fit-requires : goal.write_fit-requires
write_fit-requires c = (search day-fit, search day-bytes)

pub returns-in-None : goal.returns-in-None
returns-in-None c = search unfit

pub returns-in-Some : goal.returns-in-Some
returns-in-Some c = search fit_written

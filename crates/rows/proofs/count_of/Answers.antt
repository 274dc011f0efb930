-- `rows::count_of` meets its contract. Assumes nothing.
use Rattle.format.specs.Records.{row_of}
use Rattle.rows.proofs.Rows.{count-is, count-day, count-900}
use Rattle.rows.proofs.count_of.Goals as goal

pub returns-in-100 : goal.returns-in-100
unfolding row_of
returns-in-100 c = search count-is

pub returns-in-200 : goal.returns-in-200
unfolding row_of
returns-in-200 c = search count-is

pub returns-in-300 : goal.returns-in-300
returns-in-300 c = search count-day

pub returns-in-400 : goal.returns-in-400
unfolding row_of
returns-in-400 c = search count-is

pub returns-in-500 : goal.returns-in-500
unfolding row_of
returns-in-500 c = search count-is

pub returns-in-250 : goal.returns-in-250
unfolding row_of
returns-in-250 c = search count-is

pub returns-in-550 : goal.returns-in-550
unfolding row_of
returns-in-550 c = search count-is

pub returns-in_default : goal.returns-in_default
returns-in_default c = search count-900

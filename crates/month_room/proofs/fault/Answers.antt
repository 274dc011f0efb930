-- `month_room::fault` meets its contract. Assumes nothing.
use Rattle.day.proofs.Find.{under-order, under-within}
use Rattle.month_room.proofs.Walk.{at_first, none_yet_lem, ahead, fault-missing, fault-long, fault-places, fault-none, fault-on}
use borrow.Author.Rules.{rules}
use native.Mathlib.Omega.{arith}
use Rattle.month_room.proofs.fault.Goals as goal

pub loop-found-init : goal.loop-found-init
loop-found-init c = (search rules, search at_first, search none_yet_lem)

pub returns-in_default : goal.returns-in_default
returns-in_default c = search fault-missing

pub intervals_of-n-requires : goal.intervals_of-n-requires
intervals_of-n-requires c = (search under-order, search under-within)

pub returns-then-long-n : goal.returns-then-long-n
returns-then-long-n c = search fault-long

pub returns-then-places-i : goal.returns-then-places-i
returns-then-places-i c = search fault-places

pub returns-then-day-last : goal.returns-then-day-last
returns-then-day-last c = search fault-none

pub loop-found-smaller : goal.loop-found-smaller
loop-found-smaller c = omega arith

pub loop-found-preserved : goal.loop-found-preserved
loop-found-preserved c = (omega arith, search ahead, search fault-on)

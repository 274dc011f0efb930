-- `runs::ended` meets its contract. Assumes nothing.
use Rattle.runs.proofs.Ran.{behind, row_last, interval-on, interval-stops, spans}
use borrow.Author.Rules.{rules}
use native.Mathlib.Omega.{arith}
use Rattle.runs.proofs.ended.Goals as goal

pub slice_bounds-field_end-count : goal.slice_bounds-field_end-count
slice_bounds-field_end-count c = let h = behind _ _ _ c.requires.0 2 _ c.requires.1 (omega arith) in omega (arith, h)

pub slice_bounds-field_end-start : goal.slice_bounds-field_end-start
slice_bounds-field_end-start c = let h = behind _ _ _ c.requires.0 2 _ c.requires.1 (omega arith) in search rules

pub slice_bounds-interval-end : goal.slice_bounds-interval-end
slice_bounds-interval-end c = let h = behind _ _ _ c.requires.0 2 _ c.requires.1 (omega arith) in let w = c.requires.0.within in search rules

pub returns-in_default : goal.returns-in_default
returns-in_default c = interval-stops _ _ _ c.requires.0 2 _ c.requires.1 (omega arith) _ c.field_end.ensures.is row_last c.interval-x.ensures c.in_default.is

pub graded-requires : goal.graded-requires
graded-requires c = (c.requires.0, (interval-on _ _ _ c.requires.0 2 _ c.requires.1 (omega arith) _ c.field_end.ensures.is row_last c.interval-x.ensures c.in-Some.is), spans _ _ _ c.requires.0 _ _ _ _ c.requires.1 c.field_end.ensures.is c.requires.2 c.interval-x.ensures c.in-Some.is)

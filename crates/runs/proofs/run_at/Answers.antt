-- `runs::run_at` meets its contract. Assumes nothing.
use Rattle.runs.proofs.Ran.{behind, row_first, interval-on, interval-stops, first}
use Rattle.record.proofs.Turns.{along-first}
use borrow.Author.Rules.{rules}
use native.Mathlib.Omega.{arith}
use Rattle.runs.proofs.run_at.Goals as goal

pub slice_bounds-field_end-count : goal.slice_bounds-field_end-count
slice_bounds-field_end-count c = let h = behind _ _ _ c.requires 1 _ (along-first _ _ _ _ _ c.requires) (omega arith) in omega (arith, h)

pub slice_bounds-field_end-start : goal.slice_bounds-field_end-start
slice_bounds-field_end-start c = let h = behind _ _ _ c.requires 1 _ (along-first _ _ _ _ _ c.requires) (omega arith) in search rules

pub slice_bounds-interval-end : goal.slice_bounds-interval-end
slice_bounds-interval-end c = let h = behind _ _ _ c.requires 1 _ (along-first _ _ _ _ _ c.requires) (omega arith) in let w = c.requires.within in search rules

pub returns-in_default : goal.returns-in_default
returns-in_default c = interval-stops _ _ _ c.requires 1 _ (along-first _ _ _ _ _ c.requires) (omega arith) _ c.field_end.ensures.is row_first c.interval-x.ensures c.in_default.is

pub ended-requires : goal.ended-requires
ended-requires c = (c.requires, (interval-on _ _ _ c.requires 1 _ (along-first _ _ _ _ _ c.requires) (omega arith) _ c.field_end.ensures.is row_first c.interval-x.ensures c.in-Some.is), first _ _ _ c.requires _ _ _ (along-first _ _ _ _ _ c.requires) c.field_end.ensures.is c.interval-x.ensures c.in-Some.is)

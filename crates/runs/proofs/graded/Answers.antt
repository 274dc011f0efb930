-- `runs::graded` meets its contract. Assumes nothing.
use Rattle.runs.proofs.Ran.{behind, row-quality, quality-on, quality-stops, grades}
use borrow.Author.Rules.{rules}
use native.Mathlib.Omega.{arith}
use Rattle.runs.proofs.graded.Goals as goal

pub slice_bounds-field_end-count : goal.slice_bounds-field_end-count
slice_bounds-field_end-count c = let h = behind _ _ _ c.requires.0 3 _ c.requires.1 (omega arith) in omega (arith, h)

pub slice_bounds-field_end-start : goal.slice_bounds-field_end-start
slice_bounds-field_end-start c = let h = behind _ _ _ c.requires.0 3 _ c.requires.1 (omega arith) in search rules

pub slice_bounds-quality-end : goal.slice_bounds-quality-end
slice_bounds-quality-end c = let h = behind _ _ _ c.requires.0 3 _ c.requires.1 (omega arith) in let w = c.requires.0.within in search rules

pub returns-in_default : goal.returns-in_default
returns-in_default c = quality-stops _ _ _ c.requires.0 3 _ c.requires.1 (omega arith) _ c.field_end.ensures.is row-quality c.quality-g.ensures c.in_default.is

pub reasoned-requires : goal.reasoned-requires
reasoned-requires c = (c.requires.0, (quality-on _ _ _ c.requires.0 3 _ c.requires.1 (omega arith) _ c.field_end.ensures.is row-quality c.quality-g.ensures c.in-Some.is), c.requires.2, grades _ _ _ c.requires.0 _ _ c.requires.1 c.field_end.ensures.is c.quality-g.ensures c.in-Some.is)

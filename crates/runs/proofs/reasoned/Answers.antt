-- `runs::reasoned` meets its contract. Assumes nothing.
use Rattle.format.specs.Numbers.{number_in}
use Rattle.says.proofs.Fields.{reason-fits}
use Rattle.runs.proofs.Ran.{behind, row-reason, reason-on, reason-stops, reason-is, description-stops, ran}
use borrow.Author.Rules.{rules}
use mathlib.Core.Path.{sym, ap}
use native.Mathlib.Omega.{arith}
use mathlib.Core.Bool.{not}
use Rattle.runs.proofs.reasoned.Goals as goal

pub slice_bounds-field_end-count : goal.slice_bounds-field_end-count
slice_bounds-field_end-count c = let h = behind _ _ _ c.requires.0 4 _ c.requires.1 (omega arith) in omega (arith, h)

pub slice_bounds-field_end-start : goal.slice_bounds-field_end-start
slice_bounds-field_end-start c = let h = behind _ _ _ c.requires.0 4 _ c.requires.1 (omega arith) in search rules

pub slice_bounds-reason-end : goal.slice_bounds-reason-end
slice_bounds-reason-end c = let h = behind _ _ _ c.requires.0 4 _ c.requires.1 (omega arith) in let w = c.requires.0.within in search rules

pub returns-in_default : goal.returns-in_default
returns-in_default c = reason-stops _ _ _ c.requires.0 4 _ c.requires.1 (omega arith) _ c.field_end.ensures.is row-reason c.reason-r.ensures c.in_default.is

pub slice_bounds-description-count : goal.slice_bounds-description-count
slice_bounds-description-count c = let h = behind _ _ _ c.requires.0 5 _ (reason-on _ _ _ c.requires.0 4 _ c.requires.1 (omega arith) _ c.field_end.ensures.is row-reason c.reason-r.ensures c.in-Some.is) (omega arith) in omega (arith, h)

pub slice_bounds-description-start : goal.slice_bounds-description-start
slice_bounds-description-start c = let h = behind _ _ _ c.requires.0 5 _ (reason-on _ _ _ c.requires.0 4 _ c.requires.1 (omega arith) _ c.field_end.ensures.is row-reason c.reason-r.ensures c.in-Some.is) (omega arith) in search rules

pub returns-then-not-description : goal.returns-then-not-description
returns-then-not-description c = description-stops _ _ _ c.requires.0 _ (reason-on _ _ _ c.requires.0 4 _ c.requires.1 (omega arith) _ c.field_end.ensures.is row-reason c.reason-r.ensures c.in-Some.is) c.description.ensures (ap not c.if-not-description.true)

pub overflow_sub-n : goal.overflow_sub-n
overflow_sub-n c = let h = behind _ _ _ c.requires.0 5 _ (reason-on _ _ _ c.requires.0 4 _ c.requires.1 (omega arith) _ c.field_end.ensures.is row-reason c.reason-r.ensures c.in-Some.is) (omega arith) in omega (arith, h)

pub overflow_cast-result : goal.overflow_cast-result
overflow_cast-result c = reason-fits _ c.reason-r.ensures (ap number_in (sym c.in-Some.is))

pub returns : goal.returns
returns c = ran _ _ _ c.requires.0 _ (reason-on _ _ _ c.requires.0 4 _ c.requires.1 (omega arith) _ c.field_end.ensures.is row-reason c.reason-r.ensures c.in-Some.is) c.description.ensures _ _ _ _ _ _ _ (ap not c.if-not-description.false) c.requires.2 c.requires.3 (reason-is _ _ _ c.requires.0 4 _ c.requires.1 (omega arith) _ c.field_end.ensures.is row-reason c.reason-r.ensures c.in-Some.is) c.start_of.ensures

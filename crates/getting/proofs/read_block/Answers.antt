-- `getting::read_block` meets its contract. Assumes nothing.
use Rattle.getting.proofs.Blocks.{end_is, start-within, here, got}
use Rattle.getting.proofs.read_block.Goals as goal

pub slice_bounds-line_end-end : goal.slice_bounds-line_end-end
slice_bounds-line_end-end c = search end_is

pub line_end-top-requires : goal.line_end-top-requires
line_end-top-requires c = search start-within

pub slice_bounds-read_at-end : goal.slice_bounds-read_at-end
slice_bounds-read_at-end c = search end_is

pub read_at-requires : goal.read_at-requires
read_at-requires c = search here

pub returns : goal.returns
returns c = got _ _ _ c.requires c.line_end-top.ensures c.intervals-n.ensures _ _ c.read_at.ensures

-- `stored_sums::sum_block` meets its contract. Assumes nothing.
use Rattle.stored_sums.proofs.Ways.{block-sum, few-minutes}
use Rattle.getting.proofs.Blocks.{end_is, start-within}
use borrow.Author.Rules.{rules}
use Rattle.stored_sums.proofs.sum_block.Goals as goal

pub slice_bounds-line_end-end : goal.slice_bounds-line_end-end
slice_bounds-line_end-end c = search end_is

pub line_end-top-requires : goal.line_end-top-requires
line_end-top-requires c = search start-within

pub slice_bounds-add_day-end : goal.slice_bounds-add_day-end
slice_bounds-add_day-end c = search end_is

pub add_day-requires : goal.add_day-requires
add_day-requires c = (search rules, search rules, search few-minutes)

pub returns : goal.returns
returns c = search block-sum

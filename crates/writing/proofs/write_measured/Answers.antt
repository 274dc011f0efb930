-- `writing::write_measured` meets its contract. Assumes nothing.
use Rattle.writing.proofs.Refusals.{measured-cut, measured-fit, measured-records, measured-room, measured-put}
use Rattle.writing.proofs.write_measured.Goals as goal

pub slice_bounds-put_block-end : goal.slice_bounds-put_block-end
slice_bounds-put_block-end c = search measured-cut

pub put_block-requires : goal.put_block-requires
put_block-requires c = record { fit_day = (search measured-fit, search measured-records); text_in_bounds = search measured-room }

pub returns : goal.returns
returns c = search measured-put

-- `block::put_block` meets its contract. Assumes nothing.
use Rattle.block.proofs.Pieces.{ready_marked, first-fit, one-record, more-records, front-room, uniform-room, uniform-put, varied-room, cover-room, varied-put}
use Rattle.block.proofs.put_block.Goals as goal

pub put_front-p-requires : goal.put_front-p-requires
put_front-p-requires c = search front-room

pub put_uniform-requires : goal.put_uniform-requires
put_uniform-requires c = (search first-fit, search (uniform-room, one-record))

pub returns-then-records-eq1 : goal.returns-then-records-eq1
returns-then-records-eq1 c = search (uniform-put, one-record)

pub put_varied-q-requires : goal.put_varied-q-requires
put_varied-q-requires c = search (varied-room, more-records)

pub put_runs-requires : goal.put_runs-requires
put_runs-requires c = record { marked = search ready_marked; n_in_bounds = search (cover-room, more-records) }

pub returns : goal.returns
returns c = search (varied-put, more-records)

-- `settling::settle_with` meets its contract: the room is lent as a part of the memory, and what comes back is packed (`settled-so`). Assumes nothing.
use Rattle.settling.proofs.Parts.{laid-part, settled-so}
use Rattle.settling.proofs.settle_with.Goals as goal

pub pack-q-requires : goal.pack-q-requires
pack-q-requires c = search laid-part

pub returns : goal.returns
returns c =
    settled-so
    c.requires.0
    _
    _
    c.read_starts.ensures
    c.read_sizes.ensures
    _
    _
    _
    c.pack-q.ensures
    _
    c.put_offsets.ensures

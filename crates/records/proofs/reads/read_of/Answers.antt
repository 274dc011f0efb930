-- `records::reads::read_of` meets its contract. Assumes nothing.
use Rattle.records.proofs.Found.{read_is}
use Rattle.records.proofs.reads.read_of.Goals as goal

pub returns : goal.returns
returns c =
    read_is
    c.field_behind-nmi.ensures
    c.field_behind-suffix.ensures
    c.field_behind-previous.ensures
    c.field_behind-current.ensures
    c.field_behind-quality.ensures
    c.field_behind-reason.ensures
    c.field_behind-description.ensures
    c.field_behind-quantity.ensures
    c.field_behind-unit.ensures

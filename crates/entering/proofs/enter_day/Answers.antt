-- `entering::enter_day` meets its contract. Assumes nothing.
use Rattle.entering.proofs.Enters.{entry-within, entered}
use Rattle.entering.proofs.enter_day.Goals as goal

pub write_entry-requires : goal.write_entry-requires
write_entry-requires c = search entry-within

pub returns : goal.returns
returns c = search entered

-- `appending::put_given` meets its contract. Assumes nothing.
use Rattle.appending.proofs.Written.{written}
use Rattle.appending.proofs.put_given.Goals as goal

pub returns : goal.returns
returns c = written c.args.memory.now c.args.first _ c.requires.1 c.place-at.ensures c.put_number.ensures c.put_outputs.ensures c.put_number-2.ensures

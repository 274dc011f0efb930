-- The next channel is found from behind this one.
use Rattle.channel.proofs.Find.{next-noted}
use Rattle.nem_csv.proofs.reads.show.Goals as goal

pub loop-k-preserved : goal.loop-k-preserved
loop-k-preserved g c = search next-noted

-- `outputs::is_channel` meets its contract. Assumes nothing.
use Rattle.outputs.proofs.Channels.{channel-is}
use Rattle.outputs.proofs.is_channel.Goals as goal

pub returns : goal.returns
returns c = search channel-is

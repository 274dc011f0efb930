-- `channel_rows::channel_row` meets its contract. Assumes nothing.
use Rattle.channel_rows.proofs.Rows.{channel-put}
use Rattle.channel_rows.proofs.channel_row.Goals as goal

pub returns : goal.returns
returns c = search channel-put

-- `text::bytes::put_bytes` meets its contract. Assumes nothing.
use Rattle.text.proofs.Texts.{part_put}
use Rattle.text.proofs.bytes.put_bytes.Goals as goal

pub returns : goal.returns
returns c = search part_put

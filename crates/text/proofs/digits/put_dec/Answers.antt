-- `text::digits::put_dec` meets its contract. Assumes nothing.
use Rattle.text.proofs.Texts.{put-as-dec, dec-room}
use Rattle.text.proofs.digits.put_dec.Goals as goal

pub put_digits-requires : goal.put_digits-requires
put_digits-requires c = search dec-room

pub returns : goal.returns
returns c = search put-as-dec

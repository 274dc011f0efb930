-- `putting::put_opened` meets its contract. Assumes nothing.
use Rattle.std.proofs.lemmas.Result.{err_from_is_err_and}
use mathlib.Core.Path.{refl, ap}
use mathlib.Core.Bool.{not}
use Rattle.putting.proofs.Ways.{put-16, put-unfit, puttable, put_fit_lem}
use Rattle.putting.proofs.put_opened.Goals as goal

pub returns-then-not-good_key : goal.returns-then-not-good_key
returns-then-not-good_key c = search put-16

pub put_block-requires : goal.put_block-requires
put_block-requires c = puttable c.requires _ _ _ c.good_key.ensures (ap not c.if-not-good_key.false) c.measure_day.ensures c.in_ok-w.was refl

pub returns-in_err-w : goal.returns-in_err-w
returns-in_err-w c =
    let p = err_from_is_err_and c.from_residual.result c.from_residual.ensures.1 in
    rw (p.1, p.2) (put-unfit c.requires _ _ _ c.good_key.ensures (ap not c.if-not-good_key.false) c.measure_day.ensures c.in_err-w.was)

pub returns : goal.returns
returns c = put_fit_lem c.requires _ _ _ c.good_key.ensures (ap not c.if-not-good_key.false) c.measure_day.ensures c.in_ok-w.was refl c.put_block.ensures

-- `lists::put_tag` meets its contract: each part is filled, and the five fillings are one. Assumes nothing.
use Prim.Native.Nat.{◌-◌}
use Rattle.lists.proofs.Laws.{part_filled, five-filled}
use Rattle.lists.proofs.put_tag.Goals as goal

pub returns : goal.returns
returns c =
    let r = c.requires.1 in
    five-filled c.args.t c.args.from (c.args.to - c.args.from) _ _ _ _ _ _ _ _ _ _
    (part_filled _ _ _ _ c.requires.0 r.flags (c.fill.ensures.after (λ y e. e)))
    (part_filled _ _ _ _ c.requires.0 r.methods (c.fill-2.ensures.after (λ y e. e)))
    (part_filled _ _ _ _ c.requires.0 r.reasons (c.fill-3.ensures.after (λ y e. e)))
    (part_filled _ _ _ _ c.requires.0 r.starts (c.fill-4.ensures.after (λ y e. e)))
    (part_filled _ _ _ _ c.requires.0 r.lengths (c.fill-5.ensures.after (λ y e. e)))

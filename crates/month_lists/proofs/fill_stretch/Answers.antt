-- `month_lists::fill_stretch` meets its contract. Assumes nothing.
use Rattle.month_lists.proofs.Stretch.{lendable, stretch-is}
use Rattle.month_lists.proofs.fill_stretch.Goals as goal

pub fill_lists-requires : goal.fill_lists-requires
fill_lists-requires c = lendable _ _ _ _ _ _ _ _ c.requires.0 c.requires.1

pub returns : goal.returns
returns c = stretch-is _ _ _ _ _ _ _ _ c.requires.0 c.requires.1 _ _ _ _ _ c.fill_lists.ensures

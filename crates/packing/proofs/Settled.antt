-- Settled cases: the definition computes. Assumes nothing.
use mathlib.Core.Path.{◌≡◌, refl}
use mathlib.Core.List.{[], ◌∷◌}
use Rattle.store.specs.Moves.{covered, keep, placed}
use Rattle.packing.specs.Packing.{packed, pack_of}

-- three blocks and a free range, the last one first: 11 12 at 2, 13 14 15 at 5, 16 at 9
pub three : pack_of (1 ∷ 2 ∷ 11 ∷ 12 ∷ 3 ∷ 13 ∷ 14 ∷ 15 ∷ 4 ∷ 16 ∷ 5 ∷ []) (9 ∷ 2 ∷ 7 ∷ 5 ∷ []) (1 ∷ 2 ∷ 0 ∷ 3 ∷ [])
    ≡ packed 6 (11 ∷ 12 ∷ 13 ∷ 14 ∷ 15 ∷ 16 ∷ 14 ∷ 15 ∷ 4 ∷ 16 ∷ 5 ∷ []) (5 ∷ 0 ∷ 7 ∷ 2 ∷ [])
unfolding pack_of covered keep placed
three = refl

pub none : pack_of (1 ∷ 2 ∷ []) (0 ∷ []) (0 ∷ []) ≡ packed 0 (1 ∷ 2 ∷ []) (0 ∷ [])
unfolding pack_of covered keep placed
none = refl

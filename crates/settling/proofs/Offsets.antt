-- Stores behind the slots may come before their offsets are written. Assumes nothing.
use Prim.Native.Nat.{ℕ, ◌+◌, ◌≤◌, ◌<◌}
use mathlib.Core.Path.{◌≡◌, refl, sym, ap, ◌∙◌}
use mathlib.Core.List.{List, [], ◌∷◌}
use mathlib.Core.Bool.{true}
use native.Mathlib.Omega.{arith}
use lib.ListN.{length}
use lib.Seq.{sets}
use Rattle.ground.proofs.Cases.{by}
use Rattle.entries.specs.Little.{in_bytes}
use Rattle.store.specs.Used.{used}
use Rattle.store.specs.Ranges.{slot_place}
use Rattle.store.specs.Moves.{offset_put, offsets_put}
use Rattle.store.specs.declared.Header.{Header}
use Rattle.moving.proofs.Stores.{sets-later}
use Rattle.little.proofs.Numbers.{length-in}

module _ (h : Header) (map : ℕ) where
  one : (i v : ℕ) (m : List ℕ) (n : ℕ) (ys : List ℕ) → (used map i ≡ true → slot_place h i + 22 ≤ n)
      → sets (offset_put h map i v m) n ys ≡ offset_put h map i v (sets m n ys)
  unfolding offset_put
  one i v m n ys f =
      by (used map i)
      (λ t. rw t (sym (sets-later m (slot_place h i + 18) n (in_bytes 4 v) ys (omega (arith, length-in 4 v, f t)))))
      (λ t. rw t)

  pub offsets-sets : (i : ℕ) (vs m : List ℕ) (n : ℕ) (ys : List ℕ) → ((j : ℕ) → i ≤ j → j < i + length vs → used map j ≡ true → slot_place h j + 22 ≤ n)
      → sets (offsets_put h map i vs m) n ys ≡ offsets_put h map i vs (sets m n ys)
  unfolding offsets_put
  offsets-sets i [] m n ys f = refl
  offsets-sets i (v ∷ vs) m n ys f =
      offsets-sets (i + 1) vs (offset_put h map i v m) n ys (λ j p q. f j (omega arith) (omega arith))
      ∙ ap (offsets_put h map (i + 1) vs) (one i v m n ys (f i (omega arith) (omega arith)))

-- A part of a list, lent and come back. Assumes nothing.
use Prim.Native.Nat.{ℕ, ◌+◌, ◌≤◌}
use mathlib.Core.Path.{◌≡◌, sym, ap, ◌∙◌}
use mathlib.Core.List.{List, ◌++◌, append_assoc}
use native.Mathlib.Omega.{arith}
use lib.ListN.{length, take, drop, take-append-drop, length-drop}
use lib.Seq.{sets, sets-eq, drop-drop, drop-append-le, length-take-le}
use borrow.Rule.Slice.PartMut.{put_mid}
use Rattle.format.specs.Day.{over}

-- elements over the start of a part of s: the same stores in the whole
pub put-part : (m vs : List ℕ) (a s : ℕ) → length vs ≤ s → a + s ≤ length m → put_mid a s m (over vs (take s (drop a m))) ≡ sets m a vs
put-part m vs a s h g =
    let x = drop a m in
    let k = length vs in
    let l : length (take s x) ≡ s = length-take-le s x (omega (arith, length-drop a m)) in
    let e : drop k (take s x) ++ drop s x ≡ drop (a + k) m =
    sym (drop-append-le k (take s x) (drop s x) (omega arith)) ∙ ap (drop k) (take-append-drop s x) ∙ drop-drop k a m in
    ap (λ (z : List ℕ). take a m ++ z) (append_assoc vs (drop k (take s x)) (drop s x) ∙ ap (λ (z : List ℕ). vs ++ z) e)
    ∙ sym (append_assoc (take a m) vs (drop (a + k) m))
    ∙ sym (sets-eq vs m a (omega arith))

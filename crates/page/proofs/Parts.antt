-- A part of a text where the text ends before the part does, or before it starts. Assumes nothing.
use Prim.Native.Nat.{ℕ, ◌-◌, ◌≤◌, ◌<◌}
use mathlib.Core.Path.{◌≡◌, sym, ap, ◌∙◌}
use mathlib.Core.List.{List, []}
use native.Mathlib.Omega.{arith}
use lib.ListN.{length, take, drop, length-drop, drop_of_length-le}
use lib.Seq.{take_all, take-nil}
use Rattle.ground.specs.Lists.{part}
use Rattle.ground.proofs.Lists.{to_end}

module _ (s : List ℕ) (a e : ℕ) where
  pub part-past : length s ≤ a → [] ≡ part s a e
  part-past h = sym (ap (take (e - a)) (drop_of_length-le s h) ∙ take-nil {A = ℕ} (e - a))

  pub part-rest : a < length s → length s ≤ e → take (length s - a) (drop a s) ≡ part s a e
  part-rest h k = to_end a s ∙ sym (take_all (e - a) (drop a s) (omega (arith, length-drop a s)))

-- The entries that read, where the file is refused. Assumes nothing.
use Prim.Native.Nat.{ℕ}
use mathlib.Core.Path.{◌≡◌, sym, ap, ◌∙◌}
use mathlib.Core.List.{List}
use Rattle.std.proofs.Common.{Result, Err}
use Rattle.format.specs.Answers.{refused_as, checked_as}
use Rattle.format.specs.File.{check_of}
use Rattle.format.specs.Day.{Five, outcome, read_of}
use Rattle.format.specs.Total.{total_of}
use Rattle.format.specs.declared.Refusal.{Refusal}
use Rattle.format.specs.declared.Checked.{Checked}

-- c is what the check answers
module _ (file : List ℕ) (c : Result Checked Refusal) (ec : checked_as c ≡ check_of file) where
  module _ (x : Refusal) (h : c ≡ Err x) where
    refused-is : check_of file ≡ refused_as x
    refused-is = sym ec ∙ ap checked_as h

    pub read-refused : (day : ℕ) (vs : List ℕ) (ms : Five) → outcome (refused_as x) vs ms ≡ read_of file day vs ms
    unfolding read_of
    read-refused day vs ms = rw refused-is

    pub total-refused : (channel : ℕ) → refused_as x ≡ total_of file channel
    unfolding total_of
    total-refused channel = rw refused-is

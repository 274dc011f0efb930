-- What the contract of `replace_day` promises, said of what a caller learns of it: where it accepts, it leaves the file edited; where it refuses, every byte.
-- Assumes nothing.
use mathlib.Core.Path.{◌≡◌, sym, ap, ◌∙◌}
use mathlib.Core.List.{List, [], ◌∷◌}
use Prim.Native.Nat.{ℕ}
use contract.Lifetimes.{Lfts}
use borrow.Fn.Kinds.{Dens, res_t, ended_of}
use denote.Triple.Clauses.{AtExit}
use lib.ListN.{take, drop}
use Rattle.format.specs.Answers.{Answer, accepted, refused}
use Rattle.replacing.specs.Replace.{left, replaced_as}
use Rattle.replacing.proofs.replace_day.Kinds as replace-kinds
use Rattle.replacing.proofs.replace_day.Reads as replace-reads
use Rattle.edited.specs.Edited.{Edited}
use Rattle.edited.proofs.Theorems.{replaced, past_end}
use Rattle.edited.proofs.Keeps.{refused-keeps}

module _ (κs : Lfts 2) (a : Dens κs replace-kinds.ps) where
  -- what it was called with
  abbrev pub room_lent : List ℕ
  room_lent = a.0.now

  abbrev pub length_given : ℕ
  length_given = a.1.0

  abbrev pub day_given : ℕ
  day_given = a.1.1.0

  abbrev pub block_lent : List ℕ
  block_lent = a.1.1.1.0.now

  module _ (x : (res_t replace-kinds.r κs).Denot) (e : AtExit (ended_of 2 replace-kinds.ps replace-kinds.r) κs) (p : replace-reads.Learnt κs a x e) where
    -- the room that it leaves
    abbrev pub room_left : List ℕ
    room_left = e.0.now

    -- accepted with the length m: the room's first m bytes are the file, edited, and those behind them as they were
    pub replace-edits : (m : ℕ) → replaced_as x ≡ accepted (m ∷ []) → Edited (take length_given room_lent) day_given block_lent (take m room_left) × (drop m room_left ≡ drop m room_lent)
    replace-edits m q =
        let o = sym p ∙ ap (λ (z : Answer). left z room_left) q in
        (replaced room_lent length_given day_given block_lent m room_left o, past_end room_lent length_given day_given block_lent m room_left o)

    -- refused: not a byte has changed
    pub replace-keeps : (n q k i : ℕ) → replaced_as x ≡ refused n q k i → room_left ≡ room_lent
    replace-keeps n q k i r = refused-keeps room_lent length_given day_given block_lent n q k i room_left (sym p ∙ ap (λ (z : Answer). left z room_left) r)

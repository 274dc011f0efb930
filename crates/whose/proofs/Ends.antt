-- A day's block in the file that was cut at it: where it starts and ends, and what is read of it there. Assumes nothing.
use Prim.Native.Nat.{ℕ, ◌+◌, ◌≤◌}
use mathlib.Core.Path.{◌≡◌, sym, ap, ◌∙◌}
use mathlib.Core.Bool.{true, false, true≢false, ◌||◌}
use mathlib.Core.List.{List, [], ◌∷◌, ◌++◌}
use native.Mathlib.Omega.{arith}
use lib.ListN.{length, drop, length-append}
use lib.Dec.{eqb}
use borrow.Author.Tests.{eqb-true, eqb-false}
use Rattle.ground.proofs.Cases.{by}
use Rattle.ground.specs.Lists.{part}
use Rattle.ground.proofs.Tests.{and-true}
use Rattle.format.specs.Cut.{Lines, line, rest, lines, fields}
use Rattle.format.specs.Records.{kind_in, date_in}
use Rattle.format.specs.Order.{Due}
use Rattle.format.specs.File.{after}
use Rattle.format.specs.Day.{DayRows, day_from}
use Rattle.format.proofs.Cut.{bytes_of, bytes-lines}
use Rattle.passing.specs.Passes.{Passes, kinds_of, are_under}
use Rattle.passing.proofs.Blocks.{Headed, headed, one-day}
use Rattle.passing.proofs.Files.{onto, lines-behind}
use Rattle.passing.proofs.Parts.{Parts, Apart}
use Rattle.lines.specs.Places.{LineEnd}
use Rattle.lines.proofs.Ends.{line-none, line-more}
use Rattle.whose.specs.Whose.{under_end, end_from}
use Rattle.whose.proofs.Found.{onward-is}

-- behind records under a 300, where none of them follows
under-onto : (a e : Due) (p : ℕ) (ls m : Lines) → Passes a ls e → are_under (kinds_of ls) ≡ true → Apart m → under_end p (onto ls m) ≡ p + length (bytes_of ls)
unfolding under_end
under-onto a e p (rest t) (rest s) h u x = absurd x
under-onto a e p (rest t) (line r m) h u x = rw x (omega (arith, ap length h.0))
under-onto a e p (line r ls) m h u x =
    let w = and-true (eqb (kind_in (fields r)) 400 || eqb (kind_in (fields r)) 500) (are_under (kinds_of ls)) u in
    rw w.0 (omega (arith, under-onto (after a r) e (p + length r + 2) ls m h.1 w.1 x, length-append r (13 ∷ 10 ∷ bytes_of ls)))

module _ (file : List ℕ) (day : ℕ) (d : DayRows) (w : Parts file day d) where
  -- its 300 and the records under it
  pub top : Headed w.st w.accepted.end (lines w.block)
  top = headed w.st w.block w.accepted

  pub lines-there : lines (drop d.block.top.place file) ≡ line top.first (onto top.others (lines w.behind))
  unfolding top
  lines-there =
      ap lines (onward-is file day d w)
      ∙ lines-behind w.st w.accepted.end w.block w.behind w.accepted.passes
      ∙ ap (λ (ls : Lines). onto ls (lines w.behind)) (headed w.st w.block w.accepted).is

  pub block-end : end_from d.block.top.place (lines (drop d.block.top.place file)) ≡ length w.before + length w.block
  block-end =
      let t = top in
      let p : ℕ = d.block.top.place in
      let b : length w.block ≡ length t.first + length (13 ∷ 10 ∷ bytes_of t.others) =
      ap length (sym (bytes-lines w.block) ∙ ap bytes_of t.is) ∙ length-append t.first (13 ∷ 10 ∷ bytes_of t.others) in
      ap (end_from p) lines-there
      ∙ under-onto _ _ (p + length t.first + 2) t.others (lines w.behind) t.passes t.under w.apart
      ∙ (let z : p + length t.first + 2 + length (bytes_of t.others) ≡ length w.before + length w.block = omega (arith, b, w.place) in z)

  pub block_within : length w.before + length w.block ≤ length file
  block_within = omega (arith, ap length w.is, length-append w.before (w.block ++ w.behind), length-append w.block w.behind)

  -- the date that stands in the record at its start
  top-cells : d.block.top.cells ≡ fields top.first
  unfolding top
  top-cells =
      let z : d ∷ [] ≡ day_from (length w.before) d.channel (headed w.st w.block w.accepted).first (headed w.st w.block w.accepted).others ∷ [] =
      sym w.rows ∙ one-day w.st w.block w.accepted (length w.before) d.channel in
      let y : d ≡ day_from (length w.before) d.channel (headed w.st w.block w.accepted).first (headed w.st w.block w.accepted).others = cc in
      ap (λ (x : DayRows). x.block.top.cells) y

  pub top-date : (e : ℕ) → LineEnd file d.block.top.place e → date_in (fields (part file d.block.top.place e)) ≡ date_in d.block.top.cells
  top-date e l = by (eqb e (length file)) (λ t. absurd (none (eqb-true _ _ t))) (λ t. some (eqb-false _ _ t))
    where
      none : e ≡ length file → ⊥
      none h =
          let z : rest (drop d.block.top.place file) ≡ line top.first (onto top.others (lines w.behind)) = sym (line-none file _ e l h) ∙ lines-there in
          let y : true ≡ false = cc in
          true≢false y

      some : (e ≡ length file → ⊥) → date_in (fields (part file d.block.top.place e)) ≡ date_in d.block.top.cells
      some go =
          let z : line (part file d.block.top.place e) (lines (drop (e + 2) file)) ≡ line top.first (onto top.others (lines w.behind)) =
          sym (line-more file _ e l go) ∙ lines-there in
          let y : part file d.block.top.place e ≡ top.first = cc in
          ap (λ (r : List ℕ). date_in (fields r)) y ∙ ap date_in (sym top-cells)

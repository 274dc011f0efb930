-- The day that an accepted block is read as. Assumes nothing.
use Prim.Native.Nat.{ℕ}
use mathlib.Core.Path.{◌≡◌, sym, ap, ◌∙◌}
use mathlib.Core.List.{List, map, head-eq_of_cons-eq}
use Rattle.format.specs.Cut.{Lines}
use Rattle.format.specs.Records.{unit_in, intervals_in}
use Rattle.format.specs.Order.{Due}
use Rattle.format.specs.Day.{Row, days_from, Day, day_of}
use Rattle.passing.specs.Passes.{Accepted}
use Rattle.passing.proofs.Steps.{block_found, days-more}
use Rattle.passing.proofs.Blocks.{headed}
use Rattle.theorems.specs.Days.{meant}
use Rattle.shortest.specs.Blocks.{Reads}

-- of the rows that a reading finds, in the unit of the 200
pub read-day : (st : Due) (b : List ℕ) (a : Accepted st b) (p : ℕ) (c : Row) (d : Day) → intervals_in c.cells ≡ st.n → Reads p c b d
    → day_of (block_found p (headed st b a).first (headed st b a).others st.n (unit_in c.cells)) ≡ d
read-day st b a p c d n e =
    let w = headed st b a in
    ap (λ (m : ℕ). day_of (block_found p w.first w.others m (unit_in c.cells))) (sym n)
    ∙ head-eq_of_cons-eq (ap (map meant) (sym (days-more p w.first w.others c w.kind)) ∙ ap (λ (ls : Lines). map meant (days_from p c ls)) (sym w.is) ∙ e)

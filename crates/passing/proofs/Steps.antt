-- One record by its kind: the state behind it, and what a reading finds at it. Assumes nothing.
use Prim.Native.Nat.{ℕ, ◌+◌}
use mathlib.Core.Path.{◌≡◌}
use mathlib.Core.Logic.{◌≢◌}
use mathlib.Core.Bool.{cond}
use mathlib.Core.List.{List, [], ◌∷◌}
use lib.ListN.{length}
use lib.Dec.{eqb}
use borrow.Author.Tests.{ne_eqb}
use Rattle.ground.proofs.Cases.{by}
use Rattle.format.specs.Cut.{Lines, line, fields}
use Rattle.format.specs.Records.{kind_in, intervals_in}
use Rattle.format.specs.Order.{Due, on100, on200, on300, on400, on500, on250, on550, on900, after_of}
use Rattle.format.specs.File.{after}
use Rattle.format.specs.Day.{Row, row_at, BlockRows, runs_from, day_from, days_from}

module _ (st : Due) (r : List ℕ) where
  pub after-100 : kind_in (fields r) ≡ 100 → after st r ≡ on100 st (fields r)
  unfolding after_of
  after-100 e = rw e

  pub after-200 : kind_in (fields r) ≡ 200 → after st r ≡ on200 st (fields r)
  unfolding after_of
  after-200 e = rw e

  pub after-300 : kind_in (fields r) ≡ 300 → after st r ≡ on300 st (fields r)
  unfolding after_of
  after-300 e = rw e

  pub after-400 : kind_in (fields r) ≡ 400 → after st r ≡ on400 st (fields r)
  unfolding after_of
  after-400 e = rw e

  pub after-500 : kind_in (fields r) ≡ 500 → after st r ≡ on500 st (fields r)
  unfolding after_of
  after-500 e = rw e

  pub after-250 : kind_in (fields r) ≡ 250 → after st r ≡ on250 st (fields r)
  unfolding after_of
  after-250 e = rw e

  pub after-550 : kind_in (fields r) ≡ 550 → after st r ≡ on550 st (fields r)
  unfolding after_of
  after-550 e = rw e

  pub after-900 : kind_in (fields r) ≡ 900 → after st r ≡ on900 st (fields r)
  unfolding after_of
  after-900 e = rw e

-- ---- what a reading finds

module _ (p : ℕ) (r : List ℕ) (ls : Lines) where
  pub runs-more : kind_in (fields r) ≡ 400 → runs_from p (line r ls) ≡ row_at p r ∷ runs_from (p + length r + 2) ls
  unfolding runs_from
  runs-more e = rw e

  pub runs-end : kind_in (fields r) ≢ 400 → runs_from p (line r ls) ≡ []
  unfolding runs_from
  runs-end e = rw (ne_eqb _ _ e)

  -- the block of a 300, of n intervals in the unit u
  abbrev pub block_found : ℕ → ℕ → BlockRows
  block_found n u = record { n = n; unit = u; top = row_at p r; runs = runs_from (p + length r + 2) ls }

  pub days-more : (c : Row) → kind_in (fields r) ≡ 300 → days_from p c (line r ls) ≡ day_from p c r ls ∷ days_from (p + length r + 2) c ls
  unfolding days_from
  days-more c e = rw e

  pub days-skip : (c : Row) → kind_in (fields r) ≢ 300 → days_from p c (line r ls) ≡ days_from (p + length r + 2) (cond (eqb (kind_in (fields r)) 200) (row_at p r) c) ls
  unfolding days_from
  days-skip c e = rw (ne_eqb _ _ e)

-- the fields and the n of the 200 that a reading has behind a record of the kind k at p
pub cells-on : (k p : ℕ) (c : Row) (r : List ℕ) → (cond (eqb k 200) (row_at p r) c).cells ≡ cond (eqb k 200) (fields r) c.cells
cells-on k p c r = by (eqb k 200) (λ t. rw t) (λ t. rw t)

pub channel-on : (k p : ℕ) (c : Row) (r : List ℕ) → intervals_in (cond (eqb k 200) (row_at p r) c).cells ≡ cond (eqb k 200) (intervals_in (fields r)) (intervals_in c.cells)
channel-on k p c r = by (eqb k 200) (λ t. rw t) (λ t. rw t)

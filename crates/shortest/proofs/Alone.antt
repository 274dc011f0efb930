-- A block that is accepted on its own stands in every file where a day of its date may stand, and is read there as a day of what its check answers. Assumes
-- nothing.
use Prim.Native.Nat.{ℕ}
use mathlib.Core.Path.{◌≡◌, sym, ap, ◌∙◌}
use mathlib.Core.List.{List, [], ◌∷◌, map}
use lib.ListN.{length}
use Rattle.format.specs.Cut.{line, fields}
use Rattle.format.specs.Units.{decimals_of}
use Rattle.format.specs.Records.{unit_in, intervals_in, update_in, load_in}
use Rattle.format.specs.Order.{Due}
use Rattle.format.specs.File.{top_says}
use Rattle.format.specs.Day.{Row, Day, day_of}
use Rattle.passing.specs.Passes.{unit_before, Accepted, Leads, Awaits, Alone}
use Rattle.passing.proofs.Steps.{block_found}
use Rattle.passing.proofs.Files.{days-append}
use Rattle.passing.proofs.Blocks.{headed, one-day}
use Rattle.passing.proofs.Alone.{alone-anywhere}
use Rattle.theorems.specs.Days.{meant}
use Rattle.shortest.specs.Blocks.{Reads, StandsAlone}
use Rattle.shortest.proofs.Inside.{stands}

-- the day that an accepted block is in the unit v, read at p
day-in : (st : Due) (b : List ℕ) → Accepted st b → ℕ → ℕ → Day
day-in st b a p v = day_of (block_found p (headed st b a).first (headed st b a).others st.n v)

reads-it : (st : Due) (b : List ℕ) (a : Accepted st b) (p : ℕ) (c : Row) → intervals_in c.cells ≡ st.n → Reads p c b (day-in st b a p (unit_in c.cells))
unfolding day-in
reads-it st b a p c n =
    ap (map meant) (one-day st b a p c) ∙ ap (λ (m : ℕ). day_of (block_found p (headed st b a).first (headed st b a).others m (unit_in c.cells)) ∷ []) n

pub alone-in-any-file : (m y : ℕ) (b : List ℕ) (t n u l k : ℕ) → Alone m y b t n u l k → (before behind : List ℕ) (st : Due) → Leads before st → Awaits st n (decimals_of y) t
    → StandsAlone before b behind st t n u l
unfolding day-in day_of
alone-in-any-file m y b t n u l k w before behind st h x =
    let a : Accepted st b = alone-anywhere m y b t n u l k w st x in
    let d = headed st b a in
    -- the 200 that a reading has there
    let o = days-append st before b h x.free.0 in
    let c : Row = o.channel in
    let v : unit_in c.cells ≡ unit_before before = ap unit_in o.cells in
    let e : top_says n (line d.first d.others) ≡ t ∷ n ∷ u ∷ l ∷ [] = rw d.is at w.says in
    record {
      day = day-in st b a (length before) (unit_in c.cells);
      stands = stands before b behind st (day-in st b a (length before) (unit_in c.cells)) h a c o.intervals (reads-it st b a (length before) c o.intervals) (sym v);
      date = cc;
      intervals = x.intervals;
      update = ap (λ (j : ℕ). update_in j (fields d.first)) x.intervals ∙ (let z : update_in n (fields d.first) ≡ u = cc in z);
      load = ap (λ (j : ℕ). load_in j (fields d.first)) x.intervals ∙ (let z : load_in n (fields d.first) ≡ l = cc in z);
      unit = v;
    }

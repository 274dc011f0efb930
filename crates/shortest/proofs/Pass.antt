-- A block of the grammar is accepted where one may stand, and read as the day that it is by the grammar. Assumes nothing.
use Prim.Native.Nat.{ℕ, ◌+◌, ◌≤◌, ◌<◌}
use mathlib.Core.Path.{◌≡◌, refl, sym, ap, ap₂, ◌∙◌, subst}
use mathlib.Core.Logic.{◌⊎◌, inl, inr}
use mathlib.Core.Bool.{true, false, false≢true}
use mathlib.Core.List.{List, [], ◌∷◌, ◌++◌, map}
use native.Mathlib.Omega.{arith}
use lib.ListN.{length}
use lib.Dec.{eqb}
use borrow.Author.Tests.{eqb-true, eq-eqb, le-leb, lt-leb}
use Rattle.ground.proofs.Cases.{by}
use Rattle.format.specs.Cut.{Lines, line, rest, lines, fields}
use Rattle.format.specs.Records.{Scale, scale_for, kind_in, unit_in, intervals_in, date_in, first_in, last_in, mark_in}
use Rattle.format.specs.Order.{may_come, in_day, in_varied, share_with, Due, is_varied, alike_with, on300, on400, on500, after_of}
use Rattle.format.specs.Faults.{scale_of, is_open, is_not_later, covers, is_off, is_alike, is_elsewhere, fault_of, Fine}
use Rattle.format.specs.File.{after, behind200}
use Rattle.format.specs.Day.{Row, DayRows, runs_from, day_from, days_from, Day, day_of}
use Rattle.format.proofs.States.{implied}
use Rattle.passing.specs.Passes.{Passes, kinds_of, are_under, is_block, Free, Accepted}
use Rattle.passing.proofs.Fit.{Ok, fit-fine, free-if, free-400}
use Rattle.passing.proofs.Steps.{block_found, days-more}
use Rattle.passing.proofs.Files.{lines-row}
use Rattle.theorems.specs.Grammar.{Each, Record, join, text, IsRecord, Block, Covers, Extra, IsBlock}
use Rattle.theorems.specs.Days.{record_at, rows_at, rows_of, block_at, day_in, meant}
use Rattle.theorems.proofs.Rows.{Fields, record-fields, record-ok}
use Rattle.theorems.proofs.Says.{date-some, day-on}
use Rattle.theorems.proofs.Meaning.{day-anywhere}
use Rattle.theorems.proofs.Takes.{fields-of}
use Rattle.theorems.proofs.Apart.{Apart, apart-on, end-apart, marked-end}
use Rattle.shortest.specs.Blocks.{Reads, HeadOf, Says}

-- ---- records as their fields, and as the lines of a file

abbrev pub cut : List Record → Lines
cut [] = rest []
cut (fs ∷ rows) = line (join fs) (cut rows)

pub lines_cut : (rows : List Record) → Each Fields rows → lines (text rows) ≡ cut rows
unfolding text lines
lines_cut [] h = refl
lines_cut (fs ∷ rows) h = lines-row (join fs) (text rows) (fields-of fs h.0).1 ∙ ap (line (join fs)) (lines_cut rows h.1)

-- ---- one record

-- the tests of a record of the kind k that go by the state
pub record Tests (st : Due) (k : ℕ) (fs : Record) : Type 0 where
  pub free : is_open st k ≡ false
  pub may : may_come st.expect k ≡ true
  pub rises : is_not_later st k fs ≡ false
  pub cover : is_off st k fs ≡ false
  pub apart : is_alike st k fs ≡ false
  pub day : is_elsewhere st k fs ≡ false

record Tried (st : Due) (k : ℕ) (fs : Record) : Type 0 where
  ok : Ok k (scale_of st k fs) fs
  tests : Tests st k fs

-- a record of the grammar, held to the rules that are asked of it in this state
module _ (st : Due) (k n d : ℕ) (fs : Record) (h : IsRecord k n d fs) (z : scale_for k n d fs ≡ scale_of st k fs) where
  pass : Tests st k fs → fault_of st (join fs) ≡ Fine
  pass t =
      let w = fields-of fs (record-fields k n d fs h) in
      let e : Tried st (kind_in fs) fs = subst (λ (x : ℕ). Tried st x fs) (sym h.indicator) (record { ok = subst (λ (x : Scale). Ok k x fs) z (record-ok k n d fs h); tests = t }) in
      let g : Tried st (kind_in (fields (join fs))) (fields (join fs)) = subst (λ (x : Record). Tried st (kind_in x) x) (sym w.0) e in
      fit-fine st (join fs)
      (record {
        bytes = w.1;
        free = g.tests.free;
        may = g.tests.may;
        ok = g.ok;
        rises = g.tests.rises;
        cover = g.tests.cover;
        apart = g.tests.apart;
        day = g.tests.day;
      })

  pub go_on : (ls : Lines) (end : Due) → Tests st k fs → Passes (after_of st k fs) ls end → Passes st (line (join fs) ls) end
  go_on ls end t p =
      let w = fields-of fs (record-fields k n d fs h) in
      let e : after st (join fs) ≡ after_of st k fs = ap (λ (x : Record). after_of st (kind_in x) x) w.0 ∙ ap (λ (x : ℕ). after_of st x fs) h.indicator in
      (pass t, subst (λ (x : Due). Passes x ls end) (sym e) p)

module _ (st : Due) (fs : Record) where
  tests-300 : Free st → st.date < date_in fs → Tests st 300 fs
  unfolding is_not_later is_off is_alike is_elsewhere
  tests-300 f l =
      record { free = f.1; may = f.0; rises = lt-leb _ _ l; cover = refl; apart = refl; day = refl }

  tests-400 : in_varied st.expect ≡ true → first_in fs ≡ st.next → first_in fs ≤ last_in fs → last_in fs ≤ st.n → (last_in fs ≡ st.n → alike_with st fs ≡ false) → Tests st 400 fs
  unfolding is_not_later is_off covers is_alike is_elsewhere
  tests-400 x s o w al =
      record {
        free = free-400 st;
        may = x;
        rises = refl;
        cover = rw (eq-eqb _ _ s, le-leb _ _ o, le-leb _ _ w);
        apart = by (eqb (last_in fs) st.n) (λ t. rw (t, al (eqb-true _ _ t))) (λ t. rw t);
        day = refl;
      }

  tests-500 : Extra st.date fs → in_day st.expect ≡ true → (in_varied st.expect ≡ true → st.n < st.next) → Tests st 500 fs
  unfolding is_not_later is_off is_alike is_elsewhere
  tests-500 x l f =
      record {
        free = free-if st 500 f;
        may = l;
        rises = refl;
        cover = refl;
        apart = refl;
        day = rw (day-on st.date fs x);
      }

-- ---- the lists

-- passed to where a day may end
record Done (st : Due) (ls : Lines) : Type 0 where
  end : Due
  passes : Passes st ls end
  free : Free end

free-here : (st : Due) → in_day st.expect ≡ true → (in_varied st.expect ≡ true → st.n < st.next) → Free st
free-here st l f = (implied in_day (λ y. may_come y 300) refl st.expect l, free-if st 300 f)

extras-pass : (xs : List Record) (st : Due) → in_day st.expect ≡ true → (in_varied st.expect ≡ true → st.n < st.next) → Each (Extra st.date) xs → Done st (cut xs)
unfolding after_of
extras-pass [] st l f x = record { end = st; passes = (refl, refl); free = free-here st l f }
extras-pass (r ∷ rs) st l f x =
    let w = extras-pass rs (on500 st r) refl (λ z. absurd (false≢true z)) x.1 in
    record { end = w.end; passes = go_on st 500 0 0 r x.0.0 refl (cut rs) w.end (tests-500 st r x.0 l f) w.passes; free = w.free }

runs-pass : (rs xs : List Record) (st : Due) → in_varied st.expect ≡ true → 1 ≤ st.next → Each (IsRecord 400 0 0) rs → Covers st.n st.next rs → Apart st.shared rs → Each (Extra st.date) xs
    → Done st (cut (rs ++ xs))
unfolding after_of alike_with
runs-pass [] xs st x o h cv a g = extras-pass xs st (implied in_varied in_day refl st.expect x) (λ z. omega arith) g
runs-pass (r ∷ rs) xs st x o h cv a g =
    let on : Apart (share_with st.shared (mark_in r)) rs = apart-on r rs st.shared a in
    let no : last_in r ≡ st.n → alike_with st r ≡ false =
    λ z. end-apart (share_with st.shared (mark_in r)) rs (λ m. marked-end st.n (last_in r + 1) rs m (omega arith) cv.3) on in
    let le : first_in r ≤ last_in r = cv.1 in
    let eq : first_in r ≡ st.next = cv.0 in
    let w = runs-pass rs xs (on400 st r) refl (omega arith) h.1 cv.3 on g in
    record { end = w.end; passes = go_on st 400 0 0 r h.0 refl (cut (rs ++ xs)) w.end (tests-400 st r x cv.0 cv.1 cv.2 no) w.passes; free = w.free }

block-pass : (b : Block) (st : Due) → IsBlock st.n st.decimals b → Free st → st.date < date_in b.top → Done st (cut (rows_of b))
unfolding after_of
block-pass b st h f l = by (is_varied st.n b.top) varied alike
  where
    under : Done (on300 st b.top) (cut (b.runs ++ b.extra)) → Done st (cut (rows_of b))
    under w = record { end = w.end; passes = go_on st 300 st.n st.decimals b.top h.top refl (cut (b.runs ++ b.extra)) w.end (tests-300 st b.top f l) w.passes; free = w.free }

    varied : is_varied st.n b.top ≡ true → Done st (cut (rows_of b))
    varied e =
        under (runs-pass b.runs b.extra (on300 st b.top) (rw e) (omega arith) h.runs (h.covers e) (h.unlike e) h.extra)

    alike : is_varied st.n b.top ≡ false → Done st (cut (rows_of b))
    alike e =
        let w = extras-pass b.extra (on300 st b.top) (rw e) (λ z. absurd (false≢true (rw e at z))) h.extra in
        under (subst (λ (rs : List Record). Done (on300 st b.top) (cut (rs ++ b.extra))) (sym (h.only-v e)) w)

-- ---- the block

kind-of : (k n d : ℕ) (fs : Record) → IsRecord k n d fs → kind_in (fields (join fs)) ≡ k
kind-of k n d fs h = ap kind_in (fields-of fs (record-fields k n d fs h)).0 ∙ h.indicator

-- records of the kinds that stand under a 300
abbrev Under : List Record → Type 0
Under rs = Each (λ r. (IsRecord 400 0 0 r) ⊎ (IsRecord 500 0 0 r)) rs

under_of : (t : ℕ) (rs xs : List Record) → Each (IsRecord 400 0 0) rs → Each (Extra t) xs → Under (rs ++ xs)
under_of t [] [] h g = tt
under_of t [] (x ∷ xs) h g = (inr g.0.0, under_of t [] xs h g.1)
under_of t (r ∷ rs) xs h g = (inl h.0, under_of t rs xs h.1 g)

under-fields : (rs : List Record) → Under rs → Each Fields rs
under-fields [] h = tt
under-fields (r ∷ rs) h = (one h.0, under-fields rs h.1)
  where
    one : (IsRecord 400 0 0 r) ⊎ (IsRecord 500 0 0 r) → Fields r
    one (inl i) = record-fields 400 0 0 r i
    one (inr i) = record-fields 500 0 0 r i

under-kinds : (rs : List Record) → Under rs → are_under (kinds_of (cut rs)) ≡ true
under-kinds [] h = refl
under-kinds (r ∷ rs) h = one h.0 (under-kinds rs h.1)
  where
    one : (IsRecord 400 0 0 r) ⊎ (IsRecord 500 0 0 r) → are_under (kinds_of (cut rs)) ≡ true → are_under (kinds_of (cut (r ∷ rs))) ≡ true
    one (inl i) e = rw (kind-of 400 0 0 r i) e
    one (inr i) e = rw (kind-of 500 0 0 r i) e

under-days : (p : ℕ) (c : Row) (rs : List Record) → Under rs → days_from p c (cut rs) ≡ []
unfolding days_from
under-days p c [] h = refl
under-days p c (r ∷ rs) h = one h.0 (under-days (p + length (join r) + 2) c rs h.1)
  where
    one : (IsRecord 400 0 0 r) ⊎ (IsRecord 500 0 0 r) → days_from (p + length (join r) + 2) c (cut rs) ≡ [] → days_from p c (cut (r ∷ rs)) ≡ []
    one (inl i) e = rw (kind-of 400 0 0 r i) e
    one (inr i) e = rw (kind-of 500 0 0 r i) e

runs_of : (p t : ℕ) (rs xs : List Record) → Each (IsRecord 400 0 0) rs → Each (Extra t) xs → runs_from p (cut (rs ++ xs)) ≡ rows_at p rs
unfolding runs_from
runs_of p t [] [] h g = refl
runs_of p t [] (x ∷ xs) h g = rw (kind-of 500 0 0 x g.0.0)
runs_of p t (r ∷ rs) xs h g =
    rw (kind-of 400 0 0 r h.0, (fields-of r (record-fields 400 0 0 r h.0)).0)
    (ap (λ (x : List Row). record_at p r ∷ x) (runs_of (p + length (join r) + 2) t rs xs h.1 g))

module _ (b : Block) (n d : ℕ) (h : IsBlock n d b) where
  under : Under (b.runs ++ b.extra)
  under = under_of (date_in b.top) b.runs b.extra h.runs h.extra

  block-lines : lines (text (rows_of b)) ≡ cut (rows_of b)
  block-lines = lines_cut (rows_of b) (record-fields 300 n d b.top h.top, under-fields (b.runs ++ b.extra) under)

  -- the rows of a block, by its lines and by its fields
  rows_same : (p u : ℕ) → block_found p (join b.top) (cut (b.runs ++ b.extra)) n u ≡ block_at p n u b
  rows_same p u =
      let q : ℕ = p + length (join b.top) + 2 in
      ap₂ (λ (x : Record) (y : List Row). record { n = n; unit = u; top = record_at p x; runs = y })
      (fields-of b.top (record-fields 300 n d b.top h.top)).0
      (runs_of q (date_in b.top) b.runs b.extra h.runs h.extra)

  pub block_reads : (p : ℕ) (c : Row) → intervals_in c.cells ≡ n → Reads p c (text (rows_of b)) (day_in n (unit_in c.cells) b)
  block_reads p c e =
      let ls : Lines = cut (b.runs ++ b.extra) in
      let u : ℕ = unit_in c.cells in
      ap (λ (x : Lines). map meant (days_from p c x)) block-lines
      ∙ ap (map meant) (days-more p (join b.top) ls c (kind-of 300 n d b.top h.top))
      ∙ ap (λ (x : List DayRows). meant (day_from p c (join b.top) ls) ∷ map meant x) (under-days (p + length (join b.top) + 2) c (b.runs ++ b.extra) under)
      ∙ ap (λ (x : Day). x ∷ []) (ap (λ (m : ℕ). day_of (block_found p (join b.top) ls m u)) e ∙ ap day_of (rows_same p u) ∙ day-anywhere p n u b)

pub block-accepted : (b : Block) (st : Due) → IsBlock st.n st.decimals b → Free st → st.date < date_in b.top → Accepted st (text (rows_of b))
block-accepted b st h f l =
    let w = block-pass b st h f l in
    let e : lines (text (rows_of b)) ≡ cut (rows_of b) = block-lines b st.n st.decimals h in
    let k : is_block (kinds_of (cut (rows_of b))) ≡ true = rw (kind-of 300 st.n st.decimals b.top h.top) (under-kinds (b.runs ++ b.extra) (under b st.n st.decimals h)) in
    record {
      kinds = subst (λ (x : Lines). is_block (kinds_of x) ≡ true) (sym e) k;
      end = w.end;
      passes = subst (λ (x : Lines). Passes st x w.end) (sym e) w.passes;
      free = w.free;
    }

-- every block of the grammar says, under a 200 of its n and decimals, the day that it is there
pub block-says : (b : Block) (n d : ℕ) → IsBlock n d b → (c : Row) → HeadOf (behind200 n d) c → Says (text (rows_of b)) (day_in n (unit_in c.cells) b)
unfolding is_open
block-says b n d h c e =
    let st : Due = behind200 n d in
    record {
      st = st;
      accepted = block-accepted b st h (refl, refl) (date-some n d b.top h.top);
      place = 0;
      channel = c;
      under = e;
      reads = block_reads b n d h 0 c e.intervals;
    }

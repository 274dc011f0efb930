-- An accepted file, cut at the block of one of its days: what stands before it, its 300 with the 400s and 500s under it, and what is behind. By one induction
-- over the file's records, with what the state holds of the last 200; the bytes are those of the lines. Assumes nothing.
use Prim.Native.Nat.{ℕ, zero, suc, ◌+◌, ◌≤◌}
use mathlib.Core.Path.{◌≡◌, refl, sym, ap, ◌∙◌, subst}
use mathlib.Core.Bool.{true, false, false≢true, cond, ◌||◌}
use mathlib.Core.List.{List, [], ◌∷◌, ◌++◌}
use native.Mathlib.Omega.{arith}
use lib.ListN.{length, drop, length-append}
use lib.Dec.{eqb}
use borrow.Author.Tests.{eqb-true, eq-eqb}
use Rattle.ground.proofs.Cases.{by, both}
use Rattle.format.specs.Cut.{Lines, line, rest, lines, fields}
use Rattle.format.specs.Records.{no_scale, kind_in, version_in, unit_in, decimals_in, intervals_in}
use Rattle.format.specs.Order.{may_come, in_day, in_varied, is_end, Due, begun, on100, after_of}
use Rattle.format.specs.Faults.{scale_of}
use Rattle.format.specs.Answers.{accepted}
use Rattle.format.specs.File.{after, check_of}
use Rattle.format.specs.Day.{Row, row_at, DayRows, runs_from, day_from, days_from, no_channel, days_of}
use Rattle.format.specs.Total.{totals_from}
use Rattle.format.proofs.Cut.{bytes_of, bytes-lines}
use Rattle.format.proofs.States.{implied, excluded}
use Rattle.passing.specs.Passes.{Passes, Leads, kinds_of, head_in, are_under, is_block, Free, Accepted, Counts}
use Rattle.passing.proofs.Fit.{Ok, fine-fit, Head, h100, h200, h300, h400, h500, h250, h550, h900, head, free_of, free-if}
use Rattle.passing.proofs.Steps.{runs-end, days-more, cells-on}
use Rattle.passing.proofs.Walk.{file-passes}
use Rattle.passing.proofs.Counts.{no-day, counts-begun, counted}
use Rattle.passing.proofs.Files.{onto, lines-passed, bytes-onto, runs-lines}
use Rattle.passing.proofs.Blocks.{under_none}
use Rattle.passing.proofs.Alone.{Inside, inside-after, inside-300}

-- ---- the records under a 300, and what is behind them

-- the first of these records is there, and stands under no 300
abbrev pub Apart : Lines → Type 0
Apart (rest t) = ⊥
Apart (line r ls) = (eqb (kind_in (fields r)) 400 || eqb (kind_in (fields r)) 500) ≡ false

apart-400 : (k : ℕ) → (eqb k 400 || eqb k 500) ≡ false → k ≡ 400 → ⊥
apart-400 k h e = false≢true (sym h ∙ rw e)

-- no 400 follows
pub apart-runs : (ls : Lines) → Apart ls → (q : ℕ) → runs_from q ls ≡ []
apart-runs (rest t) h q = absurd h
apart-runs (line r ls) h q = runs-end q r ls (apart-400 (kind_in (fields r)) h)

-- of records that are passed from under a 300 to the end
record Under (a e : Due) (ls : Lines) : Type 0 where
  under : Lines
  behind : Lines
  is : ls ≡ onto under behind
  kinds : are_under (kinds_of under) ≡ true
  mid : Due
  passes : Passes a under mid
  free : Free mid
  on : Passes mid behind e
  apart : Apart behind

under_of : (a e : Due) (ls : Lines) → Inside a → is_end e.expect ≡ true → Passes a ls e → Under a e ls
under_of a e (rest t) i x h = excluded in_day is_end refl e.expect (subst Inside h.1 i) x
under_of a e (line r ls) i x h =
    by (eqb (kind_in (fields r)) 400 || eqb (kind_in (fields r)) 500)
    (λ t.
    let w = under_of (after a r) e ls (inside-after a r t) x h.1 in
    record {
      under = line r w.under;
      behind = w.behind;
      is = ap (line r) w.is;
      kinds = both _ (are_under (kinds_of w.under)) t w.kinds;
      mid = w.mid;
      passes = (h.0, w.passes);
      free = w.free;
      on = w.on;
      apart = w.apart;
    })
    (λ t.
    let f = fine-fit a r h.0 in
    record {
      under = rest [];
      behind = line r ls;
      is = refl;
      kinds = refl;
      mid = a;
      passes = (refl, refl);
      free = (implied in_day (λ x. may_come x 300) refl a.expect i, free-if a 300 (free_of a (kind_in (fields r)) f.free (apart-400 (kind_in (fields r)) t)));
      on = h;
      apart = t;
    })

-- ---- what the state holds of the 200

-- the state is one under a 200 of these fields, which is in order
pub record Heading (st : Due) (fs : List (List ℕ)) : Type 0 where
  pub head : Ok 200 no_scale fs
  pub intervals : intervals_in fs ≡ st.n
  pub decimals : decimals_in fs ≡ st.decimals
  pub some : 1 ≤ st.channels

-- wherever a day may come
abbrev Heads : Due → List (List ℕ) → Type 0
Heads st fs = may_come st.expect 300 ≡ true → Heading st fs

heads-none : (st : Due) (fs : List (List ℕ)) → may_come st.expect 300 ≡ false → Heads st fs
heads-none st fs l h = absurd (false≢true (sym l ∙ h))

heads-on : (st : Due) (k : ℕ) (fs gs : List (List ℕ)) → Head st.expect k → Ok k (scale_of st k fs) fs → Heads st gs → Heads (after_of st k fs) (cond (eqb k 200) fs gs)
unfolding after_of
heads-on st k fs gs (h100 e x) o h = rw e (heads-none (on100 st fs) gs (no-day (eqb (version_in fs) 12)))
heads-on st k fs gs (h200 e x) o h =
    let p : Ok 200 (scale_of st 200 fs) fs = subst (λ (j : ℕ). Ok j (scale_of st j fs) fs) e o in
    rw e (λ u. record { head = p; intervals = refl; decimals = refl; some = omega arith })
heads-on st k fs gs (h300 e x) o h = let w = h x in rw e (λ u. record { head = w.head; intervals = w.intervals; decimals = w.decimals; some = w.some })
heads-on st k fs gs (h400 e x) o h =
    let w = h (implied in_varied (λ y. may_come y 300) refl st.expect x) in
    rw e (λ u. record { head = w.head; intervals = w.intervals; decimals = w.decimals; some = w.some })
heads-on st k fs gs (h500 e x) o h =
    let w = h (implied in_day (λ y. may_come y 300) refl st.expect x) in
    rw e (λ u. record { head = w.head; intervals = w.intervals; decimals = w.decimals; some = w.some })
heads-on st k fs gs (h250 e x) o h = rw e (λ u. absurd (false≢true u))
heads-on st k fs gs (h550 e x) o h = rw e (λ u. absurd (false≢true u))
heads-on st k fs gs (h900 e x) o h = rw e (λ u. absurd (false≢true u))

-- ---- the lines

-- of records that are passed from the state a to e, from the place p on and under the 200 c: those before the block of the day d, which is number k of theirs, the
-- block's, and those behind
record Cut (a e : Due) (p : ℕ) (c : Row) (ls : Lines) (k : ℕ) (d : DayRows) : Type 0 where
  before : Lines
  block : Lines
  behind : Lines
  is : ls ≡ onto before (onto block behind)
  st : Due
  leads : Passes a before st
  number : a.days + k ≡ st.days
  kinds : is_block (kinds_of block) ≡ true
  mid : Due
  passes : Passes st block mid
  free : Free mid
  on : Passes mid behind e
  apart : Apart behind
  place : d.block.top.place ≡ p + length (bytes_of before)
  cells : d.channel.cells ≡ head_in c.cells before
  rows : days_from (p + length (bytes_of before)) d.channel block ≡ d ∷ []
  heading : Heading st d.channel.cells
  counts : a.channels + length (totals_from before) ≡ st.channels

module _ (a e : Due) (p : ℕ) (c : Row) (r : List ℕ) (ls : Lines) (h : Passes a (line r ls) e) (d : DayRows) where
  -- the day's 300 is the first
  cut-here : is_end e.expect ≡ true → Heads a c.cells → kind_in (fields r) ≡ 300 → day_from p c r ls ≡ d → Cut a e p c (line r ls) 0 d
  unfolding totals_from
  cut-here x g k q =
      let w = under_of (after a r) e ls (inside-300 a r k) x h.1 in
      let j : Lines → DayRows = day_from p c r in
      let m : may_come a.expect 300 ≡ true = rw k at (fine-fit a r h.0).may in
      let z : p ≡ p + 0 = omega arith in
      let f : Heading a c.cells = g m in
      let i : j (onto w.under w.behind) ≡ d = ap j (sym w.is) ∙ q in
      let y : j w.under ≡ d =
      ap (λ (x : List Row). record { channel = c; block = record { n = intervals_in c.cells; unit = unit_in c.cells; top = row_at p r; runs = x } })
      (sym (runs-lines (p + length r + 2) w.under w.behind (apart-runs w.behind w.apart)))
      ∙ i in
      let ch : c ≡ d.channel = ap (λ (x : DayRows). x.channel) q in
      record {
        before = rest [];
        block = line r w.under;
        behind = w.behind;
        is = ap (line r) w.is;
        st = a;
        leads = (refl, refl);
        number = omega arith;
        kinds = both (eqb (kind_in (fields r)) 300) (are_under (kinds_of w.under)) (eq-eqb _ _ k) w.kinds;
        mid = w.mid;
        passes = (h.0, w.passes);
        free = w.free;
        on = w.on;
        apart = w.apart;
        place = ap (λ (x : DayRows). x.block.top.place) (sym q) ∙ z;
        cells = ap (λ (x : Row). x.cells) (sym ch);
        rows =
            ap (λ (o : ℕ). days_from o d.channel (line r w.under)) (sym z)
            ∙ ap (λ (x : Row). days_from p x (line r w.under)) (sym ch)
            ∙ days-more p r w.under c k
            ∙ ap (λ (ds : List DayRows). j w.under ∷ ds) (under_none (p + length r + 2) c w.under w.kinds)
            ∙ ap (λ (x : DayRows). x ∷ []) y;
        heading = subst (λ (x : Row). Heading a x.cells) ch f;
        counts = omega arith;
      }

  -- it stands behind the first record
  cut_on : (k j : ℕ) (c' : Row) → Counts a → c'.cells ≡ cond (eqb (kind_in (fields r)) 200) (fields r) c.cells
      → j + cond (eqb (kind_in (fields r)) 300) 1 0 ≡ k → Cut (after a r) e (p + length r + 2) c' ls j d → Cut a e p c (line r ls) k d
  unfolding totals_from
  cut_on k j c' n v o w =
      let s = counted a (kind_in (fields r)) (fields r) n (head _ _ (fine-fit a r h.0).may) in
      let u : p + length r + 2 + length (bytes_of w.before) ≡ p + length (r ++ 13 ∷ 10 ∷ bytes_of w.before) = omega (arith, length-append r (13 ∷ 10 ∷ bytes_of w.before)) in
      let days : (after a r).days + j ≡ a.days + k =
      by (eqb (kind_in (fields r)) 300)
      (λ t. let x : (after a r).days ≡ a.days + 1 = (rw t at s.days) in let y : j + 1 ≡ k = (rw t at o) in omega arith)
      (λ t. let x : (after a r).days ≡ a.days = (rw t at s.days) in let y : j + 0 ≡ k = (rw t at o) in omega arith) in
      let channels : a.channels + length (totals_from (line r w.before)) ≡ (after a r).channels + length (totals_from w.before) =
      by (eqb (kind_in (fields r)) 200)
      (λ t. let x : (after a r).channels ≡ a.channels + 1 = (rw t at s.channels) in rw t (omega arith))
      (λ t. by (eqb (kind_in (fields r)) 250)
      (λ i. let x : (after a r).channels ≡ a.channels + 1 = (rw (t, i) at s.channels) in rw (t, i) (omega arith))
      (λ i. let x : (after a r).channels ≡ a.channels = (rw (t, i) at s.channels) in rw (t, i) (omega arith))) in
      record {
        before = line r w.before;
        block = w.block;
        behind = w.behind;
        is = ap (line r) w.is;
        st = w.st;
        leads = (h.0, w.leads);
        number = sym days ∙ w.number;
        kinds = w.kinds;
        mid = w.mid;
        passes = w.passes;
        free = w.free;
        on = w.on;
        apart = w.apart;
        place = w.place ∙ u;
        cells = w.cells ∙ ap (λ (fs : List (List ℕ)). head_in fs w.before) v;
        rows = ap (λ (o : ℕ). days_from o d.channel w.block) (sym u) ∙ w.rows;
        heading = w.heading;
        counts = channels ∙ w.counts;
      }

-- the first of these days, or another
drop-first : {X : Type 0} (k : ℕ) (x : X) (xs : List X) (y : X) (ys : List X) → drop k (x ∷ xs) ≡ y ∷ ys → {A : Type 0} → (k ≡ 0 → x ≡ y → A)
    → ((j : ℕ) → j + 1 ≡ k → drop j xs ≡ y ∷ ys → A) → A
drop-first zero x xs y ys h f g = f refl cc
drop-first (suc k) x xs y ys h f g = g k (omega arith) h

cut_at : (a e : Due) (p : ℕ) (c : Row) (ls : Lines) (k : ℕ) (d : DayRows) (ds : List DayRows) → Passes a ls e → is_end e.expect ≡ true → Counts a → Heads a c.cells
    → drop k (days_from p c ls) ≡ d ∷ ds → Cut a e p c ls k d
unfolding days_from
cut_at a e p c (rest t) k d ds h x n g q = absurd (no_drop k q)
  where
    no_drop : (k : ℕ) → drop k [] ≡ d ∷ ds → ⊥
    no_drop zero z = let y : 0 ≡ suc (length ds) = ap length z in omega arith
    no_drop (suc k) z = let y : 0 ≡ suc (length ds) = ap length z in omega arith
cut_at a e p c (line r ls) k d ds h x n g q =
    let f = fine-fit a r h.0 in
    let m = head a.expect (kind_in (fields r)) f.may in
    let s = counted a (kind_in (fields r)) (fields r) n m in
    let o : Heads (after a r) (cond (eqb (kind_in (fields r)) 200) (fields r) c.cells) = heads-on a (kind_in (fields r)) (fields r) c.cells m f.ok g in
    by (eqb (kind_in (fields r)) 300)
    (λ t.
    let i : kind_in (fields r) ≡ 300 = eqb-true _ _ t in
    let y : c.cells ≡ cond (eqb (kind_in (fields r)) 200) (fields r) c.cells = rw i in
    let b : drop k (day_from p c r ls ∷ days_from (p + length r + 2) c ls) ≡ d ∷ ds = rw t at q in
    drop-first k (day_from p c r ls) (days_from (p + length r + 2) c ls) d ds b
    (λ z w. subst (λ (j : ℕ). Cut a e p c (line r ls) j d) (sym z) (cut-here a e p c r ls h d x g i w))
    (λ j z w. cut_on a e p c r ls h d k j c n y (rw t z) (cut_at (after a r) e (p + length r + 2) c ls j d ds h.1 x s.counts (subst (Heads (after a r)) (sym y) o) w)))
    (λ t.
    let c' : Row = cond (eqb (kind_in (fields r)) 200) (row_at p r) c in
    let y : c'.cells ≡ cond (eqb (kind_in (fields r)) 200) (fields r) c.cells = cells-on (kind_in (fields r)) p c r in
    let z : k + 0 ≡ k = omega arith in
    cut_on a e p c r ls h d k k c' n y (rw t z) (cut_at (after a r) e (p + length r + 2) c' ls k d ds h.1 x s.counts (subst (Heads (after a r)) (sym y) o) (rw t at q)))

-- ---- the file

pub record Parts (file : List ℕ) (day : ℕ) (d : DayRows) : Type 0 where
  pub before : List ℕ
  pub block : List ℕ
  pub behind : List ℕ
  pub is : file ≡ before ++ (block ++ behind)
  -- the check comes through `before` to st, takes the block there, and goes on to the end
  pub st : Due
  pub leads : Leads before st
  pub number : st.days ≡ day
  pub accepted : Accepted st block
  pub end : Due
  pub on : Passes accepted.end (lines behind) end
  pub ended : is_end end.expect ≡ true
  -- what is behind is no part of the block
  pub apart : Apart (lines behind)
  -- the day is the block's, at its place, under the last 200 before it
  pub place : d.block.top.place ≡ length before
  pub cells : d.channel.cells ≡ head_in no_channel.cells (lines before)
  pub rows : days_from (length before) d.channel (lines block) ≡ d ∷ []
  -- which is in order, and of the state's n and decimals; the last of so many channels
  pub head : Ok 200 no_scale d.channel.cells
  pub intervals : intervals_in d.channel.cells ≡ st.n
  pub decimals : decimals_in d.channel.cells ≡ st.decimals
  pub counted : length (totals_from (lines before)) ≡ st.channels
  pub some : 1 ≤ st.channels

pub parts : (file xs : List ℕ) (day : ℕ) (d : DayRows) (ds : List DayRows) → check_of file ≡ accepted xs → drop day (days_of file) ≡ d ∷ ds → Parts file day d
unfolding days_of
parts file xs day d ds e q =
    let v = file-passes file xs e in
    let w = cut_at begun v.end 0 no_channel (lines file) day d ds v.passes v.expected counts-begun (λ u. absurd (false≢true u)) q in
    let x = lines-passed begun w.st w.before w.leads in
    let y = lines-passed w.st w.mid w.block w.passes in
    let z = lines-passed w.mid v.end w.behind w.on in
    let o : 0 + length (bytes_of w.before) ≡ length (bytes_of w.before) = omega arith in
    record {
      before = bytes_of w.before;
      block = bytes_of w.block;
      behind = bytes_of w.behind;
      is =
          sym (bytes-lines file)
          ∙ ap bytes_of w.is
          ∙ bytes-onto begun w.st w.before (onto w.block w.behind) w.leads
          ∙ ap (λ (l : List ℕ). bytes_of w.before ++ l) (bytes-onto w.st w.mid w.block w.behind w.passes);
      st = w.st;
      leads = subst (λ (ls : Lines). Passes begun ls w.st) (sym x) w.leads;
      number = (let i = w.number in omega arith);
      accepted =
          record {
            kinds = subst (λ (ls : Lines). is_block (kinds_of ls) ≡ true) (sym y) w.kinds;
            end = w.mid;
            passes = subst (λ (ls : Lines). Passes w.st ls w.mid) (sym y) w.passes;
            free = w.free;
          };
      end = v.end;
      on = subst (λ (ls : Lines). Passes w.mid ls v.end) (sym z) w.on;
      ended = v.expected;
      apart = subst Apart (sym z) w.apart;
      place = w.place ∙ o;
      cells = w.cells ∙ ap (head_in no_channel.cells) (sym x);
      rows = ap (days_from (length (bytes_of w.before)) d.channel) y ∙ ap (λ (i : ℕ). days_from i d.channel w.block) (sym o) ∙ w.rows;
      head = w.heading.head;
      intervals = w.heading.intervals;
      decimals = w.heading.decimals;
      counted = ap (λ (ls : Lines). length (totals_from ls)) x ∙ (let i = w.counts in omega arith);
      some = w.heading.some;
    }

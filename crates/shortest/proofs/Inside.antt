-- A block inside a file: where one may stand, what the check does behind it, which day a reading finds there, and that a 900 may close the file behind it.
-- Assumes nothing.
use Rattle.std.proofs.Common.{Some}
use Prim.Native.Nat.{ℕ, ◌+◌, ◌≤◌, ◌<◌}
use mathlib.Core.Path.{◌≡◌, refl, sym, ap, ap₂, ◌∙◌, subst}
use mathlib.Core.Bool.{true, false}
use mathlib.Core.List.{List, [], ◌∷◌, ◌++◌, map, append_assoc}
use native.Mathlib.Omega.{arith}
use lib.ListN.{length, drop}
use lib.Seq.{drop-append_seam}
use Rattle.ground.specs.Text.{bytes}
use Rattle.ground.specs.Digits.{is_digit}
use Rattle.ground.proofs.Cases.{by}
use Rattle.format.specs.Bytes.{are_all}
use Rattle.format.specs.Numbers.{number_of}
use Rattle.format.specs.Units.{unit_of, decimals_of, decimals_named}
use Rattle.format.specs.Cut.{Lines, line, rest, lines, fields, field}
use Rattle.format.specs.Records.{is_kind, indicator_of, kind_in, row_of, count_of, rule_of, obeys, unit_field, unit_in, decimals_in, intervals_in, qualities_of}
use Rattle.format.specs.Order.{may_come, in_day, is_end, Due, begun, is_varied, on300, after_of}
use Rattle.format.specs.Answers.{accepted}
use Rattle.format.specs.Faults.{is_open, fault_in, broken_in, is_not_later, is_off, is_alike, is_elsewhere, fault_of, Fine}
use Rattle.format.specs.File.{after, walk_of, most, check_of}
use Rattle.format.specs.Day.{Row, row_at, BlockRows, DayRows, runs_from, day_from, days_from, days_of, tags_of, Day, marks_of, day_of}
use Rattle.format.proofs.Cut.{bytes_of, bytes-lines}
use Rattle.format.proofs.States.{implied, not-ended}
use Rattle.passing.specs.Passes.{kinds_of, unit_before, Free, Accepted, Awaits, Leads}
use Rattle.passing.proofs.Fit.{fine-fit, fit-fine, fit-cover, free_of, free-if}
use Rattle.passing.proofs.Walk.{not-accepted, goes, walk-of, of-walk}
use Rattle.passing.proofs.Steps.{after-300, runs-end, block_found, days-more}
use Rattle.passing.proofs.Blocks.{headed, Kept, under-kept}
use Rattle.passing.proofs.Files.{onto, lines-behind, passes_append, walk-append, Onward, days-append, runs-lines}
use Rattle.theorems.specs.Days.{meant}
use Rattle.shortest.specs.Blocks.{Reads, mark_of, Stands}
use Rattle.shortest.proofs.Steps.{read-day}
use Rattle.shortest.proofs.Tags.{tags-marks, read_is}

-- ---- the state behind a block

-- behind a block that says the day d
record Ended (st end : Due) (d : Day) : Type 0 where
  n : end.n ≡ st.n
  decimals : end.decimals ≡ st.decimals
  date : end.date ≡ d.date
  version : end.version ≡ st.version
  channels : end.channels ≡ st.channels
  days : end.days ≡ st.days + 1
  inside : in_day end.expect ≡ true

module _ (st : Due) (b : List ℕ) (a : Accepted st b) where
  ended : (p : ℕ) (c : Row) (d : Day) → intervals_in c.cells ≡ st.n → Reads p c b d → Ended st a.end d
  unfolding day_of
  ended p c d n h =
      let w = headed st b a in
      let k : Kept (on300 st (fields w.first)) a.end =
      subst (λ (x : Due). Kept x a.end) (after-300 st w.first w.kind) (under-kept (after st w.first) a.end w.others w.under w.passes) in
      record {
        n = k.n;
        decimals = k.decimals;
        date = k.date ∙ ap (λ (x : Day). x.date) (read-day st b a p c d n h);
        version = k.version;
        channels = k.channels;
        days = k.days;
        inside = k.under (by (is_varied st.n (fields w.first)) (λ t. rw t) (λ t. rw t));
      }

  -- ---- where a block may stand

  -- behind another day of an earlier date
  pub behind-day : (p : ℕ) (c : Row) (d : Day) → intervals_in c.cells ≡ st.n → Reads p c b d → (date : ℕ) → d.date < date → Awaits a.end st.n st.decimals date
  behind-day p c d n h t l = let w = ended p c d n h in record { free = a.free; intervals = w.n; decimals = w.decimals; earlier = omega (arith, w.date) }

-- behind a 200, in its unit u
pub behind-200 : (st : Due) (r : List ℕ) (u : ℕ) → kind_in (fields r) ≡ 200 → unit_of (field unit_field (fields r)) ≡ Some u → (date : ℕ) → 1 ≤ date
    → Awaits (after st r) (intervals_in (fields r)) (decimals_of u) date
unfolding after_of is_open decimals_in decimals_named
behind-200 st r u k e t l = rw k (record { free = (refl, refl); intervals = refl; decimals = rw e; earlier = l })

-- ---- the records behind a block

-- no 400 follows where the cover is complete
no_run : (st : Due) (r : List ℕ) → Free st → fault_of st r ≡ Fine → kind_in (fields r) ≡ 400 → ⊥
no_run st r f h k =
    let w = fine-fit st r h in
    let m : may_come st.expect 400 ≡ true = rw k at w.may in
    let l : st.n < st.next = free_of st 300 f.1 (λ z. omega arith) m in
    let c = fit-cover st r w k in
    omega (arith, c.0, c.1, c.2)

none-behind : (st : Due) (p k : ℕ) (m : Lines) (xs : List ℕ) → Free st → walk_of st p k m ≡ accepted xs → (q : ℕ) → runs_from q m ≡ []
unfolding runs_from
none-behind st p k (rest t) xs f e q = refl
none-behind st p k (line r ls) xs f e q = runs-end q r ls (no_run st r f (goes st p k r ls xs e).fine)

-- ---- the theorems

module _ (before b behind : List ℕ) (st : Due) (d : Day) (h : Leads before st) (a : Accepted st b) (c : Row) (n : intervals_in c.cells ≡ st.n)
    (s : Reads (length before) c b d) where
  walks : walk_of begun 0 0 (lines (before ++ b ++ behind)) ≡ walk_of a.end (length (before ++ b)) (length (kinds_of (lines (before ++ b)))) (lines behind)
  walks =
      let u : 0 + length (before ++ b) ≡ length (before ++ b) = omega arith in
      let v : 0 + length (kinds_of (lines (before ++ b))) ≡ length (kinds_of (lines (before ++ b))) = omega arith in
      walk-append begun a.end 0 0 (before ++ b) behind (passes_append begun st a.end before b h a.passes)
      ∙ ap₂ (λ (i j : ℕ). walk_of a.end i j (lines behind)) u v

  file : List ℕ
  file = before ++ b ++ behind

  -- what a reading goes on with behind `before`
  onward : Onward st before (b ++ behind)
  onward =
      let w = headed st b a in
      let m : may_come st.expect 300 ≡ true = rw w.kind at w.fit.may in
      days-append st before (b ++ behind) h m

  -- the rows of the block's day
  rows : DayRows
  rows = let w = headed st b a in day_from (length before) onward.channel w.first (onto w.others (lines behind))

  cut-there : lines (b ++ behind) ≡ line (headed st b a).first (onto (headed st b a).others (lines behind))
  cut-there = lines-behind st a.end b behind a.passes ∙ ap (λ (l : Lines). onto l (lines behind)) (headed st b a).is

  days-there : (others : List DayRows) × (drop st.days (days_of file) ≡ rows ∷ others)
  unfolding file rows
  days-there =
      let w = headed st b a in
      let p : ℕ = length before in
      let k : Row = onward.channel in
      let ls : Lines = onto w.others (lines behind) in (
        days_from (p + length w.first + 2) k ls,
        ap (λ (l : List ℕ). drop st.days (days_of l)) (append_assoc before b behind) ∙ onward.is ∙ ap (days_from p k) cut-there ∙ days-more p w.first ls k w.kind,
      )

  -- in the unit of the last 200 before it
  day-there : ((q : ℕ) → runs_from q (lines behind) ≡ []) → unit_before before ≡ d.unit → meant rows ≡ d
  unfolding rows day_of
  day-there none m =
      let w = headed st b a in
      let p : ℕ = length before in
      let e : day_of (block_found p w.first w.others st.n (unit_in c.cells)) ≡ d = read-day st b a p c d n s in
      let u : unit_in onward.channel.cells ≡ unit_in c.cells = ap unit_in onward.cells ∙ m ∙ sym (ap (λ (x : Day). x.unit) e) in
      let top : ℕ → ℕ → List Row → BlockRows = λ i j rs. record { n = i; unit = j; top = row_at p w.first; runs = rs } in
      ap₂ (λ (i j : ℕ). day_of (top i j (runs_from (p + length w.first + 2) (onto w.others (lines behind))))) onward.intervals u
      ∙ ap (λ (rs : List Row). day_of (top st.n (unit_in c.cells) rs)) (runs-lines (p + length w.first + 2) w.others (lines behind) none)
      ∙ e

  tags-there : map (mark_of file) (tags_of rows.block) ≡ marks_of rows.block
  unfolding file rows
  tags-there =
      let w = headed st b a in
      let ls : Lines = onto w.others (lines behind) in
      tags-marks file (length before) (intervals_in onward.channel.cells) (unit_in onward.channel.cells) w.first ls
      (ap (drop (length before)) (append_assoc before b behind)
      ∙ drop-append_seam before (b ++ behind)
      ∙ sym (bytes-lines (b ++ behind))
      ∙ ap bytes_of cut-there)

  pub stands : unit_before before ≡ d.unit → Stands before b behind st d
  unfolding file
  stands m =
      record {
        end = a.end;
        goes_on = walks;
        awaits = behind-day st b a (length before) c d n s;
        reads = λ xs e.
            (let w = walk-of file (accepted xs) e (not-accepted 1 0 0 0 xs) in
            let none = none-behind a.end (length (before ++ b)) (length (kinds_of (lines (before ++ b)))) (lines behind) xs a.free (sym walks ∙ w.1) in
            read_is file st.days xs rows days-there.0 d e days-there.1 (day-there none m) tags-there);
      }

-- ---- a 900 behind a block

abbrev nine : List ℕ
nine = bytes "900"

nine-fine : (st : Due) → in_day st.expect ≡ true → is_open st 300 ≡ false → fault_of st nine ≡ Fine
unfolding fields kind_in indicator_of is_kind number_of are_all is_digit count_of row_of fault_in obeys rule_of broken_in qualities_of is_not_later is_off is_alike is_elsewhere
nine-fine st l f =
    fit-fine st nine
    (record {
      bytes = refl;
      free = free-if st 900 (free_of st 300 f (λ z. omega arith));
      may = implied in_day (λ y. may_come y 900) refl st.expect l;
      ok = (refl, refl, refl);
      rises = refl;
      cover = refl;
      apart = refl;
      day = refl;
    })

nine-ends : (st : Due) (p k : ℕ) → fault_of st nine ≡ Fine → is_end st.expect ≡ false → walk_of st p k (lines (bytes "900\r\n")) ≡ accepted (st.version ∷ st.channels ∷ st.days ∷ [])
unfolding walk_of lines after_of fields kind_in indicator_of is_kind number_of are_all is_digit
nine-ends st p k h e = rw (e, h)

pub closes : (before b : List ℕ) (st : Due) (d : Day) → Leads before st → Accepted st b → (c : Row) → intervals_in c.cells ≡ st.n → Reads (length before) c b d
    → length (before ++ b ++ bytes "900\r\n") ≤ most
    → check_of (before ++ b ++ bytes "900\r\n") ≡ accepted (st.version ∷ st.channels ∷ (st.days + 1) ∷ [])
closes before b st d h a c n s l =
    let w = ended st b a (length before) c d n s in
    let f = nine-fine a.end w.inside a.free.1 in
    let g : accepted (a.end.version ∷ a.end.channels ∷ a.end.days ∷ []) ≡ accepted (st.version ∷ st.channels ∷ (st.days + 1) ∷ []) =
    rw (w.version, w.channels, w.days) in
    of-walk (before ++ b ++ bytes "900\r\n") (accepted (st.version ∷ st.channels ∷ (st.days + 1) ∷ [])) l
    (walks before b (bytes "900\r\n") st d h a c n s ∙ nine-ends a.end (length (before ++ b)) (length (kinds_of (lines (before ++ b)))) f (not-ended a.end.expect 500 w.inside) ∙ g)

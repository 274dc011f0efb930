-- A day that an accepted block says is fit. Assumes nothing.
use Rattle.std.proofs.Common.{Option, Some, None}
use Prim.Native.Nat.{ℕ, zero, suc, ◌+◌, ◌-◌, ◌^◌}
use mathlib.Core.Path.{◌≡◌, refl, sym, ap, ◌∙◌}
use mathlib.Core.Logic.{◌≢◌}
use mathlib.Core.Bool.{Bool, true, false, cond, ◌||◌, false≢true}
use mathlib.Core.List.{List, [], ◌∷◌, map}
use native.Mathlib.Omega.{arith}
use lib.ListN.{length, get_or, drop, replicate}
use lib.Dec.{eqb, ltb}
use borrow.Author.Tests.{eqb-true, eqb-false, lt-ltb}
use Rattle.ground.specs.Lists.{all}
use Rattle.ground.proofs.Cases.{by, both}
use Rattle.ground.proofs.Digits.{all_append}
use Rattle.ground.proofs.Tests.{or_right}
use Rattle.format.specs.Numbers.{is_number, number_in, number_of, small_of, no_reason, reason_of, value_of}
use Rattle.format.specs.Units.{is_unit, decimals_of}
use Rattle.format.specs.Dates.{is_date, is_time, date_of, time_of, load_of}
use Rattle.format.specs.Quality.{stands_alone, takes_method, no_method, with_method, quality_of, is_graded, flag_in, method_in, Mark, grade}
use Rattle.format.specs.Cut.{Lines, line, rest, fields, field}
use Rattle.format.specs.Records.{kind_in, unit_field, unit_in, decimals_in, millionths, first_in, last_in, mark_at, mark_in, agrees, qualities_of}
use Rattle.format.specs.Order.{Due, is_varied}
use Rattle.format.specs.File.{after}
use Rattle.format.specs.Day.{runs_from, cover_of, each_of, values_of, Day, marks_of, day_of}
use Rattle.format.specs.Block.{fit_quality, fit_reason, fit_mark, fit_value, fit_day}
use Rattle.format.proofs.Numbers.{that-holds, under, under-is, number-under, small-under}
use Rattle.format.proofs.Units.{unit-in, unit-decimals}
use Rattle.format.proofs.ValueText.{value-fits}
use Rattle.format.proofs.MarkText.{alone-is, method-flag}
use Rattle.passing.specs.Passes.{Passes}
use Rattle.passing.proofs.Fit.{Fit, fine-fit}
use Rattle.passing.proofs.Blocks.{headed}
use Rattle.passing.proofs.Steps.{block_found}
use Rattle.theorems.specs.Grammar.{Each, Record, IsRecord}
use Rattle.theorems.proofs.Across.{together-agrees}
use Rattle.theorems.proofs.Told.{fit-rec, fit-300}
use Rattle.shortest.specs.Blocks.{Says}
use Rattle.shortest.proofs.Shapes.{number_is, value-is, said, Marking, Top, top_of, stretch-of}
use Rattle.shortest.proofs.Steps.{read-day}
use Rattle.format.specs.declared.Grade.{Grade}

-- ---- single fields

date-fit : (s : List ℕ) → is_number (date_of s) ≡ true → is_date (number_in (date_of s)) ≡ true
unfolding date_of
date-fit s h = that-holds is_date (number_of 8 8 s) h

time-fit : (s : List ℕ) → is_number (time_of s) ≡ true → is_time (number_in (time_of s)) ≡ true
unfolding time_of
time-fit s h = that-holds is_time (number_of 14 14 s) h

load-fit : (s : List ℕ) → is_number (load_of s) ≡ true → (eqb (number_in (load_of s)) 0 || is_time (number_in (load_of s))) ≡ true
unfolding load_of
load-fit s h =
    by (eqb (length s) 0)
    (λ t. rw t)
    (λ t. rw t (or_right (eqb (number_in (time_of s)) 0) (is_time (number_in (time_of s))) (time-fit s (let z : is_number (time_of s) ≡ true = (rw t at h) in z))))

reason-fit : (s : List ℕ) → is_number (reason_of s) ≡ true → fit_reason (number_in (reason_of s)) ≡ true
unfolding reason_of fit_reason
reason-fit s h =
    by (eqb (length s) 0)
    (λ t. rw t)
    (λ t.
    let g : is_number (small_of 3 s) ≡ true = rw t at h in
    rw t (or_right (eqb (number_in (small_of 3 s)) no_reason) (ltb (number_in (small_of 3 s)) 1000)
    (lt-ltb _ _ (under-is (10 ^ 3) (small-under 3 s) (number_is (small_of 3 s) g)))))

abbrev Fits : Option Grade → Type 0
Fits x = is_graded x ≡ true → flag_in x ≢ 86 → fit_quality (flag_in x) (method_in x) ≡ true

fits-alone : (k c : ℕ) (b : Bool) → stands_alone k c ≡ true → Fits (cond b (Some (grade c no_method)) None)
unfolding fit_quality stands_alone
fits-alone k c true a h n = alone-is k c a (λ e. rw e) (λ e. rw e) (λ e. absurd (n e))
fits-alone k c false a h n = absurd (false≢true h)

fits-method : (c : ℕ) (x : Option ℕ) (b : Bool) → takes_method c ≡ b → under 100 x → Fits (cond b (with_method c x) None)
unfolding fit_quality
fits-method c (Some m) true t u h n = rw (method-flag 400 c t, t) (lt-ltb m 100 (under-is 100 u refl))
fits-method c None true t u h n = absurd (false≢true h)
fits-method c x false t u h n = absurd (false≢true h)

-- a quality that is not V is one that a 400 may carry
quality-fit : (k : ℕ) (s : List ℕ) → Fits (quality_of k s)
unfolding quality_of
quality-fit k s =
    by (stands_alone k (get_or s 0 0))
    (λ t. rw t (fits-alone k (get_or s 0 0) (eqb (length s) 1) t))
    (λ t. rw t (fits-method (get_or s 0 0) (number_of 2 2 (drop 1 s)) (takes_method (get_or s 0 0)) refl (number-under 2 2 (drop 1 s))))

-- V is no quality of a 400
v-alone : (c : ℕ) (b : Bool) → stands_alone 400 c ≡ true → flag_in (cond b (Some (grade c no_method)) None) ≢ 86
unfolding stands_alone
v-alone c true t e = false≢true (rw e at t)
v-alone c false t e = omega arith

v-method : (c : ℕ) (x : Option ℕ) (b : Bool) → takes_method c ≡ b → flag_in (cond b (with_method c x) None) ≢ 86
unfolding takes_method
v-method c (Some m) true t e = false≢true (rw e at t)
v-method c None true t e = omega arith
v-method c x false t e = omega arith

no-v : (s : List ℕ) → flag_in (quality_of 400 s) ≢ 86
unfolding quality_of
no-v s =
    by (stands_alone 400 (get_or s 0 0))
    (λ t. rw t (v-alone (get_or s 0 0) (eqb (length s) 1) t))
    (λ t. rw t (v-method (get_or s 0 0) (number_of 2 2 (drop 1 s)) (takes_method (get_or s 0 0)) refl))

-- values of at most d decimals fit every unit that allows d
values-fit : (d : ℕ) (vs : List (List ℕ)) → Each (λ v. is_number (value_of d v) ≡ true) vs → all (fit_value d) (map millionths vs) ≡ true
values-fit d [] h = refl
values-fit d (v ∷ vs) h = both (fit_value d (millionths v)) (all (fit_value d) (map millionths vs)) (value-fits d v (millionths v) (value-is d v h.0)) (values-fit d vs h.1)

-- ---- marks

mark-fit : (k : ℕ) (q s x : List ℕ) → Marking k q s x → flag_in (quality_of k q) ≢ 86 → agrees (said k q s x) ≡ true → fit_mark (said k q s x) ≡ true
unfolding fit_mark
mark-fit k q s x m n a = rw (quality-fit k q m.graded n, reason-fit s m.reasoned, m.described, m.bytes, a)

agrees-300 : (n d : ℕ) (fs : Record) → IsRecord 300 n d fs → agrees (mark_at 300 (n + 2) fs) ≡ true
unfolding qualities_of
agrees-300 n d fs r = together-agrees (mark_at 300 (n + 2) fs) r.together.0

agrees-400 : (fs : Record) → IsRecord 400 0 0 fs → agrees (mark_in fs) ≡ true
unfolding qualities_of
agrees-400 fs r = together-agrees (mark_in fs) r.together.0

stretch-fit : (fs : Record) → IsRecord 400 0 0 fs → fit_mark (mark_in fs) ≡ true
stretch-fit fs r =
    let s = stretch-of fs r in
    rw s.says.mark (mark-fit 400 s.quality s.reason s.text s.marking (no-v s.quality) (rw s.says.mark at (agrees-400 fs r)))

all_replicate : (k : ℕ) (m : Mark) → fit_mark m ≡ true → all fit_mark (replicate k m) ≡ true
all_replicate zero m h = refl
all_replicate (suc k) m h = both (fit_mark m) (all fit_mark (replicate k m)) h (all_replicate k m h)

cover-fit : (p : ℕ) (st end : Due) (ls : Lines) → Passes st ls end → all fit_mark (cover_of (λ x. mark_at 400 3 x.cells) (runs_from p ls)) ≡ true
unfolding cover_of runs_from
cover-fit p st end (rest t) h = refl
cover-fit p st end (line r ls) h =
    by (eqb (kind_in (fields r)) 400)
    (λ t.
    rw t
    (all_append fit_mark (replicate (last_in (fields r) + 1 - first_in (fields r)) (mark_in (fields r))) (cover_of (λ x. mark_at 400 3 x.cells) (runs_from (p + length r + 2) ls))
    (all_replicate (last_in (fields r) + 1 - first_in (fields r)) (mark_in (fields r)) (stretch-fit (fields r) (fit-rec st r 400 (fine-fit st r h.0) (eqb-true _ _ t) (λ z. omega arith) (λ z. omega arith))))
    (cover-fit (p + length r + 2) (after st r) end ls h.1)))
    (λ t. rw t)

-- ---- the day

module _ (st end : Due) (p u : ℕ) (r : List ℕ) (ls : Lines) (k : kind_in (fields r) ≡ 300) (f : Fit st r) (h : Passes (after st r) ls end) where
  marks-fit : (t : Top st.n st.decimals (fields r)) → all fit_mark (marks_of (block_found p r ls st.n u)) ≡ true
  unfolding marks_of each_of
  marks-fit t =
      let i = (fit-300 st r f k).0 in
      by (is_varied st.n (fields r))
      (λ e. rw e (cover-fit (p + length r + 2) (after st r) end ls h))
      (λ e. rw e (all_replicate st.n (mark_at 300 (st.n + 2) (fields r))
      (rw t.says.mark (mark-fit 300 t.quality t.reason t.text t.marking (eqb-false _ _ (sym t.says.varied ∙ e)) (rw t.says.mark at (agrees-300 st.n st.decimals (fields r) i))))))

  -- in a unit that allows the channel's decimals
  day-fit : is_unit u ≡ true → decimals_of u ≡ st.decimals → fit_day (day_of (block_found p r ls st.n u)) ≡ true
  unfolding fit_day day_of values_of
  day-fit i m =
      let t = top_of st.n st.decimals (fields r) (fit-300 st r f k).0 in
      rw (
        i,
        t.says.date,
        date-fit t.date t.dated,
        t.says.update,
        time-fit t.update t.updated,
        t.says.load,
        load-fit t.load t.loaded,
        t.says.values,
        m,
        values-fit st.decimals t.values t.valued,
        marks-fit t,
      )

pub fit-said : (d : Day) (b : List ℕ) → Says b d → fit_day d ≡ true
unfolding unit_in decimals_in
fit-said d b h =
    let w = headed h.st b h.accepted in
    let c : Record = h.channel.cells in
    let m : decimals_of (unit_in c) ≡ h.st.decimals = sym (unit-decimals (field unit_field c) h.under.unit) ∙ h.under.decimals in
    ap fit_day (sym (read-day h.st b h.accepted h.place h.channel d h.under.intervals h.reads))
    ∙ day-fit h.st h.accepted.end h.place (unit_in c) w.first w.others w.kind w.fit w.passes (unit-in (field unit_field c) h.under.unit) m

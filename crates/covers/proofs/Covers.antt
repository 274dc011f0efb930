-- The runs of a day's marks, found one after the other: how far one reaches, what the 400s add up to, and what is left of them to write.
-- Assumes nothing.
use Prim.Native.Nat.{ℕ, suc, ◌+◌, ◌-◌, ◌*◌, ◌≤◌, ◌<◌}
use mathlib.Core.Path.{◌≡◌, sym, ap, subst, ◌∙◌}
use mathlib.Core.Bool.{Bool, true, false, not}
use mathlib.Core.List.{List, [], ◌++◌}
use native.Mathlib.Nat.{zero-add}
use native.Mathlib.Omega.{arith}
use lib.ListN.{length, length-append}
use mir.Val.{Fits}
use mir.Syntax.{w64}
use borrow.Author.Tests.{not-true, not-false}
use Rattle.ground.specs.Lists.{all, from}
use Rattle.ground.specs.Digits.{width, dec}
use Rattle.ground.specs.Runs.{runs}
use Rattle.ground.specs.Room.{Put}
use Rattle.ground.proofs.Tests.{and-true}
use Rattle.ground.proofs.From.{from_end, all_from}
use Rattle.ground.proofs.Digits.{length-dec}
use Rattle.ground.proofs.Room.{Left, left-start, left_step, left_end, left-kept}
use Rattle.ground.proofs.Runs.{SoFar, run-start, run_more, run-stop, run-last}
use Rattle.format.specs.Quality.{Mark, same_mark}
use Rattle.format.specs.Day.{Five}
use Rattle.format.specs.Block.{fit_mark, mark_text, run_text, cover_text, runs_in}
use Rattle.format.specs.declared.Tag.{Tag}
use Rattle.format.proofs.MarkText.{mark-itself, mark-sound}
use Rattle.format.proofs.CoverText.{length_run}
use Rattle.fit.specs.Tags.{tag_from, mark_of, marks_from, tag_inside, inside_at, fit_tag, fit_marks, Long}
use Rattle.fit.proofs.Marks.{long-at}
use Rattle.covers.specs.Cover.{cover_from, count_from, span_text, RunEnds, Marked, Sized}
use Rattle.marks.proofs.OneMark.{fit-is-inside}

-- ---- the marks that the lists have

module _ (l : Five) (text : List ℕ) (n i : ℕ) (h : i < n) (r : Marked l text n) where
  pub marked-long : Long (suc i) l
  marked-long = long-at n i l h r.long

  pub marked-fit : {t : Tag} → t ≡ tag_from l i → fit_tag text t ≡ true
  unfolding fit_tag fit_marks inside_at marks_from
  marked-fit e =
      let g = and-true (all (inside_at l text) (from (λ j. j) 0 n)) (all fit_mark (from (marks_from l text) 0 n)) r.fit in
      let a : tag_inside text (tag_from l i) ≡ true = rw zero-add at (all_from (inside_at l text) (λ j. j) 0 n i g.0 h) in
      let b : fit_mark (mark_of text (tag_from l i)) ≡ true = rw zero-add at (all_from fit_mark (marks_from l text) 0 n i g.1 h) in
      rw (e, a, b)

  pub marked-inside : {t : Tag} → t ≡ tag_from l i → tag_inside text t ≡ true
  marked-inside {t} e = fit-is-inside text t (marked-fit e)

-- ---- how far the run reaches that begins with interval i

pub record Running (f : ℕ → Mark) (n i j : ℕ) : Type 0 where
  pub above : i < j
  pub within : j ≤ n
  pub so_far : SoFar same_mark mark-sound mark-itself f n i j

module _ (l : Five) (text : List ℕ) (n i : ℕ) where
  pub running-start : i < n → Running (marks_from l text) n i (i + 1)
  running-start h = record { above = omega arith; within = omega arith; so_far = run-start same_mark mark-sound mark-itself (marks_from l text) n i h }

  module _ (j : ℕ) (r : Running (marks_from l text) n i j) where
    pub running-last : n ≤ j → RunEnds (marks_from l text) n i n
    unfolding runs_in
    running-last h =
        let all : j ≡ n = omega (arith, r.within) in
        subst (RunEnds (marks_from l text) n i) all
        (record { above = r.above; within = r.within; first = run-last same_mark mark-sound mark-itself (marks_from l text) n i j r.above h r.so_far })

    module _ {a b : Tag} {s : Bool} (h : j < n) (e : a ≡ tag_from l i) (f : b ≡ tag_from l j) (g : s ≡ same_mark (mark_of text a) (mark_of text b)) where
      compared : s ≡ same_mark (marks_from l text i) (marks_from l text j)
      unfolding marks_from
      compared = rw (e, f) at g

      pub running_more : not s ≡ false → Running (marks_from l text) n i (j + 1)
      running_more t =
          record {
            above = omega (arith, r.above);
            within = omega arith;
            so_far = run_more same_mark mark-sound mark-itself (marks_from l text) n i j r.above h (sym compared ∙ not-false s t) r.so_far;
          }

      pub running-stop : not s ≡ true → RunEnds (marks_from l text) n i j
      unfolding runs_in
      running-stop t =
          record {
            above = r.above;
            within = r.within;
            first = run-stop same_mark mark-sound mark-itself (marks_from l text) n i j r.above h (sym compared ∙ not-true s t) r.so_far;
          }

-- ---- one record

pub run_length : (a e : ℕ) (m : Mark) {s w k : ℕ} → s ≡ width (a + 1) → w ≡ width e → k ≡ length (mark_text m) → s + w + k + 8 ≡ length (run_text a e m)
run_length a e m p q r = omega (arith, length_run a e m, length-dec (a + 1), length-dec e)

pub length-span : (a e : ℕ) → length (span_text a e) ≡ length (dec (a + 1)) + length (dec e) + 6
unfolding span_text
length-span a e = simp length-append (omega arith)

pub run-span : (a e : ℕ) (m : Mark) → length (run_text a e m) ≡ length (span_text a e) + length (mark_text m) + 2
run-span a e m = omega (arith, length_run a e m, length-span a e)

-- ---- the records from interval i on

cover-step : (f : ℕ → Mark) (n i e : ℕ) → RunEnds f n i e → cover_from f n i ≡ run_text i e (f i) ++ cover_from f n e
unfolding cover_from cover_text
cover-step f n i e r =
    let a : i + (e - i) ≡ e = omega (arith, r.above) in
    ap (cover_text i) r.first ∙ ap (λ (k : ℕ). run_text i k (f i) ++ cover_text k (runs_in (from f e (n - e)))) a

cover-end : (f : ℕ → Mark) (n i : ℕ) → n ≤ i → cover_from f n i ≡ []
unfolding cover_from cover_text runs_in runs
cover-end f n i h = ap (λ (ms : List Mark). cover_text i (runs_in ms)) (from_end f i n h)

count-step : (f : ℕ → Mark) (n i e : ℕ) → RunEnds f n i e → count_from f n i ≡ suc (count_from f n e)
unfolding count_from
count-step f n i e r = ap length r.first

count-end : (f : ℕ → Mark) (n i : ℕ) → n ≤ i → count_from f n i ≡ 0
unfolding count_from runs_in runs
count-end f n i h = ap (λ (ms : List Mark). length (runs_in ms)) (from_end f i n h)

-- that many bytes and records cover the first i intervals
pub record Summed (f : ℕ → Mark) (n bytes records i : ℕ) : Type 0 where
  pub within : i ≤ n
  pub bytes_left : bytes + length (cover_from f n i) ≡ length (cover_from f n 0)
  pub records-left : records + count_from f n i ≡ count_from f n 0
  pub bytes-few : bytes ≤ 400 * i
  pub records-few : records ≤ i

pub summed-none : (f : ℕ → Mark) (n : ℕ) → Summed f n 0 0 0
summed-none f n = record { within = omega arith; bytes_left = omega arith; records-left = omega arith; bytes-few = omega arith; records-few = omega arith }

module _ (f : ℕ → Mark) (n bytes records i : ℕ) (r : Summed f n bytes records i) where
  pub summed-fits : {w : ℕ} → n ≤ 288 → w ≤ 400 → Fits w64 (bytes + w)
  summed-fits h g = omega (arith, r.within, r.bytes-few)

  pub summed-all : n ≤ 288 → n ≤ i → Sized f n bytes records
  summed-all g h =
      record {
        bytes-are = omega (arith, r.bytes_left, ap length (cover-end f n i h));
        records-are = omega (arith, r.records-left, count-end f n i h);
        bytes_most = omega (arith, r.bytes-few, r.within);
        records-most = omega (arith, r.records-few, r.within);
      }

module _ (l : Five) (text : List ℕ) (n i : ℕ) {e : ℕ} {t : Tag} (ends : RunEnds (marks_from l text) n i e) (is : t ≡ tag_from l i) where
  mark-is : marks_from l text i ≡ mark_of text t
  unfolding marks_from
  mark-is = ap (mark_of text) (sym is)

  run_step : cover_from (marks_from l text) n i ≡ run_text i e (mark_of text t) ++ cover_from (marks_from l text) n e
  run_step = cover-step (marks_from l text) n i e ends ∙ ap (λ (m : Mark). run_text i e m ++ cover_from (marks_from l text) n e) mark-is

  length-step : length (cover_from (marks_from l text) n i) ≡ length (run_text i e (mark_of text t)) + length (cover_from (marks_from l text) n e)
  length-step = ap length run_step ∙ length-append (run_text i e (mark_of text t)) (cover_from (marks_from l text) n e)

  pub summed-more : {w bytes records : ℕ} → w ≡ length (run_text i e (mark_of text t)) → w ≤ 400 → Summed (marks_from l text) n bytes records i
      → Summed (marks_from l text) n (bytes + w) (records + 1) e
  summed-more q b r =
      record {
        within = ends.within;
        bytes_left = omega (arith, r.bytes_left, length-step);
        records-left = omega (arith, r.records-left, count-step (marks_from l text) n i e ends);
        bytes-few = omega (arith, r.bytes-few, ends.above);
        records-few = omega (arith, r.records-few, ends.above);
      }

  -- ---- what is left to write

  module _ {l₀ m : List ℕ} {at p : ℕ} (r : Left l₀ at (cover_from (marks_from l text) n 0) m p (cover_from (marks_from l text) n i)) where
    pub run_room : at + length (cover_from (marks_from l text) n 0) ≤ length l₀ → p + length (run_text i e (mark_of text t)) ≤ length m
    run_room h = omega (arith, r.ends, left-kept r, length-step)

    pub cover-more : {o : List ℕ} {q : ℕ} → Put m p (run_text i e (mark_of text t)) q o
        → Left l₀ at (cover_from (marks_from l text) n 0) o q (cover_from (marks_from l text) n e)
    cover-more w = left_step (run_text i e (mark_of text t)) (cover_from (marks_from l text) n e) r run_step w

pub cover-none : (f : ℕ → Mark) (n : ℕ) (l : List ℕ) (at : ℕ) → Left l at (cover_from f n 0) l at (cover_from f n 0)
cover-none f n l at = left-start l at (cover_from f n 0)

pub cover_all : (f : ℕ → Mark) (n i : ℕ) {l₀ m : List ℕ} {at p : ℕ} → n ≤ i → Left l₀ at (cover_from f n 0) m p (cover_from f n i) → Put l₀ at (cover_from f n 0) p m
cover_all f n i h r = left_end r (cover-end f n i h)

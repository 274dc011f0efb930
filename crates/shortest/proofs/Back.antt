-- The written block is accepted wherever a block of that day may stand, and the day that is read from it is the same. Assumes nothing.
use Prim.Native.Nat.{ℕ, zero, suc, ◌+◌, ◌-◌, ◌^◌, ◌≤◌, ◌<◌}
use mathlib.Core.Path.{◌≡◌, refl, sym, ap, ap₂, ◌∙◌, subst}
use mathlib.Core.Logic.{◌≢◌}
use mathlib.Core.Bool.{true, false, cond, ◌&&◌, ◌||◌, true≢false, false≢true}
use mathlib.Core.List.{List, [], ◌∷◌, ◌++◌, map, append-nil}
use native.Mathlib.Omega.{arith}
use lib.ListN.{length, get_or, replicate, get_or-replicate, length-map}
use lib.Dec.{eqb}
use borrow.Author.Tests.{ne_eqb}
use Rattle.ground.specs.Lists.{all}
use Rattle.ground.specs.Text.{bytes}
use Rattle.ground.specs.Digits.{padded}
use Rattle.ground.specs.Runs.{Run, run, spell}
use Rattle.ground.proofs.Tests.{and-true}
use Rattle.ground.proofs.Cases.{by}
use Rattle.format.specs.Numbers.{number_in}
use Rattle.format.specs.Units.{is_unit, decimals_of}
use Rattle.format.specs.Dates.{is_date, is_time}
use Rattle.format.specs.Quality.{stands_alone, takes_method, quality_of, Mark, no_mark}
use Rattle.format.specs.Records.{date_in, millionths, first_in, last_in, mark_at, mark_in}
use Rattle.format.specs.Order.{Due, is_varied}
use Rattle.format.specs.Day.{cover_of, each_of, values_of, Day, marks_of, day_of}
use Rattle.format.specs.Block.{fit_quality, fit_mark, fit_value, fit_day, value_text, quality_text, reason_text, load_text, comma, crlf, mark_text, values_text, runs_in, is_uniform, top_text, tail_text, block_of}
use Rattle.format.proofs.NumberText.{date-back, time-back, load-back}
use Rattle.format.proofs.ValueText.{value_same, value-back}
use Rattle.format.proofs.CoverText.{runs-spell, runs-are-proper, uniform-is, uniform}
use Rattle.format.proofs.Forms.{uniform-top, uniform-tail, varied-top, varied-tail}
use Rattle.passing.specs.Passes.{Accepted, Awaits}
use Rattle.theorems.specs.Days.{rows_at, rows_of, day_in}
use Rattle.theorems.specs.Grammar.{Record, join, text, IsRecord, Block, Covers, IsBlock}
use Rattle.shortest.specs.Blocks.{Reads}
use Rattle.shortest.specs.Writer.{ReadsBack}
use Rattle.shortest.proofs.Shapes.{TopSays, top-says}
use Rattle.shortest.proofs.Pass.{block_reads, block-accepted}
use Rattle.shortest.proofs.Texts.{Carried, fit_parts, mark-said, mark-carried, v-carried}
use Rattle.shortest.proofs.Written.{three, top_written, top-record, top-text, run_written, cover_written, cover-text, Fitting, fitting, written-first, written_last, written-mark, cover-records, cover-covers, cover-alike}

-- ---- a day that may be written

pub record Whole (d : Day) : Type 0 where
  pub fit : fit_day d ≡ true
  pub values : length d.values ≡ d.n
  pub marks : length d.marks ≡ d.n
  pub some : 1 ≤ d.n
  pub few : d.n < 10 ^ 4

pub record Parts (d : Day) : Type 0 where
  pub unit : is_unit d.unit ≡ true
  pub date : is_date d.date ≡ true
  pub update : is_time d.update ≡ true
  pub load : (eqb d.load 0 || is_time d.load) ≡ true
  pub values : all (fit_value (decimals_of d.unit)) d.values ≡ true
  pub marks : all fit_mark d.marks ≡ true

pub parts : (d : Day) → fit_day d ≡ true → Parts d
unfolding fit_day
parts d h =
    let u = is_unit d.unit in
    let t = is_date d.date in
    let l = eqb d.load 0 || is_time d.load in
    let v = all (fit_value (decimals_of d.unit)) d.values in
    let a = and-true (u && t && is_time d.update && l && v) (all fit_mark d.marks) h in
    let b = and-true (u && t && is_time d.update && l) v a.0 in
    let c = and-true (u && t && is_time d.update) l b.0 in
    let e = and-true (u && t) (is_time d.update) c.0 in
    let f = and-true u t e.0 in
    record { unit = f.0; date = f.1; update = e.1; load = c.1; values = b.1; marks = a.1 }

-- ---- what is read

cover-says : (p a : ℕ) (c : List (Run Mark)) → Fitting a c → cover_of (λ x. mark_at 400 3 x.cells) (rows_at p (cover_written a c)) ≡ spell c
unfolding cover_of spell
cover-says p a [] h = refl
cover-says p a (run k m ∷ c) h =
    let row : Record = run_written a (a + k) m in
    let s : 1 ≤ k = h.0 in
    let w : last_in row + 1 - first_in row ≡ k = omega (arith, written-first a k m h.0 h.1 h.2, written_last a k m h.0 h.1 h.2) in
    ap (λ (x : List Mark). replicate (last_in row + 1 - first_in row) (mark_in row) ++ x) (cover-says (p + length (join row) + 2) (a + k) c h.3)
    ∙ ap (λ (x : ℕ). replicate x (mark_in row) ++ spell c) w
    ∙ ap (λ (x : Mark). replicate k x ++ spell c) (written-mark a k m h.0 h.1 h.2)

values-back : (m : ℕ) (vs : List ℕ) → all (fit_value m) vs ≡ true → map millionths (map value_text vs) ≡ vs
unfolding millionths
values-back m [] h = refl
values-back m (v ∷ vs) h =
    let w = and-true (fit_value m v) (all (fit_value m) vs) h in
    rw (value_same m (value_text v) v (value-back m v w.0), values-back m vs w.1)

day-is : {t t' n m u u' l l' : ℕ} {vs vs' : List ℕ} {ms ms' : List Mark} → t ≡ t' → u ≡ u' → l ≡ l' → vs ≡ vs' → ms ≡ ms'
    → ◌≡◌ {A = Day} (record { date = t; n = n; unit = m; update = u; load = l; values = vs; marks = ms }) (record { date = t'; n = n; unit = m; update = u'; load = l'; values = vs'; marks = ms' })
day-is a b c d e = rw (a, b, c, d, e)

-- ---- the 300 of a written day, with any quality, reason and description

module _ (d : Day) (w : Whole d) (q s x : List ℕ) (c : Carried 300 q s x) where
  top : Record
  top = top_written d.date d.update d.load d.values q s x

  top-is : IsRecord 300 d.n (decimals_of d.unit) top
  unfolding top
  top-is =
      let p = parts d w.fit in
      top-record d.date d.update d.load d.values q s x d.n (decimals_of d.unit) w.values p.date p.update p.load p.values c

  says : TopSays d.n top (padded 8 d.date) (map value_text d.values) q s x (padded 14 d.update) (load_text d.load)
  unfolding top
  says = top-says three (padded 8 d.date) (map value_text d.values) q s x (padded 14 d.update) (load_text d.load) d.n (length-map d.values value_text ∙ w.values)

  date-by : date_in top ≡ d.date
  date-by = says.date ∙ ap number_in (date-back d.date (parts d w.fit).date)

  bytes-by : (rows : List Record) → q ++ comma ++ s ++ comma ++ x ≡ top_text d.marks → text rows ≡ tail_text d.marks → text (top ∷ rows) ≡ block_of d
  unfolding top block_of
  bytes-by rows e f =
      top-text d.date d.update d.load d.values q s x rows
      ∙ ap₂ (λ (y z : List ℕ). bytes "300," ++ padded 8 d.date ++ comma ++ values_text d.values ++ y ++ comma ++ padded 14 d.update ++ comma ++ load_text d.load ++ crlf ++ z) e f

  -- the day that it and its 400s say
  day-by : (runs : List Record)
      → ((p : ℕ) → cond (is_varied d.n top) (cover_of (λ x. mark_at 400 3 x.cells) (rows_at p runs)) (replicate d.n (mark_at 300 (d.n + 2) top)) ≡ d.marks)
      → day_in d.n d.unit (record { top = top; runs = runs; extra = [] }) ≡ d
  unfolding day_in day_of values_of marks_of each_of
  day-by runs e =
      day-is
      date-by
      (says.update ∙ ap number_in (time-back d.update (parts d w.fit).update))
      (says.load ∙ ap number_in (load-back d.load (parts d w.fit).load))
      (says.values ∙ values-back (decimals_of d.unit) d.values (parts d w.fit).values)
      (e (0 + length (join top) + 2))

-- ---- the two forms of the block

-- a block of the grammar that is the day, and whose bytes are written
pub record Written (d : Day) : Type 0 where
  pub block : Block
  pub good : IsBlock d.n (decimals_of d.unit) block
  pub bytes-are : text (rows_of block) ≡ block_of d
  pub day : day_in d.n d.unit block ≡ d

uniform-all : (n : ℕ) (m : Mark) → 1 ≤ n → is_uniform (replicate n m) ≡ true
uniform-all zero m h = absurd (let z : ⊥ = omega arith in z)
uniform-all (suc k) m h = uniform-is k m

first-fit : (ms : List Mark) → 1 ≤ length ms → all fit_mark ms ≡ true → fit_mark (get_or ms 0 no_mark) ≡ true
first-fit [] h a = absurd (let z : ⊥ = omega arith in z)
first-fit (m ∷ ms) h a = (and-true (fit_mark m) (all fit_mark ms) a).0

-- V is no quality of a fit mark
no-v : (m : Mark) → fit_mark m ≡ true → m.flag ≢ 86
unfolding fit_quality stands_alone takes_method
no-v m h e = false≢true (rw e at (fit_parts m h).quality)

module _ (d : Day) (w : Whole d) where
  alike-rows : is_uniform d.marks ≡ true → Written d
  unfolding text mark_text
  alike-rows u =
      let m : Mark = get_or d.marks 0 no_mark in
      let v = uniform d.marks u in
      let f : fit_mark m ≡ true = first-fit d.marks (omega (arith, w.marks, w.some)) (parts d w.fit).marks in
      let g : d.marks ≡ replicate d.n v.mark = v.alike ∙ ap (λ (n : ℕ). replicate n v.mark) w.marks in
      let k : m ≡ v.mark = ap (λ (l : List Mark). get_or l 0 no_mark) g ∙ get_or-replicate d.n 0 v.mark no_mark w.some in
      let q : List ℕ = quality_text m.flag m.method in
      let s : List ℕ = reason_text m.reason in
      let x : List ℕ = m.text in
      let c : Carried 300 q s x = mark-carried 300 m refl f in
      let no : is_varied d.n (top d w q s x c) ≡ false =
      (says d w q s x c).varied ∙ ap (λ (y : Mark). eqb y.flag 86) (mark-said 300 m refl f) ∙ ne_eqb m.flag 86 (no-v m f) in
      record {
        block = record { top = top d w q s x c; runs = []; extra = [] };
        good = record {
          top = top-is d w q s x c;
          runs = tt;
          extra = tt;
          only-v = λ e. refl;
          covers = λ e. absurd (true≢false (sym e ∙ no));
          unlike = λ e. absurd (true≢false (sym e ∙ no));
        };
        bytes-are = bytes-by d w q s x c [] (sym (uniform-top d.marks u)) (sym (uniform-tail d.marks u));
        day = day-by d w q s x c [] (λ p. rw (no, (says d w q s x c).mark, mark-said 300 m refl f) (ap (replicate d.n) k ∙ sym g));
      }

  -- its longest runs are a cover that can be written
  pub runs-fitting : Fitting 0 (runs_in d.marks)
  runs-fitting =
      let c : List (Run Mark) = runs_in d.marks in
      let s : spell c ≡ d.marks = runs-spell d.marks in
      let l : length (spell c) ≡ d.n = ap length s ∙ w.marks in
      fitting 0 c (runs-are-proper d.marks) (subst (λ (ms : List Mark). all fit_mark ms ≡ true) (sym s) (parts d w.fit).marks) (omega (arith, w.few))

  varied-rows : is_uniform d.marks ≡ false → Written d
  unfolding quality_of stands_alone
  varied-rows u =
      let c : List (Run Mark) = runs_in d.marks in
      let s : spell c ≡ d.marks = runs-spell d.marks in
      let l : length (spell c) ≡ d.n = ap length s ∙ w.marks in
      let f : Fitting 0 c = runs-fitting in
      let v : Carried 300 (86 ∷ []) [] [] = v-carried in
      let t : Record = top d w (86 ∷ []) [] [] v in
      let yes-v : is_varied d.n t ≡ true = (says d w (86 ∷ []) [] [] v).varied in
      record {
        block = record { top = t; runs = cover_written 0 c; extra = [] };
        good = record {
          top = top-is d w (86 ∷ []) [] [] v;
          runs = cover-records 0 c f;
          extra = tt;
          only-v = λ e. absurd (true≢false (sym yes-v ∙ e));
          covers = λ e. subst (λ (n : ℕ). Covers n 1 (cover_written 0 c)) (omega arith) (cover-covers 0 c f);
          unlike = λ e a. absurd (true≢false (sym (ap is_uniform (sym s ∙ cover-alike 0 c a.0 f a.1) ∙ uniform-all (length (spell c)) a.0 (omega (arith, w.some))) ∙ u));
        };
        bytes-are =
            ap (λ (rs : List Record). text (t ∷ rs)) (append-nil (cover_written 0 c))
            ∙ bytes-by d w (86 ∷ []) [] [] v (cover_written 0 c) (sym (varied-top d.marks u)) (cover-text 0 c ∙ sym (varied-tail d.marks u));
        day = day-by d w (86 ∷ []) [] [] v (cover_written 0 c) (λ p. rw yes-v (cover-says p 0 c f ∙ s));
      }

  pub written : Written d
  written = by (is_uniform d.marks) alike-rows varied-rows

  -- ---- the theorem

  pub back : (st : Due) → Awaits st d.n (decimals_of d.unit) d.date → ReadsBack d st
  unfolding day_in day_of
  back st a =
      let r = written in
      let e : (u : ℕ) → u ≡ d.unit → day_in st.n u r.block ≡ d = λ u i. ap₂ (λ (n v : ℕ). day_in n v r.block) a.intervals i ∙ r.day in
      let g : IsBlock st.n st.decimals r.block = rw (a.intervals, a.decimals) r.good in
      let t : date_in r.block.top ≡ d.date = ap (λ (x : Day). x.date) r.day in
      record {
        accepted = subst (Accepted st) r.bytes-are (block-accepted r.block st g a.free (rw t a.earlier));
        same = λ p c n u. subst (λ (x : List ℕ). Reads p c x d) r.bytes-are (subst (Reads p c (text (rows_of r.block))) (e _ u) (block_reads r.block st.n st.decimals g p c n));
      }

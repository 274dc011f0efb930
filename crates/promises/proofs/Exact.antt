-- What a reading of an accepted file answers and leaves is what the grammar has it answer and leave: each day, each total, and nothing else. Assumes nothing.
use Prim.Native.Nat.{ℕ, zero, suc, ◌+◌, ◌-◌, ◌^◌, ◌≤◌, ◌<◌}
use mathlib.Core.Path.{◌≡◌, refl, sym, ap, ◌∙◌, subst}
use mathlib.Core.Logic.{◌⊎◌, inl, inr}
use mathlib.Core.Bool.{true, false, cond, true≢false}
use mathlib.Core.List.{List, [], ◌∷◌, map}
use native.Mathlib.Omega.{arith}
use lib.ListN.{length, drop, replicate, length-take, length-drop, drop_of_length-le}
use lib.Dec.{eqb}
use Rattle.ground.proofs.Cases.{split, same_or, by}
use Rattle.format.specs.Quality.{Mark}
use Rattle.format.specs.Cut.{Lines, line, rest, lines, fields}
use Rattle.format.specs.Records.{kind_in, unit_in, intervals_in, first_in, last_in}
use Rattle.format.specs.Order.{is_varied}
use Rattle.format.specs.Answers.{Answer, accepted, refused, refusal}
use Rattle.format.specs.File.{check_of}
use Rattle.format.specs.Day.{Row, row_at, BlockRows, DayRows, day_from, days_from, no_channel, days_of, cover_of, each_of, tag_at, tags_of, marks_of, day_of, Five, outcome, room_for, read_into, read_first, after_check, read_of}
use Rattle.format.specs.Total.{totals_from, total_first, total_after, total_of}
use Rattle.format.specs.declared.Tag.{Tag}
use Rattle.format.proofs.Cut.{bytes_of, bytes-lines}
use Rattle.passing.proofs.Steps.{days-more, days-skip}
use Rattle.passing.proofs.Rows.{tags-lengths}
use Rattle.theorems.specs.Grammar.{Each, InFormat}
use Rattle.theorems.specs.Days.{meant, totals}
use Rattle.theorems.proofs.Lists.{each_append, each-drop}
use Rattle.theorems.proofs.Format.{format}
use Rattle.theorems.proofs.Days.{channel-totals}
use Rattle.theorems.proofs.Bounds.{totals-fit}
use Rattle.theorems.proofs.Meaning.{meaning, total-count}
use Rattle.theorems.proofs.OneDay.{one-day, no-day}
use Rattle.shortest.specs.Blocks.{mark_of}
use Rattle.shortest.proofs.Tags.{next-at, tags-marks}
use Rattle.promises.specs.Exact.{Points, ReadExactly, TotalExactly}

-- ---- what is said of each interval

module _ {X : Type 0} (P : X → Type 0) where
  each-replicate : (k : ℕ) (x : X) → P x → Each P (replicate k x)
  each-replicate zero x h = tt
  each-replicate (suc k) x h = (h, each-replicate k x h)

  each-cover : (f : Row → X) → ((r : Row) → P (f r)) → (rs : List Row) → Each P (cover_of f rs)
  unfolding cover_of
  each-cover f h [] = tt
  each-cover f h (r ∷ rs) =
      let k : ℕ = last_in r.cells + 1 - first_in r.cells in
      each_append P (replicate k (f r)) (cover_of f rs) (each-replicate k (f r) (h r)) (each-cover f h rs)

  each-each : (f : ℕ → Row → ℕ → X) → ((k : ℕ) (r : Row) (i : ℕ) → P (f k r i)) → (d : BlockRows) → Each P (each_of f d)
  unfolding each_of
  each-each f h d =
      by (is_varied d.n d.top.cells)
      (λ t. rw t (each-cover (λ x. f 400 x 3) (λ r. h 400 r 3) d.runs))
      (λ t. rw t (each-replicate d.n (f 300 d.top (d.n + 2)) (h 300 d.top (d.n + 2))))

-- a start is 0 where its length is
abbrev Started : Tag → Type 0
Started t = t.length ≡ 0 → t.start ≡ 0

started : (k : ℕ) (r : Row) (i : ℕ) → Started (tag_at k r i)
unfolding tag_at
started k r i e = rw e

tags-started : (d : BlockRows) → Each Started (tags_of d)
unfolding tags_of
tags-started d = each-each Started tag_at started d

-- ---- a day

module _ (file : List ℕ) where
  inside : (t : Tag) → length (mark_of file t).text ≡ t.length → Started t → Points file t
  inside t e h = (
    same_or t.length 0
        (λ z. let s : t.start ≡ 0 = h z in omega arith)
        (λ z. omega (arith, length-take t.length (drop t.start file), length-drop t.start file)),
    h,
  )

  pointing : (ts : List Tag) (ms : List Mark) → map (mark_of file) ts ≡ ms → map (λ (t : Tag). t.length) ts ≡ map (λ (m : Mark). length m.text) ms → Each Started ts
      → Each (Points file) ts
  pointing [] ms e l h = tt
  pointing (t ∷ ts) [] e l h = absurd (let z : true ≡ false = cc in true≢false z)
  pointing (t ∷ ts) (m ∷ ms) e l h =
      let a : mark_of file t ≡ m = cc in
      let b : t.length ≡ length m.text = cc in
      let c : map (mark_of file) ts ≡ ms = cc in
      let d : map (λ (t : Tag). t.length) ts ≡ map (λ (m : Mark). length m.text) ms = cc in
      (inside t (ap (λ (x : Mark). length x.text) a ∙ sym b) h.0, pointing ts ms c d h.1)

  abbrev Marks : DayRows → Type 0
  Marks x = map (mark_of file) (tags_of x.block) ≡ marks_of x.block

  -- the marks of day k, counted from the place p on
  day-marks : (ls : Lines) (k p : ℕ) (c : Row) (x : DayRows) (xs : List DayRows) → drop p file ≡ bytes_of ls → drop k (days_from p c ls) ≡ x ∷ xs → Marks x
  unfolding days_from
  day-marks (rest t) zero p c x xs h e = absurd (let z : true ≡ false = cc in true≢false z)
  day-marks (rest t) (suc k) p c x xs h e = absurd (let z : true ≡ false = cc in true≢false z)
  day-marks (line r ls) k p c x xs h e =
      let q : ℕ = p + length r + 2 in
      let n = next-at file p r ls h in
      same_or (kind_in (fields r)) 300
      (λ t. here k (ap (drop k) (sym (days-more p r ls c t)) ∙ e) (λ j. day-marks ls j q c x xs n))
      (λ t. day-marks ls k q (cond (eqb (kind_in (fields r)) 200) (row_at p r) c) x xs n (ap (drop k) (sym (days-skip p r ls c t)) ∙ e))
    where
      here : (k : ℕ) → drop k (day_from p c r ls ∷ days_from (p + length r + 2) c ls) ≡ x ∷ xs → ((j : ℕ) → drop j (days_from (p + length r + 2) c ls) ≡ x ∷ xs → Marks x) → Marks x
      here zero e later = let y : day_from p c r ls ≡ x = cc in subst (λ (w : DayRows). Marks w) y (tags-marks file p (intervals_in c.cells) (unit_in c.cells) r ls h)
      here (suc k) e later = later k e

  module _ (xs : List ℕ) (a : check_of file ≡ accepted xs) (k : ℕ) (vs : List ℕ) (ms : Five) where
    reads-day : (d : DayRows) (ds : List DayRows) → drop k (days_of file) ≡ d ∷ ds → room_for d.block.n vs ms ≡ true → read_of file k vs ms ≡ read_into d.block vs ms
    unfolding read_of
    reads-day d ds e r = rw (a, e, r)

    too_short : (d : DayRows) (ds : List DayRows) → drop k (days_of file) ≡ d ∷ ds → room_for d.block.n vs ms ≡ false → read_of file k vs ms ≡ outcome (refusal 15) vs ms
    unfolding read_of
    too_short d ds e r = rw (a, e, r)

    reads_none : drop k (days_of file) ≡ [] → read_of file k vs ms ≡ outcome (refusal 14) vs ms
    unfolding read_of
    reads_none e = rw (a, e)

-- ---- by the grammar

module _ (file : List ℕ) (v c d : ℕ) (h : InFormat file v c d) where
  passed : check_of file ≡ accepted (v ∷ c ∷ d ∷ [])
  passed = (format file v c d).1 h

  -- day k is read as the grammar has it
  pub day-exact : (k : ℕ) → k < d → (vs : List ℕ) (ms : Five) → ReadExactly file k h.content vs ms (read_of file k vs ms)
  unfolding read_into day_of days_of
  day-exact k l vs ms =
      let w = one-day file v c d passed k l in
      let t = day-marks file (lines file) k 0 no_channel w.rows w.more (sym (bytes-lines file)) w.found in
      record {
        day = meant w.rows;
        more = w.means.more;
        is = ap (drop k) (sym (meaning file v c d h) ∙ meaning file w.means.v w.means.c w.means.d w.means.how) ∙ w.means.is;
        tags = tags_of w.rows.block;
        marks = t;
        points = pointing file (tags_of w.rows.block) (marks_of w.rows.block) t (tags-lengths w.rows.block) (tags-started w.rows.block);
        reads = λ r. reads-day file (v ∷ c ∷ d ∷ []) passed k vs ms w.rows w.more w.found r;
        short = λ r. too_short file (v ∷ c ∷ d ∷ []) passed k vs ms w.rows w.more w.found r;
      }

  -- and behind the last day there is none
  pub day-none : (k : ℕ) → d ≤ k → (vs : List ℕ) (ms : Five) → read_of file k vs ms ≡ outcome (refusal 14) vs ms
  day-none k l vs ms = reads_none file (v ∷ c ∷ d ∷ []) passed k vs ms (no-day file v c d passed k l)

  pub day-none-only : (k : ℕ) (vs : List ℕ) (ms : Five) → (read_of file k vs ms).answer ≡ refusal 14 → d ≤ k
  day-none-only k vs ms e =
      split d k (λ l. l) (λ l.
      let w = day-exact k l vs ms in
      by (room_for w.day.n vs ms)
      (λ r. absurd (let g = w.reads r in let z : true ≡ false = cc in true≢false z))
      (λ r. absurd (let g = w.short r in let z : true ≡ false = cc in true≢false z)))

  -- ---- a total

  total-is : (channel : ℕ) → total_of file channel ≡ total_first (drop channel (totals h.content))
  unfolding total_of
  total-is channel = rw (passed, channel-totals file v c d h)

  pub channel-exact : (channel : ℕ) → channel < c → TotalExactly channel h.content (total_of file channel)
  channel-exact channel l = go (drop channel (totals h.content)) refl
    where
      some : drop channel (totals h.content) ≡ [] → ⊥
      some e =
          let n : length (totals h.content) ≡ c = ap length (sym (channel-totals file v c d h)) ∙ total-count file v c d h in
          let m : length (drop channel (totals h.content)) ≡ 0 = ap length e in
          omega (arith, length-drop channel (totals h.content))

      go : (ts : List ℕ) → drop channel (totals h.content) ≡ ts → TotalExactly channel h.content (total_of file channel)
      go [] e = absurd (some e)
      go (t ∷ ts) e =
          let z : total_of file channel ≡ total_first (t ∷ ts) = total-is channel ∙ ap total_first e in
          let b : Each (λ u. u < 2 ^ 64) (t ∷ ts) = rw e at (each-drop (λ u. u < 2 ^ 64) channel (totals h.content) (totals-fit file v c d h)) in
          record { total = t; more = ts; is = e; answered = z; below = b.0 }

  pub channel-none : (channel : ℕ) → c ≤ channel → total_of file channel ≡ refusal 14
  channel-none channel l =
      let n : length (totals h.content) ≤ channel = omega (arith, ap length (sym (channel-totals file v c d h)) ∙ total-count file v c d h) in
      total-is channel ∙ ap total_first (drop_of_length-le (totals h.content) n)

  pub channel-none-only : (channel : ℕ) → total_of file channel ≡ refusal 14 → c ≤ channel
  channel-none-only channel e =
      split c channel (λ l. l) (λ l. absurd (let w = channel-exact channel l in let z : true ≡ false = cc in true≢false z))

-- whatever the file is, a total is refused by the file's own refusal, or since there is no such channel
pub total-refusal : (file : List ℕ) (channel n q k i : ℕ) → total_of file channel ≡ refused n q k i → (check_of file ≡ refused n q k i) ⊎ (refused n q k i ≡ refusal 14)
unfolding total_of
total-refusal file channel n q k i e = go (check_of file) (drop channel (totals_from (lines file))) e
  where
    go : (a : Answer) (ts : List ℕ) → total_after a (total_first ts) ≡ refused n q k i → (a ≡ refused n q k i) ⊎ (refused n q k i ≡ refusal 14)
    go (refused x p j f) ts r = inl r
    go (accepted xs) [] r = inr (sym r)
    go (accepted xs) (t ∷ ts) r = absurd (let z : true ≡ false = cc in true≢false z)

-- ---- a refusal leaves all as it was

kept : (vs : List ℕ) (ms : Five) (n q r i : ℕ) (a : Answer) (ds : List DayRows) → (after_check a (read_first ds vs ms) vs ms).answer ≡ refused n q r i
    → after_check a (read_first ds vs ms) vs ms ≡ outcome (refused n q r i) vs ms
unfolding read_into
kept vs ms n q r i (refused x p k j) ds e = ap (λ (y : Answer). outcome y vs ms) e
kept vs ms n q r i (accepted xs) [] e = ap (λ (y : Answer). outcome y vs ms) e
kept vs ms n q r i (accepted xs) (d ∷ ds) e =
    by (room_for d.block.n vs ms)
    (λ t. absurd (let w : (read_into d.block vs ms).answer ≡ refused n q r i = (rw t at e) in let z : true ≡ false = cc in true≢false z))
    (λ t. let w : refusal 15 ≡ refused n q r i = (rw t at e) in rw t (ap (λ (y : Answer). outcome y vs ms) w))

pub read_keeps : (file : List ℕ) (k : ℕ) (vs : List ℕ) (ms : Five) (n q r i : ℕ) → (read_of file k vs ms).answer ≡ refused n q r i
    → read_of file k vs ms ≡ outcome (refused n q r i) vs ms
unfolding read_of
read_keeps file k vs ms n q r i e = kept vs ms n q r i (check_of file) (drop k (days_of file)) e

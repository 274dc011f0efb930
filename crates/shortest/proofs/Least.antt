-- No accepted block that says the same day has fewer records, or fewer bytes, than the block that is written. Each field that is read so is no shorter
-- than the text that is written for it, and the 400s are a cover of the day's marks. Assumes nothing.
use Rattle.std.proofs.Common.{Some}
use Prim.Native.Nat.{ℕ, zero, suc, ◌+◌, ◌-◌, ◌≤◌, zero-le}
use mathlib.Core.Path.{◌≡◌, refl, sym, ap, ◌∙◌, subst}
use mathlib.Core.Logic.{◌≢◌}
use mathlib.Core.Bool.{true}
use mathlib.Core.List.{List, [], ◌∷◌, ◌++◌, map}
use native.Mathlib.Omega.{arith}
use lib.ListN.{length, get_or, replicate, length-append}
use lib.Dec.{eqb, leb}
use borrow.Author.Tests.{eqb-true, eqb-false, leb-true, le-leb}
use Rattle.ground.specs.Text.{bytes}
use Rattle.ground.specs.Digits.{dec}
use Rattle.ground.specs.Runs.{Run, run, spell, proper}
use Rattle.ground.proofs.Tests.{and-true}
use Rattle.ground.proofs.Cases.{by, both}
use Rattle.ground.proofs.Digits.{length-padded}
use Rattle.format.specs.Numbers.{is_number, number_in, interval_of, reason_of, value_of}
use Rattle.format.specs.Dates.{date_of, time_of, load_of}
use Rattle.format.specs.Quality.{quality_of, flag_in, method_in, Mark, no_mark}
use Rattle.format.specs.Cut.{Lines, line, rest, fields}
use Rattle.format.specs.Records.{kind_in, unit_in, millionths, values_in, load_in, first_in, last_in, mark_at, mark_in}
use Rattle.format.specs.Order.{Due, is_varied}
use Rattle.format.specs.File.{after}
use Rattle.format.specs.Day.{BlockRows, runs_from, cover_of, each_of, values_of, Day, marks_of, day_of}
use Rattle.format.specs.Block.{quality_text, load_text, value_text, values_text, mark_text, run_text, cover_text, runs_in, is_uniform, top_text, tail_text, block_of, records_of}
use Rattle.format.proofs.NumberText.{small-shortest, reason-shortest, date-length, time-length, load-shortest}
use Rattle.format.proofs.ValueText.{value_same, value-shortest}
use Rattle.format.proofs.MarkText.{quality-shortest, length-mark}
use Rattle.format.proofs.CoverText.{length_run, runs-fewest, cover-shortest, runs-spell, runs-are-proper, uniform-is}
use Rattle.format.proofs.Cut.{bytes_of, bytes-lines}
use Rattle.format.proofs.Forms.{uniform-top, uniform-tail, varied-top, varied-tail}
use Rattle.passing.specs.Passes.{Passes, kinds_of}
use Rattle.passing.proofs.Fit.{Fit, fine-fit, fit-cover}
use Rattle.passing.proofs.Blocks.{headed}
use Rattle.passing.proofs.Steps.{after-300, after-400, runs-more, runs-end, block_found}
use Rattle.theorems.specs.Grammar.{Each, Record}
use Rattle.theorems.proofs.Sizes.{size, size-append, length-record}
use Rattle.theorems.proofs.Told.{fit-rec, fit-300}
use Rattle.shortest.specs.Blocks.{Says}
use Rattle.shortest.specs.Writer.{NoLonger}
use Rattle.shortest.proofs.Shapes.{number_is, value-is, graded-is, said, Marking, Top, top_of, Stretch, stretch-of}
use Rattle.shortest.proofs.Steps.{read-day}

-- ---- how long the written block is

pub length-block : (d : Day) → length (block_of d) ≡ 31 + length (values_text d.values) + length (top_text d.marks) + length (load_text d.load) + length (tail_text d.marks)
unfolding block_of
length-block d = simp length-append (omega (arith, length-padded 8 d.date, length-padded 14 d.update))

-- ---- fields are no shorter than what is written

mark-least : (k : ℕ) (q s x : List ℕ) → Marking k q s x → length (mark_text (said k q s x)) ≤ length q + length s + length x + 2
mark-least k q s x m =
    omega (
      arith,
      length-mark (said k q s x),
      quality-shortest k q (flag_in (quality_of k q)) (method_in (quality_of k q)) (graded-is (quality_of k q) m.graded),
      reason-shortest s (number_in (reason_of s)) (number_is (reason_of s) m.reasoned),
    )

values-least : (d : ℕ) (vs : List (List ℕ)) → Each (λ v. is_number (value_of d v) ≡ true) vs → length (values_text (map millionths vs)) ≤ size vs
unfolding values_text size
values-least d [] h = zero-le
values-least d (v ∷ vs) h =
    let t : List ℕ = value_text (millionths v) in
    let r : List ℕ = values_text (map millionths vs) in
    omega (
      arith,
      length-append (t ++ 44 ∷ []) r,
      length-append t (44 ∷ []),
      value-shortest v (millionths v) (value_same d v (millionths v) (value-is d v h.0)),
      values-least d vs h.1,
    )

interval-least : (s : List ℕ) (i : ℕ) → is_number (interval_of s) ≡ true → number_in (interval_of s) ≡ i → length (dec i) ≤ length s
unfolding interval_of
interval-least s i h e = small-shortest 4 s i (number_is (interval_of s) h ∙ ap Some e)

-- ---- the 400s of a V day

-- the 400s at the head of these records, behind the first a intervals, are a cover that says the same marks
record Covered (a p : ℕ) (ls : Lines) : Type 0 where
  cover : List (Run Mark)
  no-empty : proper cover ≡ true
  says : spell cover ≡ cover_of (λ x. mark_at 400 3 x.cells) (runs_from p ls)
  bytes : length (cover_text a cover) ≤ length (bytes_of ls)
  records : length cover ≤ length (kinds_of ls)

none : (a p : ℕ) (ls : Lines) → runs_from p ls ≡ [] → Covered a p ls
unfolding spell proper cover_text cover_of
none a p ls e = record { cover = []; no-empty = refl; says = rw e; bytes = zero-le; records = zero-le }

stretch-least : (a k : ℕ) (fs : Record) (s : Stretch fs) → first_in fs ≡ a + 1 → last_in fs ≡ a + k → length (run_text a (a + k) (mark_in fs)) ≤ size fs + 1
unfolding size
stretch-least a k fs s f l =
    omega (
      arith,
      ap (λ (x : Mark). length (run_text a (a + k) x)) s.says.mark,
      length_run a (a + k) (said 400 s.quality s.reason s.text),
      interval-least s.start (a + 1) s.started (sym s.says.first ∙ f),
      interval-least s.end (a + k) s.ended (sym s.says.last ∙ l),
      mark-least 400 s.quality s.reason s.text s.marking,
      ap size s.is,
      s.long,
    )

module _ (a p : ℕ) (st : Due) (r : List ℕ) (ls : Lines) where
  one_more : st.next ≡ a + 1 → Fit st r → kind_in (fields r) ≡ 400 → ((b : ℕ) → (after st r).next ≡ b + 1 → Covered b (p + length r + 2) ls) → Covered a p (line r ls)
  unfolding spell proper cover_text cover_of
  one_more e f q ih =
      let fs : Record = fields r in
      let c = fit-cover st r f q in
      let k : ℕ = last_in fs + 1 - first_in fs in
      let l : last_in fs ≡ a + k = omega (arith, c.0, c.1) in
      let w = ih (a + k) (ap (λ (x : Due). x.next) (after-400 st r q) ∙ ap (λ (i : ℕ). i + 1) l) in
      let m : Mark = mark_in fs in
      record {
        cover = run k m ∷ w.cover;
        no-empty = both (leb 1 k) (proper w.cover) (le-leb 1 k (omega (arith, c.0, c.1))) w.no-empty;
        says = ap (λ (x : List Mark). replicate k m ++ x) w.says ∙ ap (cover_of (λ x. mark_at 400 3 x.cells)) (sym (runs-more p r ls q));
        bytes =
            omega (
              arith,
              length-append (run_text a (a + k) m) (cover_text (a + k) w.cover),
              length-append r (13 ∷ 10 ∷ bytes_of ls),
              w.bytes,
              length-record r,
              stretch-least a k fs (stretch-of fs (fit-rec st r 400 f q (λ z. omega arith) (λ z. omega arith))) (c.0 ∙ e) l,
            );
        records = omega (arith, w.records);
      }

covered : (a p : ℕ) (st end : Due) (ls : Lines) → st.next ≡ a + 1 → Passes st ls end → Covered a p ls
unfolding runs_from
covered a p st end (rest t) e h = none a p (rest t) refl
covered a p st end (line r ls) e h =
    by (eqb (kind_in (fields r)) 400)
    (λ t. one_more a p st r ls e (fine-fit st r h.0) (eqb-true _ _ t) (λ b g. covered b (p + length r + 2) (after st r) end ls g h.1))
    (λ t. none a p (line r ls) (runs-end p r ls (eqb-false _ _ t)))

-- ---- the marks, in the 300 and in the 400s

-- one run has a 400 that is longer than its mark
one-run : (c : List (Run Mark)) (ms : List Mark) → spell c ≡ ms → proper c ≡ true → length c ≡ 1 → length (mark_text (get_or ms 0 no_mark)) ≤ length (cover_text 0 c)
unfolding spell proper cover_text
one-run [] ms s p l = absurd (let z : ⊥ = omega arith in z)
one-run (run zero m ∷ c) ms s p l = absurd (let z : ⊥ = omega (arith, leb-true 1 0 (and-true (leb 1 0) (proper c) p).0) in z)
one-run (run (suc k) m ∷ []) ms s p l =
    let e : get_or ms 0 no_mark ≡ m = ap (λ (x : List Mark). get_or x 0 no_mark) (sym s) in
    omega (arith, ap (λ (x : Mark). length (mark_text x)) e, length-append (run_text 0 (0 + suc k) m) [], length_run 0 (0 + suc k) m)
one-run (run (suc k) m ∷ x ∷ c) ms s p l = absurd (let z : ⊥ = omega arith in z)

-- a V and the longest runs are no shorter than what is written, whatever the marks
pub runs-least : (ms : List Mark) → length (top_text ms) + length (tail_text ms) ≤ 3 + length (cover_text 0 (runs_in ms))
unfolding is_uniform
runs-least ms =
    by (is_uniform ms)
    (λ t.
    omega (
      arith,
      ap length (uniform-top ms t),
      ap length (uniform-tail ms t),
      one-run (runs_in ms) ms (runs-spell ms) (runs-are-proper ms) (eqb-true _ _ t),
    ))
    (λ t. omega (arith, ap length (varied-top ms t), ap length (varied-tail ms t)))

records-most : (d : Day) → records_of d ≤ 1 + length (runs_in d.marks)
unfolding records_of
records-most d = by (is_uniform d.marks) (λ t. rw t (omega arith)) (λ t. rw t (omega arith))

-- the marks ms cost no more than the three fields of the 300 and the records behind it
record Marked (ms : List Mark) (q s x : List ℕ) (ls : Lines) : Type 0 where
  bytes : length (top_text ms) + length (tail_text ms) ≤ length q + length s + length x + 2 + length (bytes_of ls)
  records : (d : Day) → d.marks ≡ ms → records_of d ≤ 1 + length (kinds_of ls)

marked-alike : (n : ℕ) (q s x : List ℕ) (ls : Lines) → 1 ≤ n → Marking 300 q s x → Marked (replicate n (said 300 q s x)) q s x ls
unfolding records_of
marked-alike zero q s x ls h m = absurd (let z : ⊥ = omega arith in z)
marked-alike (suc k) q s x ls h m =
    let ms : List Mark = replicate (suc k) (said 300 q s x) in
    let u : is_uniform ms ≡ true = uniform-is k (said 300 q s x) in
    record {
      bytes = omega (arith, ap length (uniform-top ms u), ap length (uniform-tail ms u), mark-least 300 q s x m);
      records = λ d e. rw (e, u) (omega arith);
    }

quality-some : (k : ℕ) (q s x : List ℕ) → Marking k q s x → 1 ≤ length q
unfolding quality_text
quality-some k q s x m =
    omega (arith, quality-shortest k q (flag_in (quality_of k q)) (method_in (quality_of k q)) (graded-is (quality_of k q) m.graded))

marked-varied : (p : ℕ) (q s x : List ℕ) (ls : Lines) → Marking 300 q s x → Covered 0 p ls → Marked (cover_of (λ x. mark_at 400 3 x.cells) (runs_from p ls)) q s x ls
marked-varied p q s x ls m c =
    let ms : List Mark = cover_of (λ x. mark_at 400 3 x.cells) (runs_from p ls) in
    record {
      bytes = omega (arith, runs-least ms, cover-shortest 0 c.cover ms c.no-empty c.says, c.bytes, quality-some 300 q s x m);
      records = λ d e. omega (arith, records-most d, ap (λ (l : List Mark). length (runs_in l)) e, runs-fewest c.cover ms c.no-empty c.says, c.records);
    }

-- ---- the 300

top_least : (n d : ℕ) (fs : Record) (t : Top n d fs)
    → 32 + length (values_text (values_in n fs)) + length t.quality + length t.reason + length t.text + length (load_text (load_in n fs)) ≤ size fs
unfolding size
top_least n d fs t =
    let tail : Record = t.quality ∷ t.reason ∷ t.text ∷ t.update ∷ t.load ∷ [] in
    omega (
      arith,
      ap size t.is,
      size-append t.values tail,
      t.long,
      date-length t.date (number_in (date_of t.date)) (number_is (date_of t.date) t.dated),
      time-length t.update (number_in (time_of t.update)) (number_is (time_of t.update) t.updated),
      ap (λ (x : List ℕ). length (values_text x)) t.says.values,
      values-least d t.values t.valued,
      ap (λ (x : ℕ). length (load_text x)) t.says.load,
      load-shortest t.load (number_in (load_of t.load)) (number_is (load_of t.load) t.loaded),
    )

-- ---- the block

module _ (st end : Due) (p u : ℕ) (r : List ℕ) (ls : Lines) (k : kind_in (fields r) ≡ 300) (f : Fit st r) (h : Passes (after st r) ls end) (some : 1 ≤ st.n) where
  abbrev day : BlockRows
  day = block_found p r ls st.n u

  marks-least : (t : Top st.n st.decimals (fields r)) → Marked (marks_of day) t.quality t.reason t.text ls
  unfolding marks_of each_of
  marks-least t =
      by (is_varied st.n (fields r))
      (λ e. rw e (marked-varied (p + length r + 2) t.quality t.reason t.text ls t.marking
      (covered 0 (p + length r + 2) (after st r) end ls (ap (λ (x : Due). x.next) (after-300 st r k) ∙ omega arith) h)))
      (λ e. rw e (subst (λ (x : Mark). Marked (replicate st.n x) t.quality t.reason t.text ls) (sym t.says.mark) (marked-alike st.n t.quality t.reason t.text ls some t.marking)))

  least : (records_of (day_of day) ≤ length (kinds_of (line r ls))) × (length (block_of (day_of day)) ≤ length (bytes_of (line r ls)))
  unfolding day_of values_of
  least =
      let t = top_of st.n st.decimals (fields r) (fit-300 st r f k).0 in
      let m = marks-least t in (
        omega (arith, m.records (day_of day) refl),
        omega (arith, length-block (day_of day), m.bytes, top_least st.n st.decimals (fields r) t, length-record r, length-append r (13 ∷ 10 ∷ bytes_of ls)),
      )

pub no_longer : (d : Day) → d.n ≢ 0 → (b : List ℕ) → Says b d → NoLonger d b
unfolding day_of
no_longer d z b h =
    let st : Due = h.st in
    let w = headed st b h.accepted in
    let q : day_of (block_found h.place w.first w.others st.n (unit_in h.channel.cells)) ≡ d =
    read-day h.st b h.accepted h.place h.channel d h.under.intervals h.reads in
    let n : st.n ≡ d.n = ap (λ (x : Day). x.n) q in
    let l = least st h.accepted.end h.place (unit_in h.channel.cells) w.first w.others w.kind w.fit w.passes (omega arith) in
    record {
      records = omega (arith, l.0, ap records_of q, ap (λ (x : Lines). length (kinds_of x)) w.is);
      bytes = omega (arith, l.1, ap (λ (x : Day). length (block_of x)) q, ap (λ (x : Lines). length (bytes_of x)) w.is, ap length (bytes-lines b));
    }

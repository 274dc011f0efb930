-- A day block by its pieces: the two forms that it takes, how long each is, and the room that each piece has. Assumes nothing.
use Rattle.std.proofs.Common.{Option, None}
use Prim.Native.Nat.{ℕ, zero, suc, ◌+◌, ◌-◌, ◌≤◌, ◌<◌}
use mathlib.Core.Path.{◌≡◌, refl, sym, ap, ◌∙◌}
use mathlib.Core.Bool.{Bool, true, false, not, ◌&&◌}
use mathlib.Core.List.{List, [], ◌∷◌, ◌++◌, append_assoc, append-nil}
use native.Mathlib.Nat.{sub-zero}
use native.Mathlib.Omega.{arith}
use lib.ListN.{length, get_or, length-append}
use borrow.Author.Tests.{eq-eqb, ne_eqb, not-true, not-false}
use Rattle.ground.specs.Lists.{all, from}
use Rattle.ground.specs.Text.{bytes}
use Rattle.ground.specs.Digits.{padded}
use Rattle.ground.specs.Runs.{Run, spell}
use Rattle.ground.specs.Room.{Put}
use Rattle.ground.proofs.Tests.{and-true, and-false}
use Rattle.ground.proofs.Cases.{by}
use Rattle.ground.proofs.From.{length_from}
use Rattle.ground.proofs.Room.{put_then, put_as, put-kept}
use Rattle.format.specs.Units.{decimals_of}
use Rattle.format.specs.Quality.{Mark, no_mark}
use Rattle.format.specs.Day.{Five, Day}
use Rattle.format.specs.Block.{fit_value, load_text, comma, crlf, mark_text, values_text, cover_text, runs_in, is_uniform, top_text, tail_text, block_of, records_of}
use Rattle.format.specs.declared.DayHead.{DayHead}
use Rattle.format.specs.declared.Tag.{Tag}
use Rattle.format.proofs.ValueText.{values-most}
use Rattle.format.proofs.CoverText.{runs-spell}
use Rattle.format.proofs.Forms.{uniform-top, uniform-tail, varied-top, varied-tail}
use Rattle.fit.specs.Tags.{tag_from, mark_of, marks_from, fit_tag, fit_marks}
use Rattle.covers.specs.Cover.{cover_from, count_from, Marked, Sized}
use Rattle.value_texts.specs.Measure.{measure_of}
use Rattle.covers.proofs.Covers.{marked-fit}
use Rattle.heads.specs.Heads.{front_text, times_text, fit_head}
use Rattle.heads.proofs.Heads.{length_front, length-times}
use Rattle.block.specs.Pieces.{day_with, fit_with, fit_of, FitDay, Sizes}

-- ---- fit

module _ (h : DayHead) (n : ℕ) (vs : List ℕ) (l : Five) (text : List ℕ) where
  module _ {a : Bool} (e : a ≡ fit_head h) where
    pub head-unfit : not a ≡ true → None ≡ fit_of h n vs l text
    unfolding fit_of fit_with
    head-unfit t = rw (← e, not-true a t)

    module _ {b : Bool} (s : not a ≡ false) (f : b ≡ fit_marks l text n) where
      pub marks-unfit : not b ≡ true → None ≡ fit_of h n vs l text
      unfolding fit_of fit_with
      marks-unfit t = rw (← f, not-true b t, and-false)

      pub day-measured : {d : ℕ} {x : Option ℕ} → not b ≡ false → d ≡ decimals_of h.unit → x ≡ measure_of d vs → x ≡ fit_of h n vs l text
      unfolding fit_of fit_with measure_of
      day-measured {d} t z q =
          rw (← e, not-false a s, ← f, not-false b t, ← z) (q ∙ by (all (fit_value d) vs) (λ w. rw w) (λ w. rw w))

  module _ (r : FitDay h n vs l text) where
    fits : (fit_head h && all (fit_value (decimals_of h.unit)) vs ≡ true) × (fit_marks l text n ≡ true)
    unfolding fit_with
    fits = and-true (fit_head h && all (fit_value (decimals_of h.unit)) vs) (fit_marks l text n) r.fit

    pub ready_marked : Marked l text n
    ready_marked = record { long = r.ready.long; fit = fits.1; few = r.ready.few }

    pub values-few : {k : ℕ} → k ≡ length (values_text vs) → k ≤ 4320
    values-few e =
        let d = decimals_of h.unit in
        omega (arith, values-most d vs (and-true (fit_head h) (all (fit_value d) vs) fits.0).1, r.ready.values, r.ready.few)

    pub first-fit : {t : Tag} → t ≡ tag_from l 0 → fit_tag text t ≡ true
    first-fit e = marked-fit l text n 0 r.ready.some ready_marked e

-- ---- the two forms

from_first : (f : ℕ → Mark) (n : ℕ) → 0 < n → get_or (from f 0 n) 0 no_mark ≡ f 0
unfolding from
from_first f zero h = absurd (omega arith)
from_first f (suc n) h = refl

some-run : (c : List (Run Mark)) (ms : List Mark) → spell c ≡ ms → 0 < length ms → 0 < length c
unfolding spell
some-run [] ms e h = absurd (omega (arith, ap length e))
some-run (x ∷ c) ms e h = omega arith

regroup : (a b c d e f g : List ℕ) → a ++ b ++ c ++ d ++ e ++ f ++ g ≡ a ++ (b ++ (c ++ d ++ e ++ f ++ g))
regroup a b c d e f g = simp append_assoc

block_with : (d : Day) (top tail : List ℕ) → top_text d.marks ≡ top → tail_text d.marks ≡ tail
    → front_text d.date d.values ++ (top ++ times_text d.update d.load) ++ tail ≡ block_of d
unfolding front_text times_text block_of
block_with d top tail e f =
    rw (e, f)
    (ap (λ (s : List ℕ). s ++ tail)
    (sym (regroup (bytes "300," ++ padded 8 d.date ++ comma ++ values_text d.values) top comma (padded 14 d.update) comma (load_text d.load) crlf)))

module _ (h : DayHead) (n : ℕ) (vs : List ℕ) (l : Five) (text : List ℕ) where
  count-all : count_from (marks_from l text) n 0 ≡ length (runs_in (day_with h n vs l text).marks)
  unfolding count_from day_with
  count-all = rw sub-zero

  pub one-run : {r : ℕ} → r ≡ count_from (marks_from l text) n 0 → r ≡ 1 → is_uniform (day_with h n vs l text).marks ≡ true
  unfolding is_uniform
  one-run e q = eq-eqb (length (runs_in (day_with h n vs l text).marks)) 1 (sym count-all ∙ sym e ∙ q)

  pub more-runs : {r : ℕ} → r ≡ count_from (marks_from l text) n 0 → (r ≡ 1 → ⊥) → is_uniform (day_with h n vs l text).marks ≡ false
  unfolding is_uniform
  more-runs e q = ne_eqb (length (runs_in (day_with h n vs l text).marks)) 1 (λ z. q (e ∙ count-all ∙ z))

  first-mark : {t : Tag} → 0 < n → t ≡ tag_from l 0 → get_or (day_with h n vs l text).marks 0 no_mark ≡ mark_of text t
  unfolding day_with marks_from
  first-mark p e = from_first (marks_from l text) n p ∙ ap (mark_of text) (sym e)

  -- by the number of its records
  some_runs : 0 < n → 0 < length (runs_in (day_with h n vs l text).marks)
  unfolding day_with
  some_runs p =
      some-run (runs_in (from (marks_from l text) 0 n)) (from (marks_from l text) 0 n) (runs-spell (from (marks_from l text) 0 n))
      (omega (arith, length_from (marks_from l text) 0 n))

  pub one-record : {r : ℕ} → FitDay h n vs l text → r ≡ records_of (day_with h n vs l text) → r ≡ 1 → is_uniform (day_with h n vs l text).marks ≡ true
  unfolding records_of
  one-record p e q =
      by (is_uniform (day_with h n vs l text).marks) (λ t. t)
      (λ t. absurd (omega (arith, some_runs p.ready.some, rw t at e)))

  pub more-records : {r : ℕ} → r ≡ records_of (day_with h n vs l text) → (r ≡ 1 → ⊥) → is_uniform (day_with h n vs l text).marks ≡ false
  unfolding records_of
  more-records e q =
      by (is_uniform (day_with h n vs l text).marks) (λ t. absurd (q (rw t at e))) (λ t. t)

  module _ (u : is_uniform (day_with h n vs l text).marks ≡ true) where
    pub records-one : 1 ≡ records_of (day_with h n vs l text)
    unfolding records_of
    records-one = rw u

    pub block-uniform : {t : Tag} → 0 < n → t ≡ tag_from l 0
        → front_text h.date vs ++ (mark_text (mark_of text t) ++ times_text h.update h.load) ≡ block_of (day_with h n vs l text)
    unfolding day_with
    block-uniform {t} p e =
        let d = day_with h n vs l text in
        sym (append-nil (front_text h.date vs ++ (mark_text (mark_of text t) ++ times_text h.update h.load)))
        ∙ block_with d (mark_text (mark_of text t)) [] (uniform-top d.marks u ∙ ap mark_text (first-mark p e)) (uniform-tail d.marks u)

  module _ (u : is_uniform (day_with h n vs l text).marks ≡ false) where
    pub records-more : {r : ℕ} → r ≡ count_from (marks_from l text) n 0 → 1 + r ≡ records_of (day_with h n vs l text)
    unfolding records_of
    records-more e = rw u (ap (λ (k : ℕ). 1 + k) (e ∙ count-all))

    pub block-varied : front_text h.date vs ++ (bytes "V,," ++ times_text h.update h.load) ++ cover_from (marks_from l text) n 0 ≡ block_of (day_with h n vs l text)
    unfolding day_with cover_from
    block-varied =
        let d = day_with h n vs l text in
        block_with d (bytes "V,,") (cover_text 0 (runs_in (from (marks_from l text) 0 (n - 0)))) (varied-top d.marks u)
        (varied-tail d.marks u ∙ rw sub-zero)

-- ---- how long it is

module _ (h : DayHead) (n : ℕ) (vs : List ℕ) (l : Five) (text : List ℕ) {k w b r : ℕ} (p : FitDay h n vs l text)
    (e : k ≡ length (values_text vs)) (f : w ≡ length (load_text h.load)) (s : Sized (marks_from l text) n b r) where
  pub uniform-sizes : {t : Tag} {m : ℕ} → r ≡ 1 → t ≡ tag_from l 0 → m ≡ length (mark_text (mark_of text t)) → Sizes (day_with h n vs l text) (31 + k + w + m) 1
  uniform-sizes {t} q g z =
      let u = one-run h n vs l text s.records-are q in
      record {
        bytes-are = omega (arith, ap length (block-uniform h n vs l text u p.ready.some g), length-append (front_text h.date vs) (mark_text (mark_of text t) ++ times_text h.update h.load), length-append (mark_text (mark_of text t)) (times_text h.update h.load), length_front h.date vs, length-times h.update h.load);
        records-are = records-one h n vs l text u;
      }

  pub varied-sizes : (r ≡ 1 → ⊥) → Sizes (day_with h n vs l text) (31 + k + w + 3 + b) (1 + r)
  varied-sizes q =
      let u = more-runs h n vs l text s.records-are q in
      let top = bytes "V,," ++ times_text h.update h.load in
      record {
        bytes-are = omega (arith, ap length (block-varied h n vs l text u), length-append (front_text h.date vs ++ top) (cover_from (marks_from l text) n 0), length-append (front_text h.date vs) top, length-append (bytes "V,,") (times_text h.update h.load), length_front h.date vs, length-times h.update h.load, s.bytes-are);
        records-are = records-more h n vs l text u s.records-are;
      }

-- ---- written piece after piece

module _ (h : DayHead) (n : ℕ) (vs : List ℕ) (l : Five) (text room : List ℕ) (big : length (block_of (day_with h n vs l text)) ≤ length room) where
  pub front-room : length (front_text h.date vs) ≤ length room
  unfolding day_with
  front-room =
      let d = day_with h n vs l text in
      let top = top_text d.marks ++ times_text h.update h.load in
      omega (arith, ap length (block_with d (top_text d.marks) (tail_text d.marks) refl refl), length-append (front_text h.date vs ++ top) (tail_text d.marks), length-append (front_text h.date vs) top)

  module _ {p : ℕ} {m : List ℕ} (front : Put room 0 (front_text h.date vs) p m) where
    module _ {t : Tag} (r : FitDay h n vs l text) (u : is_uniform (day_with h n vs l text).marks ≡ true) (e : t ≡ tag_from l 0) where
      pub uniform-room : p + length (mark_text (mark_of text t) ++ times_text h.update h.load) ≤ length m
      uniform-room =
          omega (arith, ap length (block-uniform h n vs l text u r.ready.some e), length-append (front_text h.date vs) (mark_text (mark_of text t) ++ times_text h.update h.load), front.behind, put-kept front)

      pub uniform-put : {q : ℕ} {o : List ℕ} → Put m p (mark_text (mark_of text t) ++ times_text h.update h.load) q o → Put room 0 (block_of (day_with h n vs l text)) q o
      uniform-put x = put_as (put_then front x) (block-uniform h n vs l text u r.ready.some e)

    module _ (u : is_uniform (day_with h n vs l text).marks ≡ false) where
      varied-length : length (block_of (day_with h n vs l text)) ≡ length (front_text h.date vs) + length (bytes "V,," ++ times_text h.update h.load) + length (cover_from (marks_from l text) n 0)
      varied-length =
          let top = bytes "V,," ++ times_text h.update h.load in
          omega (arith, ap length (block-varied h n vs l text u), length-append (front_text h.date vs ++ top) (cover_from (marks_from l text) n 0), length-append (front_text h.date vs) top)

      pub varied-room : p + length (bytes "V,," ++ times_text h.update h.load) ≤ length m
      varied-room = omega (arith, varied-length, front.behind, put-kept front)

      module _ {q : ℕ} {o : List ℕ} (x : Put m p (bytes "V,," ++ times_text h.update h.load) q o) where
        pub cover-room : q + length (cover_from (marks_from l text) n 0) ≤ length o
        cover-room = omega (arith, varied-length, front.behind, put-kept front, x.behind, put-kept x)

        pub varied-put : {i : ℕ} {y : List ℕ} → Put o q (cover_from (marks_from l text) n 0) i y → Put room 0 (block_of (day_with h n vs l text)) i y
        varied-put z = put_as (put_then (put_then front x) z) (block-varied h n vs l text u)

-- The cases of a fit mark, as the code meets them, and the turn of the loop over the intervals. Assumes nothing.
use Prim.Native.Nat.{ℕ, suc, ◌+◌, ◌-◌, ◌≤◌, ◌<◌}
use mathlib.Core.Path.{◌≡◌, refl, sym, ap, ◌∙◌}
use mathlib.Core.Bool.{Bool, true, false, not, ◌&&◌, and_comm}
use mathlib.Core.List.{List, [], ◌∷◌}
use Rattle.std.specs.List.{list_all}
use native.Mathlib.Nat.{sub-zero}
use native.Mathlib.Omega.{arith}
use lib.ListN.{length, take, drop}
use lib.Dec.{leb, ltb, eqb}
use borrow.Author.Tests.{eq-eqb, ne_eqb, le-leb, lt-leb, not-true, not-false}
use Rattle.ground.specs.Lists.{all, from}
use Rattle.ground.proofs.Tests.{and-false}
use Rattle.ground.proofs.Cases.{split, by}
use Rattle.ground.proofs.From.{from_step, from_end}
use Rattle.format.specs.Bytes.{field_byte, end_space, is_text}
use Rattle.format.specs.Texts.{is_description}
use Rattle.format.specs.Quality.{stands_alone, takes_method, across}
use Rattle.format.specs.Records.{agrees}
use Rattle.format.specs.Day.{Five}
use Rattle.format.specs.Block.{fit_quality, fit_reason, fit_mark}
use Rattle.format.specs.declared.Tag.{Tag}
use Rattle.text.specs.Inside.{inside}
use Rattle.text.proofs.Texts.{inside-some, part_none, part-lent, part_length}
use Rattle.fit.specs.Tags.{tag_from, mark_of, marks_from, fit_fields, tag_inside, inside_at, fit_tag, fit_marks, Long}

-- ---- the bytes of a description

pub all-is : (p : ℕ → Bool) (xs : List ℕ) → list_all p xs ≡ all p xs
all-is p [] = refl
all-is p (x ∷ xs) = ap (λ (b : Bool). p x && b) (all-is p xs)

-- ---- inside the text

module _ (text : List ℕ) (s n : ℕ) where
  pub inside-empty : n ≡ 0 → true ≡ inside text s n
  unfolding inside
  inside-empty e = rw (eq-eqb n 0 e)

  pub inside-room : {x : Bool} → (n ≡ 0 → ⊥) → x ≡ inside text s n → x ≡ true → s + n ≤ length text
  inside-room {x} ne e h = inside-some text s n ne (sym e ∙ h)

-- ---- a tag

regroup : (p d x a : Bool) → (p && d && x && a) ≡ (p && a && (d && x))
regroup true d x a = and_comm (d && x) a
regroup false d x a = refl

-- a mark inside the text is fit where its fields are and its description is
fit-inside : (text : List ℕ) (t : Tag) → tag_inside text t ≡ true
    → fit_mark (mark_of text t) ≡ (fit_fields t && (is_description (take t.length (drop t.start text)) && all field_byte (take t.length (drop t.start text))))
unfolding fit_mark mark_of fit_fields agrees tag_inside
fit-inside text t h =
    let d = take t.length (drop t.start text) in
    rw (part_length text t.start t.length h)
    (regroup (fit_quality t.flag t.method && fit_reason t.reason) (is_description d) (all field_byte d) (across t.flag t.reason t.length))

module _ (text : List ℕ) (t : Tag) {b : Bool} (e : b ≡ fit_fields t) where
  pub tag-unfit : b ≡ false → b ≡ fit_tag text t
  unfolding fit_tag
  tag-unfit h =
      by (tag_inside text t)
      (λ i. rw (i, fit-inside text t i, ← e, h))
      (λ i. rw (i, h))

  module _ (h : b ≡ true) where
    pub tag-empty : t.length ≡ 0 → eqb t.length 0 ≡ fit_tag text t
    unfolding fit_tag tag_inside is_description is_text end_space
    tag-empty z =
        let i : inside text t.start t.length ≡ true = sym (inside-empty text t.start t.length z) in
        rw (i, fit-inside text t i, ← e, h, part_none text t.start t.length z, eq-eqb t.length 0 z)

    module _ {x : Bool} (f : x ≡ inside text t.start t.length) where
      pub tag-outside : x ≡ false → x ≡ fit_tag text t
      unfolding fit_tag tag_inside
      tag-outside g = rw (← f, g)

      pub tag-fit : {d : Bool} → x ≡ true
          → d ≡ (is_description (take (t.start + t.length - t.start) (drop t.start text)) && all field_byte (take (t.start + t.length - t.start) (drop t.start text)))
          → d ≡ fit_tag text t
      unfolding fit_tag tag_inside
      tag-fit g q =
          let i : inside text t.start t.length ≡ true = sym f ∙ g in
          rw (i, fit-inside text t i, ← e, h, ← part-lent text t.start t.length) q

-- ---- the loop over the intervals

pub long-at : (n i : ℕ) (l : Five) → i < n → Long n l → Long (suc i) l
long-at n i l h r =
    record {
      flags = omega (arith, r.flags);
      methods = omega (arith, r.methods);
      reasons = omega (arith, r.reasons);
      starts = omega (arith, r.starts);
      lengths = omega (arith, r.lengths);
    }

-- the first i marks are fit
pub record Fitted (l : Five) (text : List ℕ) (n i : ℕ) : Type 0 where
  pub within : i ≤ n
  pub left : (all (inside_at l text) (from (λ j. j) i (n - i)) && all fit_mark (from (marks_from l text) i (n - i))) ≡ fit_marks l text n

pairs : (x y p q : Bool) → (x && p && (y && q)) ≡ (x && y && (p && q))
pairs true true p q = refl
pairs true false p q = and-false p
pairs false y p q = refl

module _ (l : Five) (text : List ℕ) (n : ℕ) where
  pub fitted_none : Fitted l text n 0
  unfolding fit_marks
  fitted_none = record { within = omega arith; left = rw sub-zero }

  step : (i : ℕ) → i < n
      → (all (inside_at l text) (from (λ j. j) i (n - i)) && all fit_mark (from (marks_from l text) i (n - i)))
      ≡ (fit_tag text (tag_from l i) && (all (inside_at l text) (from (λ j. j) (i + 1) (n - (i + 1))) && all fit_mark (from (marks_from l text) (i + 1) (n - (i + 1)))))
  unfolding inside_at marks_from fit_tag
  step i h =
      rw (from_step (λ j. j) i n h, from_step (marks_from l text) i n h)
      (pairs (tag_inside text (tag_from l i)) (fit_mark (mark_of text (tag_from l i))) (all (inside_at l text) (from (λ j. j) (i + 1) (n - (i + 1)))) (all fit_mark (from (marks_from l text) (i + 1) (n - (i + 1)))))

  pub fitted-more : (i : ℕ) {t : Tag} {b : Bool} → i < n → t ≡ tag_from l i → b ≡ fit_tag text t → not b ≡ false → Fitted l text n i → Fitted l text n (i + 1)
  fitted-more i {t} {b} h e f g r =
      record { within = omega arith; left = rw (step i h, ← e, ← f, not-false b g) at r.left }

  pub fitted-stops : (i : ℕ) {t : Tag} {b : Bool} → i < n → t ≡ tag_from l i → b ≡ fit_tag text t → not b ≡ true → Fitted l text n i → false ≡ fit_marks l text n
  fitted-stops i {t} {b} h e f g r = rw (step i h, ← e, ← f, not-true b g) at r.left

  pub fitted-all : (i : ℕ) → n ≤ i → Fitted l text n i → true ≡ fit_marks l text n
  fitted-all i h r = rw (from_end (λ j. j) i n h, from_end (marks_from l text) i n h) at r.left

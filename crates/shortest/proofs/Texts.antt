-- The texts that are written hold bytes that a field may hold, and meet the rules of their fields. Assumes nothing.
use Prim.Native.Nat.{ℕ, ◌/◌, ◌%◌, ◌^◌}
use mathlib.Core.Path.{◌≡◌, refl}
use mathlib.Core.Bool.{true, ◌&&◌, false≢true}
use mathlib.Core.List.{List, [], ◌∷◌}
use lib.Dec.{eqb, ltb}
use borrow.Author.Tests.{ne_eqb}
use Rattle.ground.specs.Lists.{all}
use Rattle.ground.specs.Digits.{padded, dec}
use Rattle.ground.proofs.Tests.{and-true}
use Rattle.ground.proofs.Cases.{by, same_or}
use Rattle.ground.proofs.Digits.{all_append, all-padded, all-dec}
use Rattle.format.specs.Bytes.{field_byte, end_space, is_text}
use Rattle.format.specs.Texts.{is_description}
use Rattle.format.specs.Numbers.{reason_of, no_reason}
use Rattle.format.specs.Quality.{of_intervals, stands_alone, takes_method, no_method, quality_of, needs_reason, across, Mark}
use Rattle.format.specs.Records.{agrees}
use Rattle.format.specs.Block.{fit_quality, fit_reason, fit_mark, fraction_text, value_text, quality_text, reason_text, load_text}
use Rattle.format.proofs.NumberText.{reason-back}
use Rattle.format.proofs.ValueText.{all-untrail, fraction-none, fraction-some}
use Rattle.format.proofs.MarkText.{alone-is, quality-alone, quality-graded, quality-back}
use Rattle.theorems.proofs.Bytes.{digits-bytes}
use Rattle.shortest.proofs.Shapes.{Marking, said}

-- ---- bytes

abbrev pub Bytes : List ℕ → Type 0
Bytes s = all field_byte s ≡ true

pub padded-bytes : (k n : ℕ) → Bytes (padded k n)
padded-bytes k n = digits-bytes (padded k n) (all-padded k n)

pub dec-bytes : (n : ℕ) → Bytes (dec n)
dec-bytes n = digits-bytes (dec n) (all-dec n)

fraction-bytes : (f : ℕ) → Bytes (fraction_text f)
unfolding field_byte
fraction-bytes f =
    same_or f 0
    (λ e. rw (fraction-none f e))
    (λ e. rw (fraction-some f e) (all-untrail field_byte (padded 6 f) (padded-bytes 6 f)))

pub value-bytes : (v : ℕ) → Bytes (value_text v)
unfolding value_text
value-bytes v = all_append field_byte (dec (v / 10 ^ 6)) (fraction_text (v % 10 ^ 6)) (dec-bytes (v / 10 ^ 6)) (fraction-bytes (v % 10 ^ 6))

pub load-bytes : (t : ℕ) → Bytes (load_text t)
unfolding load_text
load-bytes t = by (eqb t 0) (λ e. rw e) (λ e. rw e (padded-bytes 14 t))

reason-bytes : (r : ℕ) → Bytes (reason_text r)
unfolding reason_text
reason-bytes r = by (eqb r no_reason) (λ e. rw e) (λ e. rw e (dec-bytes r))

flag-byte : (q m : ℕ) → fit_quality q m ≡ true → field_byte q ≡ true
unfolding fit_quality field_byte takes_method
flag-byte q m h =
    by (stands_alone 400 q)
    (λ t. alone-is 400 q t (λ e. rw e) (λ e. rw e) (λ e. rw e))
    (λ t. let w = and-true (takes_method q) (ltb m 100) (rw t at h) in
    same_or q 69 (λ e. rw e) (λ e. same_or q 70 (λ f. rw f) (λ f. same_or q 83 (λ g. rw g) (λ g. absurd (false≢true (rw (ne_eqb q 69 e, ne_eqb q 70 f, ne_eqb q 83 g) at w.0))))))

quality-bytes : (q m : ℕ) → fit_quality q m ≡ true → Bytes (quality_text q m)
quality-bytes q m h =
    same_or m no_method
    (λ e. rw (quality-alone q m e, flag-byte q m h))
    (λ e. rw (quality-graded q m e, flag-byte q m h) (padded-bytes 2 m))

-- ---- quality, reason and description

-- three fields that a record of the kind k may carry together
pub record Carried (k : ℕ) (q s x : List ℕ) : Type 0 where
  pub marking : Marking k q s x
  pub quality-bytes : Bytes q
  pub reason-bytes : Bytes s
  pub together : agrees (said k q s x) ≡ true

-- what a fit mark is
pub record FitParts (m : Mark) : Type 0 where
  pub quality : fit_quality m.flag m.method ≡ true
  pub reason : fit_reason m.reason ≡ true
  pub described : is_description m.text ≡ true
  pub bytes : Bytes m.text
  pub together : agrees m ≡ true

pub fit_parts : (m : Mark) → fit_mark m ≡ true → FitParts m
unfolding fit_mark
fit_parts m h =
    let a = and-true (fit_quality m.flag m.method && fit_reason m.reason && is_description m.text && all field_byte m.text) (agrees m) h in
    let b = and-true (fit_quality m.flag m.method && fit_reason m.reason && is_description m.text) (all field_byte m.text) a.0 in
    let c = and-true (fit_quality m.flag m.method && fit_reason m.reason) (is_description m.text) b.0 in
    let d = and-true (fit_quality m.flag m.method) (fit_reason m.reason) c.0 in
    record { quality = d.0; reason = d.1; described = c.1; bytes = b.1; together = a.1 }

module _ (k : ℕ) (m : Mark) (i : of_intervals k ≡ true) (h : fit_mark m ≡ true) where
  -- a fit mark's texts say the mark, in a record that says the quality of intervals
  pub mark-said : said k (quality_text m.flag m.method) (reason_text m.reason) m.text ≡ m
  mark-said = let f = fit_parts m h in rw (quality-back k m.flag m.method i f.quality, reason-back m.reason f.reason)

  pub mark-carried : Carried k (quality_text m.flag m.method) (reason_text m.reason) m.text
  mark-carried =
      let f = fit_parts m h in
      record {
        marking = record {
          graded = rw (quality-back k m.flag m.method i f.quality);
          reasoned = rw (reason-back m.reason f.reason);
          described = f.described;
          bytes = f.bytes;
        };
        quality-bytes = quality-bytes m.flag m.method f.quality;
        reason-bytes = reason-bytes m.reason;
        together = rw mark-said f.together;
      }

-- V alone
pub v-carried : Carried 300 (86 ∷ []) [] []
unfolding field_byte quality_of stands_alone reason_of is_description is_text end_space agrees across needs_reason
v-carried =
    record {
      marking = record { graded = refl; reasoned = refl; described = refl; bytes = refl };
      quality-bytes = refl;
      reason-bytes = refl;
      together = refl;
    }

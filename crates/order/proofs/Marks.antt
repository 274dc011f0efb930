-- A mark that was read at a place of the file is the mark of the record's field there. Assumes nothing.
use Prim.Native.Nat.{ℕ, ◌+◌, ◌≤◌, ◌<◌}
use mathlib.Core.Path.{◌≡◌, refl, sym, ◌∙◌, ap}
use mathlib.Core.List.{List, [], ◌∷◌}
use mathlib.Core.Bool.{Bool, cond}
use native.Mathlib.Omega.{arith}
use native.Mathlib.Decide.{dec_lt}
use lib.ListN.{length}
use lib.Dec.{eqb}
use borrow.Author.Tests.{eq-eqb, ne_eqb}
use Rattle.ground.specs.Lists.{part}
use Rattle.format.specs.Numbers.{number_in, reason_of}
use Rattle.format.specs.Quality.{flag_in, method_in, quality_of, across, Mark}
use Rattle.format.specs.Cut.{field, start_of}
use Rattle.format.specs.Records.{mark_at, agrees}
use Rattle.format.specs.Day.{row_at, tag_at}
use Rattle.format.specs.declared.Tag.{Tag}
use Rattle.lines.proofs.Cuts.{field-lies}
use Rattle.says.proofs.Fields.{tag-moves}
use Rattle.follows.specs.Tests.{mark_of}
use Rattle.order.specs.State.{cells, Here}

no_bytes : (s : List ℕ) → length s ≡ 0 → s ≡ []
no_bytes [] h = refl
no_bytes (b ∷ s) h = absurd (let z : ⊥ = omega arith in z)

mark-eq : {a b c d e f : ℕ} {s t : List ℕ} → a ≡ d → b ≡ e → c ≡ f → s ≡ t
    → ◌≡◌ {A = Mark} (record { flag = a; method = b; reason = c; text = s }) (record { flag = d; method = e; reason = f; text = t })
mark-eq p q r s = rw (p, q, r, s)

-- the quality is field i of the record, and stands at p
module _ (file : List ℕ) (at e k i p : ℕ) (t : Tag) (s : Here file at e i p) (et : t ≡ tag_at k (row_at p (part file p e)) 0) where
  tag_of : t ≡ tag_at k (row_at at (part file at e)) i
  tag_of = et ∙ tag-moves file k (row_at at (part file at e)) i p e s.rest

  pub flag-of : t.flag ≡ flag_in (quality_of k (field i (cells file at e)))
  unfolding tag_at
  flag-of = ap (λ (x : Tag). x.flag) tag_of

  reason-of : t.reason ≡ number_in (reason_of (field (i + 1) (cells file at e)))
  unfolding tag_at
  reason-of = ap (λ (x : Tag). x.reason) tag_of

  method-of : t.method ≡ method_in (quality_of k (field i (cells file at e)))
  unfolding tag_at
  method-of = ap (λ (x : Tag). x.method) tag_of

  start-of : t.start ≡ cond (eqb (length (field (i + 2) (cells file at e))) 0) 0 (at + start_of (i + 2) (cells file at e))
  unfolding tag_at
  start-of = ap (λ (x : Tag). x.start) tag_of

  length-of : t.length ≡ length (field (i + 2) (cells file at e))
  unfolding tag_at
  length-of = ap (λ (x : Tag). x.length) tag_of

  -- the description is a part of the file
  text_of : (part file t.start (t.start + t.length) ≡ field (i + 2) (cells file at e)) × (t.start + t.length ≤ length file)
  text_of = by (dec_lt 0 (length f))
    where
      f : List ℕ
      f = field (i + 2) (cells file at e)

      by : Dec (0 < length f) → (part file t.start (t.start + t.length) ≡ f) × (t.start + t.length ≤ length file)
      by (yes h) =
          let ne : length f ≡ 0 → ⊥ = λ z. omega arith in
          let a : t.start ≡ at + start_of (i + 2) (cells file at e) = rw (ne_eqb _ _ ne) at start-of in
          let l = field-lies file at e (i + 2) (omega (arith, s.place, s.rest.ends)) s.rest.within h in
          (rw (a, length-of) (sym l.is), omega (arith, a, length-of, l.within, s.rest.within))
      by (no h) =
          let z : length f ≡ 0 = omega arith in
          let a : t.start ≡ 0 = rw (eq-eqb _ _ z) at start-of in
          let n : t.length ≡ 0 = length-of ∙ z in
          (rw (a, n) (sym (no_bytes f z)), omega arith)

  pub mark-of : mark_of file t ≡ mark_at k i (cells file at e)
  unfolding mark_at
  mark-of = mark-eq flag-of method-of reason-of text_of.0

  pub tag-within : t.start + t.length ≤ length file
  tag-within = text_of.1

  pub agrees-of : {b : Bool} → b ≡ across t.flag t.reason t.length → b ≡ agrees (mark_at k i (cells file at e))
  unfolding agrees mark_at
  agrees-of e = e ∙ rw (flag-of, reason-of, length-of)

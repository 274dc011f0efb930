-- Two descriptions and two marks compared, as the code meets them, and what a fit mark's tag says of its text. Assumes nothing.
use Prim.Native.Nat.{ℕ, ◌+◌, ◌-◌, ◌≤◌, ◌<◌}
use mathlib.Core.Path.{◌≡◌, refl, sym, ◌∙◌}
use mathlib.Core.Bool.{Bool, true, false, not, ◌&&◌}
use mathlib.Core.List.{List, [], ◌∷◌}
use native.Mathlib.Omega.{arith}
use lib.ListN.{length, take, drop}
use lib.Dec.{leb, eqb}
use borrow.Author.Tests.{eq-eqb, ne_eqb, leb-true}
use Rattle.ground.specs.Lists.{all, same}
use Rattle.ground.proofs.Tests.{and-true}
use Rattle.ground.proofs.Lists.{unlike}
use Rattle.ground.specs.Room.{Put}
use Rattle.ground.proofs.Room.{put-kept}
use Rattle.format.specs.Bytes.{field_byte, end_space, is_text}
use Rattle.format.specs.Texts.{is_description}
use Rattle.format.specs.Quality.{same_mark}
use Rattle.format.specs.Records.{agrees}
use Rattle.format.specs.Block.{fit_quality, fit_reason, fit_mark, quality_text, reason_text, mark_text}
use Rattle.format.specs.declared.Tag.{Tag}
use Rattle.format.proofs.MarkText.{flags-differ, methods-differ, reasons-differ, texts-compared, length-mark}
use Rattle.text.specs.Inside.{inside}
use Rattle.text.proofs.Texts.{inside-some, part_none, part-lent, part_length}
use Rattle.fit.specs.Tags.{mark_of, tag_inside, fit_tag}

-- ---- two descriptions

module _ (text : List ℕ) (s n t m : ℕ) where
  pub parts-differ : inside text s n ≡ true → inside text t m ≡ true → (n ≡ m → ⊥) → eqb n m ≡ same (take n (drop s text)) (take m (drop t text))
  parts-differ a b h = ne_eqb n m h ∙ unlike (take n (drop s text)) (take m (drop t text)) (λ e. h (sym (part_length text s n a) ∙ e ∙ part_length text t m b))

  pub parts-empty : n ≡ m → n ≡ 0 → eqb n 0 ≡ same (take n (drop s text)) (take m (drop t text))
  unfolding same
  parts-empty e z = rw (eq-eqb n 0 z, part_none text s n z, part_none text t m (sym e ∙ z))

  pub parts_same : {b : Bool} → b ≡ same (take (s + n - s) (drop s text)) (take (t + m - t) (drop t text)) → b ≡ same (take n (drop s text)) (take m (drop t text))
  parts_same q = rw (part-lent text s n, part-lent text t m) at q

  pub part_room : n ≡ m → (n ≡ 0 → ⊥) → inside text t m ≡ true → t + m ≤ length text
  part_room e z h = inside-some text t m (λ q. z (e ∙ q)) h

-- ---- two marks

module _ (text : List ℕ) (a b : Tag) where
  pub flag-apart : (a.flag ≡ b.flag → ⊥) → false ≡ same_mark (mark_of text a) (mark_of text b)
  unfolding mark_of
  flag-apart h = flags-differ (mark_of text a) (mark_of text b) h

  module _ (f : a.flag ≡ b.flag) where
    pub method-apart : (a.method ≡ b.method → ⊥) → false ≡ same_mark (mark_of text a) (mark_of text b)
    unfolding mark_of
    method-apart h = methods-differ (mark_of text a) (mark_of text b) f h

    module _ (g : a.method ≡ b.method) where
      pub reason-apart : (a.reason ≡ b.reason → ⊥) → false ≡ same_mark (mark_of text a) (mark_of text b)
      unfolding mark_of
      reason-apart h = reasons-differ (mark_of text a) (mark_of text b) f g h

      pub marks-same : {d : Bool} → a.reason ≡ b.reason → d ≡ same (take a.length (drop a.start text)) (take b.length (drop b.start text))
          → d ≡ same_mark (mark_of text a) (mark_of text b)
      unfolding mark_of
      marks-same h q = texts-compared (mark_of text a) (mark_of text b) f g h q

-- ---- a fit mark

module _ (text : List ℕ) (t : Tag) (h : fit_tag text t ≡ true) where
  pub fit-is-inside : tag_inside text t ≡ true
  unfolding fit_tag
  fit-is-inside = (and-true (tag_inside text t) (fit_mark (mark_of text t)) h).0

  pub fit-inside : inside text t.start t.length ≡ true
  unfolding tag_inside
  fit-inside = fit-is-inside

  pub fit-mark : fit_mark (mark_of text t) ≡ true
  unfolding fit_tag
  fit-mark = (and-true (tag_inside text t) (fit_mark (mark_of text t)) h).1

  long-enough : length (take t.length (drop t.start text)) ≡ t.length
  long-enough = part_length text t.start t.length fit-inside

  -- a description has at most 240 bytes
  pub fit-short : t.length ≤ 240
  unfolding fit_mark mark_of is_description is_text
  fit-short =
      let m = mark_of text t in
      let s = take t.length (drop t.start text) in
      let c1 = and-true (fit_quality t.flag t.method && fit_reason t.reason && is_description s && all field_byte s) (agrees m) fit-mark in
      let c2 = and-true (fit_quality t.flag t.method && fit_reason t.reason && is_description s) (all field_byte s) c1.0 in
      let c3 = and-true (fit_quality t.flag t.method && fit_reason t.reason) (is_description s) c2.0 in
      let c4 = and-true (leb 0 (length s) && leb (length s) 240) (not (end_space s)) c3.1 in
      let c5 = and-true (leb 0 (length s)) (leb (length s) 240) c4.0 in
      omega (arith, leb-true (length s) 240 c5.1, long-enough)

  pub mark-length : {q r : ℕ} → q ≡ length (quality_text t.flag t.method) → r ≡ length (reason_text t.reason)
      → q + r + t.length + 2 ≡ length (mark_text (mark_of text t))
  unfolding mark_of
  mark-length e f = omega (arith, length-mark (mark_of text t), long-enough)

  -- the room that each piece of its text has
  length-fit : length (mark_text (mark_of text t)) ≡ length (quality_text t.flag t.method) + length (reason_text t.reason) + t.length + 2
  length-fit = sym (mark-length refl refl)

  module _ (l : List ℕ) (at : ℕ) (g : at + length (mark_text (mark_of text t)) ≤ length l) where
    pub quality-room : at + length (quality_text t.flag t.method) ≤ length l
    quality-room = omega (arith, length-fit)

    module _ {m : List ℕ} {i : ℕ} (p : Put l at (quality_text t.flag t.method) i m) where
      pub first-comma-room : i < length m
      first-comma-room = omega (arith, length-fit, p.behind, put-kept p)

      module _ {n : List ℕ} {j : ℕ} (q : Put m i (44 ∷ []) j n) where
        pub reason-room : j + length (reason_text t.reason) ≤ length n
        reason-room = omega (arith, length-fit, p.behind, put-kept p, q.behind, put-kept q)

        module _ {o : List ℕ} {k : ℕ} (r : Put n j (reason_text t.reason) k o) where
          pub second-comma-room : k < length o
          second-comma-room = omega (arith, length-fit, p.behind, put-kept p, q.behind, put-kept q, r.behind, put-kept r)

          module _ {x : List ℕ} {d : ℕ} (u : Put o k (44 ∷ []) d x) where
            pub description-room : d + t.length ≤ length x
            description-room = omega (arith, length-fit, p.behind, put-kept p, q.behind, put-kept q, r.behind, put-kept r, u.behind, put-kept u)

pub ruleset marks = (flag-apart, method-apart, reason-apart, marks-same)

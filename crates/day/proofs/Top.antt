-- What a 300 says, by the places of its fields. Assumes nothing.
use Prim.Native.Nat.{ℕ, ◌+◌, ◌<◌}
use mathlib.Core.Path.{◌≡◌, sym, ap, subst, ◌∙◌}
use mathlib.Core.List.{List}
use native.Mathlib.Omega.{arith}
use lib.ListN.{length}
use lib.Seq.{sets}
use Rattle.ground.specs.Lists.{part}
use Rattle.format.specs.Numbers.{number_in}
use Rattle.format.specs.Dates.{date_of, time_of, load_of}
use Rattle.format.specs.Cut.{fields, field}
use Rattle.format.specs.Records.{date_in, update_in, load_in}
use Rattle.format.specs.Day.{row_at, tag_at}
use Rattle.format.specs.declared.Tag.{Tag}
use Rattle.lines.specs.Places.{Cut, Rest}
use Rattle.says.proofs.Fields.{tag-moves}
use Rattle.lines.proofs.Cuts.{rest-whole, rest-first, rest-next}
use Rattle.day.specs.Places.{values_from}
use Rattle.day.proofs.Values.{values-move}

module _ (file : List ℕ) (a e b x b₁ x₁ : ℕ) (k : Cut file a e b x) (k₁ : Cut file x e b₁ x₁) where
  pub head-rest : Rest file (fields (part file a e)) a 2 x₁ e
  head-rest = rest-next (rest-next (rest-whole file a e (omega (arith, k.order, k.on, k.ends)) k.within) k) k₁

  pub head-date : (d : ℕ) → d ≡ number_in (date_of (field 0 (fields (part file x e)))) → d ≡ date_in (fields (part file a e))
  unfolding date_in
  head-date d h = h ∙ ap (λ (f : List ℕ). number_in (date_of f)) (sym (k.later 0))

module _ (file : List ℕ) (fs : List (List ℕ)) (a e x : ℕ) (s : Rest file fs a 3 x e) where
  pub time-first : (u : ℕ) → u ≡ number_in (time_of (field 0 (fields (part file x e)))) → u ≡ number_in (time_of (field 3 fs))
  time-first u h = h ∙ ap (λ (f : List ℕ). number_in (time_of f)) (rest-first s)

  pub time-second : (b y l : ℕ) → Cut file x e b y → l ≡ number_in (load_of (field 0 (fields (part file y e)))) → l ≡ number_in (load_of (field 4 fs))
  time-second b y l k h = h ∙ ap (λ (f : List ℕ). number_in (load_of f)) (rest-first (rest-next s k))

-- ---- the whole of a 300: its values start at v, its quality at q

-- the rest of a rest
rest_over : {file : List ℕ} {fs : List (List ℕ)} {p i a j x e : ℕ} → Rest file fs p i a e → Rest file (fields (part file a e)) a j x e → Rest file fs p (i + j) x e
rest_over {file} {fs} {p} {i} {a} {j} {x} {e} s t =
    record {
      ends = t.ends;
      within = t.within;
      same = λ k. (let m : i + j + k ≡ i + (j + k) = omega arith in rw m (s.same (j + k) ∙ t.same k));
      place = λ k g.
          (let m : i + j + k ≡ i + (j + k) = omega arith in
          let g₁ : 0 < length (field (i + (j + k)) fs) = rw m at g in
          let g₂ : 0 < length (field (j + k) (fields (part file a e))) = rw (s.same (j + k)) at g₁ in
          rw m (s.place (j + k) g₁ ∙ t.place k g₂));
    }

module _ (file : List ℕ) (a e n v q : ℕ) (s : Rest file (fields (part file a e)) a 2 v e) (z : Rest file (fields (part file v e)) v n q e) where
  quality-at : Rest file (fields (part file a e)) a (n + 2) q e
  quality-at = let m : 2 + n ≡ n + 2 = omega arith in subst (λ (i : ℕ). Rest file (fields (part file a e)) a i q e) m (rest_over s z)

  pub top-tag : (t : Tag) → t ≡ tag_at 300 (row_at q (part file q e)) 0 → t ≡ tag_at 300 (row_at a (part file a e)) (n + 2)
  top-tag t h = h ∙ tag-moves file 300 (row_at a (part file a e)) (n + 2) q e quality-at

  pub top-update : (u : ℕ) → u ≡ number_in (time_of (field 3 (fields (part file q e)))) → u ≡ update_in n (fields (part file a e))
  unfolding update_in
  top-update u h =
      let m : n + 2 + 3 ≡ n + 5 = omega arith in
      rw m at (h ∙ ap (λ (f : List ℕ). number_in (time_of f)) (sym (quality-at.same 3)))

  pub top-load : (l : ℕ) → l ≡ number_in (load_of (field 4 (fields (part file q e)))) → l ≡ load_in n (fields (part file a e))
  unfolding load_in
  top-load l h =
      let m : n + 2 + 4 ≡ n + 6 = omega arith in
      rw m at (h ∙ ap (λ (f : List ℕ). number_in (load_of f)) (sym (quality-at.same 4)))

pub top-values : (file : List ℕ) (fs : List (List ℕ)) (p v e n : ℕ) (vs vs₁ : List ℕ) → Rest file fs p 2 v e
    → vs₁ ≡ sets vs 0 (values_from n 0 (fields (part file v e))) → vs₁ ≡ sets vs 0 (values_from n 2 fs)
top-values file fs p v e n vs vs₁ s h = h ∙ ap (sets vs 0) (values-move s n 0)

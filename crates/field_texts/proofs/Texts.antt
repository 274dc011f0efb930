-- The forms that a text takes, as the code meets them: how long it is, the room that each write has, and what the writes together are. Assumes nothing.
use Prim.Native.Nat.{ℕ, ◌+◌, ◌/◌, ◌%◌, ◌≤◌, ◌<◌}
use mathlib.Core.Path.{◌≡◌, sym, ap, ◌∙◌}
use mathlib.Core.List.{List, [], ◌∷◌, ◌++◌, append-nil}
use native.Mathlib.Omega.{arith}
use lib.ListN.{length}
use borrow.Author.Tests.{eq-eqb, ne_eqb}
use Rattle.ground.specs.Digits.{padded, width, dec}
use Rattle.ground.specs.Room.{Put}
use Rattle.ground.proofs.Cases.{same_or}
use Rattle.ground.proofs.Digits.{length-padded, length-dec}
use Rattle.ground.proofs.Room.{put-nothing, put_then, put_as, put-kept}
use Rattle.format.specs.Block.{value_text, quality_text, reason_text, load_text}
use Rattle.format.specs.Numbers.{no_reason}
use Rattle.format.specs.Quality.{no_method}
use Rattle.format.proofs.ValueText.{trimmed, fraction-none, fraction-some, length-plain, length-point}
use Rattle.format.proofs.MarkText.{quality-alone, quality-graded}
use Rattle.field_texts.specs.Trims.{Trims}

-- ---- a quality

module _ (q m : ℕ) where
  pub quality-one : m ≡ no_method → 1 ≡ length (quality_text q m)
  quality-one e = omega (arith, ap length (quality-alone q m e))

  pub quality-three : (m ≡ no_method → ⊥) → 3 ≡ length (quality_text q m)
  quality-three e = omega (arith, ap length (quality-graded q m e), length-padded 2 m)

  pub quality-room : (at k : ℕ) → at + length (quality_text q m) ≤ k → at < k
  quality-room at k h = same_or m no_method (λ e. omega (arith, quality-one e)) (λ e. omega (arith, quality-three e))

  pub method-room : {l n : List ℕ} {at i : ℕ} → (m ≡ no_method → ⊥) → at + length (quality_text q m) ≤ length l → Put l at (q ∷ []) i n → i + 2 ≤ length n
  method-room e h p = omega (arith, quality-three e, put-kept p, p.behind)

  pub put_alone : {l n : List ℕ} {at i : ℕ} → m ≡ no_method → Put l at (q ∷ []) i n → Put l at (quality_text q m) i n
  put_alone e p = put_as p (sym (quality-alone q m e))

  pub put-graded : {l n o : List ℕ} {at i j : ℕ} → (m ≡ no_method → ⊥) → Put l at (q ∷ []) i n → Put n i (padded 2 m) j o → Put l at (quality_text q m) j o
  put-graded e p r = put_as (put_then p r) (sym (quality-graded q m e))

-- ---- a reason

module _ (r : ℕ) where
  pub reason-none : r ≡ no_reason → reason_text r ≡ []
  unfolding reason_text
  reason-none e = rw (eq-eqb r no_reason e)

  pub reason-some : (r ≡ no_reason → ⊥) → reason_text r ≡ dec r
  unfolding reason_text
  reason-some e = rw (ne_eqb r no_reason e)

  pub reason-zero : r ≡ no_reason → 0 ≡ length (reason_text r)
  reason-zero e = sym (ap length (reason-none e))

  pub reason-width : {w : ℕ} → (r ≡ no_reason → ⊥) → w ≡ width r → w ≡ length (reason_text r)
  reason-width e q = q ∙ sym (length-dec r) ∙ sym (ap length (reason-some e))

  pub reason-room : (at k : ℕ) → (r ≡ no_reason → ⊥) → at + length (reason_text r) ≤ k → at + length (dec r) ≤ k
  reason-room at k e h = omega (arith, ap length (reason-some e))

  pub put-no-reason : {l : List ℕ} {at : ℕ} → r ≡ no_reason → Put l at (reason_text r) at l
  put-no-reason {l} {at} e = put_as (put-nothing l at) (sym (reason-none e))

  pub put-some-reason : {l m : List ℕ} {at i : ℕ} → (r ≡ no_reason → ⊥) → Put l at (dec r) i m → Put l at (reason_text r) i m
  put-some-reason e p = put_as p (sym (reason-some e))

-- ---- a load time

module _ (t : ℕ) where
  load-none : t ≡ 0 → load_text t ≡ []
  unfolding load_text
  load-none e = rw (eq-eqb t 0 e)

  load-some : (t ≡ 0 → ⊥) → load_text t ≡ padded 14 t
  unfolding load_text
  load-some e = rw (ne_eqb t 0 e)

  pub load-zero : t ≡ 0 → 0 ≡ length (load_text t)
  load-zero e = sym (ap length (load-none e))

  pub load_full : (t ≡ 0 → ⊥) → 14 ≡ length (load_text t)
  load_full e = sym (ap length (load-some e) ∙ length-padded 14 t)

  pub load-room : (at k : ℕ) → (t ≡ 0 → ⊥) → at + length (load_text t) ≤ k → at + 14 ≤ k
  load-room at k e h = omega (arith, load_full e)

  pub put-no-load : {l : List ℕ} {at : ℕ} → t ≡ 0 → Put l at (load_text t) at l
  put-no-load {l} {at} e = put_as (put-nothing l at) (sym (load-none e))

  pub put-some-load : {l m : List ℕ} {at i : ℕ} → (t ≡ 0 → ⊥) → Put l at (padded 14 t) i m → Put l at (load_text t) i m
  put-some-load e p = put_as p (sym (load-some e))

-- ---- a value

module _ (v : ℕ) where
  pub value-plain : {w : ℕ} → v % 1000000 ≡ 0 → w ≡ width (v / 1000000) → w ≡ length (value_text v)
  value-plain e q = omega (arith, length-plain v e, length-dec (v / 1000000))

  -- how many decimals are left
  trimmed-long : {p m : ℕ} → Trims (v % 1000000) p m → length (trimmed (v % 1000000)) ≡ p
  trimmed-long {p} {m} t = sym (ap length t.left) ∙ length-padded p m

  pub value-point : {w p m : ℕ} → (v % 1000000 ≡ 0 → ⊥) → w ≡ width (v / 1000000) → Trims (v % 1000000) p m → w + 1 + p ≡ length (value_text v)
  value-point e q t = omega (arith, length-point v e, length-dec (v / 1000000), trimmed-long t)

  pub whole_room : (at k : ℕ) → at + length (value_text v) ≤ k → at + length (dec (v / 1000000)) ≤ k
  whole_room at k h = same_or (v % 1000000) 0 (λ e. omega (arith, length-plain v e)) (λ e. omega (arith, length-point v e))

  pub put-plain : {l m : List ℕ} {at i : ℕ} → v % 1000000 ≡ 0 → Put l at (dec (v / 1000000)) i m → Put l at (value_text v) i m
  unfolding value_text
  put-plain e p = put_as p (sym (append-nil (dec (v / 1000000))) ∙ ap (λ (s : List ℕ). dec (v / 1000000) ++ s) (sym (fraction-none (v % 1000000) e)))

  module _ {l n : List ℕ} {at i : ℕ} (e : v % 1000000 ≡ 0 → ⊥) (p : Put l at (dec (v / 1000000)) i n) where
    pub point-room : at + length (value_text v) ≤ length l → i < length n
    point-room h = omega (arith, length-point v e, put-kept p, p.behind)

    pub fraction-room : {o : List ℕ} {d k m : ℕ} → at + length (value_text v) ≤ length l → Put n i (46 ∷ []) d o → Trims (v % 1000000) k m → d + k ≤ length o
    fraction-room h r t = omega (arith, length-point v e, put-kept p, p.behind, put-kept r, r.behind, trimmed-long t)

    pub put-point : {o x : List ℕ} {d j k m : ℕ} → Put n i (46 ∷ []) d o → Trims (v % 1000000) k m → Put o d (padded k m) j x → Put l at (value_text v) j x
    unfolding value_text
    put-point r t s =
        put_as (put_then p (put_then r s))
        (ap (λ (z : List ℕ). dec (v / 1000000) ++ z) (ap (λ (z : List ℕ). 46 ∷ z) t.left ∙ sym (fraction-some (v % 1000000) e)))

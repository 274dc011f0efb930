-- Versions in order: one more at the end, one of them, those before it. Assumes nothing.
use Prim.Native.Nat.{ℕ, zero, suc, ◌-◌, ◌<◌}
use mathlib.Core.Path.{◌≡◌, refl, ap, ◌∙◌}
use mathlib.Core.Bool.{true, ◌&&◌}
use mathlib.Core.List.{List, [], ◌∷◌, ◌++◌}
use native.Mathlib.Omega.{arith}
use lib.ListN.{length, get_or}
use Rattle.ground.specs.Lists.{all}
use Rattle.ground.proofs.Tests.{and-true}
use Rattle.ground.proofs.Cases.{both}
use Rattle.tenants.specs.Outputs.{is_kept}
use Rattle.tenants.specs.Versions.{Version, none, may_follow, are_versions, latest}

-- the first date of the last of these versions; t where there is none
end_of : ℕ → List Version → ℕ
end_of t [] = t
end_of t (v ∷ vs) = end_of v.first vs

last_end : (v : Version) (vs : List Version) → (get_or (v ∷ vs) (length vs) none).first ≡ end_of v.first vs
unfolding end_of
last_end v [] = refl
last_end v (w ∷ vs) = last_end w vs

latest-end : (vs : List Version) → latest vs ≡ end_of 0 vs
unfolding latest end_of
latest-end [] = refl
latest-end (v ∷ vs) = let z : suc (length vs) - 1 ≡ length vs = omega arith in ap (λ (i : ℕ). (get_or (v ∷ vs) i none).first) z ∙ last_end v vs

-- ---- one more

more-from : (t : ℕ) (vs : List Version) (v : Version) → are_versions t vs ≡ true → may_follow (end_of t vs) v.first ≡ true → all is_kept v.outputs ≡ true
    → are_versions t (vs ++ v ∷ []) ≡ true
unfolding are_versions end_of
more-from t [] v e f k = rw (f, k)
more-from t (w ∷ vs) v e f k =
    let g = and-true (may_follow t w.first && all is_kept w.outputs) (are_versions w.first vs) e in
    both (may_follow t w.first && all is_kept w.outputs) (are_versions w.first (vs ++ v ∷ [])) g.0 (more-from w.first vs v g.1 f k)

pub sound_more : (vs : List Version) (v : Version) → are_versions 0 vs ≡ true → may_follow (latest vs) v.first ≡ true → all is_kept v.outputs ≡ true
    → are_versions 0 (vs ++ v ∷ []) ≡ true
sound_more vs v e f k = more-from 0 vs v e (rw (latest-end vs) at f) k

-- ---- one of them

kept_from_lem : (t : ℕ) (vs : List Version) (i : ℕ) → are_versions t vs ≡ true → i < length vs → all is_kept (get_or vs i none).outputs ≡ true
unfolding are_versions
kept_from_lem t [] i e h = absurd (let z : ⊥ = omega arith in z)
kept_from_lem t (w ∷ vs) zero e h =
    let g = and-true (may_follow t w.first && all is_kept w.outputs) (are_versions w.first vs) e in
    (and-true (may_follow t w.first) (all is_kept w.outputs) g.0).1
kept_from_lem t (w ∷ vs) (suc i) e h = kept_from_lem w.first vs i (and-true (may_follow t w.first && all is_kept w.outputs) (are_versions w.first vs) e).1 (omega arith)

pub sound-kept : (vs : List Version) (i : ℕ) → are_versions 0 vs ≡ true → i < length vs → all is_kept (get_or vs i none).outputs ≡ true
sound-kept vs i e h = kept_from_lem 0 vs i e h

-- ---- those before one of them

-- those before the last are in order, and it may follow them
pub record Before (vs : List Version) (v : Version) : Type 0 where
  pub sound : are_versions 0 vs ≡ true
  pub follows : may_follow (latest vs) v.first ≡ true
  pub kept : all is_kept v.outputs ≡ true

before-from : (t : ℕ) (vs : List Version) (v : Version) (ws : List Version) → are_versions t (vs ++ v ∷ ws) ≡ true
    → (are_versions t vs ≡ true) × (may_follow (end_of t vs) v.first ≡ true) × (all is_kept v.outputs ≡ true)
unfolding are_versions end_of
before-from t [] v ws e =
    let g = and-true (may_follow t v.first && all is_kept v.outputs) (are_versions v.first ws) e in
    let h = and-true (may_follow t v.first) (all is_kept v.outputs) g.0 in
    (refl, h.0, h.1)
before-from t (w ∷ vs) v ws e =
    let g = and-true (may_follow t w.first && all is_kept w.outputs) (are_versions w.first (vs ++ v ∷ ws)) e in
    let r = before-from w.first vs v ws g.1 in
    (both (may_follow t w.first && all is_kept w.outputs) (are_versions w.first vs) g.0 r.0, r.1, r.2)

pub sound-before : (vs : List Version) (v : Version) (ws : List Version) → are_versions 0 (vs ++ v ∷ ws) ≡ true → Before vs v
sound-before vs v ws e = let r = before-from 0 vs v ws e in record { sound = r.0; follows = rw (latest-end vs) r.1; kept = r.2 }

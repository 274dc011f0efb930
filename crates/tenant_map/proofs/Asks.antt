-- The ways out of asking a map for a date. Assumes nothing.
use Prim.Native.Nat.{ℕ, zero, suc, ◌-◌, ◌*◌, ◌≤◌, ◌<◌}
use mathlib.Core.Path.{◌≡◌, refl, sym, ap, ap₂, ◌∙◌}
use mathlib.Core.Bool.{Bool, true, false, not, ◌&&◌}
use mathlib.Core.List.{List, [], ◌∷◌}
use native.Mathlib.Omega.{arith}
use borrow.Author.Tests.{le-leb, not-true, not-false}
use lib.ListN.{length, take, drop, get_or, length-append, length-drop}
use lib.Seq.{sets, length-take-le}
use lib.Dec.{leb}
use Rattle.ground.proofs.Cases.{by}
use Rattle.ground.proofs.Room.{sets-front}
use Rattle.format.specs.Dates.{is_date}
use Rattle.format.specs.Answers.{accepted, refusal, refused_as}
use Rattle.format.specs.declared.Refusal.{Refusal}
use Rattle.entries.specs.Little.{piece}
use Rattle.tenants.specs.Outputs.{outputs_in, keys_of, shares_of}
use Rattle.tenants.specs.Versions.{Version, none, version_from, version_place, version_at, versions_in, is_map, highest, version_on}
use Rattle.tenants.specs.Calls.{enough, outputs_of, mapped, fill_of, ask_of, on_of}
use Rattle.versions.proofs.Pieces.{count-versions, version-here, entries-long}
use Rattle.versions.proofs.Maps.{mapping}
use Rattle.tenant_map.proofs.Changes.{keys-enough, shares-enough}

-- ---- how much is filled

keys-long : (n : ℕ) (s : List ℕ) → 14 * n ≤ length s → length (keys_of (outputs_in n s)) ≡ 12 * n
unfolding outputs_in keys_of
keys-long zero s h = refl
keys-long (suc n) s h =
    omega (arith, length-append (take 12 s) (keys_of (outputs_in n (drop 14 s))), length-take-le 12 s (omega arith), keys-long n (drop 14 s) (omega (arith, length-drop 14 s)))

shares-long : (n : ℕ) (s : List ℕ) → length (shares_of (outputs_in n s)) ≡ n
unfolding outputs_in
shares-long zero s = refl
shares-long (suc n) s = ap suc (shares-long n (drop 14 s))

-- the entries of a version, as the code finds them
module _ (m : List ℕ) (i : ℕ) (l : List ℕ) {e : List ℕ} (h : e ≡ drop 4 (piece m (version_place i) 1796)) {p : List ℕ} where
  pub keys-of-version : p ≡ sets l 0 (keys_of (outputs_in 128 e)) → p ≡ sets l 0 (keys_of (version_at m i).outputs)
  unfolding version_at version_from
  keys-of-version f = f ∙ ap (λ (x : List ℕ). sets l 0 (keys_of (outputs_in 128 x))) h

  pub shares-of-version : p ≡ sets l 0 (shares_of (outputs_in 128 e)) → p ≡ sets l 0 (shares_of (version_at m i).outputs)
  unfolding version_at version_from
  shares-of-version f = f ∙ ap (λ (x : List ℕ). sets l 0 (shares_of (outputs_in 128 x))) h

-- ---- which version

highest-most : (vs : List Version) (date k : ℕ) → highest vs date k ≤ k
unfolding highest
highest-most vs date zero = omega arith
highest-most vs date (suc k) = by (leb (get_or vs k none).first date) (λ e. rw e (omega arith)) (λ e. rw e (omega (arith, highest-most vs date k)))

pub version-most : (vs : List Version) (date : ℕ) → version_on vs date ≤ length vs
unfolding version_on
version-most vs date = by (is_date date) (λ e. rw e (highest-most vs date (length vs))) (λ e. rw e (omega arith))

module _ (m : List ℕ) (date : ℕ) {a : Bool} (ea : a ≡ is_map m) (ta : not a ≡ false) {v : ℕ} (ev : v ≡ version_on (versions_in m) date) where
  -- one of at most 32
  pub on-few : (v ≡ 0 → ⊥) → v - 1 < 32
  on-few h = omega (arith, version-most (versions_in m) date, count-versions m, (mapping m (sym ea ∙ not-false a ta)).few)

  pub on-long : 57476 ≤ length m
  on-long = (mapping m (sym ea ∙ not-false a ta)).long

module _ (m : List ℕ) (date : ℕ) (keys shares : List ℕ) {a : Bool} (ea : a ≡ is_map m) where
  pub on-no-map : not a ≡ true → {y : Refusal} → refused_as y ≡ refusal 21 → mapped (refused_as y) keys shares ≡ on_of m date keys shares
  unfolding on_of
  on-no-map t g = rw (← ea, not-true a t, g)

  module _ (ta : not a ≡ false) {v : ℕ} (ev : v ≡ version_on (versions_in m) date) where
    pub on_none : v ≡ 0 → {y : Refusal} → refused_as y ≡ refusal 14 → mapped (refused_as y) keys shares ≡ on_of m date keys shares
    unfolding on_of ask_of
    on_none h g = rw (← ea, not-false a ta, ← ev, h, g)

    module _ (h : v ≡ 0 → ⊥) {b : Bool} (eb : b ≡ leb 1536 (length keys) && leb 128 (length shares)) where
      pub on-short : not b ≡ true → {y : Refusal} → refused_as y ≡ refusal 15 → mapped (refused_as y) keys shares ≡ on_of m date keys shares
      unfolding on_of ask_of enough
      on-short t g = rw (← ea, not-false a ta, ← ev, le-leb 1 v (omega arith), ← eb, not-true b t, g)

      module _ (t : not b ≡ false) where
        there : outputs_of (versions_in m) v ≡ (version_at m (v - 1)).outputs
        there = ap (λ (x : Version). x.outputs) (version-here m (v - 1) (omega (arith, version-most (versions_in m) date, count-versions m)))

        entries : List ℕ
        entries = drop 4 (piece m (version_place (v - 1)) 1796)

        entries-enough : length entries ≡ 1792
        unfolding entries
        entries-enough = entries-long m (v - 1) (on-long m date ea ta ev) (on-few m date ea ta ev h) refl

        pub on-filled : {p q : List ℕ} → p ≡ sets keys 0 (keys_of (version_at m (v - 1)).outputs) → q ≡ sets shares 0 (shares_of (version_at m (v - 1)).outputs)
            → mapped (accepted (v ∷ [])) p q ≡ on_of m date keys shares
        unfolding on_of ask_of enough fill_of version_at version_from entries
        on-filled e f =
            rw (← ea, not-false a ta, ← ev, le-leb 1 v (omega arith), ← eb, not-false b t, there)
            (ap₂ (mapped (accepted (v ∷ [])))
            (e ∙ sets-front keys (keys_of (outputs_in 128 entries)) (omega (arith, keys-enough (length keys) (length shares) eb t, keys-long 128 entries (omega (arith, entries-enough)))))
            (f ∙ sets-front shares (shares_of (outputs_in 128 entries)) (omega (arith, shares-enough (length keys) (length shares) eb t, shares-long 128 entries))))

-- ---- what a map has on a date

module _ (m : List ℕ) (date : ℕ) (t : is_map m ≡ true) (h : 1 ≤ version_on (versions_in m) date) where
  abbrev v : ℕ
  v = version_on (versions_in m) date

  entries-on : outputs_of (versions_in m) v ≡ outputs_in 128 (drop 4 (piece m (version_place (v - 1)) 1796))
  unfolding version_at version_from
  entries-on = ap (λ (x : Version). x.outputs) (version-here m (v - 1) (omega (arith, version-most (versions_in m) date, count-versions m)))

  entries-whole : length (drop 4 (piece m (version_place (v - 1)) 1796)) ≡ 1792
  entries-whole =
      entries-long m (v - 1) (mapping m t).long (omega (arith, version-most (versions_in m) date, count-versions m, (mapping m t).few)) refl

  -- keys and shares of 128 outputs
  pub on-keys-long : length (keys_of (outputs_of (versions_in m) v)) ≡ 1536
  on-keys-long = rw entries-on (keys-long 128 (drop 4 (piece m (version_place (v - 1)) 1796)) (omega (arith, entries-whole)))

  pub on-shares-long : length (shares_of (outputs_of (versions_in m) v)) ≡ 128
  on-shares-long = rw entries-on (shares-long 128 (drop 4 (piece m (version_place (v - 1)) 1796)))

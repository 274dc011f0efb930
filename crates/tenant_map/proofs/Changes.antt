-- The ways out of making a map, adding a version and going back to one. Assumes nothing.
use Prim.Native.Nat.{ℕ, ◌+◌, ◌-◌, ◌≤◌, ◌<◌}
use mathlib.Core.Path.{◌≡◌, sym, ◌∙◌}
use mathlib.Core.Bool.{Bool, true, false, not, ◌&&◌}
use mathlib.Core.List.{List, [], ◌∷◌}
use native.Mathlib.Omega.{arith}
use borrow.Author.Tests.{lt-leb, le-leb, leb-true, not-true, not-false}
use lib.ListN.{length}
use lib.Seq.{sets}
use lib.Dec.{leb}
use Rattle.ground.specs.Lists.{all}
use Rattle.ground.proofs.Tests.{and-true}
use Rattle.format.specs.Answers.{accepted, refusal, refused_as}
use Rattle.format.specs.declared.Refusal.{Refusal}
use Rattle.entries.specs.Little.{in_bytes}
use Rattle.entries.specs.Left.{Left, left}
use Rattle.tenants.specs.Outputs.{fit_output, outputs_given}
use Rattle.tenants.specs.Versions.{version, count_in, versions_in, is_map}
use Rattle.tenants.specs.Calls.{make_of, enough, append_of, kept_given, add_of, is_number, outputs_of, back_of}
use Rattle.versions.proofs.Pieces.{count-versions}

-- ---- make

pub make-short : (m : List ℕ) → length m < 57476 → {y : Refusal} → refused_as y ≡ refusal 15 → left (refused_as y) m ≡ make_of m
unfolding make_of
make-short m h g = rw (lt-leb 57476 (length m) h, g)

pub make-done : (m : List ℕ) → 57476 ≤ length m → {c : List ℕ} → c ≡ sets m 0 (in_bytes 4 0) → left (accepted (0 ∷ [])) c ≡ make_of m
unfolding make_of
make-done m h e = rw (le-leb 57476 (length m) h, e)

-- ---- lists that are handed in

pub keys-enough : (keys shares : ℕ) {b : Bool} → b ≡ leb 1536 keys && leb 128 shares → not b ≡ false → 1536 ≤ keys
keys-enough keys shares {b} e t = leb-true 1536 keys (and-true (leb 1536 keys) (leb 128 shares) (sym e ∙ not-false b t)).0

pub shares-enough : (keys shares : ℕ) {b : Bool} → b ≡ leb 1536 keys && leb 128 shares → not b ≡ false → 128 ≤ shares
shares-enough keys shares {b} e t = leb-true 128 shares (and-true (leb 1536 keys) (leb 128 shares) (sym e ∙ not-false b t)).1

-- ---- a map, as the code finds it

pub map-told : (m : List ℕ) {a : Bool} → a ≡ is_map m → not a ≡ false → is_map m ≡ true
map-told m {a} e t = sym e ∙ not-false a t

-- ---- add

module _ (m : List ℕ) (first : ℕ) (keys shares : List ℕ) {a : Bool} (ea : a ≡ is_map m) where
  pub add-no-map : not a ≡ true → {y : Refusal} → refused_as y ≡ refusal 21 → left (refused_as y) m ≡ add_of m first keys shares
  unfolding add_of
  add-no-map t g = rw (← ea, not-true a t, g)

  module _ (ta : not a ≡ false) {b : Bool} (eb : b ≡ leb 1536 (length keys) && leb 128 (length shares)) where
    pub add-short : not b ≡ true → {y : Refusal} → refused_as y ≡ refusal 15 → left (refused_as y) m ≡ add_of m first keys shares
    unfolding add_of enough
    add-short t g = rw (← ea, not-false a ta, ← eb, not-true b t, g)

    module _ (tb : not b ≡ false) {c : Bool} (ec : c ≡ all fit_output (outputs_given 128 keys shares)) where
      pub add-unfit : not c ≡ true → {y : Refusal} → refused_as y ≡ refusal 25 → left (refused_as y) m ≡ add_of m first keys shares
      unfolding add_of enough
      add-unfit t g = rw (← ea, not-false a ta, ← eb, not-false b tb, ← ec, not-true c t, g)

      pub add_fit : not c ≡ false → {l : Left} → l ≡ append_of m (version first (kept_given keys shares)) → l ≡ add_of m first keys shares
      unfolding add_of enough
      add_fit t g = rw (← ea, not-false a ta, ← eb, not-false b tb, ← ec, not-false c t) g

-- ---- go back

module _ (m : List ℕ) (k first : ℕ) {a : Bool} (ea : a ≡ is_map m) where
  pub back-no-map : not a ≡ true → {y : Refusal} → refused_as y ≡ refusal 21 → left (refused_as y) m ≡ back_of m k first
  unfolding back_of
  back-no-map t g = rw (← ea, not-true a t, g)

  module _ (ta : not a ≡ false) where
    pub back-zero : k ≡ 0 → {y : Refusal} → refused_as y ≡ refusal 14 → left (refused_as y) m ≡ back_of m k first
    unfolding back_of is_number
    back-zero h g = rw (← ea, not-false a ta, lt-leb 1 k (omega arith), g)

    module _ (h : k ≡ 0 → ⊥) {n : ℕ} (e : n ≡ count_in m) where
      pub back-past : n < k → {y : Refusal} → refused_as y ≡ refusal 14 → left (refused_as y) m ≡ back_of m k first
      unfolding back_of is_number
      back-past l g = rw (← ea, not-false a ta, le-leb 1 k (omega arith), lt-leb k (length (versions_in m)) (omega (arith, count-versions m)), g)

      pub back-there : k ≤ n → {j : ℕ} → j ≡ k - 1 → {l : Left} → l ≡ append_of m (version first (outputs_of (versions_in m) (j + 1))) → l ≡ back_of m k first
      unfolding back_of is_number
      back-there l {j} f g =
          let z : j + 1 ≡ k = omega arith in
          rw (← ea, not-false a ta, le-leb 1 k (omega arith), le-leb k (length (versions_in m)) (omega (arith, count-versions m)), ← z) g

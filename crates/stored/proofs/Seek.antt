-- The slot of a key: what is found holds it, what holds it alone is found, and where slots hold the same keys the same slot is found. Assumes nothing.
use Prim.Native.Nat.{ℕ, zero, suc, ◌+◌, ◌≤◌, ◌<◌}
use mathlib.Core.Path.{◌≡◌, refl, sym, ap, ap₂, ◌∙◌}
use mathlib.Core.Bool.{Bool, true, false, cond, ◌&&◌, true≢false}
use mathlib.Core.List.{List}
use native.Mathlib.Omega.{arith}
use borrow.Author.Tests.{ltb-true, ltb-false, le-ltb}
use Rattle.ground.proofs.Tests.{and-true}
use Rattle.ground.proofs.Cases.{by, same_or, split}
use Rattle.entries.specs.Keys.{Key, capital_key, same_key}
use Rattle.store.specs.Used.{used}
use Rattle.store.specs.Store.{slot_key}
use Rattle.store.specs.Calls.{seek_from, seek, is_there}
use Rattle.store.specs.declared.Header.{Header}
use Rattle.stored.proofs.Keys.{key-is}

-- slot i is used and has the key
abbrev pub has : List ℕ → Header → Key → ℕ → Bool
has m h x i = used h.map i && same_key (capital_key x) (slot_key m h i)

module _ (m : List ℕ) (h : Header) (x : Key) where
  -- what is found
  record Found (i k j : ℕ) : Type 0 where
    low : i ≤ j
    high : j ≤ i + k
    holds : j < i + k → has m h x j ≡ true
    none : (t : ℕ) → i ≤ t → t < j → has m h x t ≡ false

  found_from : (i k : ℕ) → Found i k (seek_from m h x i k)
  unfolding seek_from
  found_from i zero = record { low = omega arith; high = omega arith; holds = λ l. absurd (let z : ⊥ = omega arith in z); none = λ t g l. absurd (let z : ⊥ = omega arith in z) }
  found_from i (suc k) =
      let r = found_from (suc i) k in
      by (has m h x i)
      (λ t. rw t (record { low = omega arith; high = omega arith; holds = λ l. t; none = λ j g l. absurd (let z : ⊥ = omega arith in z) }))
      (λ t. rw t
      (record {
        low = omega (arith, r.low);
        high = omega (arith, r.high);
        holds = λ l. r.holds (omega arith);
        none = λ j g l. same_or i j (λ q. ap (has m h x) (sym q) ∙ t) (λ q. r.none j (omega arith) l);
      }))

  abbrev n : ℕ
  n = h.slots

  found : Found 0 n (seek m h x)
  unfolding seek
  found = found_from 0 n

  -- the slot that is found where the key is there
  pub record There : Type 0 where
    pub within : seek m h x < n
    pub uses : used h.map (seek m h x) ≡ true
    pub own : slot_key m h (seek m h x) ≡ capital_key x

  pub there : is_there m h x ≡ true → There
  there t =
      let l : seek m h x < n = ltb-true (seek m h x) n t in
      let w = and-true (used h.map (seek m h x)) _ (found.holds (omega arith)) in
      record { within = l; uses = w.0; own = sym (key-is (capital_key x) (slot_key m h (seek m h x)) w.1) }

  -- and where it is not, none has it
  pub absent : is_there m h x ≡ false → (t : ℕ) → t < n → has m h x t ≡ false
  absent e t l = found.none t (omega arith) (omega (arith, ltb-false (seek m h x) n e))

  pub absent-last : is_there m h x ≡ false → seek m h x ≡ n
  absent-last e = omega (arith, ltb-false (seek m h x) n e, found.high)

  -- the one slot that has the key is found
  pub seek_is : (j : ℕ) → j < n → has m h x j ≡ true → ((t : ℕ) → t < n → has m h x t ≡ true → t ≡ j) → seek m h x ≡ j
  seek_is j l t only =
      split j (seek m h x)
      (λ g. split (seek m h x) j (λ z. omega arith) (λ z. absurd (true≢false (sym t ∙ found.none j (omega arith) z))))
      (λ g. only (seek m h x) (omega arith) (found.holds (omega arith)))

  pub seek-none : ((t : ℕ) → t < n → has m h x t ≡ false) → is_there m h x ≡ false
  seek-none f = le-ltb (seek m h x) n (split n (seek m h x) (λ g. g) (λ g. absurd (true≢false (sym (found.holds (omega arith)) ∙ f (seek m h x) g))))

-- ---- two memories

module _ (m m' : List ℕ) (h h' : Header) (x : Key) where
  same_from : (i k : ℕ) → ((t : ℕ) → i ≤ t → t < i + k → has m' h' x t ≡ has m h x t) → seek_from m' h' x i k ≡ seek_from m h x i k
  unfolding seek_from
  same_from i zero f = refl
  same_from i (suc k) f =
      ap₂ (λ (b : Bool) (j : ℕ). cond b i j) (f i (omega arith) (omega arith)) (same_from (suc i) k (λ t g l. f t (omega arith) (omega arith)))

  pub seek-same : h'.slots ≡ h.slots → ((t : ℕ) → t < h.slots → has m' h' x t ≡ has m h x t) → seek m' h' x ≡ seek m h x
  unfolding seek
  seek-same e f = ap (seek_from m' h' x 0) e ∙ same_from 0 h.slots (λ t g l. f t (omega arith))

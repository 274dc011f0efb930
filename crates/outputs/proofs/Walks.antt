-- Entries one after the other, in lists that are handed in and in memory: what is left of them at an entry, and a test of all. Assumes nothing.
use Prim.Native.Nat.{ℕ, zero, suc, ◌+◌, ◌-◌, ◌*◌, ◌≤◌, ◌<◌}
use mathlib.Core.Path.{◌≡◌, refl, ap}
use mathlib.Core.Bool.{Bool, true, false, not}
use mathlib.Core.List.{List, [], ◌∷◌}
use native.Mathlib.Nat.{add-zero}
use native.Mathlib.Omega.{arith}
use borrow.Author.Tests.{not-true, not-false}
use lib.ListN.{length, take, drop, get_or}
use lib.Seq.{take-take, drop-drop, get_or-drop}
use Rattle.ground.specs.Lists.{all}
use Rattle.ground.proofs.Lists.{rest}
use Rattle.ground.proofs.Spans.{part_cut, drop-take}
use Rattle.entries.specs.Little.{number, number_at}
use Rattle.tenants.specs.Outputs.{Output, output, fit_output, is_kept, outputs_given, outputs_in}

-- the entries from i on
abbrev pub given_from : List ℕ → List ℕ → ℕ → List Output
given_from keys shares i = outputs_given (128 - i) (drop (12 * i) keys) (drop i shares)

abbrev pub entries_from : List ℕ → ℕ → List Output
entries_from b i = outputs_in (128 - i) (drop (14 * i) b)

pub given-here : (keys shares : List ℕ) (i : ℕ) → i < 128 → given_from keys shares i ≡ output (take 12 (drop (12 * i) keys)) (get_or shares i 0) ∷ given_from keys shares (i + 1)
unfolding outputs_given
given-here keys shares i h =
    let n : 128 - i ≡ suc (128 - (i + 1)) = omega arith in
    let a : 12 * i + 12 ≡ 12 * (i + 1) = omega arith in
    rw (n, drop-drop 12 (12 * i) keys, a, drop-drop 1 i shares, get_or-drop i shares 0 0, add-zero i)

pub given-none : (keys shares : List ℕ) (i : ℕ) → 128 ≤ i → given_from keys shares i ≡ []
unfolding outputs_given
given-none keys shares i h = let n : 128 - i ≡ 0 = omega arith in rw n

pub given-long : (n : ℕ) (keys shares : List ℕ) → length (outputs_given n keys shares) ≡ n
unfolding outputs_given
given-long zero keys shares = refl
given-long (suc n) keys shares = ap suc (given-long n (drop 12 keys) (drop 1 shares))

pub entry_here : (b : List ℕ) (i : ℕ) → i < 128 → entries_from b i ≡ output (take 12 (drop (14 * i) b)) (number_at (drop (14 * i) b) 12 2) ∷ entries_from b (i + 1)
unfolding outputs_in
entry_here b i h =
    let n : 128 - i ≡ suc (128 - (i + 1)) = omega arith in
    let a : 14 * i + 14 ≡ 14 * (i + 1) = omega arith in
    rw (n, drop-drop 14 (14 * i) b, a)

pub entries_none : (b : List ℕ) (i : ℕ) → 128 ≤ i → entries_from b i ≡ []
unfolding outputs_in
entries_none b i h = let n : 128 - i ≡ 0 = omega arith in rw n

-- ---- a test of all, entry by entry

-- of the entries l, from the first on, those before i passed
pub record Asked (p : Output → Bool) (l : ℕ → List Output) (i : ℕ) : Type 0 where
  pub within : i ≤ 128
  pub same : all p (l i) ≡ all p (l 0)

module _ (p : Output → Bool) (l : ℕ → List Output) where
  asked-none : Asked p l 0
  asked-none = record { within = omega arith; same = refl }

  module _ (i : ℕ) (x : Output) (h : i < 128) (e : l i ≡ x ∷ l (i + 1)) {b : Bool} (q : b ≡ p x) (r : Asked p l i) where
    asked-more : not b ≡ false → Asked p l (i + 1)
    asked-more t = record { within = omega arith; same = rw (e, ← q, not-false b t) at r.same }

    asked-stops : not b ≡ true → false ≡ all p (l 0)
    asked-stops t = rw (e, ← q, not-true b t) at r.same

  asked-all : (i : ℕ) → l i ≡ [] → Asked p l i → true ≡ all p (l 0)
  asked-all i e r = rw e at r.same

-- ---- in lists that are handed in

module _ (keys shares : List ℕ) where
  pub fit_none : Asked fit_output (given_from keys shares) 0
  fit_none = asked-none fit_output (given_from keys shares)

  -- q is what the code learned of the entry at i
  module _ (i : ℕ) (h : i < 128) {b : Bool} (q : b ≡ fit_output (output (take (12 * i + 12 - 12 * i) (drop (12 * i) keys)) (get_or shares i 0)))
      (r : Asked fit_output (given_from keys shares) i) where
    fit-here : b ≡ fit_output (output (take 12 (drop (12 * i) keys)) (get_or shares i 0))
    fit-here = rw (part_cut (12 * i) 12 (drop (12 * i) keys)) at q

    pub fit-more : not b ≡ false → Asked fit_output (given_from keys shares) (i + 1)
    fit-more t = asked-more fit_output (given_from keys shares) i _ h (given-here keys shares i h) fit-here r t

    pub fit-stops : not b ≡ true → false ≡ all fit_output (outputs_given 128 keys shares)
    fit-stops t = asked-stops fit_output (given_from keys shares) i _ h (given-here keys shares i h) fit-here r t

  pub fit_all : (i : ℕ) → 128 ≤ i → Asked fit_output (given_from keys shares) i → true ≡ all fit_output (outputs_given 128 keys shares)
  fit_all i h r = asked-all fit_output (given_from keys shares) i (given-none keys shares i h) r

-- ---- in memory

-- the key and the share of an entry's fourteen bytes
pub entry_key : (b : List ℕ) (i : ℕ) → take 12 (take (14 * i + 14 - 14 * i) (drop (14 * i) b)) ≡ take 12 (drop (14 * i) b)
entry_key b i = rw (part_cut (14 * i) 14 (drop (14 * i) b)) (take-take 12 14 (drop (14 * i) b) (omega arith))

pub entry-share : (b : List ℕ) (i : ℕ) → number_at (take (14 * i + 14 - 14 * i) (drop (14 * i) b)) 12 2 ≡ number_at (drop (14 * i) b) 12 2
entry-share b i =
    rw (part_cut (14 * i) 14 (drop (14 * i) b), drop-take 12 14 (drop (14 * i) b) (omega arith))
    (ap number (take-take 2 2 (drop 12 (drop (14 * i) b)) (omega arith)))

module _ (m : List ℕ) where
  pub kept-none : Asked is_kept (entries_from m) 0
  kept-none = asked-none is_kept (entries_from m)

  module _ (i : ℕ) (h : i < 128) {b : Bool}
      (q : b ≡ is_kept (output (take 12 (take (14 * i + 14 - 14 * i) (drop (14 * i) m))) (number_at (take (14 * i + 14 - 14 * i) (drop (14 * i) m)) 12 2)))
      (r : Asked is_kept (entries_from m) i) where
    kept_here : b ≡ is_kept (output (take 12 (drop (14 * i) m)) (number_at (drop (14 * i) m) 12 2))
    kept_here = rw (entry_key m i, entry-share m i) at q

    pub kept_more : not b ≡ false → Asked is_kept (entries_from m) (i + 1)
    kept_more t = asked-more is_kept (entries_from m) i _ h (entry_here m i h) kept_here r t

    pub kept-stops : not b ≡ true → false ≡ all is_kept (outputs_in 128 m)
    kept-stops t = asked-stops is_kept (entries_from m) i _ h (entry_here m i h) kept_here r t

  pub kept-each : (i : ℕ) → 128 ≤ i → Asked is_kept (entries_from m) i → true ≡ all is_kept (outputs_in 128 m)
  kept-each i h r = asked-all is_kept (entries_from m) i (entries_none m i h) r

-- the two bytes of a share
pub two_bytes : (e : List ℕ) → length e ≡ 14 → {x y : ℕ} → x ≡ get_or e 12 0 → y ≡ get_or e 13 0 → x + 256 * y ≡ number_at e 12 2
unfolding number
two_bytes e n p q = rw (p, q, rest e 12 (omega arith), rest e 13 (omega arith)) (omega arith)

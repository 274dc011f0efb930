-- The longest runs of a list of marks: they are a cover of it, and no cover has fewer runs, or fewer bytes where each run costs something for
-- where it starts, for where it ends and for its mark. Over any marks. Assumes nothing.
use Prim.Native.Nat.{ℕ, zero, suc, ◌+◌, ◌-◌, ◌≤◌, ◌<◌}
use mathlib.Core.Path.{◌≡◌, refl, sym, ap, ◌∙◌, subst}
use mathlib.Core.Bool.{Bool, true, false}
use mathlib.Core.List.{List, [], ◌∷◌, ◌++◌, append_assoc, append-nil}
use native.Mathlib.Nat.{add_assoc}
use native.Mathlib.Omega.{arith}
use lib.ListN.{length, replicate, replicate-append-replicate}
use lib.Dec.{leb}
use borrow.Author.Tests.{le-leb, leb-true}
use Rattle.ground.specs.Lists.{from}
use Rattle.ground.specs.Runs.{Run, run, spell, proper, glue, runs}
use Rattle.ground.proofs.Tests.{and-true}
use Rattle.ground.proofs.Cases.{by, both}
use Rattle.ground.proofs.From.{from_step, from_end}

-- what a cover costs that begins behind the first a places
unfoldable pub cost : {X : Type 0} → (ℕ → ℕ) → (ℕ → ℕ) → (X → ℕ) → ℕ → List (Run X) → ℕ
cost front back weight a [] = 0
cost front back weight a (run k m ∷ c) = front a + back (a + k) + weight m + cost front back weight (a + k) c

module _ {X : Type 0} (same : X → X → Bool) where
  -- every run of a cover, put before the longest runs of what is behind it
  norm : List (Run X) → List (Run X)
  norm [] = []
  norm (run k m ∷ c) = glue same k m (norm c)

  -- to glue is to have no more runs
  glue-fewer : (k : ℕ) (m : X) (c : List (Run X)) → length (glue same k m c) ≤ suc (length c)
  unfolding glue
  glue-fewer k m [] = omega arith
  glue-fewer k m (run j x ∷ c) = by (same m x) (λ e. rw e (omega arith)) (λ e. rw e (omega arith))

  norm-fewer : (c : List (Run X)) → length (norm c) ≤ length c
  unfolding norm
  norm-fewer [] = omega arith
  norm-fewer (run k m ∷ c) = omega (arith, glue-fewer k m (norm c), norm-fewer c)

  -- nor a higher cost
  module _ (front back : ℕ → ℕ) (weight : X → ℕ) where
    glue-lighter : (a k : ℕ) (m : X) (c : List (Run X)) → cost front back weight a (glue same k m c) ≤ cost front back weight a (run k m ∷ c)
    unfolding glue cost
    glue-lighter a k m [] = omega arith
    glue-lighter a k m (run j x ∷ c) =
        by (same m x)
        (λ e. rw e (omega (arith, ap (λ (i : ℕ). cost front back weight i c) (add_assoc a k j), ap back (add_assoc a k j))))
        (λ e. rw e (omega arith))

    norm-lighter : (a : ℕ) (c : List (Run X)) → cost front back weight a (norm c) ≤ cost front back weight a c
    unfolding norm cost
    norm-lighter a [] = omega arith
    norm-lighter a (run k m ∷ c) = omega (arith, glue-lighter a k m (norm c), norm-lighter (a + k) c)

  -- two runs of different marks stay apart
  pub glue-apart : (k : ℕ) (m x : X) (c : List (Run X)) → same m x ≡ false → glue same k m (glue same 1 x c) ≡ run k m ∷ glue same 1 x c
  unfolding glue
  glue-apart k m x [] e = rw e
  glue-apart k m x (run j y ∷ c) e = by (same x y) (λ q. rw (q, e)) (λ q. rw (q, e))

  -- ---- what is glued so are the longest runs of the marks

  module _ (itself : (m : X) → same m m ≡ true) where
    -- two runs of one mark are one
    pub glue-glue : (k j : ℕ) (m : X) (c : List (Run X)) → glue same k m (glue same j m c) ≡ glue same (k + j) m c
    unfolding glue
    glue-glue k j m [] = rw (itself m)
    glue-glue k j m (run i x ∷ c) =
        by (same m x)
        (λ e. rw (e, itself m) (ap (λ (n : ℕ). run n m ∷ c) (omega arith)))
        (λ e. rw (e, itself m))

    pub runs-glue : (k : ℕ) (m : X) (ms : List X) → runs same (replicate (suc k) m ++ ms) ≡ glue same (suc k) m (runs same ms)
    unfolding runs
    runs-glue zero m ms = refl
    runs-glue (suc k) m ms =
        let e : 1 + suc k ≡ suc (suc k) = omega arith in
        ap (glue same 1 m) (runs-glue k m ms) ∙ glue-glue 1 (suc k) m (runs same ms) ∙ ap (λ (i : ℕ). glue same i m (runs same ms)) e

    -- all alike: one run
    pub runs-alike : (k : ℕ) (m : X) → runs same (replicate (suc k) m) ≡ run (suc k) m ∷ []
    unfolding runs glue
    runs-alike k m = ap (runs same) (sym (append-nil (replicate (suc k) m))) ∙ runs-glue k m []

    norm-is : (c : List (Run X)) → proper c ≡ true → norm c ≡ runs same (spell c)
    unfolding norm spell proper runs
    norm-is [] p = refl
    norm-is (run zero m ∷ c) p = absurd (omega (arith, leb-true 1 0 (and-true (leb 1 0) (proper c) p).0))
    norm-is (run (suc k) m ∷ c) p = ap (glue same (suc k) m) (norm-is c (and-true (leb 1 (suc k)) (proper c) p).1) ∙ sym (runs-glue k m (spell c))

    -- ---- the theorems

    -- no cover that gives the same marks has fewer runs
    pub fewest : (c : List (Run X)) (ms : List X) → proper c ≡ true → spell c ≡ ms → length (runs same ms) ≤ length c
    fewest c ms p e = subst (λ (l : List X). length (runs same l) ≤ length c) e (subst (λ (l : List (Run X)). length l ≤ length c) (norm-is c p) (norm-fewer c))

    -- nor costs less
    pub lightest : (front back : ℕ → ℕ) (weight : X → ℕ) (a : ℕ) (c : List (Run X)) (ms : List X) → proper c ≡ true → spell c ≡ ms
        → cost front back weight a (runs same ms) ≤ cost front back weight a c
    lightest front back weight a c ms p e =
        subst (λ (l : List X). cost front back weight a (runs same l) ≤ cost front back weight a c) e
        (subst (λ (l : List (Run X)). cost front back weight a l ≤ cost front back weight a c) (norm-is c p) (norm-lighter front back weight a c))

  -- the longest runs are a cover of the marks
  glue-proper : (k : ℕ) (m : X) (c : List (Run X)) → 1 ≤ k → proper c ≡ true → proper (glue same k m c) ≡ true
  unfolding glue proper
  glue-proper k m [] h p = both (leb 1 k) true (le-leb 1 k h) refl
  glue-proper k m (run j x ∷ c) h p =
      by (same m x)
      (λ e. rw e (both (leb 1 (k + j)) (proper c) (le-leb 1 (k + j) (omega arith)) (and-true (leb 1 j) (proper c) p).1))
      (λ e. rw e (both (leb 1 k) (proper (run j x ∷ c)) (le-leb 1 k h) p))

  pub runs-proper : (ms : List X) → proper (runs same ms) ≡ true
  unfolding runs proper
  runs-proper [] = refl
  runs-proper (m ∷ ms) = glue-proper 1 m (runs same ms) (omega arith) (runs-proper ms)

  module _ (sound : (m x : X) → same m x ≡ true → m ≡ x) where
    glue-spell : (k : ℕ) (m : X) (c : List (Run X)) → spell (glue same k m c) ≡ replicate k m ++ spell c
    unfolding glue spell
    glue-spell k m [] = refl
    glue-spell k m (run j x ∷ c) =
        by (same m x)
        (λ e. rw e
        (ap (λ (l : List X). l ++ spell c) (sym (replicate-append-replicate k j m))
        ∙ append_assoc (replicate k m) (replicate j m) (spell c)
        ∙ ap (λ (y : X). replicate k m ++ (replicate j y ++ spell c)) (sound m x e)))
        (λ e. rw e)

    pub spell-runs : (ms : List X) → spell (runs same ms) ≡ ms
    unfolding runs spell
    spell-runs [] = refl
    spell-runs (m ∷ ms) = glue-spell 1 m (runs same ms) ∙ ap (λ (l : List X). m ∷ l) (spell-runs ms)

    -- ---- the run that begins at i of what f gives from i up to n, as far as j

    module _ (itself : (m : X) → same m m ≡ true) (f : ℕ → X) (n i : ℕ) where
      -- the marks from i to j are one run
      unfoldable pub SoFar : ℕ → Type 0
      SoFar j = runs same (from f i (n - i)) ≡ glue same (j - i) (f i) (runs same (from f j (n - j)))

      pub run-start : i < n → SoFar (i + 1)
      unfolding SoFar runs
      run-start h =
          let e : 1 ≡ (i + 1) - i = omega arith in
          ap (runs same) (from_step f i n h) ∙ ap (λ (k : ℕ). glue same k (f i) (runs same (from f (i + 1) (n - (i + 1))))) e

      pub run_more : (j : ℕ) → i < j → j < n → same (f i) (f j) ≡ true → SoFar j → SoFar (j + 1)
      unfolding SoFar runs
      run_more j a b s h =
          let rest = runs same (from f (j + 1) (n - (j + 1))) in
          let e : (j - i) + 1 ≡ (j + 1) - i = omega arith in
          h
          ∙ ap (λ (l : List X). glue same (j - i) (f i) (runs same l)) (from_step f j n b)
          ∙ ap (λ (m : X). glue same (j - i) (f i) (glue same 1 m rest)) (sym (sound (f i) (f j) s))
          ∙ glue-glue itself (j - i) 1 (f i) rest
          ∙ ap (λ (k : ℕ). glue same k (f i) rest) e

      pub run-stop : (j : ℕ) → i < j → j < n → same (f i) (f j) ≡ false → SoFar j
          → runs same (from f i (n - i)) ≡ run (j - i) (f i) ∷ runs same (from f j (n - j))
      unfolding SoFar runs
      run-stop j a b s h =
          let rest = runs same (from f (j + 1) (n - (j + 1))) in
          h
          ∙ ap (λ (l : List X). glue same (j - i) (f i) (runs same l)) (from_step f j n b)
          ∙ glue-apart (j - i) (f i) (f j) rest s
          ∙ ap (λ (l : List X). run (j - i) (f i) ∷ runs same l) (sym (from_step f j n b))

      pub run-last : (j : ℕ) → i < j → n ≤ j → SoFar j
          → runs same (from f i (n - i)) ≡ run (j - i) (f i) ∷ runs same (from f j (n - j))
      unfolding SoFar runs glue
      run-last j a b h =
          let z : from f j (n - j) ≡ [] = from_end f j n b in
          h ∙ ap (λ (l : List X). glue same (j - i) (f i) (runs same l)) z ∙ ap (λ (l : List X). run (j - i) (f i) ∷ runs same l) (sym z)

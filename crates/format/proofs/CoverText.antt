-- The 400s of a day's longest runs: they say the day's marks, and no other cover of the same marks has fewer records or fewer bytes. There is one
-- run exactly where all marks are alike. Assumes nothing.
use Prim.Native.Nat.{ℕ, suc, ◌+◌, ◌≤◌}
use mathlib.Core.Path.{◌≡◌, refl, sym, ap, ◌∙◌}
use mathlib.Core.Bool.{true}
use mathlib.Core.List.{List, [], ◌∷◌, append-nil}
use native.Mathlib.Omega.{arith}
use lib.ListN.{length, replicate, length-append, length-replicate}
use lib.Dec.{eqb}
use borrow.Author.Tests.{eqb-true}
use Rattle.ground.specs.Digits.{dec}
use Rattle.ground.specs.Runs.{Run, run, spell, proper}
use Rattle.ground.proofs.Runs.{cost, fewest, lightest, runs-alike, runs-proper, spell-runs}
use Rattle.format.specs.Quality.{Mark, same_mark}
use Rattle.format.specs.Block.{mark_text, run_text, cover_text, runs_in, is_uniform}
use Rattle.format.proofs.MarkText.{mark-itself, mark-sound}

-- ---- how long they are

pub length_run : (a e : ℕ) (m : Mark) → length (run_text a e m) ≡ length (dec (a + 1)) + length (dec e) + (length (mark_text m) + 8)
unfolding run_text
length_run a e m = simp length-append (omega arith)

front : ℕ → ℕ
front a = length (dec (a + 1))

back : ℕ → ℕ
back e = length (dec e)

weight : Mark → ℕ
weight m = length (mark_text m) + 8

cover-cost : (a : ℕ) (c : List (Run Mark)) → length (cover_text a c) ≡ cost front back weight a c
unfolding cover_text cost front back weight
cover-cost a [] = refl
cover-cost a (run k m ∷ c) = omega (arith, length-append (run_text a (a + k) m) (cover_text (a + k) c), length_run a (a + k) m, cover-cost (a + k) c)

-- ---- the theorems

pub runs-fewest : (c : List (Run Mark)) (ms : List Mark) → proper c ≡ true → spell c ≡ ms → length (runs_in ms) ≤ length c
unfolding runs_in
runs-fewest c ms p e = fewest same_mark mark-itself c ms p e

pub cover-shortest : (a : ℕ) (c : List (Run Mark)) (ms : List Mark) → proper c ≡ true → spell c ≡ ms → length (cover_text a (runs_in ms)) ≤ length (cover_text a c)
unfolding runs_in
cover-shortest a c ms p e =
    omega (arith, cover-cost a (runs_in ms), cover-cost a c, lightest same_mark mark-itself front back weight a c ms p e)

pub runs-spell : (ms : List Mark) → spell (runs_in ms) ≡ ms
unfolding runs_in
runs-spell ms = spell-runs same_mark mark-sound ms

pub runs-are-proper : (ms : List Mark) → proper (runs_in ms) ≡ true
unfolding runs_in
runs-are-proper ms = runs-proper same_mark ms

-- ---- all marks alike

pub uniform-is : (k : ℕ) (m : Mark) → is_uniform (replicate (suc k) m) ≡ true
unfolding is_uniform runs_in
uniform-is k m = ap (λ (c : List (Run Mark)). eqb (length c) 1) (runs-alike same_mark mark-itself k m)

-- of a uniform day's marks, each is the same
pub record Uniform (ms : List Mark) : Type 0 where
  pub mark : Mark
  pub alike : ms ≡ replicate (length ms) mark

one-run : (c : List (Run Mark)) (ms : List Mark) → spell c ≡ ms → length c ≡ 1 → Uniform ms
unfolding spell
one-run [] ms s l = absurd (omega arith)
one-run (run k m ∷ []) ms s l =
    let e : replicate k m ≡ ms = sym (append-nil (replicate k m)) ∙ s in
    record { mark = m; alike = sym e ∙ ap (λ (n : ℕ). replicate n m) (sym (length-replicate k m) ∙ ap length e) }
one-run (run k m ∷ r ∷ c) ms s l = absurd (omega arith)

pub uniform : (ms : List Mark) → is_uniform ms ≡ true → Uniform ms
unfolding is_uniform
uniform ms e = one-run (runs_in ms) ms (runs-spell ms) (eqb-true (length (runs_in ms)) 1 e)

-- What may come next: facts of all ten states, each by one look at them. Assumes nothing.
use Prim.Native.Nat.{ℕ, suc}
use mathlib.Core.Path.{◌≡◌, sym, ◌∙◌}
use mathlib.Core.Bool.{Bool, true, false, false≢true, not, ◌&&◌, ◌||◌}
use mathlib.Core.List.{List, [], ◌∷◌}
use native.Mathlib.Omega.{arith}
use lib.ListN.{length}
use lib.Dec.{eqb}
use borrow.Author.Tests.{eqb-true, ne_eqb, not-true}
use Rattle.ground.specs.Lists.{all}
use Rattle.ground.proofs.Tests.{and-true, or-false}
use Rattle.format.specs.Order.{Expected, the100, first200, first300, under_day, under_varied, behind500, first250, behind250, behind550, the_end, kinds_at, is_one_of, may_come, is_end}

abbrev pub states : List Expected
states = the100 ∷ first200 ∷ first300 ∷ under_day ∷ under_varied ∷ behind500 ∷ first250 ∷ behind250 ∷ behind550 ∷ the_end ∷ []

-- what every state passes
pub every : (f : Expected → Bool) → all f states ≡ true → (x : Expected) → f x ≡ true
every f h x =
    let a = and-true (f the100) _ h in
    let b = and-true (f first200) _ a.1 in
    let c = and-true (f first300) _ b.1 in
    let d = and-true (f under_day) _ c.1 in
    let e = and-true (f under_varied) _ d.1 in
    let g = and-true (f behind500) _ e.1 in
    let i = and-true (f first250) _ g.1 in
    let j = and-true (f behind250) _ i.1 in
    let k = and-true (f behind550) _ j.1 in
    let l = and-true (f the_end) _ k.1 in
    elim x as (λ k. f k ≡ true) [
      | the100 ↦ a.0
      | first200 ↦ b.0
      | first300 ↦ c.0
      | under_day ↦ d.0
      | under_varied ↦ e.0
      | behind500 ↦ g.0
      | first250 ↦ i.0
      | behind250 ↦ j.0
      | behind550 ↦ k.0
      | the_end ↦ l.0
    ]

-- what passes one test passes the other
pub implied : (f g : Expected → Bool) → all (λ x. not (f x) || g x) states ≡ true → (x : Expected) → f x ≡ true → g x ≡ true
implied f g h x e = let w : (not (f x) || g x) ≡ true = every (λ x. not (f x) || g x) h x in rw e at w

-- no state passes both
pub excluded : {A : Type 0} (f g : Expected → Bool) → all (λ x. not (f x && g x)) states ≡ true → (x : Expected) → f x ≡ true → g x ≡ true → A
excluded f g h x e k = let w : not (f x && g x) ≡ true = every (λ x. not (f x && g x)) h x in absurd (false≢true (rw (e, k) at w))

-- where one kind only may come
pub only : (x : Expected) (j k : ℕ) → kinds_at x ≡ j ∷ [] → may_come x k ≡ true → k ≡ j
only x j k e h = let w : (eqb k j || false) ≡ true = rw e at h in eqb-true k j (sym (or-false (eqb k j)) ∙ w)

-- a number that is no kind may come nowhere
pub no_kind : (x : Expected) (k : ℕ) → eqb k 100 ≡ false → eqb k 200 ≡ false → eqb k 300 ≡ false → eqb k 400 ≡ false → eqb k 500 ≡ false → eqb k 250 ≡ false
    → eqb k 550 ≡ false → eqb k 900 ≡ false → may_come x k ≡ false
no_kind x k a b c d e f g h = not-true _ (every (λ x. not (may_come x k)) (rw (a, b, c, d, e, f, g, h)) x)

-- behind the 900 no record may come
pub not-ended : (x : Expected) (k : ℕ) → may_come x k ≡ true → is_end x ≡ false
not-ended x k h = go (kinds_at x) h
  where
    go : (js : List ℕ) → is_one_of k js ≡ true → eqb (length js) 0 ≡ false
    go [] h = absurd (false≢true h)
    go (j ∷ js) h = ne_eqb (suc (length js)) 0 (λ z. omega arith)

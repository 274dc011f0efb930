-- What the day's 400s have in common, as a return of the code has it. Assumes nothing.
use Prim.Native.Nat.{ℕ, ◌+◌, ◌≤◌}
use mathlib.Core.Path.{◌≡◌, refl, ◌∙◌}
use mathlib.Core.List.{List}
use mathlib.Core.Bool.{Bool, true, false, cond, not}
use native.Mathlib.Omega.{arith}
use lib.Dec.{eqb, leb}
use borrow.Author.Tests.{eq-eqb, ne_eqb, lt-leb, not-true, not-false}
use Rattle.ground.proofs.Cases.{by, same_or}
use Rattle.format.specs.Quality.{Mark, same_mark}
use Rattle.format.specs.Order.{all_have, they_differ, share_with, are_alike}
use Rattle.format.specs.declared.Tag.{Tag}
use Rattle.order.specs.declared.State.{State}
use Rattle.follows.specs.Tests.{mark_of}
use Rattle.order.specs.State.{shared_as, seen, alike_to}

-- ---- with this mark, all of the day's 400s have one

picked : (b : Bool) (m : Mark) → b ≡ are_alike (cond b (all_have m) they_differ)
picked true m = refl
picked false m = refl

module _ (file : List ℕ) (st : State) (m : Mark) where
  pub alike-first : st.next ≡ 1 → true ≡ alike_to (seen file st) m
  unfolding alike_to
  alike-first h = rw h

  pub alike-not : 1 ≤ st.next → (st.next ≡ 1 → ⊥) → not st.alike ≡ true → false ≡ alike_to (seen file st) m
  unfolding alike_to
  alike-not l h g = rw (lt-leb st.next 1 (omega arith), not-true st.alike g)

  pub alike-still : {b : Bool} → 1 ≤ st.next → (st.next ≡ 1 → ⊥) → not st.alike ≡ false → b ≡ same_mark (mark_of file st.mark) m → b ≡ alike_to (seen file st) m
  unfolding alike_to
  alike-still l h g e = rw (lt-leb st.next 1 (omega arith), not-false st.alike g) (e ∙ picked (same_mark (mark_of file st.mark) m) (mark_of file st.mark))

-- what they have in common behind the 400 of the mark t that ends at the interval to
pub shared-on : (file : List ℕ) (next to : ℕ) (t u m : Tag) (alike a : Bool) → 1 ≤ next → 1 ≤ to → m ≡ cond (eqb next 1) t u
    → a ≡ are_alike (share_with (shared_as file next u alike) (mark_of file t)) → shared_as file (to + 1) m a ≡ share_with (shared_as file next u alike) (mark_of file t)
shared-on file next to t u m alike a h k em ea =
    let l : leb (to + 1) 1 ≡ false = lt-leb (to + 1) 1 (omega arith) in
    same_or next 1
    (λ e.
    let m₁ : m ≡ t = rw (eq-eqb _ _ e) at em in
    let a₁ : a ≡ true = rw e at ea in
    rw (l, m₁, a₁, e))
    (λ n.
    let m₁ : m ≡ u = rw (ne_eqb _ _ n) at em in
    let o : leb next 1 ≡ false = lt-leb next 1 (omega arith) in
    by alike
    (λ y. by (same_mark (mark_of file u) (mark_of file t))
    (λ s. let a₁ : a ≡ true = (rw (o, y, s) at ea) in rw (l, m₁, a₁, o, y, s))
    (λ s. let a₁ : a ≡ false = (rw (o, y, s) at ea) in rw (l, m₁, a₁, o, y, s)))
    (λ y. let a₁ : a ≡ false = (rw (o, y) at ea) in rw (l, m₁, a₁, o, y)))

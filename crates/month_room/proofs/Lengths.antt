-- The shortest of some lengths. Assumes nothing.
use Prim.Native.Nat.{ℕ, ◌≤◌, ◌<◌}
use mathlib.Core.Path.{◌≡◌, sym}
use mathlib.Core.Bool.{◌&&◌}
use native.Mathlib.Omega.{arith}
use lib.Dec.{leb}
use borrow.Author.Tests.{le-leb, lt-leb}
use Rattle.ground.proofs.Cases.{split}
use Rattle.ground.proofs.Tests.{and-false}
use Rattle.format.specs.Day.{enough_for}

pub first-shorter : (a b : ℕ) → a < b → (n : ℕ) → leb n a ≡ (leb n a && leb n b)
first-shorter a b h n = split n a (λ l. rw (le-leb n a l, le-leb n b (omega arith))) (λ l. rw (lt-leb n a l))

pub other-shorter : (a b : ℕ) → b ≤ a → (n : ℕ) → leb n b ≡ (leb n a && leb n b)
other-shorter a b h n = split n b (λ l. rw (le-leb n b l, le-leb n a (omega arith))) (λ l. rw (lt-leb n b l) (sym (and-false (leb n a))))

pub shortest-is : (v f m r s l a b c d x : ℕ)
    → ((n : ℕ) → leb n a ≡ (leb n v && leb n f)) → ((n : ℕ) → leb n b ≡ (leb n a && leb n m)) → ((n : ℕ) → leb n c ≡ (leb n b && leb n r))
    → ((n : ℕ) → leb n d ≡ (leb n c && leb n s)) → ((n : ℕ) → leb n x ≡ (leb n d && leb n l)) → (n : ℕ) → enough_for n v f m r s l ≡ leb n x
unfolding enough_for
shortest-is v f m r s l a b c d x ha hb hc hd hx n = rw (hx n, hd n, hc n, hb n, ha n)

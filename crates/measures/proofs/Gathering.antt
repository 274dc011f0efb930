-- The first n elements of a list gathered: the largest of them, and how many are a letter. Assumes nothing.
use Prim.Native.Nat.{ℕ, ◌+◌, ◌≤◌, min, max}
use mathlib.Core.Path.{◌≡◌, refl, sym, ap, ◌∙◌}
use mathlib.Core.Bool.{cond}
use mathlib.Core.List.{List, [], ◌∷◌}
use native.Mathlib.Omega.{arith}
use borrow.Author.Tests.{le-ltb, lt-ltb}
use lib.ListN.{length, take}
use lib.Seq.{take_all}
use lib.Dec.{eqb}
use Rattle.std.specs.List.{fold, count_by}
use Rattle.std.proofs.lemmas.List.{take_min}
use Rattle.std.proofs.lemmas.List.Recursion.{is_count_by}
use Rattle.ground.proofs.Cases.{split, by}
use Rattle.measures.specs.Axis.{larger, largest_of, most_of}
use Rattle.measures.specs.Counts.{one, count_of, counts_of}

-- k is as many of the first n as there are, and all of them were gathered
first-all : (list : List ℕ) (n k i : ℕ) → k ≡ min n (length list) → length (take k list) ≤ i → take i (take k list) ≡ take n list
first-all list n k i e h = take_all i (take k list) h ∙ ap (λ (z : ℕ). take z list) e ∙ take_min n list

-- ---- the largest

larger-max : (m x : ℕ) → max m x ≡ larger m x
unfolding larger
larger-max m x = split x m (λ h. rw (le-ltb m x h) (omega arith)) (λ h. rw (lt-ltb m x h) (omega arith))

largest-fold : (m : ℕ) (xs : List ℕ) → fold (λ (y x : ℕ). max y x) m xs ≡ largest_of m xs
unfolding largest_of
largest-fold m [] = refl
largest-fold m (x ∷ xs) = ap (λ (z : ℕ). fold (λ (y x : ℕ). max y x) z xs) (larger-max m x) ∙ largest-fold (larger m x) xs

pub largest-is : (values : List ℕ) (n k i m : ℕ) → k ≡ min n (length values) → length (take k values) ≤ i
    → m ≡ fold (λ (y x : ℕ). max y x) 0 (take i (take k values)) → m ≡ most_of values n
unfolding most_of
largest-is values n k i m e h q = q ∙ ap (fold (λ (y x : ℕ). max y x) 0) (first-all values n k i e h) ∙ largest-fold 0 (take n values)

-- ---- how many are a letter

count-more : (x b : ℕ) (xs : List ℕ) → count_of x (b ∷ xs) ≡ cond (eqb b x) (1 + count_of x xs) (count_of x xs)
unfolding count_of one
count-more x b xs = by (eqb b x) (λ t. rw t) (λ f. rw f (omega arith))

pub count-is : (flags : List ℕ) (n k i x found : ℕ) → k ≡ min n (length flags) → length (take k flags) ≤ i
    → found ≡ count_by (λ (b : ℕ). eqb b x) (take i (take k flags)) → found ≡ count_of x (take n flags)
unfolding count_of
count-is flags n k i x found e h q =
    q
    ∙ ap (count_by (λ (b : ℕ). eqb b x)) (first-all flags n k i e h)
    ∙ sym (is_count_by (count_of x) (λ (b : ℕ). eqb b x) refl (λ b ys. count-more x b ys) (take n flags))

pub counts-are : (flags : List ℕ) (n : ℕ) {a e f s z : ℕ} → a ≡ count_of 65 (take n flags) → e ≡ count_of 69 (take n flags) → f ≡ count_of 70 (take n flags)
    → s ≡ count_of 83 (take n flags) → z ≡ count_of 78 (take n flags)
    → record { actual = a; estimated = e; final_substituted = f; substituted = s; null = z } ≡ counts_of flags n
unfolding counts_of
counts-are flags n ha he hf hs hz = rw (ha, he, hf, hs, hz)

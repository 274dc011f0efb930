-- A day is written exactly where nothing is wrong with what was handed in and the block fits into the room; and what is refused for being unfit, or for its
-- room, no accepted block would say in that room. Assumes nothing.
use Prim.Native.Nat.{ℕ, ◌≤◌, ◌<◌}
use mathlib.Core.Path.{◌≡◌, sym, ap, ◌∙◌}
use mathlib.Core.Logic.{◌↔◌}
use mathlib.Core.Bool.{true, false, true≢false}
use mathlib.Core.List.{List, [], ◌∷◌}
use native.Mathlib.Omega.{arith}
use lib.ListN.{length}
use lib.Dec.{leb}
use borrow.Author.Tests.{le-leb, leb-true, leb-false}
use Rattle.ground.proofs.Cases.{by}
use Rattle.format.specs.Numbers.{is_length}
use Rattle.format.specs.Answers.{Answer, accepted, refused, refusal}
use Rattle.format.specs.Block.{Given, intervals_given, day_given, fit_day, fit_given, block_of, records_of, enough, write_of}
use Rattle.format.proofs.Numbers.{intervals-some}
use Rattle.shortest.specs.Writer.{inside, Writable, Because, length-unknown, list-short, outside, unsayable, no_room}
use Rattle.shortest.proofs.Least.{no_longer}
use Rattle.shortest.proofs.Said.{fit-said}

module _ (g : Given) (room : ℕ) where
  abbrev done : Answer
  done = accepted (length (block_of (day_given g)) ∷ records_of (day_given g) ∷ [])

  writes : Writable g → length (block_of (day_given g)) ≤ room → write_of g room ≡ done
  unfolding write_of
  writes w h = rw (w.length-known, w.lists-long, w.fit, le-leb _ _ h)

  -- the four tests, in their order
  data Outcome (x : Answer) : Type 0 where
    unknown : x ≡ refusal 16 → is_length g.head.length ≡ false → Outcome x
    short : x ≡ refusal 15 → enough g ≡ false → Outcome x
    unfit : x ≡ refusal 16 → fit_given g ≡ false → Outcome x
    small : x ≡ refusal 15 → is_length g.head.length ≡ true → room < length (block_of (day_given g)) → Outcome x
    written : x ≡ done → Writable g → length (block_of (day_given g)) ≤ room → Outcome x

  outcome : Outcome (write_of g room)
  unfolding write_of
  outcome =
      by (is_length g.head.length)
      (λ e. by (enough g)
      (λ l. by (fit_given g)
      (λ f. by (leb (length (block_of (day_given g))) room)
      (λ r. written (rw (e, l, f, r)) (record { length-known = e; lists-long = l; fit = f }) (leb-true _ _ r))
      (λ r. small (rw (e, l, f, r)) e (leb-false _ _ r)))
      (λ f. unfit (rw (e, l, f)) f))
      (λ l. short (rw (e, l)) l))
      (λ e. unknown (rw e) e)

  pub writes-exactly : (xs : List ℕ) → (write_of g room ≡ accepted xs)
      ↔ (Writable g × (length (block_of (day_given g)) ≤ room) × (xs ≡ length (block_of (day_given g)) ∷ records_of (day_given g) ∷ []))
  writes-exactly xs = (λ e. only outcome e, λ h. writes h.0 h.1 ∙ ap accepted (sym h.2))
    where
      refused-not : {A : Type 0} (x : Answer) (n : ℕ) → x ≡ refusal n → x ≡ accepted xs → A
      refused-not x n p q = absurd (let z : true ≡ false = cc in true≢false z)

      same : (x : Answer) → x ≡ done → x ≡ accepted xs → xs ≡ length (block_of (day_given g)) ∷ records_of (day_given g) ∷ []
      same x p q = cc

      only : Outcome (write_of g room) → write_of g room ≡ accepted xs
          → Writable g × (length (block_of (day_given g)) ≤ room) × (xs ≡ length (block_of (day_given g)) ∷ records_of (day_given g) ∷ [])
      only (unknown p z) e = refused-not (write_of g room) 16 p e
      only (short p z) e = refused-not (write_of g room) 15 p e
      only (unfit p z) e = refused-not (write_of g room) 16 p e
      only (small p z l) e = refused-not (write_of g room) 15 p e
      only (written p w l) e = (w, l, same (write_of g room) p e)

  -- an unfit day: a description outside the text, or what no block says
  why-unfit : fit_given g ≡ false → (x : ℕ) → x ≡ 16 → Because g room x
  unfolding fit_given
  why-unfit f x n =
      by (inside g)
      (λ i. unsayable n (λ b h. true≢false (sym (fit-said (day_given g) b h) ∙ (let z : fit_day (day_given g) ≡ false = (rw i at f) in z))))
      (λ i. outside n i)

  -- a refusal has one of these reasons, and its place, record and field are 0
  pub refuses-only : (x p k i : ℕ) → write_of g room ≡ refused x p k i → Because g room x × (p ≡ 0) × (k ≡ 0) × (i ≡ 0)
  unfolding day_given intervals_given
  refuses-only x p k i e = why outcome e
    where
      bare : (a : Answer) (n : ℕ) → a ≡ refusal n → a ≡ refused x p k i → (x ≡ n → Because g room x) → Because g room x × (p ≡ 0) × (k ≡ 0) × (i ≡ 0)
      bare a n q r f =
          let y : x ≡ n = cc in
          let b : p ≡ 0 = cc in
          let c : k ≡ 0 = cc in
          let d : i ≡ 0 = cc in
          (f y, b, c, d)

      why : Outcome (write_of g room) → write_of g room ≡ refused x p k i → Because g room x × (p ≡ 0) × (k ≡ 0) × (i ≡ 0)
      why (unknown q z) e = bare (write_of g room) 16 q e (λ y. length-unknown y z)
      why (short q z) e = bare (write_of g room) 15 q e (λ y. list-short y z)
      why (unfit q z) e = bare (write_of g room) 16 q e (λ y. why-unfit z x y)
      why (small q z l) e = bare (write_of g room) 15 q e (λ y. no_room y (λ b h. omega (arith, (no_longer (day_given g) (intervals-some _ z) b h).bytes)))
      why (written q w l) e = absurd (let z : true ≡ false = cc in true≢false z)

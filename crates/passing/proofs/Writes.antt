-- What the writer's answer says of a day that it has a block for. Assumes nothing.
use Prim.Native.Nat.{ℕ, ◌≤◌}
use mathlib.Core.Path.{◌≡◌, sym, ◌∙◌}
use mathlib.Core.Bool.{true}
use mathlib.Core.List.{List, [], ◌∷◌}
use lib.ListN.{length}
use lib.Dec.{leb}
use borrow.Author.Tests.{leb-true, le-leb}
use Rattle.ground.proofs.Cases.{by}
use Rattle.format.specs.Numbers.{is_length}
use Rattle.format.specs.Answers.{accepted}
use Rattle.format.specs.Block.{Given, day_given, fit_given, block_of, records_of, enough, write_of}
use Rattle.passing.proofs.Walk.{not-accepted}

module _ (g : Given) (k : ℕ) (xs : List ℕ) (e : write_of g k ≡ accepted xs) where
  pub written-length : is_length g.head.length ≡ true
  unfolding write_of
  written-length = by (is_length g.head.length) (λ a. a) (λ a. not-accepted 16 0 0 0 xs (rw a at e))

  pub written-lists : enough g ≡ true
  unfolding write_of
  written-lists = by (enough g) (λ a. a) (λ a. not-accepted 15 0 0 0 xs (rw (written-length, a) at e))

  pub written-fit : fit_given g ≡ true
  unfolding write_of
  written-fit = by (fit_given g) (λ a. a) (λ a. not-accepted 16 0 0 0 xs (rw (written-length, written-lists, a) at e))

  pub written-room : length (block_of (day_given g)) ≤ k
  unfolding write_of
  written-room =
      leb-true (length (block_of (day_given g))) k
      (by (leb (length (block_of (day_given g))) k) (λ a. a) (λ a. not-accepted 15 0 0 0 xs (rw (written-length, written-lists, written-fit, a) at e)))

  -- in any room that is long enough
  pub writes : (n : ℕ) → length (block_of (day_given g)) ≤ n → write_of g n ≡ accepted (length (block_of (day_given g)) ∷ records_of (day_given g) ∷ [])
  unfolding write_of
  writes n h = rw (written-length, written-lists, written-fit, le-leb (length (block_of (day_given g))) n h)

  pub written-answer : accepted xs ≡ accepted (length (block_of (day_given g)) ∷ records_of (day_given g) ∷ [])
  written-answer = sym e ∙ writes k written-room

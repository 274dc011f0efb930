-- A day's head: how long its pieces are, and the room that each of two has. Assumes nothing.
use Prim.Native.Nat.{ℕ, ◌+◌, ◌≤◌}
use mathlib.Core.Path.{◌≡◌}
use mathlib.Core.List.{List, ◌++◌}
use native.Mathlib.Omega.{arith}
use lib.ListN.{length, length-append}
use Rattle.ground.specs.Room.{Put}
use Rattle.ground.proofs.Digits.{length-padded}
use Rattle.ground.proofs.Room.{put-kept}
use Rattle.format.specs.Block.{load_text, values_text}
use Rattle.heads.specs.Heads.{front_text, times_text}

-- ---- how long its pieces are

pub length_front : (date : ℕ) (vs : List ℕ) → length (front_text date vs) ≡ 13 + length (values_text vs)
unfolding front_text
length_front date vs = simp (length-append, length-padded) (omega arith)

pub length-times : (update load : ℕ) → length (times_text update load) ≡ 18 + length (load_text load)
unfolding times_text
length-times update load = simp (length-append, length-padded) (omega arith)

-- ---- written piece after piece

-- the room of two texts is room for each
pub first-room : (at k : ℕ) (xs ys : List ℕ) → at + length (xs ++ ys) ≤ k → at + length xs ≤ k
first-room at k xs ys h = omega (arith, length-append xs ys)

pub next-room : {l m : List ℕ} {at i : ℕ} (xs ys : List ℕ) → at + length (xs ++ ys) ≤ length l → Put l at xs i m → i + length ys ≤ length m
next-room xs ys h p = omega (arith, length-append xs ys, p.behind, put-kept p)

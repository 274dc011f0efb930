-- The ways out of a making. Assumes nothing.
use Prim.Native.Nat.{ℕ, ◌-◌, min, ◌≤◌, ◌<◌}
use mathlib.Core.Path.{◌≡◌, sym, ◌∙◌}
use mathlib.Core.Bool.{Bool, true, false}
use mathlib.Core.List.{List, [], ◌∷◌}
use lib.ListN.{length}
use lib.Dec.{leb}
use lib.Seq.{sets}
use borrow.Author.Tests.{lt-leb, le-leb, leb-true}
use Rattle.ground.proofs.Tests.{and-true}
use Rattle.format.specs.Answers.{Answer, accepted, refusal}
use Rattle.format.specs.File.{most}
use Rattle.store.specs.Head.{header_bytes}
use Rattle.store.specs.Store.{slotted}
use Rattle.entries.specs.Left.{left}
use Rattle.store.specs.Calls.{room_at, new_header, make_of}

-- b is what `is_slotted` answers
module _ (n : ℕ) {b : Bool} (e : b ≡ slotted n) where
  pub slots-good : b ≡ true → slotted n ≡ true
  slots-good t = sym e ∙ t

  pub slots-few : b ≡ true → n ≤ 64
  unfolding slotted
  slots-few t = leb-true n 64 (and-true (leb 1 n) (leb n 64) (sym e ∙ t)).1

  pub slots-bad : b ≡ false → {a : Answer} (m : List ℕ) → a ≡ refusal 21 → left a m ≡ make_of m n
  unfolding make_of
  slots-bad t m q = rw (sym e ∙ t, q)

module _ (m : List ℕ) (n : ℕ) (g : slotted n ≡ true) where
  pub bytes-few : length m < room_at n → {a : Answer} → a ≡ refusal 15 → left a m ≡ make_of m n
  unfolding make_of
  bytes-few l q = rw (g, lt-leb (room_at n) (length m) l, q)

  pub made : room_at n ≤ length m → {k : ℕ} {new : List ℕ} → k ≡ min (length m - room_at n) most
      → new ≡ sets m 0 (header_bytes (record { slots = n; days = 0; map = 0; list = 32; room = room_at n; size = k; used = 0 })) → left (accepted (k ∷ [])) new ≡ make_of m n
  unfolding make_of new_header
  made l ek en = rw (g, le-leb (room_at n) (length m) l, ← ek, en)

-- The ways out of a delete. Assumes nothing.
use Rattle.std.proofs.Common.{Option, Some, None}
use Prim.Native.Nat.{ℕ, ◌≤◌, ◌<◌}
use mathlib.Core.Path.{◌≡◌, refl, ◌∙◌}
use mathlib.Core.List.{List, [], ◌∷◌}
use native.Mathlib.Omega.{arith}
use lib.Seq.{sets}
use borrow.Author.Tests.{le-ltb, lt-ltb}
use Rattle.format.specs.Answers.{Answer, accepted, refusal}
use Rattle.entries.specs.Keys.{Key}
use Rattle.store.specs.Used.{freed, held}
use Rattle.store.specs.Head.{header_of, header_bytes, header_with}
use Rattle.entries.specs.Left.{Left, left}
use Rattle.store.specs.Calls.{seek, delete_from, delete_of}
use Rattle.store.specs.declared.Header.{Header}
use Rattle.settling.specs.Settling.{Settles, Settled}
use Rattle.opening.specs.Opens.{opened_of}
use Rattle.opening.proofs.Ways.{opened-store, opened-header, opened-not}
use Rattle.settling.proofs.Blocks.{live-most}
use Rattle.stored.proofs.Settle.{settles-without}

-- the bytes that stay are no more than the room has
pub end-most : (m : List ℕ) (h : Header) (map : ℕ) {q : ℕ} {mid : List ℕ} → Settles m h map → Settled m h map q mid → q ≤ h.size
end-most m h map k s = omega (arith, s.bytes, live-most m h map k)

pub kept-only : (m : List ℕ) (h : Header) (map : ℕ) {q d : ℕ} {mid new : List ℕ} → Settled m h map q mid → d ≡ held map
    → new ≡ sets mid 0 (header_bytes (record { slots = h.slots; days = d; map = map; list = h.list; room = h.room; size = h.size; used = q }))
    → left (accepted (d ∷ [])) new ≡ delete_from m h map
unfolding delete_from header_with
kept-only m h map s ed en = rw (en, ed, s.bytes, s.memory)

module _ (m : List ℕ) (x : Key) {o : Option Header} (e : o ≡ opened_of m) where
  pub delete-21 : o ≡ None → {a : Answer} → a ≡ refusal 21 → left a m ≡ delete_of m x
  unfolding delete_of
  delete-21 q p = rw (opened-not m e q, p)

  module _ {h : Header} (q : o ≡ Some h) {i : ℕ} (ei : i ≡ seek m h x) where
    is : h ≡ header_of m
    is = opened-header m e q

    pub delete-14 : h.slots ≤ i → {a : Answer} → a ≡ refusal 14 → left a m ≡ delete_of m x
    unfolding delete_of
    delete-14 l p = rw (opened-store m e q, ← is, le-ltb (seek m h x) h.slots (rw ei at l), p)

    module _ {map : ℕ} (em : map ≡ freed h.map i) where
      pub delete-settles : Settles m h map
      delete-settles = rw (em, is) (settles-without m (opened-store m e q) i)

      pub deleted : i < h.slots → {r : Left} → r ≡ delete_from m h map → r ≡ delete_of m x
      unfolding delete_of
      deleted l p = p ∙ rw (opened-store m e q, ← is, lt-ltb (seek m h x) h.slots (rw ei at l), em, ei) refl

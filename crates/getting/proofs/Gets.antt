-- The ways out of a get. Assumes nothing.
use Rattle.std.proofs.Common.{Option, Some, None}
use Prim.Native.Nat.{ℕ, ◌≤◌, ◌<◌}
use mathlib.Core.Path.{◌≡◌, refl, ◌∙◌}
use mathlib.Core.Bool.{true}
use mathlib.Core.List.{List}
use native.Mathlib.Omega.{arith}
use borrow.Author.Tests.{le-ltb, lt-ltb}
use Rattle.format.specs.Answers.{Answer, refusal}
use Rattle.format.specs.Day.{Five, Outcome, outcome}
use Rattle.entries.specs.Keys.{Key}
use Rattle.entries.specs.Entries.{entry_at}
use Rattle.entries.specs.declared.Entry.{Entry}
use Rattle.store.specs.Head.{header_of}
use Rattle.store.specs.Ranges.{slot_place, slot_of}
use Rattle.store.specs.Store.{is_store}
use Rattle.store.specs.Calls.{seek, is_there, day_rows, get_from, get_of}
use Rattle.store.specs.declared.Header.{Header}
use Rattle.opening.specs.Opens.{opened_of}
use Rattle.opening.proofs.Ways.{opened-store, opened-header, opened-not}
use Rattle.stored.proofs.Whole.{whole}
use Rattle.stored.proofs.Seek.{there}
use Rattle.stored.proofs.Holds.{accepted-there, range-within}
use Rattle.getting.specs.Gets.{Readable}

-- the slot of a key that is there can be read
readable : (m : List ℕ) (x : Key) → is_store m ≡ true → is_there m (header_of m) x ≡ true → Readable m (header_of m) (slot_of m (header_of m) (seek m (header_of m) x))
readable m x s t =
    let h : Header = header_of m in
    let w = whole m s in
    let u = (there m h x t).uses in
    let d = accepted-there m h w (seek m h x) u in
    record { within = omega (arith, range-within m h w (seek m h x) u, w.fits, w.inside); numbers = d.0; says = d.1 }

module _ (m : List ℕ) (x : Key) {o : Option Header} (e : o ≡ opened_of m) where
  pub get-21 : (vs : List ℕ) (ms : Five) → o ≡ None → {a : Answer} → a ≡ refusal 21 → outcome a vs ms ≡ get_of m x vs ms
  unfolding get_of
  get-21 vs ms q p = rw (opened-not m e q, p)

  module _ {h : Header} (q : o ≡ Some h) {i : ℕ} (ei : i ≡ seek m h x) where
    is : h ≡ header_of m
    is = opened-header m e q

    pub get-14 : (vs : List ℕ) (ms : Five) → h.slots ≤ i → {a : Answer} → a ≡ refusal 14 → outcome a vs ms ≡ get_of m x vs ms
    unfolding get_of
    get-14 vs ms l p = rw (opened-store m e q, ← is, le-ltb (seek m h x) h.slots (rw ei at l), p)

    module _ (l : i < h.slots) {b : Entry} {a : ℕ} (ea : a ≡ slot_place h i) (eb : b ≡ entry_at m a) where
      present : is_there m h x ≡ true
      present = lt-ltb (seek m h x) h.slots (rw ei at l)

      entry : b ≡ slot_of m h (seek m h x)
      entry = rw (ea, ei) at eb

      pub slot-readable : Readable m h b
      slot-readable = rw (entry, is) (readable m x (opened-store m e q) (rw is at present))

      pub get-read : (vs : List ℕ) (ms : Five) {r : Outcome} → r ≡ get_from (day_rows m h b) vs ms → r ≡ get_of m x vs ms
      unfolding get_of
      get-read vs ms p = p ∙ rw (opened-store m e q, ← is, present, entry) refl

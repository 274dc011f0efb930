-- The block of an entry added up, and the ways out of looking for a day. Assumes nothing.
use Rattle.std.proofs.Common.{Option, Some, None}
use Prim.Native.Nat.{ℕ, ◌+◌, ◌≤◌, ◌<◌}
use mathlib.Core.Path.{◌≡◌, sym, ap, ◌∙◌}
use mathlib.Core.Bool.{true}
use mathlib.Core.List.{List, [], ◌∷◌}
use borrow.Author.Tests.{le-ltb, lt-ltb}
use lib.ListN.{take}
use Rattle.ground.specs.Lists.{part, sum}
use Rattle.format.specs.Cut.{fields}
use Rattle.format.specs.Numbers.{intervals_of}
use Rattle.format.specs.Records.{values_in}
use Rattle.format.specs.Day.{BlockRows, values_of}
use Rattle.format.specs.Answers.{Answer, accepted, refusal}
use Rattle.format.proofs.Numbers.{intervals-most}
use Rattle.entries.specs.Keys.{Key}
use Rattle.entries.specs.Entries.{entry_at}
use Rattle.entries.specs.declared.Entry.{Entry}
use Rattle.store.specs.Ranges.{slot_place, slot_of}
use Rattle.store.specs.Calls.{seek, is_there, day_rows}
use Rattle.store.specs.declared.Header.{Header}
use Rattle.opening.specs.Opens.{opened_of}
use Rattle.opening.proofs.Ways.{opened-store, opened-header, opened-not}
use Rattle.lines.specs.Places.{LineEnd}
use Rattle.getting.specs.Gets.{Readable}
use Rattle.getting.proofs.Blocks.{rows}
use Rattle.stored_sums.specs.Sums.{sum_at, stored_sum_of}

-- the day of an entry, whose 300 ends at `top`
pub block-sum : (m : List ℕ) (h : Header) (e : Entry) → Readable m h e → {top n s : ℕ} → LineEnd (take (h.room + e.start + e.size) m) (h.room + e.start) top
    → n ≡ intervals_of e.minutes → s ≡ sum (values_in n (fields (part (take (h.room + e.start + e.size) m) (h.room + e.start) top)))
    → s ≡ sum (values_of (day_rows m h e))
unfolding values_of
block-sum m h e r l en es = es ∙ rw (en) (ap (λ (d : BlockRows). sum (values_of d)) (sym (rows m h e r l)))

pub few-minutes : (m : ℕ) {n : ℕ} → n ≡ intervals_of m → n ≤ 288
few-minutes m e = rw e (intervals-most m)

module _ (m : List ℕ) (x : Key) {o : Option Header} (e : o ≡ opened_of m) where
  pub sum-21 : o ≡ None → {a : Answer} → a ≡ refusal 21 → a ≡ stored_sum_of m x
  unfolding stored_sum_of
  sum-21 q p = rw (opened-not m e q) p

  module _ {h : Header} (q : o ≡ Some h) {i : ℕ} (ei : i ≡ seek m h x) where
    pub sum-14 : h.slots ≤ i → {a : Answer} → a ≡ refusal 14 → a ≡ stored_sum_of m x
    unfolding stored_sum_of
    sum-14 l p = rw (opened-store m e q, ← opened-header m e q, le-ltb (seek m h x) h.slots (rw ei at l)) p

    pub sum-there : i < h.slots → {b : Entry} {a : ℕ} → a ≡ slot_place h i → b ≡ entry_at m a → {s : ℕ} → s ≡ sum (values_of (day_rows m h b))
        → accepted (s ∷ []) ≡ stored_sum_of m x
    unfolding stored_sum_of sum_at
    sum-there l {b} ea eb es =
        let t : is_there m h x ≡ true = lt-ltb (seek m h x) h.slots (rw ei at l) in
        let w : b ≡ slot_of m h (seek m h x) = rw (ea, ei) at eb in
        rw (opened-store m e q, ← opened-header m e q, t, ← w, es)

-- The block of an entry as places of the memory: where its 300 ends, and what is read there. Assumes nothing.
use Prim.Native.Nat.{ℕ, ◌+◌, ◌-◌, ◌≤◌}
use mathlib.Core.Path.{◌≡◌, sym, ap, ◌∙◌}
use mathlib.Core.Bool.{true≢false}
use mathlib.Core.List.{List}
use native.Mathlib.Omega.{arith}
use lib.ListN.{length, take, drop}
use lib.Seq.{length-take-le}
use Rattle.ground.specs.Lists.{part}
use Rattle.ground.proofs.Spans.{drop-take}
use Rattle.format.specs.Numbers.{intervals_of}
use Rattle.format.specs.Cut.{line, rest}
use Rattle.format.specs.Day.{BlockRows, Five, Outcome}
use Rattle.entries.specs.declared.Entry.{Entry}
use Rattle.store.specs.Store.{block_in}
use Rattle.store.specs.Calls.{rows_at, day_rows, get_from}
use Rattle.store.specs.declared.Header.{Header}
use Rattle.stored.proofs.Blocks.{block, rows-sound}
use Rattle.lines.specs.Places.{LineEnd}
use Rattle.lines.proofs.Ends.{line-none, line-more, line-room, line-long}
use Rattle.day.specs.Places.{block_at}
use Rattle.filling.specs.Fillable.{Here, day_into}
use Rattle.getting.specs.Gets.{Readable}

module _ (m : List ℕ) (h : Header) (e : Entry) (r : Readable m h e) where
  -- where the block starts and ends
  abbrev start : ℕ
  start = h.room + e.start

  abbrev end : ℕ
  end = h.room + e.start + e.size

  pub end_is : end ≡ length (take end m)
  end_is = sym (length-take-le end m r.within)

  pub start-within : start ≤ length (take end m)
  start-within = omega (arith, end_is)

  cut : drop start (take end m) ≡ block_in m h e
  cut =
      let z : end - start ≡ e.size = omega arith in
      drop-take start end m (omega arith) ∙ rw z

  -- the 300 ends at `top`
  module _ {top : ℕ} (l : LineEnd (take end m) start top) where
    has-line : top ≡ length (take end m) → ⊥
    has-line q =
        let w = line-none (take end m) start top l q in
        let b = block e.minutes e.unit (block_in m h e) r.numbers r.says in
        let z : rest (drop start (take end m)) ≡ line b.first b.others = sym w ∙ rw cut b.is in
        true≢false (cc)

    pub rows : day_rows m h e ≡ block_at (take end m) start top (intervals_of e.minutes) e.unit
    unfolding day_rows rows_at
    rows =
        let w = line-more (take end m) start top l has-line in
        let k : start + length (part (take end m) start top) + 2 ≡ top + 2 = omega (arith, line-long (take end m) start top l, l.order) in
        rw (← cut, w, k)

    module _ {n : ℕ} (en : n ≡ intervals_of e.minutes) where
      pub here : Here (take end m) start top n e.unit
      unfolding day_rows
      here =
          let s = rows-sound e.minutes e.unit (block_in m h e) r.numbers r.says (h.room + e.start) in
          record { order = l.order; within = line-room (take end m) start top l has-line; sound = rw (en, ← rows) s }

      pub got : {o : Outcome} (vs : List ℕ) (ms : Five) → o ≡ day_into (block_at (take end m) start top n e.unit) vs ms → o ≡ get_from (day_rows m h e) vs ms
      unfolding get_from
      got vs ms q = q ∙ rw en (ap (λ (d : BlockRows). day_into d vs ms) (sym rows))

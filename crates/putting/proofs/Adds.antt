-- The day's block written behind the blocks that stay: the room behind them is lent to the writer as a part of the memory. Assumes nothing.
use Prim.Native.Nat.{ℕ, ◌+◌, ◌-◌, ◌≤◌}
use mathlib.Core.Path.{◌≡◌, sym, ap, ap₂, ◌∙◌}
use mathlib.Core.List.{List, [], ◌∷◌, ◌++◌}
use native.Mathlib.Omega.{arith}
use lib.ListN.{length, take, drop}
use lib.Seq.{sets, length-sets}
use borrow.Rule.Slice.PartMut.{put_mid}
use Rattle.format.specs.Answers.{accepted}
use Rattle.format.specs.Day.{over}
use Rattle.format.specs.Block.{Given, write_of}
use Rattle.passing.proofs.Writes.{writes, written-answer}
use Rattle.store.specs.Moves.{blocks_in, new_starts, moved_down}
use Rattle.store.specs.declared.Header.{Header}
use Rattle.moving.proofs.Moves.{length-stretch}
use Rattle.slots.proofs.Offsets.{length-offsets}
use Rattle.settling.specs.Settling.{Settled}
use Rattle.settling.proofs.Blocks.{live-most, moved-then-put}
use Rattle.lists.proofs.Parts.{put-part}
use Rattle.putting.specs.Steps.{block_given, Addable, Added}

length_moved : (m : List ℕ) (h : Header) (map : ℕ) (b : List ℕ) → length (moved_down m h map b) ≡ length m
unfolding moved_down
length_moved m h map b = length-offsets h map 0 (new_starts m h map) (sets m h.room (blocks_in m h map ++ b)) ∙ length-sets m h.room (blocks_in m h map ++ b)

module _ {m : List ℕ} {h : Header} {map : ℕ} {g : Given} {records : ℕ} (k : Addable m h map g records) {q : ℕ} {mid : List ℕ} (s : Settled m h map q mid) where
  pub end-most : q ≤ h.size
  end-most = omega (arith, s.bytes, live-most m h map k.settles)

  long : length mid ≡ length m
  long = ap length s.memory ∙ length_moved m h map []

  pub room_within : h.room + h.size ≤ length mid
  room_within = omega (arith, long, k.settles.room)

  -- the part from a on that the writer has
  abbrev a : ℕ
  a = h.room + q

  abbrev n : ℕ
  n = h.room + h.size - (h.room + q)

  short : length (block_given g) ≤ n
  short = omega (arith, k.fits, s.bytes)

  pub added-writes : write_of g (length (take (h.room + h.size - (h.room + q)) (drop (h.room + q) mid))) ≡ accepted (length (block_given g) ∷ records ∷ [])
  added-writes =
      let xs = length (block_given g) ∷ records ∷ [] in
      let l = length (block_given g) in
      writes g l xs k.answer (length (take n (drop a mid))) (omega (arith, short, length-stretch mid a n (omega (arith, end-most, room_within))))
      ∙ sym (written-answer g l xs k.answer)

  pub added : {room new : List ℕ} → room ≡ over (block_given g) (take (h.room + h.size - (h.room + q)) (drop (h.room + q) mid))
      → new ≡ put_mid (h.room + q) (h.room + h.size - (h.room + q)) mid room → Added m h map (block_given g) q new
  added w e =
      record {
        bytes = s.bytes;
        memory =
            e ∙ ap (put_mid a n mid) w
            ∙ put-part mid (block_given g) a n short (omega (arith, end-most, room_within))
            ∙ ap₂ (λ (i : ℕ) (l : List ℕ). sets l (h.room + i) (block_given g)) s.bytes s.memory
            ∙ moved-then-put m h map k.settles k.before (block_given g);
      }

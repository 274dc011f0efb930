-- A store and a plain map that agree: what each says of a key, and that an empty store and an empty map do. Assumes nothing.
use Prim.Native.Nat.{ℕ, zero, suc, ◌+◌}
use mathlib.Core.Path.{◌≡◌, refl, sym, ap, ◌∙◌}
use mathlib.Core.Bool.{true}
use mathlib.Core.List.{List, [], ◌∷◌, map}
use native.Mathlib.Omega.{arith}
use lib.ListN.{length}
use Rattle.ground.specs.Lists.{sum}
use Rattle.ground.proofs.Cases.{by}
use Rattle.format.specs.Answers.{accepted}
use Rattle.format.specs.Day.{Day}
use Rattle.format.specs.Block.{block_of}
use Rattle.entries.specs.Keys.{Key, capital_key}
use Rattle.store.specs.Used.{held}
use Rattle.store.specs.Head.{header_of}
use Rattle.store.specs.Moves.{live}
use Rattle.store.specs.Store.{is_store}
use Rattle.store.specs.Calls.{seek_from, seek, is_there, map_without, new_header, make_of}
use Rattle.store.specs.declared.Header.{Header}
use Rattle.used_map.proofs.Slots.{freeing}
use Rattle.plain.specs.Plain.{Plain, day_for, without, bytes_of, empty_plain}
use Rattle.plain.specs.Stays.{day_held, block_held}
use Rattle.stored.proofs.Seek.{there}
use Rattle.stored.proofs.Whole.{Whole, whole, is_whole}
use Rattle.stored.proofs.Holds.{slot-few, block-length}
use Rattle.plain.proofs.Days.{Once, bytes-out, count-out}
use Rattle.plain.proofs.Counts.{live_more}
use Rattle.plain.proofs.Seat.{none_out}
use Rattle.plain.proofs.Again.{Small}
use Rattle.plain.proofs.After.{held_out}
use Rattle.plain.proofs.Made.{made-small, made-whole, made_none, made-live, makes}

-- the store m holds what the plain map p has: of each key its day, in its shortest block
pub record Agrees (m : List ℕ) (p : Plain) : Type 0 where
  pub store : is_store m ≡ true
  pub small : Small (header_of m)
  pub slots : (header_of m).slots ≡ p.slots
  pub room : (header_of m).size ≡ p.room
  pub days : (x : Key) → day_held m x ≡ day_for x p.days
  pub blocks : (x : Key) → block_held m x ≡ map block_of (day_for x p.days)
  pub once : Once p.days
  pub count : (header_of m).days ≡ length p.days
  pub bytes : live m (header_of m) (header_of m).map ≡ bytes_of p.days

-- ---- letters of either case

module _ (m : List ℕ) (h : Header) (x y : Key) (e : capital_key y ≡ capital_key x) where
  alike_from : (i k : ℕ) → seek_from m h y i k ≡ seek_from m h x i k
  unfolding seek_from
  alike_from i zero = refl
  alike_from i (suc k) = rw (e, alike_from (suc i) k)

  seek-alike : seek m h y ≡ seek m h x
  unfolding seek
  seek-alike = alike_from 0 h.slots

module _ (m : List ℕ) (x y : Key) (e : capital_key y ≡ capital_key x) where
  pub days-alike : day_held m y ≡ day_held m x
  unfolding day_held
  days-alike = rw (seek-alike m (header_of m) x y e)

  pub blocks-alike : block_held m y ≡ block_held m x
  unfolding block_held
  blocks-alike = rw (seek-alike m (header_of m) x y e)

-- ---- without the key's day

-- the live bytes are the others' and the key's own
live_out : (m : List ℕ) (x : Key) → Whole m (header_of m)
    → live m (header_of m) (header_of m).map ≡ live m (header_of m) (map_without m (header_of m) x) + sum (map (λ (b : List ℕ). length b) (block_held m x))
unfolding block_held
live_out m x w =
    let h : Header = header_of m in
    by (is_there m h x)
    (λ t.
    let s : ℕ = seek m h x in
    let k = there m h x t in
    rw t (omega (arith, live_more m h (map_without m h x) h.map s (freeing h.map s k.uses) (slot-few m h w s k.uses), block-length m h w s k.uses)))
    (λ t. rw (t, none_out m h w x t) (omega arith))

lengths : (ds : List Day) → sum (map (λ (b : List ℕ). length b) (map block_of ds)) ≡ sum (map (λ (d : Day). length (block_of d)) ds)
lengths [] = refl
lengths (d ∷ ds) = ap (λ (n : ℕ). length (block_of d) + n) (lengths ds)

module _ (m : List ℕ) (p : Plain) (a : Agrees m p) (x : Key) where
  pub live-agrees : live m (header_of m) (map_without m (header_of m) x) ≡ bytes_of (without x p.days)
  live-agrees =
      let b : sum (map (λ (b : List ℕ). length b) (block_held m x)) ≡ sum (map (λ (d : Day). length (block_of d)) (day_for x p.days)) =
      ap (λ (bs : List (List ℕ)). sum (map (λ (b : List ℕ). length b) bs)) (a.blocks x) ∙ lengths (day_for x p.days) in
      omega (arith, live_out m x (whole m a.store), bytes-out x p.days a.once, a.bytes)

  pub held-agrees : held (map_without m (header_of m) x) ≡ length (without x p.days)
  held-agrees =
      omega (arith, held_out m x (whole m a.store), ap (λ (ds : List Day). length ds) (a.days x), count-out x p.days a.once, a.count)

-- ---- an empty store, an empty map

pub made-agrees : (m : List ℕ) (n r : ℕ) → (make_of m n).answer ≡ accepted (r ∷ []) → Agrees (make_of m n).memory (empty_plain n r)
unfolding new_header day_for bytes_of day_held block_held
made-agrees m n r e =
    let k = makes m n r e in
    let h : Header = new_header n (length m) in
    let w = made-whole m n k.some k.few k.enough in
    let f = w.header in
    rw k.memory
    (record {
      store = is_whole _ h w;
      small = rw f (made-small m n k.some k.few k.enough);
      slots = rw f;
      room = rw f (sym k.room);
      days = λ x. rw (f, made_none m n k.some k.few k.enough x);
      blocks = λ x. rw (f, made_none m n k.some k.few k.enough x);
      once = tt;
      count = rw f;
      bytes = rw f (made-live m n k.some k.few k.enough);
    })

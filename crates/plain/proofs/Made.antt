-- What make_store leaves: a store without a day. Assumes nothing.
use Prim.Native.Nat.{ℕ, ◌≤◌, ◌<◌}
use mathlib.Core.Path.{◌≡◌, refl, sym, ap, ◌∙◌}
use mathlib.Core.Bool.{false, cond, ◌&&◌, true≢false}
use mathlib.Core.List.{List, [], ◌∷◌}
use native.Mathlib.Nat.{one-le-pow}
use native.Mathlib.Omega.{arith}
use lib.ListN.{length, get_or}
use lib.Seq.{sets, length-sets}
use lib.Dec.{leb}
use borrow.Author.Tests.{leb-true}
use Rattle.ground.specs.Lists.{from, sum}
use Rattle.ground.proofs.Tests.{and-true}
use Rattle.ground.proofs.Cases.{by}
use Rattle.ground.proofs.From.{from-same}
use Rattle.format.specs.Answers.{accepted}
use Rattle.entries.specs.Keys.{Key}
use Rattle.store.specs.Used.{used, used_from, held}
use Rattle.store.specs.Head.{header_bytes}
use Rattle.store.specs.Ranges.{slot_of, sizes}
use Rattle.store.specs.Store.{slotted}
use Rattle.store.specs.Moves.{live}
use Rattle.store.specs.Calls.{room_at, room_size, new_header, make_of, is_there}
use Rattle.store.specs.declared.Header.{Header}
use Rattle.used_map.proofs.Slots.{used-past, below-past}
use Rattle.slots.proofs.Back.{HeaderFits, header-back}
use Rattle.settling.proofs.Slots.{length-starts, length-sizes, size-free}
use Rattle.passing.proofs.Walk.{not-accepted}
use Rattle.stored.proofs.Seek.{seek-none}
use Rattle.stored.proofs.Whole.{Whole}
use Rattle.plain.proofs.Again.{Small}

-- the map of no slot
empty : (i : ℕ) → used 0 i ≡ false
empty i = used-past 0 i (one-le-pow i 2 (omega arith))

none-held : held 0 ≡ 0
unfolding held used_from used
none-held = refl

module _ (m : List ℕ) (n : ℕ) (some : 1 ≤ n) (few : n ≤ 64) (enough : room_at n ≤ length m) where
  abbrev h : Header
  h = new_header n (length m)

  abbrev new : List ℕ
  new = sets m 0 (header_bytes h)

  pub made-small : Small h
  unfolding new_header
  made-small = record { room = omega arith; size = omega arith }

  fits : HeaderFits h
  unfolding new_header
  fits = record { slots = omega arith; days = omega arith; map = omega arith; list = omega arith; room = omega arith; size = omega arith; used = omega arith }

  no-range : (i : ℕ) → i < 64 → get_or (sizes new h 0) i 0 ≡ 0
  no-range i l = size-free new h 0 i l (empty i)

  pub made-whole : Whole new h
  unfolding new_header
  made-whole =
      let l = length-sets m 0 (header_bytes h) in
      let a = length-starts new h 0 in
      record {
        header = header-back h m (omega arith) fits;
        long = omega arith;
        some = some;
        few = few;
        days = sym none-held;
        past = below-past 0 n (one-le-pow n 2 (omega arith));
        list = omega arith;
        order = omega arith;
        inside = omega arith;
        fits = omega arith;
        laid =
            record {
              as_many = a ∙ sym (length-sizes new h 0);
              inside = λ i g p. absurd (let z : ⊥ = omega (arith, no-range i (omega arith)) in z);
              apart = λ i j g k p q o d. absurd (let z : ⊥ = omega (arith, no-range i (omega arith)) in z);
            };
        holds = λ i u. absurd (true≢false (sym u ∙ empty i));
        own = λ i j u v k. absurd (true≢false (sym u ∙ empty i));
      }

  pub made_none : (x : Key) → is_there new h x ≡ false
  unfolding new_header
  made_none x = seek-none new h x (λ t l. rw (empty t))

  pub made-live : live new h h.map ≡ 0
  unfolding live from new_header
  made-live = ap sum (from-same (λ i. 0) (λ i. cond (used 0 i) (slot_of new h i).size 0) 0 64 (λ i l e. rw (empty i)))

-- what a make that is accepted passed
pub record Makes (m : List ℕ) (n r : ℕ) : Type 0 where
  pub some : 1 ≤ n
  pub few : n ≤ 64
  pub enough : room_at n ≤ length m
  pub room : r ≡ room_size n (length m)
  pub memory : (make_of m n).memory ≡ sets m 0 (header_bytes (new_header n (length m)))

pub makes : (m : List ℕ) (n r : ℕ) → (make_of m n).answer ≡ accepted (r ∷ []) → Makes m n r
unfolding make_of slotted
makes m n r e =
    by (leb 1 n && leb n 64)
    (λ t. by (leb (room_at n) (length m))
    (λ u.
    let a = and-true (leb 1 n) (leb n 64) t in
    let q : accepted (room_size n (length m) ∷ []) ≡ accepted (r ∷ []) = rw (t, u) at e in
    record { some = leb-true _ _ a.0; few = leb-true _ _ a.1; enough = leb-true _ _ u; room = (let y : r ≡ room_size n (length m) = cc in y); memory = rw (t, u) })
    (λ u. not-accepted 15 0 0 0 _ (rw (t, u) at e)))
    (λ t. not-accepted 21 0 0 0 _ (rw t at e))

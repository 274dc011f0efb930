-- Refusal 20: it is given only where the blocks that stay and the new one have more bytes than the room, and where they have not, nothing else refusing, the day is
-- put. Assumes nothing.
use Prim.Native.Nat.{ℕ, ◌+◌, ◌≤◌, ◌<◌}
use mathlib.Core.Path.{◌≡◌, refl, sym}
use mathlib.Core.Logic.{◌≢◌}
use mathlib.Core.Bool.{Bool, true, false, not, ◌&&◌}
use mathlib.Core.List.{List, [], ◌∷◌}
use native.Mathlib.Omega.{arith}
use lib.ListN.{length}
use lib.Dec.{leb, ltb}
use borrow.Author.Tests.{leb-false, le-leb, lt-leb, lt-ltb}
use Rattle.ground.proofs.Cases.{by}
use Rattle.format.specs.Numbers.{is_length}
use Rattle.format.specs.Answers.{Answer, accepted, refused, refusal}
use Rattle.format.specs.Day.{day_of}
use Rattle.format.specs.Block.{Given, day_given, fit_given, enough, block_of, write_of}
use Rattle.entries.specs.Keys.{Key, good_key}
use Rattle.store.specs.Used.{taken, held}
use Rattle.store.specs.Head.{header_of}
use Rattle.store.specs.Ranges.{slot_of}
use Rattle.store.specs.Moves.{live}
use Rattle.store.specs.Store.{is_store}
use Rattle.entries.specs.Left.{Left, unless}
use Rattle.store.specs.Calls.{seek, is_there, update_of, slot_for, map_without, put_fit, or_refused, key_given, write_answer, put_of, day_rows}
use Rattle.store.specs.declared.Header.{Header}
use Rattle.passing.proofs.Walk.{not-accepted}
use Rattle.plain.specs.Stays.{day_held}
use Rattle.plain.specs.Staying.{staying, Unrefused}
use Rattle.stored.proofs.Whole.{whole}
use Rattle.plain.proofs.Answers.{put_room, put-known, put-new}
use Rattle.plain.proofs.Staying.{live-staying}

-- the refusal of another test is not this one's
unless-past : (t : Bool) (x y : ℕ) (m : List ℕ) (l : Left) → x ≢ y → (unless t x m l).answer ≡ refusal y → (t ≡ true) × (l.answer ≡ refusal y)
unless-past true x y m l n e = (refl, e)
unless-past false x y m l n e = absurd (n (let z : x ≡ y = cc in z))

refused-past : (a : Answer) (y : ℕ) (m : List ℕ) (l : Left) → a ≢ refusal y → (or_refused a m l).answer ≡ refusal y → l.answer ≡ refusal y
refused-past (accepted xs) y m l n e = e
refused-past (refused x p k i) y m l n e = absurd (n e)

-- the writer gives no 20
write-not-20 : (g : Given) → write_answer g ≢ refusal 20
unfolding write_of
write-not-20 g e =
    by (is_length g.head.length)
    (λ t. by (enough g)
    (λ u. by (fit_given g)
    (λ v. not-accepted 20 0 0 0 _ (sym (rw (t, u, v, le-leb (length (block_of (day_given g))) (length (block_of (day_given g))) (omega arith)) at e)))
    (λ v. other 16 (λ z. omega arith) (rw (t, u, v) at e)))
    (λ u. other 15 (λ z. omega arith) (rw (t, u) at e)))
    (λ t. other 16 (λ z. omega arith) (rw t at e))
  where
    other : (x : ℕ) → x ≢ 20 → refusal x ≡ refusal 20 → ⊥
    other x n q = n (let z : x ≡ 20 = cc in z)

module _ (m nmi suffix : List ℕ) (g : Given) where
  abbrev h : Header
  h = header_of m

  abbrev x : Key
  x = key_given nmi suffix g

  abbrev block : List ℕ
  block = block_of (day_given g)

  live-is : is_store m ≡ true → live m h (map_without m h x) ≡ staying m x
  unfolding staying
  live-is s = live-staying m h (whole m s) x

  pub too_much : (put_of m nmi suffix g).answer ≡ refusal 20 → h.size < staying m x + length block
  unfolding put_of put_fit
  too_much e =
      let a = unless-past (is_store m) 21 20 m _ (λ z. omega arith) e in
      let b = unless-past (good_key x) 16 20 m _ (λ z. omega arith) a.1 in
      let c = refused-past (write_answer g) 20 m _ (write-not-20 g) b.1 in
      let d = unless-past (not (is_there m h x && leb g.head.update (update_of m h (seek m h x)))) 18 20 m _ (λ z. omega arith) c in
      let f = unless-past (ltb (slot_for m h x) h.slots) 19 20 m _ (λ z. omega arith) d.1 in
      by (leb (live m h (map_without m h x) + length block) h.size)
      (λ t. not-accepted 20 0 0 0 _ (sym (rw t at f.1)))
      (λ t. let l = leb-false _ _ t in rw (← live-is a.0) l)

  module _ (u : Unrefused m nmi suffix g) (fits : staying m x + length block ≤ h.size) where
    room-taken : (put_room m h x g block).answer ≡ accepted (held (taken (map_without m h x) (slot_for m h x)) ∷ [])
    room-taken = rw (live-is u.store, le-leb _ _ fits)

    pub is-put : (put_of m nmi suffix g).answer ≡ accepted (held (taken (map_without m h x) (slot_for m h x)) ∷ [])
    unfolding put_of day_held
    is-put =
        let w = whole m u.store in
        rw (u.store, u.good, u.written)
        (by (is_there m h x)
        (λ t.
        let l = u.later (day_of (day_rows m h (slot_of m h (seek m h x)))) (rw t) in
        rw (put-known m h w x g block t, lt-leb _ _ l) room-taken)
        (λ t. let l = u.free (rw t) in rw (put-new m h w x g block t, lt-ltb _ _ l) room-taken))

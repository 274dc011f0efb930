-- What a put and a delete leave, said of the two memories. Assumes nothing.
use Prim.Native.Nat.{ℕ, ◌+◌}
use mathlib.Core.Path.{◌≡◌, refl, ap, ◌∙◌}
use mathlib.Core.List.{List, [], ◌∷◌}
use native.Mathlib.Omega.{arith}
use lib.ListN.{length}
use Rattle.ground.proofs.Cases.{by}
use Rattle.format.specs.Day.{Day}
use Rattle.format.specs.Block.{Given, day_given, block_of}
use Rattle.entries.specs.Keys.{Key}
use Rattle.store.specs.Used.{taken, held}
use Rattle.store.specs.Head.{header_of, header_with}
use Rattle.store.specs.Moves.{live}
use Rattle.store.specs.Calls.{seek, is_there, slot_for, map_without, put_into, key_given}
use Rattle.store.specs.declared.Header.{Header}
use Rattle.used_map.proofs.Slots.{taking, freeing, held_more}
use Rattle.plain.specs.Stays.{day_held, block_held, Stays}
use Rattle.stored.proofs.Seek.{there}
use Rattle.stored.proofs.Whole.{Whole, whole}
use Rattle.stored.proofs.Holds.{slot-few}
use Rattle.plain.proofs.Alike.{Changed, day_in, block_there, block_held_lem}
use Rattle.plain.proofs.Change.{stays}
use Rattle.plain.proofs.Written.{writable}
use Rattle.plain.proofs.Seat.{seat, none_out}
use Rattle.plain.proofs.Again.{Small}
use Rattle.plain.proofs.Delete as delete
use Rattle.plain.proofs.Put as put
use Rattle.plain.proofs.Put.{Putting}
use Rattle.plain.proofs.Ways.{Puts, Deletes}

-- of the key the days ds are held then, in the blocks bs; there is as much room as before, the days are counted, and the live bytes are so many
pub record After (m m' : List ℕ) (x : Key) (ds : List Day) (bs : List (List ℕ)) (days bytes : ℕ) : Type 0 where
  pub stays : Stays m m' x ds
  pub blocks : block_held m' x ≡ bs
  pub small : Small (header_of m')
  pub slots : (header_of m').slots ≡ (header_of m).slots
  pub size : (header_of m').size ≡ (header_of m).size
  pub days-held : (header_of m').days ≡ days
  pub live-bytes : live m' (header_of m') (header_of m').map ≡ bytes

-- a store in which slot s changed
after : (m m' : List ℕ) (map end : ℕ) (x : Key) (s : ℕ) (ds : List Day) (bs : List (List ℕ)) (days bytes : ℕ) → Small (header_of m) → Whole m (header_of m)
    → Changed m m' (header_of m) (header_with (header_of m) map end) x s → Whole m' (header_with (header_of m) map end)
    → day_in m' (header_with (header_of m) map end) x ≡ ds → block_there m' (header_with (header_of m) map end) x ≡ bs
    → held map ≡ days → live m' (header_with (header_of m) map end) map ≡ bytes
    → After m m' x ds bs days bytes
unfolding header_with
after m m' map end x s ds bs days bytes z w c v d b k l =
    let h' : Header = header_with (header_of m) map end in
    let e : header_of m' ≡ h' = v.header in
    record {
      stays = stays m m' (header_of m) h' x s w c v ds d;
      blocks = block_held_lem m' h' e x ∙ b;
      small = rw e (record { room = z.room; size = z.size });
      slots = ap (λ (y : Header). y.slots) e;
      size = ap (λ (y : Header). y.size) e;
      days-held = ap (λ (y : Header). y.days) e ∙ k;
      live-bytes = rw e l;
    }

-- the days held without the key's
pub held_out : (m : List ℕ) (x : Key) → Whole m (header_of m) → held (map_without m (header_of m) x) + length (day_held m x) ≡ (header_of m).days
unfolding day_held
held_out m x w =
    let h : Header = header_of m in
    by (is_there m h x)
    (λ t.
    let k = there m h x t in
    rw t (omega (arith, held_more (map_without m h x) h.map (seek m h x) (freeing h.map (seek m h x) k.uses) (slot-few m h w (seek m h x) k.uses), w.days)))
    (λ t. rw (t, none_out m h w x t) (omega (arith, w.days)))

module _ (m nmi suffix : List ℕ) (g : Given) (xs m' : List ℕ) (z : Small (header_of m)) (p : Puts m nmi suffix g xs m') where
  abbrev h : Header
  h = header_of m

  abbrev x : Key
  x = key_given nmi suffix g

  abbrev less : ℕ
  less = map_without m h x

  abbrev block : List ℕ
  block = block_of (day_given g)

  one_more : held (taken less (slot_for m h x)) ≡ held less + 1
  one_more =
      let w = whole m p.store in
      held_more less (taken less (slot_for m h x)) (slot_for m h x) (taking less (slot_for m h x) (seat m h w x p.within).free) (omega (arith, p.within, w.few))

  pub put-after : After m m' x (day_given g ∷ []) (block ∷ []) (held less + 1) (live m h less + length block)
  unfolding put_into
  put-after =
      let w = whole m p.store in
      let c : Putting m h x g = record { good = p.good; dated = refl; fit = writable g p.numbers p.written; within = p.within; fits = p.fits } in
      rw p.memory
      (after m (put_into m h less (slot_for m h x) x g block) (taken less (slot_for m h x)) (live m h less + length block) x (slot_for m h x) (day_given g ∷ []) (block ∷ []) (held less + 1)
      (live m h less + length block) z w
      (put.changed m h w z x g c)
      (put.put_whole m h w z x g c)
      (put.put-day m h w z x g c)
      (put.put-block m h w z x g c)
      one_more
      (put.put-live m h w z x g c))

  pub put-answer : xs ≡ (held less + 1) ∷ []
  put-answer = p.answer ∙ ap (λ (n : ℕ). n ∷ []) one_more

  pub put_count : held less + 1 + length (day_held m x) ≡ h.days + 1
  put_count = omega (arith, held_out m x (whole m p.store))

module _ (m : List ℕ) (y : Key) (xs m' : List ℕ) (z : Small (header_of m)) (p : Deletes m y xs m') where
  abbrev rest : ℕ
  rest = map_without m (header_of m) y

  pub delete-after : After m m' y [] [] (held rest) (live m (header_of m) rest)
  delete-after =
      let h : Header = header_of m in
      let w = whole m p.store in
      let e = delete.deleted-there m h w z y p.is in
      rw p.memory
      (after m _ rest (live m h rest) y (seek m h y) [] [] (held rest) (live m h rest) z w
      (delete.changed m h w z y p.is)
      (delete.deleted-whole m h w z y p.is)
      (rw e) (rw e) refl
      (delete.deleted-live m h w z y p.is))

  pub delete-count : held rest + 1 ≡ (header_of m).days
  unfolding day_held
  delete-count = let n : length (day_held m y) ≡ 1 = rw p.is in omega (arith, held_out m y (whole m p.store))

-- One call on a store and on a plain map that agree: the same is seen, and they agree again. Assumes nothing.
use Prim.Native.Nat.{ℕ, ◌+◌, ◌≤◌, ◌<◌}
use mathlib.Core.Path.{◌≡◌, refl, sym, ap, ap₂, ◌∙◌}
use mathlib.Core.Bool.{Bool, true, false, cond}
use mathlib.Core.List.{List, [], ◌∷◌, map}
use native.Mathlib.Omega.{arith}
use lib.ListN.{length}
use lib.Dec.{leb, ltb}
use borrow.Author.Tests.{leb-true, ltb-true}
use Rattle.ground.proofs.Cases.{by}
use Rattle.format.specs.Answers.{Answer, accepted, refused}
use Rattle.format.specs.Day.{Day, day_of, Five}
use Rattle.format.specs.Block.{Given, day_given, block_of}
use Rattle.entries.specs.Little.{piece}
use Rattle.entries.specs.Keys.{Key, capital_key, good_key, same_key}
use Rattle.store.specs.Used.{taken, held}
use Rattle.store.specs.Head.{header_of}
use Rattle.store.specs.Ranges.{slot_of}
use Rattle.store.specs.Moves.{live}
use Rattle.store.specs.Store.{block_in}
use Rattle.entries.specs.Left.{Left, left}
use Rattle.store.specs.Calls.{seek, is_there, slot_for, map_without, put_into, put_fit, key_given, write_answer, put_of, delete_from, delete_of, day_rows, get_of}
use Rattle.store.specs.Calls as store
use Rattle.store.specs.declared.Header.{Header}
use Rattle.plain.specs.Plain.{Call, put, get, delete, Seen, said, Held, Plain, Turn, Step, store_step, plain_turn, seen_by_store, seen_by_plain, day_for, without, bytes_of, keeping, put_place, put_over, put_plain, get_plain, delete_plain, step_by, got_by, seen_of}
use Rattle.plain.specs.Plain as plain
use Rattle.plain.specs.Stays.{day_held, memory_after}
use Rattle.stored.proofs.Keys.{key-is, key-itself}
use Rattle.stored.proofs.Seek.{there}
use Rattle.stored.proofs.Whole.{whole}
use Rattle.stored.proofs.Holds.{accepted-there, block-length}
use Rattle.plain.proofs.Days.{Once, for-alike, gone, once-out, for-own, for-other}
use Rattle.plain.proofs.Answers.{put_room, slot-known, slot-free, put-known, put-new}
use Rattle.plain.proofs.Got.{got}
use Rattle.plain.proofs.Ways.{Puts, deletes}
use Rattle.plain.proofs.After.{After, put-after, put-answer, delete-after}
use Rattle.plain.proofs.Agrees.{Agrees, days-alike, blocks-alike, live-agrees, held-agrees}

-- the same is seen, and what is left agrees
pub record Match (s : Step) (t : Turn) : Type 0 where
  pub seen : s.seen ≡ t.seen
  pub agrees : Agrees s.memory t.plain

-- by a test that both make
test-turn : (t u : Bool) (l r : Left) (b c : Turn) → t ≡ u → (t ≡ true → Match (step_by l) b) → (t ≡ false → Match (step_by r) c) → Match (step_by (cond t l r)) (cond u b c)
test-turn t u l r b c e f g = by t (λ i. rw (← e, i) (f i)) (λ i. rw (← e, i) (g i))

-- ---- a call that leaves other days

agrees_on : (m m' : List ℕ) (p : Plain) (x : Key) (es : List Held) → Agrees m p
    → After m m' x (day_for x es) (map block_of (day_for x es)) (length es) (bytes_of es)
    → ((y : Key) → same_key (capital_key y) (capital_key x) ≡ false → day_for y es ≡ day_for y p.days) → Once es
    → Agrees m' (record { slots = p.slots; room = p.room; days = es })
agrees_on m m' p x es a f others once =
    record {
      store = f.stays.store;
      small = f.small;
      slots = f.slots ∙ a.slots;
      room = f.size ∙ a.room;
      days = λ y.
          by (same_key (capital_key y) (capital_key x))
          (λ t. let e = key-is (capital_key y) (capital_key x) t in days-alike m' x y e ∙ f.stays.own ∙ sym (for-alike x y es e))
          (λ t. f.stays.others y t ∙ a.days y ∙ sym (others y t));
      blocks = λ y.
          by (same_key (capital_key y) (capital_key x))
          (λ t. let e = key-is (capital_key y) (capital_key x) t in blocks-alike m' x y e ∙ f.blocks ∙ ap (map block_of) (sym (for-alike x y es e)))
          (λ t. f.stays.blocks y t ∙ a.blocks y ∙ ap (map block_of) (sym (others y t)));
      once = once;
      count = f.days-held;
      bytes = f.live-bytes;
    }

-- ---- delete

module _ (m : List ℕ) (p : Plain) (a : Agrees m p) (x : Key) where
  abbrev h : Header
  h = header_of m

  abbrev rest : ℕ
  rest = map_without m h x

  deleted : is_there m h x ≡ true → Match (step_by (delete_of m x)) (delete_plain (day_for x p.days) x p)
  unfolding delete_of delete_from delete_plain day_held
  deleted t =
      let es : List Held = without x p.days in
      let q : day_for x p.days ≡ day_of (day_rows m h (slot_of m h (seek m h x))) ∷ [] = sym (a.days x) ∙ rw t in
      let m' : List ℕ = (delete_of m x).memory in
      let d : delete_of m x ≡ left (accepted (held rest ∷ [])) m' = rw (a.store, t) in
      let f = delete-after m x (held rest ∷ []) m' a.small (deletes m x (held rest ∷ []) m' d) in
      let g : After m m' x (day_for x es) (map block_of (day_for x es)) (length es) (bytes_of es) = rw (for-own x p.days, ← held-agrees m p a x, ← live-agrees m p a x) f in
      rw q
      (record {
        seen = ap (λ (l : Left). said l.answer) d ∙ ap (λ (n : ℕ). said (accepted (n ∷ []))) (held-agrees m p a x);
        agrees = agrees_on m m' p x es a g (λ y n. for-other x y p.days n) (once-out x p.days a.once);
      })

  delete-turn : Match (step_by (delete_of m x)) (delete_plain (day_for x p.days) x p)
  unfolding delete_of delete_plain day_held
  delete-turn =
      by (is_there m h x)
      deleted
      (λ t. let q : day_for x p.days ≡ [] = sym (a.days x) ∙ rw t in rw (q, a.store, t) (record { seen = refl; agrees = a }))

  -- ---- get

  get-turn : (vs : List ℕ) (ms : Five) → (got_by m (get_of m x vs ms)).seen ≡ get_plain (day_for x p.days) vs ms
  unfolding get_of get_plain day_held day_rows day_of seen_of
  get-turn vs ms =
      by (is_there m h x)
      (λ t.
      let s : ℕ = seek m h x in
      let w = whole m a.store in
      let u = (there m h x t).uses in
      let k = accepted-there m h w s u in
      let b : List ℕ = block_in m h (slot_of m h s) in
      let i : ℕ = h.room + (slot_of m h s).start in
      let q : day_for x p.days ≡ day_of (day_rows m h (slot_of m h s)) ∷ [] = sym (a.days x) ∙ rw t in
      let l : piece m i (length b) ≡ b = ap (piece m i) (block-length m h w s u) in
      rw (q, a.store, t) (got m (slot_of m h s).minutes (slot_of m h s).unit i b k.0 k.1 l vs ms))
      (λ t. let q : day_for x p.days ≡ [] = sym (a.days x) ∙ rw t in rw (q, a.store, t))

-- ---- put

module _ (m : List ℕ) (p : Plain) (a : Agrees m p) (nmi suffix : List ℕ) (g : Given) (good : good_key (key_given nmi suffix g) ≡ true) (ys : List ℕ) (written : write_answer g ≡ accepted ys) where
  abbrev k : Key
  k = key_given nmi suffix g

  abbrev d : Day
  d = day_given g

  abbrev hd : Header
  hd = header_of m

  abbrev es : List Held
  es = (keeping k d p).days

  -- it is put
  placed : slot_for m hd k < hd.slots → live m hd (map_without m hd k) + length (block_of d) ≤ hd.size
      → Match (step_by (left (accepted (held (taken (map_without m hd k) (slot_for m hd k)) ∷ [])) (put_into m hd (map_without m hd k) (slot_for m hd k) k g (block_of d))))
      (record { seen = said (accepted (length es ∷ [])); plain = keeping k d p })
  unfolding bytes_of day_for
  placed within fits =
      let m' : List ℕ = put_into m hd (map_without m hd k) (slot_for m hd k) k g (block_of d) in
      let xs : List ℕ = held (taken (map_without m hd k) (slot_for m hd k)) ∷ [] in
      let u : Puts m nmi suffix g xs m' =
      record { store = a.store; good = good; numbers = ys; written = written; within = within; fits = fits; answer = refl; memory = refl } in
      let n : held (map_without m hd k) + 1 ≡ length es = omega (arith, held-agrees m p a k) in
      let b : live m hd (map_without m hd k) + length (block_of d) ≡ bytes_of es = omega (arith, live-agrees m p a k) in
      let o : day_for k es ≡ d ∷ [] = rw (key-itself (capital_key k)) in
      let f : After m m' k (day_for k es) (map block_of (day_for k es)) (length es) (bytes_of es) = rw (o, ← n, ← b) (put-after m nmi suffix g xs m' a.small u) in
      record {
        seen = ap (λ (zs : List ℕ). said (accepted zs)) (put-answer m nmi suffix g xs m' a.small u ∙ ap (λ (i : ℕ). i ∷ []) n);
        agrees = agrees_on m m' p k es a f (λ y t. rw t (for-other k y p.days t)) (gone k p.days, once-out k p.days a.once);
      }

  -- 20
  room-turn : slot_for m hd k < hd.slots → Match (step_by (put_room m hd k g (block_of d))) (put_place k d p)
  unfolding put_place
  room-turn within =
      let e : leb (live m hd (map_without m hd k) + length (block_of d)) hd.size ≡ leb (bytes_of (without k p.days) + length (block_of d)) p.room =
      rw (live-agrees m p a k, a.room) in
      test-turn (leb (live m hd (map_without m hd k) + length (block_of d)) hd.size) _ _ _ _ _ e
      (λ t. placed within (leb-true _ _ t))
      (λ t. record { seen = refl; agrees = a })

  -- 18 and 19
  over-turn : Match (step_by (put_fit m hd k g (block_of d))) (put_over (day_for k p.days) k d p)
  unfolding put_over day_held day_given
  over-turn =
      let w = whole m a.store in
      by (is_there m hd k)
      (λ t.
      let old : Day = day_of (day_rows m hd (slot_of m hd (seek m hd k))) in
      let q : day_for k p.days ≡ old ∷ [] = sym (a.days k) ∙ rw t in
      let l : slot_for m hd k < hd.slots = rw (slot-known m hd w k t) (there m hd k t).within in
      rw (q, put-known m hd w k g (block_of d) t)
      (test-turn (leb g.head.update old.update) _ _ _ _ _ refl (λ u. record { seen = refl; agrees = a }) (λ u. room-turn l)))
      (λ t.
      let q : day_for k p.days ≡ [] = sym (a.days k) ∙ rw t in
      let e : ltb hd.days hd.slots ≡ ltb (length p.days) p.slots = rw (a.count, a.slots) in
      rw (q, put-new m hd w k g (block_of d) t)
      (test-turn (ltb hd.days hd.slots) _ _ _ _ _ e
      (λ u. room-turn (ltb-true _ _ (slot-free m hd w k t ∙ u)))
      (λ u. record { seen = refl; agrees = a })))

put-turn : (m : List ℕ) (p : Plain) → Agrees m p → (nmi suffix : List ℕ) (g : Given) → Match (step_by (put_of m nmi suffix g)) (put_plain nmi suffix g p)
unfolding put_of put_plain
put-turn m p a nmi suffix g =
    by (good_key (key_given nmi suffix g))
    (λ t. rw (a.store, t) (go t (write_answer g) refl))
    (λ t. rw (a.store, t) (record { seen = refl; agrees = a }))
  where
    go : good_key (key_given nmi suffix g) ≡ true → (w : Answer) → write_answer g ≡ w
        → Match (step_by (store.or_refused w m (put_fit m (header_of m) (key_given nmi suffix g) g (block_of (day_given g)))))
        (plain.or_refused w p (put_over (day_for (key_given nmi suffix g) p.days) (key_given nmi suffix g) (day_given g) p))
    go t (accepted ys) e = over-turn m p a nmi suffix g t ys e
    go t (refused x q k i) e = record { seen = refl; agrees = a }

-- ---- any call, any calls

one-turn : (c : Call) (m : List ℕ) (p : Plain) → Agrees m p → Match (store_step c m) (plain_turn c p)
unfolding store_step plain_turn
one-turn (put nmi suffix g) m p a = put-turn m p a nmi suffix g
one-turn (get x vs ms) m p a = record { seen = get-turn m p a x vs ms; agrees = a }
one-turn (delete x) m p a = delete-turn m p a x

pub all-turns : (cs : List Call) (m : List ℕ) (p : Plain) → Agrees m p → seen_by_store cs m ≡ seen_by_plain cs p
unfolding seen_by_store seen_by_plain
all-turns [] m p a = refl
all-turns (c ∷ cs) m p a =
    let t = one-turn c m p a in
    ap₂ (λ (s : Seen) (ss : List Seen). s ∷ ss) t.seen (all-turns cs (store_step c m).memory (plain_turn c p).plain t.agrees)

pub after-turns : (cs : List Call) (m : List ℕ) (p : Plain) → Agrees m p → (q : Plain) × Agrees (memory_after cs m) q
unfolding memory_after
after-turns [] m p a = (p, a)
after-turns (c ∷ cs) m p a = after-turns cs (store_step c m).memory (plain_turn c p).plain (one-turn c m p a).agrees

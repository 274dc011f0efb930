-- The ways out of a put and of a delete. Assumes nothing.
use Prim.Native.Nat.{ℕ, ◌+◌, ◌≤◌, ◌<◌}
use mathlib.Core.Path.{◌≡◌, refl, sym, ap}
use mathlib.Core.Bool.{Bool, true, false, not, ◌&&◌}
use mathlib.Core.List.{List, [], ◌∷◌}
use lib.ListN.{length}
use lib.Seq.{sets}
use lib.Dec.{leb, ltb}
use borrow.Author.Tests.{leb-true, ltb-true}
use Rattle.format.specs.Answers.{Answer, accepted, refused}
use Rattle.format.specs.Block.{Given, day_given, block_of}
use Rattle.entries.specs.Keys.{Key, good_key}
use Rattle.store.specs.Used.{taken, held}
use Rattle.store.specs.Head.{header_of, header_bytes, header_with}
use Rattle.store.specs.Moves.{live, moved_down}
use Rattle.store.specs.Store.{is_store}
use Rattle.entries.specs.Left.{Left, left, unless}
use Rattle.store.specs.Calls.{seek, is_there, update_of, slot_for, map_without, put_into, put_fit, or_refused, key_given, write_answer, put_of, delete_from, delete_of}
use Rattle.store.specs.declared.Header.{Header}
use Rattle.passing.proofs.Walk.{not-accepted}

-- ---- a test on the way

-- a call that is accepted passed the test
unless-on : (t : Bool) (x : ℕ) (m : List ℕ) (l : Left) (xs m' : List ℕ) → unless t x m l ≡ left (accepted xs) m' → (t ≡ true) × (l ≡ left (accepted xs) m')
unless-on true x m l xs m' e = (refl, e)
unless-on false x m l xs m' e = not-accepted x 0 0 0 xs (ap (λ (y : Left). y.answer) e)

writer-on : (a : Answer) (m : List ℕ) (l : Left) (xs m' : List ℕ) → or_refused a m l ≡ left (accepted xs) m' → ((ys : List ℕ) × (a ≡ accepted ys)) × (l ≡ left (accepted xs) m')
writer-on (accepted ys) m l xs m' e = ((ys, refl), e)
writer-on (refused x p k i) m l xs m' e = not-accepted x p k i xs (ap (λ (y : Left). y.answer) e)

-- a call that is refused leaves the memory
abbrev Keeps : List ℕ → Left → Type 0
Keeps m l = (x p k i : ℕ) → l.answer ≡ refused x p k i → l.memory ≡ m

unless-keeps : (t : Bool) (x : ℕ) (m : List ℕ) (l : Left) → Keeps m l → Keeps m (unless t x m l)
unless-keeps true x m l f = f
unless-keeps false x m l f = λ y p k i e. refl

writer-keeps : (a : Answer) (m : List ℕ) (l : Left) → Keeps m l → Keeps m (or_refused a m l)
writer-keeps (accepted ys) m l f = f
writer-keeps (refused x p k i) m l f = λ y q j o e. refl

accepted-keeps : (m m' xs : List ℕ) → Keeps m (left (accepted xs) m')
accepted-keeps m m' xs x p k i e = not-accepted x p k i xs (sym e)

-- ---- a put

module _ (m nmi suffix : List ℕ) (g : Given) where
  abbrev h : Header
  h = header_of m

  abbrev x : Key
  x = key_given nmi suffix g

  abbrev block : List ℕ
  block = block_of (day_given g)

  pub record Puts (xs m' : List ℕ) : Type 0 where
    pub store : is_store m ≡ true
    pub good : good_key x ≡ true
    pub numbers : List ℕ
    pub written : write_answer g ≡ accepted numbers
    pub within : slot_for m h x < h.slots
    pub fits : live m h (map_without m h x) + length block ≤ h.size
    pub answer : xs ≡ held (taken (map_without m h x) (slot_for m h x)) ∷ []
    pub memory : m' ≡ put_into m h (map_without m h x) (slot_for m h x) x g block

  pub puts : (xs m' : List ℕ) → put_of m nmi suffix g ≡ left (accepted xs) m' → Puts xs m'
  unfolding put_of put_fit
  puts xs m' e =
      let a = unless-on (is_store m) 21 m _ xs m' e in
      let b = unless-on (good_key x) 16 m _ xs m' a.1 in
      let c = writer-on (write_answer g) m _ xs m' b.1 in
      let d = unless-on (not (is_there m h x && leb g.head.update (update_of m h (seek m h x)))) 18 m _ xs m' c.1 in
      let f = unless-on (ltb (slot_for m h x) h.slots) 19 m _ xs m' d.1 in
      let j = unless-on (leb (live m h (map_without m h x) + length block) h.size) 20 m _ xs m' f.1 in
      let y : accepted (held (taken (map_without m h x) (slot_for m h x)) ∷ []) ≡ accepted xs = ap (λ (l : Left). l.answer) j.1 in
      record {
        store = a.0;
        good = b.0;
        numbers = c.0.0;
        written = c.0.1;
        within = ltb-true _ _ f.0;
        fits = leb-true _ _ j.0;
        answer = (let q : xs ≡ held (taken (map_without m h x) (slot_for m h x)) ∷ [] = cc in q);
        memory = sym (ap (λ (l : Left). l.memory) j.1);
      }

  pub put_keeps : (y p k i : ℕ) → (put_of m nmi suffix g).answer ≡ refused y p k i → (put_of m nmi suffix g).memory ≡ m
  unfolding put_of put_fit
  put_keeps =
      unless-keeps (is_store m) 21 m _
      (unless-keeps (good_key x) 16 m _
      (writer-keeps (write_answer g) m _
      (unless-keeps (not (is_there m h x && leb g.head.update (update_of m h (seek m h x)))) 18 m _
      (unless-keeps (ltb (slot_for m h x) h.slots) 19 m _
      (unless-keeps (leb (live m h (map_without m h x) + length block) h.size) 20 m _
      (accepted-keeps m _ _))))))

-- ---- a delete

module _ (m : List ℕ) (x : Key) where
  pub record Deletes (xs m' : List ℕ) : Type 0 where
    pub store : is_store m ≡ true
    pub is : is_there m (header_of m) x ≡ true
    pub answer : xs ≡ held (map_without m (header_of m) x) ∷ []
    pub memory :
        m' ≡ sets (moved_down m (header_of m) (map_without m (header_of m) x) []) 0 (header_bytes (header_with (header_of m) (map_without m (header_of m) x) (live m (header_of m) (map_without m (header_of m) x))))

  pub deletes : (xs m' : List ℕ) → delete_of m x ≡ left (accepted xs) m' → Deletes xs m'
  unfolding delete_of delete_from
  deletes xs m' e =
      let a = unless-on (is_store m) 21 m _ xs m' e in
      let b = unless-on (is_there m (header_of m) x) 14 m _ xs m' a.1 in
      let y : accepted (held (map_without m (header_of m) x) ∷ []) ≡ accepted xs = ap (λ (l : Left). l.answer) b.1 in
      record { store = a.0; is = b.0; answer = (let q : xs ≡ held (map_without m (header_of m) x) ∷ [] = cc in q); memory = sym (ap (λ (l : Left). l.memory) b.1) }

  pub delete-keeps : (y p k i : ℕ) → (delete_of m x).answer ≡ refused y p k i → (delete_of m x).memory ≡ m
  unfolding delete_of delete_from
  delete-keeps = unless-keeps (is_store m) 21 m _ (unless-keeps (is_there m (header_of m) x) 14 m _ (accepted-keeps m _ _))

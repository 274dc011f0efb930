-- The theorems of a store for days. Each says what it assumes.
use Prim.Native.Nat.{ℕ, ◌+◌, ◌≤◌, ◌<◌}
use mathlib.Core.Path.{◌≡◌, refl, sym, ap, ◌∙◌}
use mathlib.Core.Bool.{true, false}
use mathlib.Core.List.{List, [], ◌∷◌, map}
use lib.ListN.{length}
use Rattle.format.specs.Answers.{Answer, accepted, refused, refusal}
use Rattle.format.specs.Block.{Given, day_given, block_of}
use Rattle.entries.specs.Keys.{Key, capital_key, same_key}
use Rattle.store.specs.Head.{header_of}
use Rattle.store.specs.Moves.{live}
use Rattle.store.specs.Store.{is_store}
use Rattle.entries.specs.Left.{left}
use Rattle.store.specs.Calls.{map_without, key_given, make_of, put_of, delete_of}
use Rattle.slots.proofs.Back.{header-fits}
use Rattle.plain.specs.Plain.{Call, put, get, delete, said, store_step, seen_by_store, seen_by_plain, empty_plain}
use Rattle.plain.specs.Stays.{day_held, block_held, named, memory_after, AreBytes, StillPut, StillDelete}
use Rattle.plain.specs.Staying.{staying, Unrefused}
use Rattle.stored.proofs.Whole.{whole}
use Rattle.plain.proofs.Staying.{live-staying}
use Rattle.plain.proofs.Again.{Small}
use Rattle.plain.proofs.Ways.{puts, put_keeps, deletes, delete-keeps}
use Rattle.plain.proofs.After.{put-after, put-answer, put_count, delete-after, delete-count}
use Rattle.plain.proofs.Fits.{too_much, is-put}
use Rattle.plain.proofs.Agrees.{made-agrees}
use Rattle.plain.proofs.Turns.{all-turns, after-turns}

small : (m : List ℕ) → AreBytes m → Small (header_of m)
small m b = let f = header-fits m b in record { room = f.room; size = f.size }

-- ---- what is left is a store

-- A put that is accepted leaves a store which holds the day of the key, and of every other key the very block that it held; and it answers the days held. So it is
-- for any store that is lent, whatever holes it has and whatever blocks. Assumes that the memory lent is of bytes.
pub still-put : (m nmi suffix : List ℕ) (g : Given) (xs m' : List ℕ) → AreBytes m → put_of m nmi suffix g ≡ left (accepted xs) m' → StillPut m m' (key_given nmi suffix g) (day_given g) xs
still-put m nmi suffix g xs m' b e =
    let p = puts m nmi suffix g xs m' e in
    let z = small m b in
    let a = put-after m nmi suffix g xs m' z p in
    record {
      stays = a.stays;
      answer = put-answer m nmi suffix g xs m' z p ∙ ap (λ (n : ℕ). n ∷ []) (sym a.days-held);
      days = rw a.days-held (put_count m nmi suffix g xs m' z p);
    }

-- A delete that is accepted leaves a store without a day of the key, and of every other key the very block that it held; and it answers the days held. For any store
-- that is lent. Assumes that the memory lent is of bytes.
pub still-delete : (m : List ℕ) (x : Key) (xs m' : List ℕ) → AreBytes m → delete_of m x ≡ left (accepted xs) m' → StillDelete m m' x xs
still-delete m x xs m' b e =
    let p = deletes m x xs m' e in
    let z = small m b in
    let a = delete-after m x xs m' z p in
    record {
      stays = a.stays;
      answer = p.answer ∙ ap (λ (n : ℕ). n ∷ []) (sym a.days-held);
      days = rw a.days-held (delete-count m x xs m' z p);
    }

-- ---- others stay

module _ (m : List ℕ) where
  others_put : (nmi suffix : List ℕ) (g : Given) → AreBytes m → (y : Key) → same_key (capital_key y) (capital_key (key_given nmi suffix g)) ≡ false
      → day_held (put_of m nmi suffix g).memory y ≡ day_held m y
  others_put nmi suffix g b y n = go (put_of m nmi suffix g).answer refl
    where
      go : (a : Answer) → (put_of m nmi suffix g).answer ≡ a → day_held (put_of m nmi suffix g).memory y ≡ day_held m y
      go (accepted xs) e = (still-put m nmi suffix g xs (put_of m nmi suffix g).memory b (ap (λ (a : Answer). left a (put_of m nmi suffix g).memory) e)).stays.others y n
      go (refused x p k i) e = ap (λ (l : List ℕ). day_held l y) (put_keeps m nmi suffix g x p k i e)

  others-delete : (x : Key) → AreBytes m → (y : Key) → same_key (capital_key y) (capital_key x) ≡ false → day_held (delete_of m x).memory y ≡ day_held m y
  others-delete x b y n = go (delete_of m x).answer refl
    where
      go : (a : Answer) → (delete_of m x).answer ≡ a → day_held (delete_of m x).memory y ≡ day_held m y
      go (accepted xs) e = (still-delete m x xs (delete_of m x).memory b (ap (λ (a : Answer). left a (delete_of m x).memory) e)).stays.others y n
      go (refused z p k i) e = ap (λ (l : List ℕ). day_held l y) (delete-keeps m x z p k i e)

-- A put, a get or a delete, accepted or refused, leaves the day of every other key as it was. For any memory. Assumes that it is of bytes.
pub others-stay : (m : List ℕ) (c : Call) → AreBytes m → (y : Key) → same_key (capital_key y) (capital_key (named c)) ≡ false → day_held (store_step c m).memory y ≡ day_held m y
unfolding store_step
others-stay m (put nmi suffix g) b y n = others_put m nmi suffix g b y n
others-stay m (get x vs ms) b y n = refl
others-stay m (delete x) b y n = others-delete m x b y n

-- A call that is refused leaves every byte of memory. Assumes nothing.
pub refused-keeps : (m : List ℕ) (c : Call) (x p k i : ℕ) → (store_step c m).seen ≡ said (refused x p k i) → (store_step c m).memory ≡ m
unfolding store_step
refused-keeps m (put nmi suffix g) x p k i e = put_keeps m nmi suffix g x p k i (let z : (put_of m nmi suffix g).answer ≡ refused x p k i = cc in z)
refused-keeps m (get y vs ms) x p k i e = refl
refused-keeps m (delete y) x p k i e = delete-keeps m y x p k i (let z : (delete_of m y).answer ≡ refused x p k i = cc in z)

-- ---- 20

-- "20 is never given while the bytes would fit": where a put answers 20, the blocks of all used slots but the key's and the new block have more bytes than the room.
-- Assumes nothing.
pub never-too-early : (m nmi suffix : List ℕ) (g : Given) → (put_of m nmi suffix g).answer ≡ refusal 20
    → (header_of m).size < staying m (key_given nmi suffix g) + length (block_of (day_given g))
never-too-early m nmi suffix g e = too_much m nmi suffix g e

-- And where they have no more, and nothing else refuses the put, it is accepted. Assumes nothing.
pub fits-accepted : (m nmi suffix : List ℕ) (g : Given) → Unrefused m nmi suffix g → staying m (key_given nmi suffix g) + length (block_of (day_given g)) ≤ (header_of m).size
    → (xs : List ℕ) × ((put_of m nmi suffix g).answer ≡ accepted xs)
fits-accepted m nmi suffix g u l = (_, is-put m nmi suffix g u l)

-- The live bytes by which a put decides are those: the lengths of the blocks of all used slots but the key's, added up. Assumes nothing.
pub live-bytes : (m : List ℕ) (x : Key) → is_store m ≡ true → live m (header_of m) (map_without m (header_of m) x) ≡ staying m x
unfolding staying
live-bytes m x s = live-staying m (header_of m) (whole m s) x

-- ---- a plain map

-- "Any sequence of calls answers as a plain map from key to day with these refusals would, days compared as *same*": from `make_store` on any memory on, what is seen
-- of any puts, gets and deletes is what is seen of the map, call by call. Assumes that the store was made.
pub plain_map : (m : List ℕ) (n r : ℕ) → (make_of m n).answer ≡ accepted (r ∷ []) → (cs : List Call) → seen_by_store cs (make_of m n).memory ≡ seen_by_plain cs (empty_plain n r)
plain_map m n r e cs = all-turns cs (make_of m n).memory (empty_plain n r) (made-agrees m n r e)

-- "Lent memory keeps days, [..] each held as its shortest block": after any calls from `make_store` on the memory is a store, and the block that it holds of a key is the
-- one that the writer writes for the day. Assumes that the store was made.
pub shortest-held : (m : List ℕ) (n r : ℕ) → (make_of m n).answer ≡ accepted (r ∷ []) → (cs : List Call)
    → (is_store (memory_after cs (make_of m n).memory) ≡ true)
    × ((x : Key) → block_held (memory_after cs (make_of m n).memory) x ≡ map block_of (day_held (memory_after cs (make_of m n).memory) x))
shortest-held m n r e cs =
    let a = (after-turns cs (make_of m n).memory (empty_plain n r) (made-agrees m n r e)).1 in
    (a.store, λ x. a.blocks x ∙ ap (map block_of) (sym (a.days x)))

-- The bytes that 20 is about: "live bytes, the replaced day left out"; and a put that nothing else refuses.
use Rattle.std.specs.Prelude.{ℕ, ◌<◌, ◌≡◌, List, [], ◌∷◌, map, true, cond, length}
use Rattle.ground.specs.Lists.{sum}
use Rattle.format.specs.Answers.{accepted}
use Rattle.format.specs.Day.{Day}
use Rattle.format.specs.Block.{Given}
use Rattle.entries.specs.Keys.{Key, capital_key, good_key, same_key}
use Rattle.store.specs.Head.{header_of}
use Rattle.store.specs.Ranges.{slot_of}
use Rattle.store.specs.Store.{used_slots, slot_key, block_in, is_store}
use Rattle.store.specs.Calls.{key_given, write_answer}
use Rattle.store.specs.declared.Header.{Header}
use Rattle.plain.specs.Stays.{day_held}

-- of these slots, those of another key
unfoldable pub others_among : List ℕ → Header → Key → List ℕ → List ℕ
others_among m h x [] = []
others_among m h x (i ∷ is) = cond (same_key (capital_key x) (slot_key m h i)) (others_among m h x is) (i ∷ others_among m h x is)

-- the bytes of their blocks
unfoldable pub bytes_among : List ℕ → Header → List ℕ → ℕ
bytes_among m h is = sum (map (λ i. length (block_in m h (slot_of m h i))) is)

-- the bytes of the blocks of all used slots but the key's
unfoldable pub staying : List ℕ → Key → ℕ
staying m x = bytes_among m (header_of m) (others_among m (header_of m) x (used_slots (header_of m)))

-- nothing but the room can refuse this put: the memory is a store (21), the key is good (16), the writer takes the day, a day that is held of the key has an earlier
-- update time (18), and where none is held a slot is free (19)
pub record Unrefused (m nmi suffix : List ℕ) (g : Given) : Type 0 where
  pub store : is_store m ≡ true
  pub good : good_key (key_given nmi suffix g) ≡ true
  pub numbers : List ℕ
  pub written : write_answer g ≡ accepted numbers
  pub later : (d : Day) → day_held m (key_given nmi suffix g) ≡ d ∷ [] → d.update < g.head.update
  pub free : day_held m (key_given nmi suffix g) ≡ [] → (header_of m).days < (header_of m).slots

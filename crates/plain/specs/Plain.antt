-- 02, 2: "Any sequence of calls answers as a plain map from key to day with these refusals would, days compared as *same*". And the tickets of 02: "a definition of
-- that map with its slots' number and its room's bytes, one step a call".
use Rattle.std.specs.Prelude.{ℕ, ◌+◌, List, [], ◌∷◌, map, cond, length, take, drop, get_or, leb, ltb}
use Rattle.ground.specs.Lists.{from, sum}
use Rattle.format.specs.Answers.{Answer, accepted, refused, refusal}
use Rattle.format.specs.Day.{Day, Five, Outcome, room_for}
use Rattle.format.specs.Block.{Given, day_given, block_of}
use Rattle.format.specs.Quality.{Mark}
use Rattle.entries.specs.Keys.{Key, capital_key, good_key, same_key}
use Rattle.entries.specs.Left.{Left}
use Rattle.store.specs.Calls.{key_given, write_answer, put_of, delete_of, get_of}

-- ---- calls, and what is seen of them

pub data Call : Type 0 where
  put : List ℕ → List ℕ → Given → Call
  get : Key → List ℕ → Five → Call
  delete : Key → Call

-- an answer; or, of a get that is accepted, the day
pub data Seen : Type 0 where
  said : Answer → Seen
  saw : Day → Seen

-- ---- the plain map

-- a day with its key in capital letters
pub record Held : Type 0 where
  pub key : Key
  pub day : Day

-- so many slots, so many bytes of room, and the days
pub record Plain : Type 0 where
  pub slots : ℕ
  pub room : ℕ
  pub days : List Held

-- the day of a key, or none
unfoldable pub day_for : Key → List Held → List Day
day_for x [] = []
day_for x (d ∷ ds) = cond (same_key (capital_key x) d.key) (d.day ∷ []) (day_for x ds)

-- all others
unfoldable pub without : Key → List Held → List Held
without x [] = []
without x (d ∷ ds) = cond (same_key (capital_key x) d.key) (without x ds) (d ∷ without x ds)

-- "each held as its shortest block": the bytes of all
unfoldable pub bytes_of : List Held → ℕ
bytes_of ds = sum (map (λ (d : Held). length (block_of d.day)) ds)

-- what a call answers, and the map that it leaves
pub record Turn : Type 0 where
  pub seen : Seen
  pub plain : Plain

abbrev pub turn : Seen → Plain → Turn
turn s p = record { seen = s; plain = p }

abbrev pub refuse : ℕ → Plain → Turn
refuse x p = turn (said (refusal x)) p

-- the map with this day in the place of the key's
abbrev pub keeping : Key → Day → Plain → Plain
keeping x d p = record { slots = p.slots; room = p.room; days = record { key = capital_key x; day = d } ∷ without x p.days }

-- 20: the other days' bytes and the new block's exceed the room
unfoldable pub put_place : Key → Day → Plain → Turn
put_place x d p =
    cond (leb (bytes_of (without x p.days) + length (block_of d)) p.room)
    (turn (said (accepted (length (keeping x d p).days ∷ []))) (keeping x d p))
    (refuse 20 p)

-- 18 where the key's day has an update time that is equal or later, 19 where the key is new and every slot is used
unfoldable pub put_over : List Day → Key → Day → Plain → Turn
put_over [] x d p = cond (ltb (length p.days) p.slots) (put_place x d p) (refuse 19 p)
put_over (old ∷ ds) x d p = cond (leb d.update old.update) (refuse 18 p) (put_place x d p)

abbrev pub or_refused : Answer → Plain → Turn → Turn
or_refused (accepted xs) p t = t
or_refused (refused x q k i) p t = turn (said (refused x q k i)) p

unfoldable pub put_plain : List ℕ → List ℕ → Given → Plain → Turn
put_plain nmi suffix g p =
    cond (good_key (key_given nmi suffix g))
    (or_refused (write_answer g) p (put_over (day_for (key_given nmi suffix g) p.days) (key_given nmi suffix g) (day_given g) p))
    (refuse 16 p)

-- 14, or 15 where a list is short
unfoldable pub get_plain : List Day → List ℕ → Five → Seen
get_plain [] vs ms = said (refusal 14)
get_plain (d ∷ ds) vs ms = cond (room_for d.n vs ms) (saw d) (said (refusal 15))

unfoldable pub delete_plain : List Day → Key → Plain → Turn
delete_plain [] x p = refuse 14 p
delete_plain (d ∷ ds) x p =
    turn (said (accepted (length (without x p.days) ∷ []))) (record { slots = p.slots; room = p.room; days = without x p.days })

unfoldable pub plain_turn : Call → Plain → Turn
plain_turn (put nmi suffix g) p = put_plain nmi suffix g p
plain_turn (get x vs ms) p = turn (get_plain (day_for x p.days) vs ms) p
plain_turn (delete x) p = delete_plain (day_for x p.days) x p

-- ---- the store

-- the mark of interval i that a get leaves in the lists, its description at its place in memory
unfoldable pub mark_left : List ℕ → Five → ℕ → Mark
mark_left m ms i =
    record {
      flag = get_or ms.flags i 0;
      method = get_or ms.methods i 0;
      reason = get_or ms.reasons i 0;
      text = take (get_or ms.lengths i 0) (drop (get_or ms.starts i 0) m);
    }

-- and the day, where the answer's numbers are date, n, update time, load time and unit
unfoldable pub day_left : List ℕ → List ℕ → List ℕ → Five → Day
day_left m xs vs ms =
    record {
      date = get_or xs 0 0;
      n = get_or xs 1 0;
      unit = get_or xs 4 0;
      update = get_or xs 2 0;
      load = get_or xs 3 0;
      values = take (get_or xs 1 0) vs;
      marks = from (mark_left m ms) 0 (get_or xs 1 0);
    }

unfoldable pub seen_of : List ℕ → Answer → List ℕ → Five → Seen
seen_of m (accepted xs) vs ms = saw (day_left m xs vs ms)
seen_of m (refused x p k i) vs ms = said (refused x p k i)

-- what is seen of a call, and the memory that it leaves
pub record Step : Type 0 where
  pub seen : Seen
  pub memory : List ℕ

abbrev pub step_by : Left → Step
step_by l = record { seen = said l.answer; memory = l.memory }

abbrev pub got_by : List ℕ → Outcome → Step
got_by m o = record { seen = seen_of m o.answer o.values o.marks; memory = m }

unfoldable pub store_step : Call → List ℕ → Step
store_step (put nmi suffix g) m = step_by (put_of m nmi suffix g)
store_step (get x vs ms) m = got_by m (get_of m x vs ms)
store_step (delete x) m = step_by (delete_of m x)

-- ---- any sequence of calls

unfoldable pub seen_by_store : List Call → List ℕ → List Seen
seen_by_store [] m = []
seen_by_store (c ∷ cs) m = (store_step c m).seen ∷ seen_by_store cs (store_step c m).memory

unfoldable pub seen_by_plain : List Call → Plain → List Seen
seen_by_plain [] p = []
seen_by_plain (c ∷ cs) p = (plain_turn c p).seen ∷ seen_by_plain cs (plain_turn c p).plain

-- a map without days
abbrev pub empty_plain : ℕ → ℕ → Plain
empty_plain slots room = record { slots = slots; room = room; days = [] }

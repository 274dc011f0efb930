-- The header and an entry as their numbers one by one: read, and written one behind the other. Assumes nothing.
use Prim.Native.Nat.{ℕ, ◌+◌, ◌≤◌}
use mathlib.Core.Path.{◌≡◌, refl, sym, ap}
use mathlib.Core.List.{List, ◌++◌, append_assoc}
use native.Mathlib.Omega.{arith}
use lib.ListN.{length, drop_of_length-le}
use lib.Seq.{sets, take-nil}
use Rattle.ground.specs.Room.{Put}
use Rattle.ground.proofs.Room.{put_then, put_as}
use Rattle.entries.specs.Little.{number, number_at, in_bytes}
use Rattle.entries.specs.Keys.{key, capitals, capital_key}
use Rattle.entries.specs.Entries.{entry_at, entry_bytes}
use Rattle.entries.specs.declared.Entry.{Entry}
use Rattle.store.specs.Head.{header_of, header_bytes}
use Rattle.store.specs.declared.Header.{Header}
use Rattle.keys.proofs.Letters.{length-capitals}
use Rattle.little.proofs.Numbers.{put_in}
use Rattle.slots.specs.Fields.{numbers_of}

-- ---- the header

pub header-there : (m : List ℕ) {a b c d e f g : ℕ} → a ≡ number_at m 0 4 → b ≡ number_at m 4 4 → c ≡ number_at m 8 8 → d ≡ number_at m 16 4
    → e ≡ number_at m 20 4 → f ≡ number_at m 24 4 → g ≡ number_at m 28 4
    → record { slots = a; days = b; map = c; list = d; room = e; size = f; used = g } ≡ header_of m
unfolding header_of
header-there m p q r s t u v = rw (p, q, r, s, t, u, v)

-- the last number first: so each list is known where it is asked for
pub header-written : (l : List ℕ) (h : Header) {a b c d e f g : List ℕ}
    → g ≡ sets f 28 (in_bytes 4 h.used)
    → f ≡ sets e 24 (in_bytes 4 h.size)
    → e ≡ sets d 20 (in_bytes 4 h.room)
    → d ≡ sets c 16 (in_bytes 4 h.list)
    → c ≡ sets b 8 (in_bytes 8 h.map)
    → b ≡ sets a 4 (in_bytes 4 h.days)
    → a ≡ sets l 0 (in_bytes 4 h.slots)
    → g ≡ sets l 0 (header_bytes h)
unfolding header_bytes
header-written l h e₇ e₆ e₅ e₄ e₃ e₂ e₁ =
    (put_then (put_then (put_then (put_then (put_then (put_then
    (put_in {j = 4} 4 h.slots (omega arith) e₁)
    (put_in {j = 8} 4 h.days (omega arith) e₂))
    (put_in {j = 16} 8 h.map (omega arith) e₃))
    (put_in {j = 20} 4 h.list (omega arith) e₄))
    (put_in {j = 24} 4 h.room (omega arith) e₅))
    (put_in {j = 28} 4 h.size (omega arith) e₆))
    (put_in {j = 32} 4 h.used (omega arith) e₇)).room

-- ---- an entry, read

number_past : (m : List ℕ) (a k : ℕ) → length m ≤ a → number_at m a k ≡ 0
unfolding number
number_past m a k h = rw (drop_of_length-le m h, take-nil)

pub entry_past : (m : List ℕ) (a : ℕ) → length m ≤ a → record { minutes = 0; unit = 0; start = 0; size = 0 } ≡ entry_at m a
unfolding entry_at
entry_past m a h =
    rw (
      number_past m (a + 16) 1 (omega arith),
      number_past m (a + 17) 1 (omega arith),
      number_past m (a + 18) 4 (omega arith),
      number_past m (a + 22) 4 (omega arith),
    )

pub entry-there : (m : List ℕ) (a : ℕ) {x u b n : ℕ} → x ≡ number_at m (a + 16) 1 → u ≡ number_at m (a + 17) 1 → b ≡ number_at m (a + 18) 4
    → n ≡ number_at m (a + 22) 4
    → record { minutes = x; unit = u; start = b; size = n } ≡ entry_at m a
unfolding entry_at
entry-there m a e f g h = rw (e, f, g, h)

-- ---- an entry, written

pub numbers-written : (l : List ℕ) (at date : ℕ) (x : Entry) {a b c d e : List ℕ}
    → e ≡ sets d (at + 10) (in_bytes 4 x.size)
    → d ≡ sets c (at + 6) (in_bytes 4 x.start)
    → c ≡ sets b (at + 5) (in_bytes 1 x.unit)
    → b ≡ sets a (at + 4) (in_bytes 1 x.minutes)
    → a ≡ sets l at (in_bytes 4 date)
    → e ≡ sets l at (numbers_of date x)
unfolding numbers_of
numbers-written l at date x e₅ e₄ e₃ e₂ e₁ =
    (put_then (put_then (put_then (put_then
    (put_in {j = at + 4} 4 date (omega arith) e₁)
    (put_in {j = at + 5} 1 x.minutes (omega arith) e₂))
    (put_in {j = at + 6} 1 x.unit (omega arith) e₃))
    (put_in {j = at + 10} 4 x.start (omega arith) e₄))
    (put_in {j = at + 14} 4 x.size (omega arith) e₅)).room

regroup : (a b c d e f g : List ℕ) → a ++ b ++ (c ++ d ++ e ++ f ++ g) ≡ a ++ b ++ c ++ d ++ e ++ f ++ g
regroup a b c d e f g = simp append_assoc

-- an entry's bytes are those of its NMI and suffix, and its numbers
pub entry-parts : (nmi suffix : List ℕ) (date : ℕ) (e : Entry) → nmi ++ suffix ++ numbers_of date e ≡ entry_bytes (key nmi suffix date) e
unfolding entry_bytes numbers_of
entry-parts nmi suffix date e = regroup nmi suffix (in_bytes 4 date) (in_bytes 1 e.minutes) (in_bytes 1 e.unit) (in_bytes 4 e.start) (in_bytes 4 e.size)

pub entry-written : (l : List ℕ) (at : ℕ) (nmi suffix : List ℕ) (date : ℕ) (e : Entry) {a b c : List ℕ}
    → c ≡ sets b (at + length nmi + length suffix) (numbers_of date e)
    → b ≡ sets a (at + length nmi) (capitals suffix)
    → a ≡ sets l at (capitals nmi)
    → c ≡ sets l at (entry_bytes (capital_key (key nmi suffix date)) e)
unfolding capital_key
entry-written l at nmi suffix date e {a} {b} {c} e₃ e₂ e₁ =
    let p : Put l at (capitals nmi) (at + length nmi) a = record { behind = ap (λ (k : ℕ). at + k) (sym (length-capitals nmi)); room = e₁ } in
    let q : Put a (at + length nmi) (capitals suffix) (at + length nmi + length suffix) b =
    record { behind = ap (λ (k : ℕ). at + length nmi + k) (sym (length-capitals suffix)); room = e₂ }
    in
    let r : Put b (at + length nmi + length suffix) (numbers_of date e) _ c = record { behind = refl; room = e₃ } in
    (put_as (put_then (put_then p q) r) (entry-parts (capitals nmi) (capitals suffix) date e)).room

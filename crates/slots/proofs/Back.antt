-- A header and an entry that are written are read back, and stay where something else is written. Assumes nothing.
use Prim.Native.Nat.{ℕ, ◌+◌, ◌^◌, ◌≤◌, ◌<◌}
use mathlib.Core.Path.{◌≡◌, refl, sym, ap, ◌∙◌}
use mathlib.Core.List.{List, ◌++◌, append_assoc}
use native.Mathlib.Omega.{arith}
use lib.ListN.{length, take, drop, get_or, length-append}
use lib.Seq.{sets, take_at, drop_at, drop-drop}
use Rattle.ground.proofs.Room.{sets-front}
use Rattle.entries.specs.Little.{piece, number, number_at, in_bytes}
use Rattle.entries.specs.Keys.{Key}
use Rattle.entries.specs.Entries.{key_at, entry_at, entry_bytes}
use Rattle.entries.specs.declared.Entry.{Entry}
use Rattle.store.specs.Head.{header_of, header_bytes}
use Rattle.store.specs.declared.Header.{Header}
use Rattle.little.proofs.Pieces.{piece_of, piece-apart, piece-behind}
use Rattle.little.proofs.Numbers.{number_in, number-below}
use Rattle.slots.specs.Fields.{numbers_of}
use Rattle.slots.proofs.Numbers.{entry-parts}

-- ---- the header

-- each of its numbers fits its bytes
pub record HeaderFits (h : Header) : Type 0 where
  pub slots : h.slots < 2 ^ 32
  pub days : h.days < 2 ^ 32
  pub map : h.map < 2 ^ 64
  pub list : h.list < 2 ^ 32
  pub room : h.room < 2 ^ 32
  pub size : h.size < 2 ^ 32
  pub used : h.used < 2 ^ 32

-- as those do that are read from bytes
pub header-fits : (m : List ℕ) → ((i : ℕ) → get_or m i 0 < 256) → HeaderFits (header_of m)
unfolding header_of
header-fits m f =
    record {
      slots = number-below 4 0 m f;
      days = number-below 4 4 m f;
      map = number-below 8 8 m f;
      list = number-below 4 16 m f;
      room = number-below 4 20 m f;
      size = number-below 4 24 m f;
      used = number-below 4 28 m f;
    }

pub length-header : (h : Header) → length (header_bytes h) ≡ 32
unfolding header_bytes in_bytes
length-header h = refl

header-opened : (h : Header) (l : List ℕ)
    → header_of (header_bytes h ++ l)
    ≡ record {
      slots = number (in_bytes 4 h.slots);
      days = number (in_bytes 4 h.days);
      map = number (in_bytes 8 h.map);
      list = number (in_bytes 4 h.list);
      room = number (in_bytes 4 h.room);
      size = number (in_bytes 4 h.size);
      used = number (in_bytes 4 h.used);
    }
unfolding header_of header_bytes in_bytes
header-opened h l = refl

pub header-back : (h : Header) (m : List ℕ) → 32 ≤ length m → HeaderFits h → header_of (sets m 0 (header_bytes h)) ≡ h
header-back h m g s =
    ap header_of (sets-front m (header_bytes h) (omega (arith, length-header h)))
    ∙ header-opened h (drop (length (header_bytes h)) m)
    ∙ rw (
      number_in 4 h.slots s.slots,
      number_in 4 h.days s.days,
      number_in 8 h.map s.map,
      number_in 4 h.list s.list,
      number_in 4 h.room s.room,
      number_in 4 h.size s.size,
      number_in 4 h.used s.used,
    )

pub header-outside : (h : Header) (m : List ℕ) (a k : ℕ) → 32 ≤ a → piece (sets m 0 (header_bytes h)) a k ≡ piece m a k
header-outside h m a k g = piece-behind (header_bytes h) m a k 0 (omega (arith, length-header h))

-- ---- an entry and its key

-- each of the parts fits its bytes
pub record EntryFits (k : Key) (e : Entry) : Type 0 where
  pub nmi : length k.nmi ≡ 10
  pub suffix : length k.suffix ≡ 2
  pub date : k.date < 2 ^ 32
  pub minutes : e.minutes < 2 ^ 8
  pub unit : e.unit < 2 ^ 8
  pub start : e.start < 2 ^ 32
  pub size : e.size < 2 ^ 32

length-numbers : (date : ℕ) (e : Entry) → length (numbers_of date e) ≡ 14
unfolding numbers_of in_bytes
length-numbers date e = refl

-- the entry at a and the one at b, where their bytes agree
pub key-same : (s t : List ℕ) (a b : ℕ) → ((i k : ℕ) → i + k ≤ 26 → piece s (a + i) k ≡ piece t (b + i) k) → key_at s a ≡ key_at t b
unfolding key_at
key-same s t a b f =
    let p : a + 0 ≡ a = omega arith in
    let q : b + 0 ≡ b = omega arith in
    let n : piece s a 10 ≡ piece t b 10 = ap (λ (x : ℕ). piece s x 10) (sym p) ∙ f 0 10 (omega arith) ∙ ap (λ (x : ℕ). piece t x 10) q in
    rw (n, f 10 2 (omega arith), f 12 4 (omega arith))

pub entry-same : (s t : List ℕ) (a b : ℕ) → ((i k : ℕ) → i + k ≤ 26 → piece s (a + i) k ≡ piece t (b + i) k) → entry_at s a ≡ entry_at t b
unfolding entry_at
entry-same s t a b f = rw (f 16 1 (omega arith), f 17 1 (omega arith), f 18 4 (omega arith), f 22 4 (omega arith))

-- it stays where something is written before it or behind it
module _ (m vs : List ℕ) (at a : ℕ) (apart : at < a + 26 → at + length vs ≤ a) where
  stays : (i k : ℕ) → i + k ≤ 26 → piece (sets m at vs) (a + i) k ≡ piece m (a + i) k
  stays i k g = piece-apart vs m (a + i) k at (λ h. let z = apart (omega arith) in omega arith)

  pub key-kept : key_at (sets m at vs) a ≡ key_at m a
  key-kept = key-same (sets m at vs) m a a stays

  pub entry_kept : entry_at (sets m at vs) a ≡ entry_at m a
  entry_kept = entry-same (sets m at vs) m a a stays

-- a header is written before it
module _ (h : Header) (m : List ℕ) (a : ℕ) (g : 32 ≤ a) where
  pub key-outside : key_at (sets m 0 (header_bytes h)) a ≡ key_at m a
  key-outside = key-kept m (header_bytes h) 0 a (λ z. omega (arith, length-header h))

  pub entry-outside : entry_at (sets m 0 (header_bytes h)) a ≡ entry_at m a
  entry-outside = entry_kept m (header_bytes h) 0 a (λ z. omega (arith, length-header h))

-- it is read back where it was written
module _ (k : Key) (e : Entry) (m : List ℕ) (a : ℕ) (z : EntryFits k e) (h : a + 26 ≤ length m) where
  abbrev parts : List ℕ
  parts = k.nmi ++ k.suffix ++ numbers_of k.date e

  bytes-are : entry_bytes k e ≡ parts
  bytes-are = sym (entry-parts k.nmi k.suffix k.date e)

  front : length (k.nmi ++ k.suffix) ≡ 12
  front = length-append k.nmi k.suffix ∙ omega (arith, z.nmi, z.suffix)

  long : length (entry_bytes k e) ≡ 26
  long = ap length bytes-are ∙ length-append (k.nmi ++ k.suffix) (numbers_of k.date e) ∙ omega (arith, front, length-numbers k.date e)

  -- n bytes at i of what was written
  there : (i n : ℕ) → i + n ≤ 26 → piece (sets m a (entry_bytes k e)) (a + i) n ≡ piece parts i n
  there i n g = piece_of (entry_bytes k e) m i n a (omega (arith, long)) (omega (arith, long)) ∙ ap (λ (s : List ℕ). piece s i n) bytes-are

  nmi-back : piece (sets m a (entry_bytes k e)) a 10 ≡ k.nmi
  nmi-back =
      let q : a + 0 ≡ a = omega arith in
      ap (λ (x : ℕ). piece (sets m a (entry_bytes k e)) x 10) (sym q)
      ∙ there 0 10 (omega arith)
      ∙ ap (take 10) (append_assoc k.nmi k.suffix (numbers_of k.date e))
      ∙ take_at k.nmi (k.suffix ++ numbers_of k.date e) 10 z.nmi

  suffix-back : piece (sets m a (entry_bytes k e)) (a + 10) 2 ≡ k.suffix
  suffix-back =
      there 10 2 (omega arith)
      ∙ ap (λ (s : List ℕ). piece s 10 2) (append_assoc k.nmi k.suffix (numbers_of k.date e))
      ∙ ap (take 2) (drop_at k.nmi (k.suffix ++ numbers_of k.date e) 10 z.nmi)
      ∙ take_at k.suffix (numbers_of k.date e) 2 z.suffix

  number-there : (i n : ℕ) → i + n ≤ 14 → number_at (sets m a (entry_bytes k e)) (a + (12 + i)) n ≡ number_at (numbers_of k.date e) i n
  number-there i n g =
      ap number (there (12 + i) n (omega arith))
      ∙ ap (λ (s : List ℕ). number (take n s))
      (sym (drop-drop i 12 parts) ∙ ap (drop i) (drop_at (k.nmi ++ k.suffix) (numbers_of k.date e) 12 front))

  pub key_back : key_at (sets m a (entry_bytes k e)) a ≡ k
  unfolding key_at numbers_of in_bytes
  key_back =
      let d : number_at (sets m a (entry_bytes k e)) (a + 12) 4 ≡ k.date = number-there 0 4 (omega arith) ∙ number_in 4 k.date z.date in
      rw (nmi-back, suffix-back, d)

  pub entry-back : entry_at (sets m a (entry_bytes k e)) a ≡ e
  unfolding entry_at numbers_of in_bytes
  entry-back =
      let x : number_at (sets m a (entry_bytes k e)) (a + 16) 1 ≡ e.minutes = number-there 4 1 (omega arith) ∙ number_in 1 e.minutes z.minutes in
      let u : number_at (sets m a (entry_bytes k e)) (a + 17) 1 ≡ e.unit = number-there 5 1 (omega arith) ∙ number_in 1 e.unit z.unit in
      let s : number_at (sets m a (entry_bytes k e)) (a + 18) 4 ≡ e.start = number-there 6 4 (omega arith) ∙ number_in 4 e.start z.start in
      let n : number_at (sets m a (entry_bytes k e)) (a + 22) 4 ≡ e.size = number-there 10 4 (omega arith) ∙ number_in 4 e.size z.size in
      rw (x, u, s, n)

-- What the contract of each public entry promises of a file that is in the format, and where it refuses. Said of what a caller learns of the function, which
-- the tool makes of the clauses in its source. Assumes nothing.
use mathlib.Core.Path.{◌≡◌, sym, ap, ap₂, ◌∙◌, subst}
use mathlib.Core.Logic.{◌↔◌, ◌⊎◌, inl, inr, ⊎_elim}
use mathlib.Core.Bool.{true}
use mathlib.Core.List.{List, [], ◌∷◌, ◌++◌, map}
use Prim.Native.Nat.{ℕ, ◌≤◌, ◌<◌}
use native.Mathlib.Omega.{arith}
use contract.Lifetimes.{Lfts}
use borrow.Fn.Kinds.{Dens, res_t, ended_of}
use denote.Triple.Clauses.{AtExit}
use lib.ListN.{length, take, drop}
use lib.Seq.{take-append_seam}
use Rattle.format.specs.Answers.{accepted, refused, refusal, checked_as, day_read_as, totalled_as, written_as}
use Rattle.format.specs.File.{most, check_of}
use Rattle.format.specs.Day.{Day, Five, five, Outcome, outcome, over, over_five, room_for, read_of}
use Rattle.format.specs.Block.{Given, given, day_given, block_of, write_of, room_of}
use Rattle.format.specs.declared.Tag.{Tag}
use Rattle.theorems.specs.Grammar.{InFormat}
use Rattle.theorems.specs.First.{GivenTo}
use Rattle.theorems.proofs.Format.{format}
use Rattle.theorems.proofs.First.{first}
use Rattle.theorems.proofs.Reach.{check-number}
use Rattle.shortest.specs.Blocks.{mark_of}
use Rattle.shortest.proofs.Refuses.{writes-exactly}
use Rattle.shortest.proofs.Theorems.{written-accepted as accepted-with}
use Rattle.checking.proofs.check.check.Kinds as check-kinds
use Rattle.checking.proofs.check.check.Reads as check-reads
use Rattle.reading.proofs.read_day.read_day.Kinds as read-kinds
use Rattle.reading.proofs.read_day.read_day.Reads as read-reads
use Rattle.reading.proofs.total.total.Kinds as total-kinds
use Rattle.reading.proofs.total.total.Reads as total-reads
use Rattle.writing.proofs.write_day.Kinds as write-kinds
use Rattle.writing.proofs.write_day.Reads as write-reads
use Rattle.promises.specs.Exact.{ReadExactly, TotalExactly}
use Rattle.promises.specs.Again.{handed_on, WrittenAgain}
use Rattle.promises.proofs.Exact.{day-exact, day-none, day-none-only, channel-exact, channel-none, channel-none-only, total-refusal, read_keeps}
use Rattle.promises.proofs.Again.{again}

-- ---- `check`, which is lent nothing that it may change

module _ (κs : Lfts 1) (a : Dens κs check-kinds.ps) (x : (res_t check-kinds.r κs).Denot) (e : AtExit (ended_of 1 check-kinds.ps check-kinds.r) κs) (p : check-reads.Learnt κs a x e) where
  -- it accepts a file with these numbers exactly when the file is in the format with them
  pub check-format : (v c d : ℕ) → (checked_as x ≡ accepted (v ∷ c ∷ d ∷ [])) ↔ InFormat a.0.now v c d
  check-format v c d = (λ q. (format a.0.now v c d).0 (sym p ∙ q), λ h. p ∙ (format a.0.now v c d).1 h)

  -- and refuses it with a number, place, record and field exactly when 01 gives these
  pub check-first : (n q k i : ℕ) → (checked_as x ≡ refused n q k i) ↔ GivenTo a.0.now n q k i
  check-first n q k i = (λ r. (first a.0.now n q k i).0 (sym p ∙ r), λ g. p ∙ (first a.0.now n q k i).1 g)

-- ---- `total`, which is lent nothing that it may change

module _ (κs : Lfts 1) (a : Dens κs total-kinds.ps) (x : (res_t total-kinds.r κs).Denot) (e : AtExit (ended_of 1 total-kinds.ps total-kinds.r) κs) (p : total-reads.Learnt κs a x e) where
  -- whatever the file is: it is refused by 01's refusal of the file, or by 14
  pub total-refuses : (n q k i : ℕ) → totalled_as x ≡ refused n q k i → GivenTo a.0.now n q k i ⊎ (refused n q k i ≡ refusal 14)
  total-refuses n q k i r = ⊎_elim (λ g. inl ((first a.0.now n q k i).0 g)) (λ g. inr g) (total-refusal a.0.now a.1.0 n q k i (sym p ∙ r))

  -- 02, request 7: "17 never occurs", for no number above 14 does
  pub total-numbers : (n q k i : ℕ) → totalled_as x ≡ refused n q k i → n ≤ 14
  total-numbers n q k i r =
      ⊎_elim (λ g. omega (arith, check-number a.0.now n q k i g)) (λ g. let z : n ≡ 14 = cc in omega arith)
      (total-refusal a.0.now a.1.0 n q k i (sym p ∙ r))

  module _ (v c d : ℕ) (h : InFormat a.0.now v c d) where
    -- a channel's total is what the grammar has it add up to, and 64 bits hold it
    pub total-exact : a.1.0 < c → TotalExactly a.1.0 h.content (totalled_as x)
    total-exact l = subst (TotalExactly a.1.0 h.content) (sym p) (channel-exact a.0.now v c d h a.1.0 l)

    -- and there is no such channel exactly from the number of channels on
    pub total-none : (totalled_as x ≡ refusal 14) ↔ (c ≤ a.1.0)
    total-none = (λ q. channel-none-only a.0.now v c d h a.1.0 (sym p ∙ q), λ l. p ∙ channel-none a.0.now v c d h a.1.0 l)

-- ---- `read_day`

module _ (κs : Lfts 7) (a : Dens κs read-kinds.ps) where
  -- what it was called with
  abbrev pub file_lent : List ℕ
  file_lent = a.0.now

  abbrev pub day_asked : ℕ
  day_asked = a.1.0

  abbrev pub values_lent : List ℕ
  values_lent = a.1.1.0.now

  abbrev pub marks_lent : Five
  marks_lent = five a.1.1.1.0.now a.1.1.1.1.0.now a.1.1.1.1.1.0.now a.1.1.1.1.1.1.0.now a.1.1.1.1.1.1.1.0.now

  module _ (x : (res_t read-kinds.r κs).Denot) (e : AtExit (ended_of 7 read-kinds.ps read-kinds.r) κs) where
    -- what it answered and left
    abbrev pub left : Outcome
    left =
        outcome (day_read_as x) e.1.1.0.now
        (five e.1.1.1.0.now e.1.1.1.1.0.now e.1.1.1.1.1.0.now e.1.1.1.1.1.1.0.now e.1.1.1.1.1.1.1.0.now)

    module _ (p : read-reads.Learnt κs a x e) where
      -- a refusal leaves each of the six lists as it was
      pub read-untouched : (n q k i : ℕ) → left.answer ≡ refused n q k i → (left.values ≡ values_lent) × (left.marks ≡ marks_lent)
      read-untouched n q k i r =
          let o : left ≡ outcome (refused n q k i) values_lent marks_lent =
          p ∙ read_keeps file_lent day_asked values_lent marks_lent n q k i (ap (λ (u : Outcome). u.answer) (sym p) ∙ r) in
          (ap (λ (u : Outcome). u.values) o, ap (λ (u : Outcome). u.marks) o)

      module _ (v c d : ℕ) (h : InFormat file_lent v c d) where
        -- what it answers and leaves is the grammar's day
        pub read-exact : day_asked < d → ReadExactly file_lent day_asked h.content values_lent marks_lent left
        read-exact l = subst (ReadExactly file_lent day_asked h.content values_lent marks_lent) (sym p) (day-exact file_lent v c d h day_asked l values_lent marks_lent)

        -- and there is no such day exactly from the number of days on
        pub read_none : (left.answer ≡ refusal 14) ↔ (d ≤ day_asked)
        read_none = (
          λ q. day-none-only file_lent v c d h day_asked values_lent marks_lent (ap (λ (u : Outcome). u.answer) (sym p) ∙ q),
          λ l. ap (λ (u : Outcome). u.answer) (p ∙ day-none file_lent v c d h day_asked l values_lent marks_lent),
        )

-- ---- `write_day`

-- the bytes of a block stand in a file of at most 1,048,576 bytes, which is accepted as NEM12 with one channel and one day; and that day is read as d
pub record GivenBack (d : Day) (block : List ℕ) : Type 1 where
  pub file : List ℕ
  pub before : List ℕ
  pub after : List ℕ
  pub bytes : file ≡ before ++ block ++ after
  pub short : length file ≤ most
  pub checked : (κs : Lfts 1) (a : Dens κs check-kinds.ps) (x : (res_t check-kinds.r κs).Denot) (e : AtExit (ended_of 1 check-kinds.ps check-kinds.r) κs) → check-reads.Learnt κs a x e
      → a.0.now ≡ file → checked_as x ≡ accepted (12 ∷ 1 ∷ 1 ∷ [])
  pub tags : List Tag
  pub marks : map (mark_of file) tags ≡ d.marks
  pub read : (κs : Lfts 7) (a : Dens κs read-kinds.ps) (x : (res_t read-kinds.r κs).Denot) (e : AtExit (ended_of 7 read-kinds.ps read-kinds.r) κs) → read-reads.Learnt κs a x e
      → file_lent κs a ≡ file → day_asked κs a ≡ 0 → room_for d.n (values_lent κs a) (marks_lent κs a) ≡ true
      → left κs a x e ≡ outcome (accepted (d.date ∷ d.n ∷ d.update ∷ d.load ∷ d.unit ∷ [])) (over d.values (values_lent κs a)) (over_five tags (marks_lent κs a))

module _ (κs : Lfts 8) (b : Dens κs write-kinds.ps) (y : (res_t write-kinds.r κs).Denot) (f : AtExit (ended_of 8 write-kinds.ps write-kinds.r) κs) (w : write-reads.Learnt κs b y f) where
  -- what it was called with, and what it left
  abbrev pub handed_in : Given
  handed_in =
      given b.0 b.1.0.now b.1.1.0.now b.1.1.1.0.now b.1.1.1.1.0.now b.1.1.1.1.1.0.now b.1.1.1.1.1.1.0.now
      b.1.1.1.1.1.1.1.0.now

  abbrev pub room_lent : List ℕ
  room_lent = b.1.1.1.1.1.1.1.1.0.now

  abbrev pub room_left : List ℕ
  room_left = f.1.1.1.1.1.1.1.1.0.now

  -- a refusal leaves the room as it was
  pub write-untouched : (n q k i : ℕ) → written_as y ≡ refused n q k i → room_left ≡ room_lent
  unfolding room_of
  write-untouched n q k i r = w.1 ∙ rw (sym w.0 ∙ r)

  -- what `read_day` answered and left of a day of a file, handed in with the file as its text, is written as that day
  pub rewrite : (μs : Lfts 7) (a : Dens μs read-kinds.ps) (x : (res_t read-kinds.r μs).Denot) (e : AtExit (ended_of 7 read-kinds.ps read-kinds.r) μs) → read-reads.Learnt μs a x e
      → (v c d : ℕ) (h : InFormat (file_lent μs a) v c d) (date n update load unit : ℕ) → (left μs a x e).answer ≡ accepted (date ∷ n ∷ update ∷ load ∷ unit ∷ [])
      → handed_in ≡ handed_on (file_lent μs a) date n update load unit (left μs a x e).values (left μs a x e).marks
      → WrittenAgain (day_asked μs a) h.content room_lent (written_as y) room_left
  rewrite μs a x e p v c d h date n update load unit r g =
      let o : Outcome = read_of (file_lent μs a) (day_asked μs a) (values_lent μs a) (marks_lent μs a) in
      let t : handed_in ≡ handed_on (file_lent μs a) date n update load unit o.values o.marks =
      g ∙ ap (λ (u : Outcome). handed_on (file_lent μs a) date n update load unit u.values u.marks) p in
      let z = again (file_lent μs a) v c d h (day_asked μs a) (values_lent μs a) (marks_lent μs a) date n update load unit (ap (λ (u : Outcome). u.answer) (sym p) ∙ r) room_lent in
      let s = subst (λ (q : Given). WrittenAgain (day_asked μs a) h.content room_lent (write_of q (length room_lent)) (room_of q room_lent)) (sym t) z in
      rw (w.0, w.1) s

  -- what was written stands in a file of at most 1,048,576 bytes that `check` accepts, and of which `read_day` gives the day back that was handed in
  pub written-accepted : (b r : ℕ) → written_as y ≡ accepted (b ∷ r ∷ []) → GivenBack (day_given handed_in) (take b room_left)
  unfolding room_of
  written-accepted b r q =
      let d : Day = day_given handed_in in
      let t = (writes-exactly handed_in (length room_lent) (b ∷ r ∷ [])).0 (sym w.0 ∙ q) in
      let z = accepted-with handed_in t.0 in
      let l : b ≡ length (block_of d) = cc in
      let n : room_left ≡ over (block_of d) room_lent = w.1 ∙ rw (sym w.0 ∙ q) in
      let m : take b room_left ≡ block_of d = rw (n, l) (take-append_seam (block_of d) (drop (length (block_of d)) room_lent)) in
      record {
        file = z.file;
        before = z.before;
        after = z.after;
        bytes = rw m z.bytes;
        short = z.short;
        checked = λ κ a x e p f. p ∙ ap check_of f ∙ z.check;
        tags = z.reads.tags;
        marks = z.reads.marks;
        read = λ κ a x e p f g h.
            p ∙ ap₂ (λ (s : List ℕ) (k : ℕ). read_of s k (values_lent κ a) (marks_lent κ a)) f g ∙ z.reads.answers (values_lent κ a) (marks_lent κ a) h;
      }

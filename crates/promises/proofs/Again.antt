-- A day that was read, handed on with the file as its text, is that day and may be written. Assumes nothing.
use Prim.Native.Nat.{ℕ, zero, suc, ◌+◌, ◌/◌, ◌≤◌, ◌<◌}
use mathlib.Core.Path.{◌≡◌, refl, sym, ap, ap₂, ◌∙◌, subst}
use mathlib.Core.Logic.{◌⊎◌, inl, inr}
use mathlib.Core.Bool.{Bool, true, false, true≢false}
use mathlib.Core.List.{List, [], ◌∷◌, map}
use native.Mathlib.Nat.{add-zero}
use native.Mathlib.Omega.{arith}
use lib.ListN.{length, take, drop, get_or, length-append, length-map, get_or-append, get_or-map}
use lib.Seq.{take_at}
use lib.Dec.{eqb, leb}
use borrow.Author.Tests.{le-leb, lt-leb}
use Rattle.ground.specs.Lists.{all, from}
use Rattle.ground.proofs.Cases.{split, by, both}
use Rattle.ground.proofs.Tests.{or_right}
use Rattle.format.specs.Numbers.{is_length, intervals_of}
use Rattle.format.specs.Quality.{Mark}
use Rattle.format.specs.Records.{unit_in, decimals_in, intervals_in}
use Rattle.format.specs.Answers.{Answer, accepted, refusal}
use Rattle.format.specs.Day.{Day, day_of, Five, Outcome, outcome, over, over_five, enough_for, room_for, read_of}
use Rattle.format.specs.Block.{Given, intervals_given, mark_given, day_given, fit_day, is_inside, fit_given, block_of, records_of, enough, write_of, left_by, room_of}
use Rattle.format.specs.declared.Tag.{Tag}
use Rattle.theorems.proofs.Lists.{each_at}
use Rattle.theorems.specs.Grammar.{Each, Record, Content, InFormat}
use Rattle.theorems.specs.Days.{day_in, meanings, ReadsAs, StandsAt}
use Rattle.theorems.proofs.Says.{intervals-of}
use Rattle.theorems.proofs.Format.{format}
use Rattle.theorems.proofs.Meaning.{value-count, mark-count}
use Rattle.theorems.proofs.OneDay.{one-day}
use Rattle.shortest.specs.Blocks.{mark_of}
use Rattle.shortest.specs.Writer.{Writable}
use Rattle.shortest.proofs.Said.{fit-said}
use Rattle.shortest.proofs.Theorems.{grammar-says, by-the-grammar}
use Rattle.shortest.proofs.Refuses.{writes-exactly}
use Rattle.promises.specs.Exact.{Points, ReadExactly}
use Rattle.promises.specs.Again.{handed_on, WrittenAgain}
use Rattle.promises.proofs.Exact.{day-exact, day-none}

-- ---- lists by their elements

no_tag : Tag
no_tag = record { flag = 0; method = 0; reason = 0; start = 0; length = 0 }

from-map : {X : Type 0} (f : ℕ → X) (h : Tag → X) (j : ℕ) (ts : List Tag) → ((i : ℕ) → i < length ts → f (j + i) ≡ h (get_or ts i no_tag)) → from f j (length ts) ≡ map h ts
unfolding from
from-map f h j [] p = refl
from-map f h j (t ∷ ts) p =
    let a : f j ≡ h t = rw add-zero at (p 0 (omega arith)) in
    ap₂ (λ x xs. x ∷ xs) a (from-map f h (suc j) ts (λ i l. (let s : suc j + i ≡ j + suc i = omega arith in rw s (p (suc i) (omega arith)))))

from_all : (p : ℕ → Bool) (j k : ℕ) → ((i : ℕ) → i < k → p (j + i) ≡ true) → all p (from (λ i. i) j k) ≡ true
unfolding from
from_all p j zero h = refl
from_all p j (suc k) h =
    let a : p j ≡ true = rw add-zero at (h 0 (omega arith)) in
    both (p j) (all p (from (λ i. i) (suc j) k)) a (from_all p (suc j) k (λ i l. (let s : suc j + i ≡ j + suc i = omega arith in rw s (h (suc i) (omega arith)))))

-- ---- the interval length of a 200's n

known : (n : ℕ) → (n ≡ 288) ⊎ ((n ≡ 96) ⊎ (n ≡ 48)) → (is_length (1440 / n) ≡ true) × (intervals_of (1440 / n) ≡ n)
unfolding is_length intervals_of
known n (inl e) = rw e (refl, refl)
known n (inr (inl e)) = rw e (refl, refl)
known n (inr (inr e)) = rw e (refl, refl)

module _ (file : List ℕ) (day : Day) (head : Record) (b : List ℕ) (r : ReadsAs head b day) (tags : List Tag) (m : map (mark_of file) tags ≡ day.marks)
    (q : Each (Points file) tags) (vs : List ℕ) (ms : Five) where
  abbrev pub handed : Given
  handed = handed_on file day.date day.n day.update day.load day.unit (over day.values vs) (over_five tags ms)

  n-is : day.n ≡ intervals_in head
  unfolding day_in day_of
  n-is = ap (λ (x : Day). x.n) r.is

  interval-length : (is_length (1440 / day.n) ≡ true) × (intervals_of (1440 / day.n) ≡ day.n)
  interval-length = known day.n (subst (λ (n : ℕ). (n ≡ 288) ⊎ ((n ≡ 96) ⊎ (n ≡ 48))) (sym n-is) (intervals-of head r.is-head))

  values-long : length day.values ≡ day.n
  values-long = ap (λ (x : Day). length x.values) r.is ∙ value-count (intervals_in head) (decimals_in head) (unit_in head) r.block r.good ∙ sym n-is

  tags-long : length tags ≡ day.n
  tags-long =
      sym (length-map tags (mark_of file)) ∙ ap length m ∙ ap (λ (x : Day). length x.marks) r.is ∙ mark-count (intervals_in head) (decimals_in head) (unit_in head) r.block r.good ∙ sym n-is

  column : (c : Tag → ℕ) (ws : List ℕ) (i : ℕ) → i < length tags → get_or (over (map c tags) ws) i (c no_tag) ≡ c (get_or tags i no_tag)
  column c ws i l = get_or-append (map c tags) (drop (length (map c tags)) ws) (c no_tag) i (omega (arith, length-map tags c)) ∙ get_or-map c tags i no_tag

  mark-handed : (i : ℕ) → i < length tags → mark_given handed i ≡ mark_of file (get_or tags i no_tag)
  unfolding mark_given over_five no_tag
  mark-handed i l =
      rw (
        column (λ (t : Tag). t.flag) ms.flags i l,
        column (λ (t : Tag). t.method) ms.methods i l,
        column (λ (t : Tag). t.reason) ms.reasons i l,
        column (λ (t : Tag). t.start) ms.starts i l,
        column (λ (t : Tag). t.length) ms.lengths i l,
      )

  marks-handed : from (mark_given handed) 0 day.n ≡ day.marks
  marks-handed = ap (from (mark_given handed) 0) (sym tags-long) ∙ from-map (mark_given handed) (mark_of file) 0 tags (λ i l. (let z : 0 + i ≡ i = omega arith in rw z (mark-handed i l))) ∙ m

  -- what is handed on is the day
  pub handed-day : day_given handed ≡ day
  unfolding day_given intervals_given
  handed-day =
      let told : ℕ → List ℕ → List Mark → Day = λ n x y. record { date = day.date; n = n; unit = day.unit; update = day.update; load = day.load; values = x; marks = y } in
      ap (λ (n : ℕ). told n (take n (over day.values vs)) (from (mark_given handed) 0 n)) interval-length.1
      ∙ ap₂ (told day.n) (take_at day.values (drop (length day.values) vs) day.n values-long) marks-handed

  inside-handed : (i : ℕ) → i < length tags → is_inside handed i ≡ true
  unfolding is_inside over_five no_tag
  inside-handed i l =
      let t : Tag = get_or tags i no_tag in
      rw (column (λ (t : Tag). t.start) ms.starts i l, column (λ (t : Tag). t.length) ms.lengths i l)
      (or_right (eqb t.length 0) (leb (t.start + t.length) (length file)) (le-leb _ _ (each_at (Points file) no_tag tags i q l).0))

  long : (c : Tag → ℕ) (ws : List ℕ) → leb day.n (length (over (map c tags) ws)) ≡ true
  long c ws = le-leb day.n (length (over (map c tags) ws)) (omega (arith, length-append (map c tags) (drop (length (map c tags)) ws), length-map tags c, tags-long))

  enough-handed : enough handed ≡ true
  unfolding enough intervals_given enough_for over_five
  enough-handed =
      let v : leb day.n (length (over day.values vs)) ≡ true = le-leb day.n (length (over day.values vs)) (omega (arith, length-append day.values (drop (length day.values) vs), values-long)) in
      rw (
        interval-length.1,
        v,
        long (λ (t : Tag). t.flag) ms.flags,
        long (λ (t : Tag). t.method) ms.methods,
        long (λ (t : Tag). t.reason) ms.reasons,
        long (λ (t : Tag). t.start) ms.starts,
        long (λ (t : Tag). t.length) ms.lengths,
      )

  fit-handed : fit_given handed ≡ true
  unfolding fit_given intervals_given
  fit-handed =
      both (all (is_inside handed) (from (λ i. i) 0 (intervals_of (1440 / day.n)))) (fit_day (day_given handed))
      (from_all (is_inside handed) 0 (intervals_of (1440 / day.n)) (λ i l. (let z : 0 + i ≡ i = omega arith in rw z (inside-handed i (omega (arith, interval-length.1, tags-long))))))
      (ap fit_day handed-day ∙ fit-said day b (grammar-says head b day r))

  -- and nothing is wrong with it
  pub handed-writable : Writable handed
  handed-writable = record { length-known = interval-length.0; lists-long = enough-handed; fit = fit-handed }

-- ---- written again

-- what is written where nothing is wrong with what was handed in
module _ (g : Given) (w : Writable g) (room : List ℕ) where
  abbrev done : Answer
  done = accepted (length (block_of (day_given g)) ∷ records_of (day_given g) ∷ [])

  fits : length (block_of (day_given g)) ≤ length room → (write_of g (length room) ≡ done) × (room_of g room ≡ over (block_of (day_given g)) room)
  unfolding room_of
  fits l =
      let e : write_of g (length room) ≡ done = (writes-exactly g (length room) (length (block_of (day_given g)) ∷ records_of (day_given g) ∷ [])).1 (w, l, refl) in
      (e, ap (λ (x : Answer). left_by x (block_of (day_given g)) room) e)

  fits_not : length room < length (block_of (day_given g)) → (write_of g (length room) ≡ refusal 15) × (room_of g room ≡ room)
  unfolding room_of write_of
  fits_not l =
      let e : write_of g (length room) ≡ refusal 15 = rw (w.length-known, w.lists-long, w.fit, lt-leb _ _ l) in
      (e, ap (λ (x : Answer). left_by x (block_of (day_given g)) room) e)

  written-again : (k : ℕ) (content : Content) (more : List Day) → drop k (meanings content) ≡ day_given g ∷ more → WrittenAgain k content room (write_of g (length room)) (room_of g room)
  unfolding day_given
  written-again k content more e =
      record { day = day_given g; more = more; is = e; same = λ head i n u. by-the-grammar g w head i n u; written = fits; no_room = fits_not }

handed-alike : (file : List ℕ) (o : Outcome) (t n u l m t₁ n₁ u₁ l₁ m₁ : ℕ) (vs : List ℕ) (ms : Five) → o.answer ≡ accepted (t ∷ n ∷ u ∷ l ∷ m ∷ [])
    → o ≡ outcome (accepted (t₁ ∷ n₁ ∷ u₁ ∷ l₁ ∷ m₁ ∷ [])) vs ms → handed_on file t n u l m o.values o.marks ≡ handed_on file t₁ n₁ u₁ l₁ m₁ vs ms
handed-alike file o t n u l m t₁ n₁ u₁ l₁ m₁ vs ms a e =
    let b : o.answer ≡ accepted (t₁ ∷ n₁ ∷ u₁ ∷ l₁ ∷ m₁ ∷ []) = ap (λ (x : Outcome). x.answer) e in
    let p : t ≡ t₁ = cc in
    let q : n ≡ n₁ = cc in
    let r : u ≡ u₁ = cc in
    let s : l ≡ l₁ = cc in
    let v : m ≡ m₁ = cc in
    ap (λ (x : Outcome). handed_on file t n u l m x.values x.marks) e ∙ rw (p, q, r, s, v)

module _ (file : List ℕ) (v c d : ℕ) (h : InFormat file v c d) (k : ℕ) (vs : List ℕ) (ms : Five) where
  abbrev left : Outcome
  left = read_of file k vs ms

  module _ (t n u l m : ℕ) (a : left.answer ≡ accepted (t ∷ n ∷ u ∷ l ∷ m ∷ [])) where
    abbrev g : Given
    g = handed_on file t n u l m left.values left.marks

    some : k < d
    some = split d k (λ b. absurd (let o : left.answer ≡ refusal 14 = ap (λ (x : Outcome). x.answer) (day-none file v c d h k b vs ms) in let z : true ≡ false = cc in true≢false z)) (λ b. b)

    exact : ReadExactly file k h.content vs ms left
    exact = day-exact file v c d h k some vs ms

    -- it stands in the file, as a block of the grammar
    stands : StandsAt file (one-day file v c d ((format file v c d).1 h) k some).rows.block.top.place exact.day
    stands =
        let o = one-day file v c d ((format file v c d).1 h) k some in
        subst (StandsAt file o.rows.block.top.place) (sym (o.only exact.day (record { v = v; c = c; d = d; how = h; more = exact.more; is = exact.is }))) o.stands

    -- the lists were long enough
    filled : left ≡ outcome (accepted (exact.day.date ∷ exact.day.n ∷ exact.day.update ∷ exact.day.load ∷ exact.day.unit ∷ [])) (over exact.day.values vs) (over_five exact.tags ms)
    filled =
        by (room_for exact.day.n vs ms)
        (λ r. exact.reads r)
        (λ r. absurd (let o : left.answer ≡ refusal 15 = ap (λ (x : Outcome). x.answer) (exact.short r) in let z : true ≡ false = cc in true≢false z))

    abbrev as_read : Given
    as_read = handed file exact.day stands.head stands.block stands.reads exact.tags exact.marks exact.points vs ms

    handed-read : g ≡ as_read
    handed-read = handed-alike file left t n u l m exact.day.date exact.day.n exact.day.update exact.day.load exact.day.unit (over exact.day.values vs) (over_five exact.tags ms) a filled

    -- so what a reading answered and left is written as day k
    pub again : (room : List ℕ) → WrittenAgain k h.content room (write_of g (length room)) (room_of g room)
    again room =
        let y = handed-day file exact.day stands.head stands.block stands.reads exact.tags exact.marks exact.points vs ms in
        let w = handed-writable file exact.day stands.head stands.block stands.reads exact.tags exact.marks exact.points vs ms in
        subst (λ (x : Given). WrittenAgain k h.content room (write_of x (length room)) (room_of x room)) (sym handed-read)
        (written-again as_read w room k h.content exact.more (exact.is ∙ ap (λ (x : Day). x ∷ exact.more) (sym y)))

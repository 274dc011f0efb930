-- The walk over a block: a record's fault there, what each way out of a turn answers, and the turn itself. Assumes nothing.
use Rattle.std.proofs.Common.{Option, Some, None, Result, Ok, Err}
use Prim.Native.Nat.{ℕ, ◌+◌, ◌-◌, ◌≤◌, ◌<◌}
use mathlib.Core.Path.{◌≡◌, refl, sym, ap, ◌∙◌}
use mathlib.Core.List.{List, [], ◌∷◌, ◌++◌}
use mathlib.Core.Bool.{Bool, true, false, not, ◌&&◌, ◌||◌, false≢true}
use native.Mathlib.Omega.{arith}
use lib.ListN.{length, drop, length-drop}
use lib.Seq.{drop-length}
use lib.Dec.{leb, ltb, eqb}
use borrow.Author.Tests.{ne_eqb, lt-ltb, le-ltb, not-true, not-false}
use Rattle.ground.specs.Lists.{span_of, part}
use Rattle.ground.proofs.Cases.{by}
use Rattle.ground.proofs.Tests.{or-true}
use Rattle.ground.proofs.Spans.{part_length}
use Rattle.format.specs.Bytes.{plain}
use Rattle.format.specs.Numbers.{intervals_of}
use Rattle.format.specs.Units.{is_unit, decimals_of}
use Rattle.format.specs.Cut.{rest, lines, fields}
use Rattle.format.specs.Records.{kind_in, date_in, update_in, load_in}
use Rattle.format.specs.Order.{Due, in_day}
use Rattle.format.specs.Faults.{is_open, fault_at, fault_of, Fine, Stop}
use Rattle.format.specs.Answers.{accepted, refused, refused_as}
use Rattle.format.specs.File.{after, is_foreign, block_fault_of, end_of, block_walk_of, top_says, block_check_of}
use Rattle.format.specs.declared.Refusal.{Refusal}
use Rattle.format.proofs.Numbers.{intervals-most}
use Rattle.lines.specs.Places.{LineEnd, Looked}
use Rattle.lines.specs.declared.Found.{Found}
use Rattle.lines.proofs.Ends.{line-more, line-long, line-room}
use Rattle.walker.specs.Handed.{record_at}
use Rattle.walker.proofs.Handed.{handed-none, handed-looked, handed-inside}
use Rattle.order.specs.declared.State.{State}
use Rattle.order.specs.declared.Stop as stop
use Rattle.follows.specs.Tests.{expected_as, between}
use Rattle.order.specs.State.{seen, next_of, step_as, Holds}
use Rattle.follows.proofs.Expected.{is-400, is-500}
use Rattle.order.proofs.Next.{gone, stopped, kept_on}
use Rattle.alone.specs.declared.BlockWalk.{BlockWalk}
use Rattle.alone.specs.declared.Walked.{Walked}
use Rattle.alone.specs.Walk.{on_from, left_of, whole_of, is_foreign_here, first_walk, date_said, Walking, Stands, Turned, Ended, Entire, IsBlock, WalkedAs}

-- ---- a record's fault in a block

module _ (st : Due) (r : List ℕ) where
  abbrev k : ℕ
  k = kind_in (fields r)

  foreign-fault : is_foreign_here st r ≡ true → block_fault_of st r ≡ Stop 4 0 0
  unfolding is_foreign_here block_fault_of
  foreign-fault h =
      by (ltb (span_of plain r) (length r))
      (λ a. absurd (false≢true (rw a at h)))
      (λ a. by (is_open st k)
      (λ b. absurd (false≢true (rw (a, b) at h)))
      (λ b. let z : is_foreign st k ≡ true = (rw (a, b) at h) in rw (a, b, z)))

  own-fault : is_foreign_here st r ≡ false → block_fault_of st r ≡ fault_of st r
  unfolding is_foreign_here block_fault_of fault_of fault_at
  own-fault h =
      by (ltb (span_of plain r) (length r))
      (λ a. rw a)
      (λ a. by (is_open st k)
      (λ b. rw (a, b))
      (λ b. let z : is_foreign st k ≡ false = (rw (a, b) at h) in rw (a, b, z)))

-- the test, by what was looked at
module _ (memory : List ℕ) (at : ℕ) (f : Found) (l : Looked memory at f.end f.bad f.commas) (st : Due) where
  abbrev record-here : List ℕ
  record-here = part memory at f.end

  long : length record-here ≡ f.end - at
  long = part_length memory at f.end l.ends.within

  pub foreign-3 : f.bad < f.end → false ≡ is_foreign_here st record-here
  unfolding is_foreign_here
  foreign-3 h = rw (lt-ltb (span_of plain record-here) (length record-here) (omega (arith, l.first, long, l.ends.order)))

  plain_here : f.end ≤ f.bad → ltb (span_of plain record-here) (length record-here) ≡ false
  plain_here h = le-ltb (span_of plain record-here) (length record-here) (omega (arith, l.first, long, l.ends.order))

  module _ (h : f.end ≤ f.bad) {k : ℕ} (ek : k ≡ kind_in (fields record-here)) {o : Bool} (eo : o ≡ is_open st k) where
    pub foreign-10 : o ≡ true → false ≡ is_foreign_here st record-here
    unfolding is_foreign_here
    foreign-10 t = rw (plain_here h, ← ek, ← eo, t)

    pub foreign-is : {b : Bool} → o ≡ false → b ≡ is_foreign st k → b ≡ is_foreign_here st record-here
    unfolding is_foreign_here
    foreign-is t e = rw (plain_here h, ← ek, ← eo, t) e

-- under the block's day, by the tests of the code
module _ (x k : ℕ) {i : Bool} (ei : i ≡ between 3 5 x) where
  in-day : in_day (expected_as x) ≡ i
  in-day = sym (ei ∙ is-500 x)

  pub leaves_none : not i ≡ true → false ≡ in_day (expected_as x) && not (eqb k 400 || eqb k 500)
  leaves_none h = rw (in-day, not-true i h)

  module _ (h : not i ≡ false) where
    pub leaves-400 : k ≡ 400 → false ≡ in_day (expected_as x) && not (eqb k 400 || eqb k 500)
    leaves-400 e = rw (in-day, not-false i h, e)

    pub leaves-other : {b : Bool} → (k ≡ 400 → ⊥) → b ≡ not (eqb k 500) → b ≡ in_day (expected_as x) && not (eqb k 400 || eqb k 500)
    leaves-other e eb = rw (in-day, not-false i h, ne_eqb k 400 e) eb

-- the tests of the code's state
module _ (memory : List ℕ) (st : State) (k : ℕ) {b : Bool} where
  pub open_is : b ≡ eqb st.expect 4 && (leb st.next st.n && not (eqb k 400)) → b ≡ is_open (seen memory st) k
  unfolding is_open
  open_is e = e ∙ rw (is-400 st.expect)

  pub leaves-is : b ≡ in_day (expected_as st.expect) && not (eqb k 400 || eqb k 500) → b ≡ is_foreign (seen memory st) k
  unfolding is_foreign
  leaves-is e = e

-- ---- the walk on its way

module _ (memory : List ℕ) (start n d : ℕ) (t : BlockWalk) (q : t ≡ first_walk start n d) where
  pub walking-first : {f : Found} → Stands memory start f → n ≤ 288 → d ≤ 6 → Walking memory start t
  walking-first g s l =
      rw q
      (record {
        order = omega arith;
        within = omega (arith, g.looked.ends.order, g.looked.ends.within);
        few = omega arith;
        kept = record { known = omega arith; begun = λ z. absurd (let y : ⊥ = omega arith in y); within = omega arith; small = s; few = l; channels = omega arith; days = omega arith };
      })

  pub stands-first : {f : Found} → Stands memory start f → Stands memory t.at f
  stands-first g = rw q g

  pub walked-first : (xs : List ℕ) → whole_of memory start n d xs ≡ left_of memory start xs t
  unfolding expected_as
  walked-first xs = rw q

-- what a record that was handed out is
pub stands : (memory : List ℕ) (at : ℕ) {r : Option (ℕ × Found)} {p : ℕ} {f : Found} → r ≡ record_at memory at → r ≡ Some (p, f) → Stands memory at f
stands memory at {r} {p} {f} is h = record { looked = handed-looked memory at r is p f h; more = handed-inside memory at r is p f h }

module _ (memory : List ℕ) (start : ℕ) (t : BlockWalk) (g : Walking memory start t) (f : Found) (k : Stands memory t.at f) where
  abbrev here : List ℕ
  here = part memory t.at f.end

  abbrev st : Due
  st = seen memory t.state

  abbrev ends : LineEnd memory t.at f.end
  ends = k.looked.ends

  pub over-room : f.end + 2 ≤ length memory
  over-room = line-room memory t.at f.end ends k.more

  -- the fault, and the walk behind it, by the record's line
  pub turned-fault : (x o i : ℕ) → block_fault_of st here ≡ Stop x o i → (xs : List ℕ) → left_of memory start xs t ≡ refused x (t.at - start + o) t.records i
  unfolding block_walk_of
  turned-fault x o i q xs = rw (line-more memory t.at f.end ends k.more, q)

  behind : t.at - start + length here + 2 ≡ f.end + 2 - start
  behind = omega (arith, line-long memory t.at f.end ends, ends.order, g.order)

  turned-fine : block_fault_of st here ≡ Fine → (xs : List ℕ) → left_of memory start xs t ≡ on_from memory start xs (after st here) (f.end + 2) (t.records + 1)
  unfolding block_walk_of
  turned-fine q xs = rw (line-more memory t.at f.end ends k.more, q, behind)

  pub turned-4 : {b : Bool} → b ≡ is_foreign_here st here → b ≡ true → (xs : List ℕ) → left_of memory start xs t ≡ refused 4 (t.at - start) t.records 0
  turned-4 eb y xs =
      let z : t.at - start + 0 ≡ t.at - start = omega arith in
      turned-fault 4 0 0 (foreign-fault st here (sym eb ∙ y)) xs ∙ rw z

  module _ {b : Bool} (eb : b ≡ is_foreign_here st here) (no : b ≡ false) (w : Result State stop.Stop) (ew : step_as memory w ≡ next_of st here) where
    pub turned-stop : (x : stop.Stop) → w ≡ Err x → (xs : List ℕ) → left_of memory start xs t ≡ refused x.number (t.at - start + x.place) t.records x.field
    unfolding next_of
    turned-stop x q =
        turned-fault x.number x.place x.field (own-fault st here (sym eb ∙ no) ∙ stopped (fault_of st here) (after st here) x.number x.place x.field (sym (rw q at ew)))

    pub turned_on : Holds memory t.at f.end w → (s : State) → w ≡ Ok s
        → Turned memory start t (Ok (record { at = f.end + 2; records = t.records + 1; state = s }))
    unfolding next_of
    turned_on hw s q =
        let b = gone (fault_of st here) (after st here) (seen memory s) (sym (rw q at ew)) in
        let o = ends.order in (
          record {
            order = omega (arith, o, g.order);
            within = over-room;
            few = omega (arith, o, g.few);
            kept = kept_on memory t.at f.end w hw s q;
          },
          omega (arith, o),
          λ xs. rw b.1 (turned-fine (own-fault st here (sym eb ∙ no) ∙ b.0) xs),
        )

-- ---- turn after turn

module _ (memory : List ℕ) (start : ℕ) (t : BlockWalk) (w : Result BlockWalk Refusal) (g : Turned memory start t w) where
  module _ (u : BlockWalk) (h : w ≡ Ok u) where
    turned : Turned memory start t (Ok u)
    turned = rw h at g

    pub turned-walking : Walking memory start u
    turned-walking = turned.0

    pub turned_left : (s : BlockWalk) → ((xs : List ℕ) → left_of memory start xs s ≡ left_of memory start xs t) → (xs : List ℕ) → left_of memory start xs s ≡ left_of memory start xs u
    turned_left s e xs = e xs ∙ turned.2 xs

    pub turned-less : length memory - u.at < length memory - t.at
    turned-less = omega (arith, turned.1, turned.0.within)

  pub turned-refused : (x : Refusal) → w ≡ Err x → (s : BlockWalk) → ((xs : List ℕ) → left_of memory start xs s ≡ left_of memory start xs t) → (xs : List ℕ) → left_of memory start xs s ≡ refused_as x
  turned-refused x h s e xs = let z : Turned memory start t (Err x) = rw h at g in e xs ∙ z xs

-- ---- where no CR LF is left

module _ (memory : List ℕ) (start : ℕ) (t : BlockWalk) (g : Walking memory start t) (no : lines (drop t.at memory) ≡ rest (drop t.at memory)) where
  abbrev at-end : Due
  at-end = seen memory t.state

  module _ {i : Bool} (eb : i ≡ between 3 5 t.state.expect) where
    ei : i ≡ in_day at-end.expect
    ei = eb ∙ is-500 t.state.expect

    pub end_none : {x : Refusal} → refused_as x ≡ refused 2 (t.at - start) t.records 0 → not i ≡ true → (xs : List ℕ) → left_of memory start xs t ≡ refused_as x
    unfolding block_walk_of
    end_none q h xs = rw (no, ← ei, not-true i h) (sym q)

    module _ (h : not i ≡ false) where
      pub end-left : {x : Refusal} → refused_as x ≡ refused 2 (t.at - start) t.records 0 → (t.at ≡ length memory → ⊥) → (xs : List ℕ) → left_of memory start xs t ≡ refused_as x
      unfolding block_walk_of
      end-left q z xs =
          let y : length (drop t.at memory) ≡ 0 → ⊥ = λ e. omega (arith, length-drop t.at memory, g.within) in
          rw (no, ← ei, not-false i h, ne_eqb _ _ y) (sym q)

      module _ (z : t.at ≡ length memory) {o : Bool} (eo : o ≡ is_open at-end 0) where
        all_read : lines (drop t.at memory) ≡ rest []
        unfolding lines
        all_read = rw (z, drop-length memory)

        pub end-10 : {x : Refusal} → refused_as x ≡ refused 10 (t.at - start) t.records 0 → o ≡ true → (xs : List ℕ) → left_of memory start xs t ≡ refused_as x
        unfolding block_walk_of end_of
        end-10 q u xs = rw (all_read, ← ei, not-false i h, ← eo, u) (sym q)

        pub end-block : o ≡ false → (xs : List ℕ) → left_of memory start xs t ≡ accepted (xs ++ t.records ∷ [])
        unfolding block_walk_of end_of
        end-block w xs = rw (all_read, ← ei, not-false i h, ← eo, w)

-- what the end is, the walk is
module _ (memory : List ℕ) (start : ℕ) (s t : BlockWalk) (e : (xs : List ℕ) → left_of memory start xs s ≡ left_of memory start xs t) where
  pub ended : (r : Result ℕ Refusal) → Ended memory start t r → Ended memory start s r
  ended (Ok k) h = λ xs. e xs ∙ h xs
  ended (Err x) h = λ xs. e xs ∙ h xs

-- and with the first record before it
module _ (memory : List ℕ) (start n d : ℕ) (t : BlockWalk) (q : t ≡ first_walk start n d) (w : Result BlockWalk Refusal) (g : Turned memory start t w) where
  pub entire-stopped : {x : Refusal} → w ≡ Err x → Entire memory start n d (Err x)
  entire-stopped {x} h xs = let z : Turned memory start t (Err x) = rw h at g in walked-first memory start n d t q xs ∙ z xs

  pub entire-on : {u : BlockWalk} → w ≡ Ok u → (r : Result ℕ Refusal) → Ended memory start u r → Entire memory start n d r
  entire-on {u} h (Ok k) e = λ xs. walked-first memory start n d t q xs ∙ (turned memory start t w g u h).2 xs ∙ e xs
  entire-on {u} h (Err x) e = λ xs. walked-first memory start n d t q xs ∙ (turned memory start t w g u h).2 xs ∙ e xs

-- ---- the whole block

pub few : (m n : ℕ) → n ≡ intervals_of m → n ≤ 288
few m n e = rw e (intervals-most m)

module _ (memory : List ℕ) (start m n unit : ℕ) (en : n ≡ intervals_of m) where
  pub length-16 : {x : Refusal} → refused_as x ≡ refused 16 0 0 0 → n ≡ 0 → block_check_of m unit (drop start memory) ≡ refused_as x
  unfolding block_check_of
  length-16 q z = rw (← en, z) (sym q)

  pub unit-16 : {x : Refusal} {b : Bool} → refused_as x ≡ refused 16 0 0 0 → b ≡ is_unit unit → not b ≡ true → block_check_of m unit (drop start memory) ≡ refused_as x
  unfolding block_check_of
  unit-16 {x} {b} q eb h = rw (← eb, not-true b h, or-true (eqb (intervals_of m) 0)) (sym q)

  module _ (some : n ≡ 0 → ⊥) {b : Bool} (eb : b ≡ is_unit unit) (h : not b ≡ false) where
    -- there is no record
    none-there : lines (drop start memory) ≡ rest (drop start memory) → block_check_of m unit (drop start memory) ≡ refused 2 0 0 0
    unfolding block_check_of block_walk_of
    none-there z = rw (← en, ne_eqb n 0 some, ← eb, not-false b h, z)

    module _ {r : Option (ℕ × Found)} (er : r ≡ record_at memory start) where
      pub whole-none : {x : Refusal} → refused_as x ≡ refused 2 0 0 0 → r ≡ None → block_check_of m unit (drop start memory) ≡ refused_as x
      whole-none q z = none-there (handed-none memory start r er z) ∙ sym q

      module _ {d : ℕ} (ed : d ≡ decimals_of unit) where
        whole-walk : block_check_of m unit (drop start memory) ≡ whole_of memory start n d (top_says (intervals_of m) (lines (drop start memory)))
        unfolding block_check_of
        whole-walk = let z : start - start ≡ 0 = omega arith in rw (← en, ne_eqb n 0 some, ← eb, not-false b h, ← ed, z) refl

        module _ {w : Result ℕ Refusal} (k : Entire memory start n d w) where
          pub whole-stopped : {x : Refusal} → w ≡ Err x → block_check_of m unit (drop start memory) ≡ refused_as x
          whole-stopped {x} q = whole-walk ∙ (rw q at k) (top_says (intervals_of m) (lines (drop start memory)))

          pub whole-block : {p j : ℕ} {f : Found} → r ≡ Some (p, f) → w ≡ Ok j → IsBlock memory start m unit j f.end
          whole-block h q =
              let g = stands memory start er h in
              record { line = g.looked.ends; more = g.more; is = whole-walk ∙ (rw q at k) (top_says (intervals_of m) (lines (drop start memory))) }

-- ---- what a caller is told

module _ (memory : List ℕ) (start m unit : ℕ) {w : Result Walked Refusal} (a : WalkedAs memory start m unit w) where
  pub told-stopped : {x : Refusal} → w ≡ Err x → refused_as x ≡ block_check_of m unit (drop start memory)
  told-stopped q = sym (rw q at a)

  pub date-none : {x : Refusal} → w ≡ Err x → None ≡ date_said (block_check_of m unit (drop start memory))
  unfolding date_said
  date-none q = let z : WalkedAs memory start m unit (Err _) = rw q at a in rw z

  module _ {v : Walked} (q : w ≡ Ok v) where
    abbrev e : ℕ
    e = v.end

    pub block-is : IsBlock memory start m unit v.records e
    block-is = rw q at a

    pub block-order : start ≤ e
    block-order = block-is.line.order

    pub block_within : e ≤ length memory
    block_within = block-is.line.within

    pub told-block : {n : ℕ} → n ≡ intervals_of m → {d u l : ℕ} → d ≡ date_in (fields (part memory start e)) → u ≡ update_in n (fields (part memory start e))
        → l ≡ load_in n (fields (part memory start e)) → accepted (d ∷ n ∷ u ∷ l ∷ v.records ∷ []) ≡ block_check_of m unit (drop start memory)
    told-block en ed eu el = sym (block-is.is ∙ rw (line-more memory start e block-is.line block-is.more, ← en, ← ed, ← eu, ← el) refl)

    pub date-is : {d : ℕ} → d ≡ date_in (fields (part memory start e)) → Some d ≡ date_said (block_check_of m unit (drop start memory))
    unfolding date_said
    date-is ed = rw (block-is.is, line-more memory start e block-is.line block-is.more) (ap Some ed)

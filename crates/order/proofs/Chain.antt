-- The step over one record: the chain of refusals from 3 to 6, and the record's own method by its kind. Assumes nothing.
use Prim.Native.Nat.{ℕ, ◌+◌, ◌-◌, ◌≤◌, ◌<◌}
use mathlib.Core.Path.{◌≡◌, refl, sym, ◌∙◌}
use mathlib.Core.List.{List}
use mathlib.Core.Bool.{Bool, true, false, not, ◌&&◌, true≢false}
use native.Mathlib.Omega.{arith}
use Rattle.std.proofs.Common.{Result, Ok, Err}
use lib.ListN.{length}
use lib.Dec.{eqb, leb}
use borrow.Author.Tests.{eqb-true, eq-eqb, ne_eqb, le-ltb, lt-ltb, not-true, not-false}
use Rattle.ground.specs.Lists.{span_of, part}
use Rattle.ground.proofs.Spans.{part_length}
use Rattle.format.specs.Bytes.{plain}
use Rattle.format.specs.Cut.{fields, field}
use Rattle.format.specs.Records.{Scale, scale, no_scale, scale_for, kind_in, row_of, count_of, qualities_of, quantity_decimals}
use Rattle.format.specs.Order.{Expected, may_come, Due, on100, on200, after_of}
use Rattle.format.specs.Faults.{scale_of, is_open, broken_in, is_not_later, is_off, is_alike, is_elsewhere, fault_in, fault_at, fault_of, Fine, Stop}
use Rattle.lines.specs.Places.{Looked}
use Rattle.record.specs.Walk.{first_asked, second_asked, Typed, Sound, Broken, Walks}
use Rattle.runs.specs.Ran.{Ran, Runs}
use Rattle.record.specs.declared.Asked.{Asked}
use Rattle.record.specs.declared.BadField.{BadField}
use Rattle.order.specs.declared.Stop as stop
use Rattle.runs.specs.declared.Run.{Run}
use Rattle.record.proofs.Turns.{by-test, second-field}
use Rattle.rows.proofs.Rows.{count-300, count-for}
use Rattle.order.specs.declared.State.{State}
use Rattle.follows.specs.Tests.{expected_as}
use Rattle.order.specs.State.{seen, closed, Kept, cells, Here, After, Ready, Next, goes, stops, or_stop, stop_of, next_of, late_of, further_of, last_of}
use Rattle.format.proofs.Units.{named-most}
use Rattle.format.proofs.States.{no_kind}
use Rattle.follows.proofs.Expected.{is-400}
use Rattle.order.proofs.Late.{late-none}

-- ---- the places that a record's method asks for

module _ (file : List ℕ) (at e k p q : ℕ) (st : State) (r : Ready file at e k p q st) where
  pub behind-100 : k ≡ 100 → Here file at e 1 (at + 4)
  unfolding count_of row_of
  behind-100 h = second-field file at e k _ r.typed (rw h (omega arith))

  pub behind-300 : k ≡ 300 → Here file at e 1 (at + 4)
  behind-300 h = second-field file at e k _ r.typed (omega (arith, count-300 k (scale_of (seen file st) k (cells file at e)) h))

  pub asked-200 : k ≡ 200 → Here file at e 8 p
  unfolding first_asked
  asked-200 h = rw h at r.sound.first

  pub asked-200-unit : k ≡ 200 → Here file at e 7 q
  unfolding second_asked
  asked-200-unit h = rw h at r.sound.second

  pub asked-300 : k ≡ 300 → Here file at e (st.n + 2) p
  unfolding first_asked
  asked-300 h = rw h at r.sound.first

  pub asked-500 : k ≡ 500 → Here file at e 3 p
  unfolding first_asked
  asked-500 h = rw h at r.sound.first

  pub asked-250 : k ≡ 250 → Here file at e 10 p
  unfolding first_asked
  asked-250 h = rw h at r.sound.first

  pub asked-250-current : k ≡ 250 → Here file at e 15 q
  unfolding second_asked
  asked-250-current h = rw h at r.sound.second

pub ruleset asked = (behind-100, behind-300, asked-200, asked-200-unit, asked-300, asked-500, asked-250, asked-250-current)

-- ---- the record's own method

module _ (st : Due) (k : ℕ) (fs : List (List ℕ)) where
  pub of-kind : (j : ℕ) {x : Next} → k ≡ j → x ≡ last_of st j fs → x ≡ last_of st k fs
  of-kind j h e = rw h e

  -- a kind with no refusal behind 6
  quiet : (k ≡ 300 → ⊥) → (k ≡ 400 → ⊥) → (k ≡ 500 → ⊥) → (k ≡ 250 → ⊥) → goes (after_of st k fs) ≡ last_of st k fs
  unfolding broken_in qualities_of is_not_later is_off is_alike is_elsewhere
  quiet a b c d =
      late-none st k fs (rw (ne_eqb _ _ a, ne_eqb _ _ b, ne_eqb _ _ d)) (rw (ne_eqb _ _ a)) (rw (ne_eqb _ _ b)) (rw (ne_eqb _ _ b)) (rw (ne_eqb _ _ c))

module _ (file : List ℕ) (at e k : ℕ) (st s : State) where
  pub went-100 : k ≡ 100 → After file e (on100 (seen file st) (cells file at e)) s → goes (seen file s) ≡ last_of (seen file st) k (cells file at e)
  unfolding after_of
  went-100 h a =
      rw h (rw a.is (quiet (seen file st) 100 (cells file at e) (λ z. omega arith) (λ z. omega arith) (λ z. omega arith) (λ z. omega arith)))

  pub went-200 : k ≡ 200 → After file e (on200 (seen file st) (cells file at e)) s → goes (seen file s) ≡ last_of (seen file st) k (cells file at e)
  unfolding after_of
  went-200 h a =
      rw h (rw a.is (quiet (seen file st) 200 (cells file at e) (λ z. omega arith) (λ z. omega arith) (λ z. omega arith) (λ z. omega arith)))

  pub went-550 : k ≡ 550 → s ≡ closed 8 st.version 0 0 0 st.channels st.days → goes (seen file s) ≡ last_of (seen file st) k (cells file at e)
  unfolding after_of expected_as
  went-550 h q =
      rw (h, q) (quiet (seen file st) 550 (cells file at e) (λ z. omega arith) (λ z. omega arith) (λ z. omega arith) (λ z. omega arith))

  pub went-900 : (k ≡ 100 → ⊥) → (k ≡ 200 → ⊥) → (k ≡ 300 → ⊥) → (k ≡ 400 → ⊥) → (k ≡ 500 → ⊥) → (k ≡ 250 → ⊥) → (k ≡ 550 → ⊥)
      → s ≡ closed 9 st.version 0 0 0 st.channels st.days → goes (seen file s) ≡ last_of (seen file st) k (cells file at e)
  unfolding after_of expected_as
  went-900 a b c d f g h q =
      let w : after_of (seen file st) k (cells file at e) ≡ seen file s =
      rw (q, ne_eqb _ _ a, ne_eqb _ _ b, ne_eqb _ _ c, ne_eqb _ _ d, ne_eqb _ _ f, ne_eqb _ _ g, ne_eqb _ _ h) in
      rw w at (quiet (seen file st) k (cells file at e) c d f g)

pub ruleset went = (of-kind, went-100, went-200, went-550, went-900)

-- ---- the chain

module _ (st : Due) (k : ℕ) (fs : List (List ℕ)) where
  abbrev all : Next
  all = or_stop (fault_at st k fs) (after_of st k fs)

  chain-10 : is_open st k ≡ true → stops 10 0 0 ≡ all
  unfolding fault_at
  chain-10 e = rw e

  module _ (e₁₀ : is_open st k ≡ false) where
    chain-4 : may_come st.expect k ≡ false → stops 4 0 0 ≡ all
    unfolding fault_at
    chain-4 e = rw (e₁₀, e)

    module _ (e₄ : may_come st.expect k ≡ true) where
      chain-5 : (length fs ≡ count_of k (scale_of st k fs) → ⊥) → stops 5 0 0 ≡ all
      unfolding fault_at
      chain-5 e = rw (e₁₀, e₄, ne_eqb _ _ e)

      module _ (e₅ : length fs ≡ count_of k (scale_of st k fs)) where
        chain-on : further_of st k fs ≡ all
        unfolding fault_at further_of late_of
        chain-on = rw (e₁₀, e₄, eq-eqb _ _ e₅)

-- ---- from 6 on

module _ (st : Due) (k : ℕ) (fs : List (List ℕ)) where
  further-6 : (o i : ℕ) → fault_in k (scale_of st k fs) 0 0 fs ≡ Stop 6 o i → stops 6 o i ≡ further_of st k fs
  unfolding further_of
  further-6 o i e = rw e

  further-on : {x : Next} → fault_in k (scale_of st k fs) 0 0 fs ≡ Fine → x ≡ last_of st k fs → x ≡ further_of st k fs
  unfolding further_of last_of
  further-on e q = rw e q

-- w is what the walk over its fields found
module _ (file : List ℕ) (at e k : ℕ) (st : State) (w : Result Asked BadField) (ew : Walks file at e k (scale_of (seen file st) k (cells file at e)) w) where
  pub walk-stops : {b : BadField} {x : stop.Stop} → w ≡ Err b → x ≡ stop_of b → (stops x.number x.place x.field ≡ further_of (seen file st) k (cells file at e)) × (at + x.place ≤ e)
  walk-stops {b} q ex =
      let f : Broken file at e k (scale_of (seen file st) k (cells file at e)) b.place b.field = rw q at ew in
      rw ex (further-6 (seen file st) k (cells file at e) b.place b.field f.fault, f.within)

  module _ (a : Asked) (sound : w ≡ Ok a) where
    is-sound : Sound file at e k (scale_of (seen file st) k (cells file at e)) a.first a.second
    is-sound = rw sound at ew

    pub ready : Kept file at st → Typed file at e k (scale_of (seen file st) k (cells file at e)) → Ready file at e k a.first a.second st
    ready r y = record { kept = r; typed = y; sound = is-sound }

    pub walk-on : {x : Next} → x ≡ last_of (seen file st) k (cells file at e) → x ≡ further_of (seen file st) k (cells file at e)
    walk-on h = further-on (seen file st) k (cells file at e) is-sound.fault h

-- r is what the reading of a 400 found
module _ (file : List ℕ) (at e : ℕ) (r : Result Run BadField) (er : Runs file at e r) where
  pub run-stops : (st : State) {b : BadField} {x : stop.Stop} → r ≡ Err b → x ≡ stop_of b → (stops x.number x.place x.field ≡ further_of (seen file st) 400 (cells file at e)) × (at + x.place ≤ e)
  run-stops st {b} q ex =
      let f : Broken file at e 400 no_scale b.place b.field = rw q at er in
      rw ex (further-6 (seen file st) 400 (cells file at e) b.place b.field f.fault, f.within)

  module _ (d : Run) (sound : r ≡ Ok d) where
    pub ran : Ran file at e d.from d.to d.quality d.mark
    ran = rw sound at er

    pub run_on : (st : State) {x : Next} → x ≡ last_of (seen file st) 400 (cells file at e) → x ≡ further_of (seen file st) 400 (cells file at e)
    run_on st h = further-on (seen file st) 400 (cells file at e) ran.fault h

-- a record that is one
module _ (k : ℕ) (is : k ≡ 400) where
  pub typed-400 : (file : List ℕ) (at e : ℕ) (st : State) → Typed file at e k (scale_of (seen file st) k (cells file at e)) → Typed file at e 400 no_scale
  typed-400 file at e st y = rw is at y

  pub further-400 : (st : Due) (fs : List (List ℕ)) {x : Next} → x ≡ further_of st 400 fs → x ≡ further_of st k fs
  further-400 st fs e = rw is e

pub behind-400 : (file : List ℕ) (at e : ℕ) → Typed file at e 400 no_scale → Here file at e 1 (at + 4)
unfolding count_of row_of
behind-400 file at e y = second-field file at e 400 no_scale y (omega arith)

-- ---- the step, in the terms of its code

-- what the rules are made from has no more than 288 intervals and six decimals
module _ (k n d : ℕ) (fs : List (List ℕ)) (hn : n ≤ 288) (hd : d ≤ 6) where
  scale_small : (scale_for k n d fs).n ≤ 288
  scale_small = by-test (λ (z : Scale). z.n ≤ 288) (eqb k 300) (λ t. hn) (λ t. by-test (λ (z : Scale). z.n ≤ 288) (eqb k 250) (λ u. omega arith) (λ u. omega arith))

  scale-few : (scale_for k n d fs).decimals ≤ 6
  unfolding quantity_decimals
  scale-few = by-test (λ (z : Scale). z.decimals ≤ 6) (eqb k 300) (λ t. hd) (λ t. by-test (λ (z : Scale). z.decimals ≤ 6) (eqb k 250) (λ u. named-most (field 19 fs)) (λ u. omega arith))

-- no record of no kind may come
some-kind : (x : Expected) (k : ℕ) → may_come x k ≡ true → k ≡ 0 → ⊥
some-kind x k t h = true≢false (sym t ∙ rw h (no_kind x 0 refl refl refl refl refl refl refl refl))

module _ (file : List ℕ) (at e bad commas : ℕ) (st : State) (l : Looked file at e bad commas) where
  span : span_of plain (part file at e) ≡ bad - at
  span = omega (arith, l.first)

  long : length (part file at e) ≡ e - at
  long = part_length file at e l.ends.within

  pub step-3 : bad < e → stops 3 (bad - at) 0 ≡ next_of (seen file st) (part file at e)
  unfolding next_of fault_of
  step-3 h = let w : bad - at < e - at = omega (arith, l.order) in rw (span, long, lt-ltb _ _ w)

  module _ (k : ℕ) {o : Bool} (h : e ≤ bad) (ek : k ≡ kind_in (fields (part file at e)))
      (eo : o ≡ eqb st.expect 4 && (leb st.next st.n && not (eqb k 400))) where
    reached : next_of (seen file st) (part file at e) ≡ all (seen file st) k (cells file at e)
    unfolding next_of fault_of
    reached = let w : e - at ≤ bad - at = omega arith in rw (span, long, le-ltb _ _ w, ← ek)

    opens : is_open (seen file st) k ≡ o
    unfolding is_open
    opens = rw (← is-400 st.expect) (sym eo)

    pub step-10 : o ≡ true → stops 10 0 0 ≡ next_of (seen file st) (part file at e)
    step-10 t = rw reached (chain-10 (seen file st) k (cells file at e) (opens ∙ t))

    module _ {m : Bool} (no-10 : o ≡ false) (em : m ≡ may_come (expected_as st.expect) k) where
      pub step-4 : not m ≡ true → stops 4 0 0 ≡ next_of (seen file st) (part file at e)
      step-4 t = rw reached (chain-4 (seen file st) k (cells file at e) (opens ∙ no-10) (sym em ∙ not-true m t))

      module _ (c : ℕ) (no-4 : not m ≡ false) (ec : c ≡ count_of k (scale st.n 0)) where
        ec-here : c ≡ count_of k (scale_of (seen file st) k (cells file at e))
        ec-here = count-for k st.n st.decimals (cells file at e) ec

        comes : may_come (expected_as st.expect) k ≡ true
        comes = sym em ∙ not-false m no-4

        counted : length (cells file at e) ≡ commas + 1
        counted = let q : bad ≡ e = omega (arith, l.within) in rw (← q) (sym l.count)

        -- the 400s of a V day are under way
        pub begun-400 : Kept file at st → k ≡ 400 → 1 ≤ st.next
        begun-400 r z = r.begun (eqb-true _ _ (is-400 st.expect ∙ (rw z at comes)))

        pub step-5 : (commas + 1 ≡ c → ⊥) → stops 5 0 0 ≡ next_of (seen file st) (part file at e)
        step-5 t =
            rw reached
            (chain-5 (seen file st) k (cells file at e) (opens ∙ no-10) comes (λ z. t (sym counted ∙ z ∙ sym ec-here)))

        pub typed : Kept file at st → commas + 1 ≡ c → Typed file at e k (scale_of (seen file st) k (cells file at e))
        typed r t =
            record {
              order = l.ends.order;
              within = l.ends.within;
              kind = ek;
              some = some-kind (expected_as st.expect) k comes;
              small = scale_small k st.n st.decimals (cells file at e) r.small r.few;
              few = scale-few k st.n st.decimals (cells file at e) r.small r.few;
              count = counted ∙ t ∙ ec-here;
            }

        pub step-on : {x : Next} → commas + 1 ≡ c → x ≡ further_of (seen file st) k (cells file at e) → x ≡ next_of (seen file st) (part file at e)
        step-on no-5 h =
            h ∙ rw reached (chain-on (seen file st) k (cells file at e) (opens ∙ no-10) comes (counted ∙ no-5 ∙ ec-here))

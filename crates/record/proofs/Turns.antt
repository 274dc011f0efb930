-- The loop over the fields of a record: each field so far meets its rule, where the next one starts, and the places that later rules ask for.
-- Assumes nothing.
use Rattle.std.proofs.Common.{Option, Some, None}
use Prim.Native.Nat.{ℕ, ◌+◌, ◌-◌, ◌≤◌, ◌<◌}
use mathlib.Core.Path.{◌≡◌, refl, sym, ◌∙◌, ap, subst}
use mathlib.Core.List.{List}
use mathlib.Core.Bool.{Bool, true, false, cond, ◌&&◌, false≢true}
use native.Mathlib.Omega.{arith}
use native.Mathlib.Decide.{dec_lt}
use lib.ListN.{length, get_or, drop, drop_of_length-le}
use lib.Seq.{length-take-le}
use lib.Dec.{eqb, leb}
use borrow.Author.Tests.{eqb-true, eqb-false, leb-true}
use Rattle.ground.specs.Lists.{all, span_of, other, part}
use Rattle.ground.specs.Digits.{is_digit}
use Rattle.ground.proofs.Tests.{and-true}
use Rattle.ground.proofs.Spans.{span-le, part_length}
use Rattle.format.specs.Bytes.{are_all}
use Rattle.format.specs.Numbers.{number_in, number_of}
use Rattle.format.specs.Units.{decimals_named}
use Rattle.format.specs.Cut.{fields, field, start_of}
use Rattle.format.specs.Records.{Scale, scale, scale_for, indicator_of, kind_in, row_of, count_of, rule_of, obeys, quantity_field, quantity_unit_field, quantity_decimals}
use Rattle.format.specs.Faults.{fault_in, Fine, Stop}
use Rattle.format.specs.declared.Rule.{Rule}
use Rattle.format.specs.declared.Rule.TheVariants.{Indicator, Value}
use Rattle.format.proofs.Cut.{fields-some, field-here, field-cons, start-zero, start-next, start-end, fields-from}
use Rattle.lines.specs.Places.{Rest, Starts}
use Rattle.tries.specs.Holds.{held_of}
use Rattle.record.specs.Walk.{first_asked, second_asked, scale_at, Typed, Obeyed, Along, Goes, Sound, Broken}
use Rattle.record.specs.declared.Spot.{Spot}
use Rattle.lines.proofs.Cuts.{rest_at, rest-first}
use Rattle.rows.proofs.Rows.{count-300, rule-is, row-value, rule-for, rule-quantity}

-- ---- the fields before i meet their rules

-- what holds of both that a test picks from, where it is known how the test went
pub by-test : {X : Type 0} (P : X → Type 0) (b : Bool) {x y : X} → (b ≡ true → P x) → (b ≡ false → P y) → P (cond b x y)
by-test P true f g = f refl
by-test P false f g = g refl

rule-first : (k : ℕ) (z : Scale) → rule_of k z 0 ≡ Indicator
unfolding rule_of row_of
rule-first k z =
    by-test first (eqb k 100) (λ t. refl)
    (λ t. by-test first (eqb k 200) (λ t. refl)
    (λ t. by-test first (eqb k 300) (λ t. refl)
    (λ t. by-test first (eqb k 400) (λ t. refl)
    (λ t. by-test first (eqb k 500) (λ t. refl)
    (λ t. by-test first (eqb k 250) (λ t. refl)
    (λ t. by-test first (eqb k 550) (λ t. refl) (λ t. refl)))))))
  where
    first : List Rule → Type 0
    first row = get_or row 0 Indicator ≡ Indicator

module _ (k : ℕ) (z : Scale) (fs : List (List ℕ)) where
  module _ (i : ℕ) (h : i < length fs) (r : Obeyed k z fs i) where
    turn : fault_in k z 0 0 fs ≡ cond (obeys k (rule_of k z i) (field i fs)) (fault_in k z (start_of (i + 1) fs) (i + 1) (drop (i + 1) fs)) (Stop 6 (start_of i fs) (i + 1))
    unfolding fault_in
    turn = rw (start-next i fs h) (rw (field-cons i fs h) at r.same)

    pub obeyed-on : obeys k (rule_of k z i) (field i fs) ≡ true → Obeyed k z fs (i + 1)
    obeyed-on t = record { within = omega arith; same = rw t at turn }

    pub obeyed-stops : obeys k (rule_of k z i) (field i fs) ≡ false → fault_in k z 0 0 fs ≡ Stop 6 (start_of i fs) (i + 1)
    obeyed-stops t = rw t at turn

  -- the indicator was looked at before
  pub obeyed-first : 0 < length fs → Obeyed k z fs 1
  unfolding start_of obeys
  obeyed-first h = obeyed-on 0 h (record { within = omega arith; same = refl }) (rw (rule-first k z))

  pub obeyed-all : (i : ℕ) → length fs ≤ i → Obeyed k z fs i → fault_in k z 0 0 fs ≡ Fine
  unfolding fault_in
  obeyed-all i h r = rw (drop_of_length-le fs h) at r.same

-- ---- where the fields start

-- an indicator has three bytes
three : (f : List ℕ) → (number_in (indicator_of f) ≡ 0 → ⊥) → length f ≡ 3
unfolding indicator_of number_of are_all
three f h = go (are_all is_digit 3 3 f) refl
  where
    go : (b : Bool) → are_all is_digit 3 3 f ≡ b → length f ≡ 3
    go true e =
        let a = and-true (leb 3 (length f)) (leb (length f) 3) (and-true (leb 3 (length f) && leb (length f) 3) (all is_digit f) e).0 in
        omega (arith, leb-true 3 (length f) a.0, leb-true (length f) 3 a.1)
    go false e = absurd (h (rw e))

-- the field behind the indicator starts at the fifth byte
start-four : (file : List ℕ) (at e k : ℕ) (z : Scale) → Typed file at e k z → start_of 1 (fields (part file at e)) ≡ 4
unfolding kind_in
start-four file at e k z y =
    let fs = fields (part file at e) in
    let t : length (field 0 fs) ≡ 3 = three (field 0 fs) (λ z. y.some (y.kind ∙ z)) in
    omega (arith, start-zero fs, start-next 0 fs (fields-some (part file at e)))

pub second-field : (file : List ℕ) (at e k : ℕ) (z : Scale) → Typed file at e k z → 1 < count_of k z → Starts file (fields (part file at e)) at 1 (at + 4) e
second-field file at e k z y h =
    let q : at + 4 ≡ at + start_of 1 (fields (part file at e)) = ap (λ (z : ℕ). at + z) (sym (start-four file at e k z y)) in
    record { place = q; rest = rw q (rest_at file at e 1 y.order y.within (omega (arith, y.count))) }

-- the indicator passed
pub along-first : (file : List ℕ) (at e k : ℕ) (z : Scale) → Typed file at e k z → Along file at e k z 1 (at + 3)
unfolding kind_in
along-first file at e k z y =
    let fs = fields (part file at e) in
    let h : start_of 1 fs ≡ 4 = start-four file at e k z y in
    let t : length (field 0 fs) ≡ 3 = three (field 0 fs) (λ z. y.some (y.kind ∙ z)) in
    let w : span_of (other 44) (part file at e) ≡ 3 = rw (field-here (part file at e), length-take-le _ _ (span-le (other 44) (part file at e))) at t in
    record {
      high = omega (arith, w, span-le (other 44) (part file at e), part_length file at e y.within, y.order);
      few = omega arith;
      here = omega arith;
      passed = obeyed-first k z fs (fields-some (part file at e));
    }

-- ---- a field held to its rule, by what came of it

abbrev is_to : Option ℕ → Bool
is_to (Some z) = true
is_to None = false

abbrev end_of : Option ℕ → ℕ
end_of (Some z) = z
end_of None = 0

meets : (o : Bool) (z : ℕ) {t : ℕ} → cond o (Some z) None ≡ Some t → (o ≡ true) × (t ≡ z)
meets true z e = (refl, sym (ap end_of e))
meets false z e = absurd (false≢true (ap is_to e))

breaks : (o : Bool) (z : ℕ) → cond o (Some z) None ≡ None → o ≡ false
breaks true z e = absurd (false≢true (sym (ap is_to e)))
breaks false z e = refl

-- it ends behind its start
pub held-past : (k : ℕ) (x : Rule) (a : ℕ) (s : List ℕ) {r : Option ℕ} {t : ℕ} → r ≡ held_of k x a s → r ≡ Some t → a ≤ t
unfolding held_of
held-past k x a s er q = let g = meets (obeys k x (field 0 (fields s))) (a + span_of (other 44) s) (sym er ∙ q) in omega (arith, g.1)

module _ (file : List ℕ) (at e k : ℕ) (z : Scale) (i b : ℕ) (y : Typed file at e k z) (l : Along file at e k z i b) where
  -- more of the record is left, so a field is
  more : b < e → i < length (fields (part file at e))
  more h = by (dec_lt i (length (fields (part file at e))))
    where
      by : Dec (i < length (fields (part file at e))) → i < length (fields (part file at e))
      by (yes p) = p
      by (no p) =
          let q : i ≡ length (fields (part file at e)) = omega (arith, l.passed.within) in
          let z : start_of i (fields (part file at e)) ≡ length (part file at e) + 1 = rw q (start-end (part file at e)) in
          absurd (let w : ⊥ = omega (arith, l.here, part_length file at e y.within, y.order) in w)

  none : e ≤ b → length (fields (part file at e)) ≤ i
  none h = by (dec_lt i (length (fields (part file at e))))
    where
      by : Dec (i < length (fields (part file at e))) → length (fields (part file at e)) ≤ i
      by (yes p) = absurd (let w : ⊥ = omega (arith, l.here, (fields-from i (part file at e) p).within, part_length file at e y.within, y.order) in w)
      by (no p) = omega arith

  -- a field is left, so more of the record is
  pub left : i < length (fields (part file at e)) → b < e
  left h = by (dec_lt b e)
    where
      by : Dec (b < e) → b < e
      by (yes p) = p
      by (no p) = absurd (let w : ⊥ = omega (arith, none (omega arith)) in w)

  -- a turn: what `held` answers of the field from `b + 1` on
  module _ (x : Rule) (r : Option ℕ) (h : b < e) (ex : x ≡ rule_of k z i) (er : r ≡ held_of k x (b + 1) (part file (b + 1) e)) where
    place : b + 1 ≡ at + start_of i (fields (part file at e))
    place = l.here

    is : field 0 (fields (part file (b + 1) e)) ≡ field i (fields (part file at e))
    is =
        let s : Rest file (fields (part file at e)) at i (b + 1) e = rw place (rest_at file at e i y.order y.within (more h)) in
        rest-first s

    turned : r ≡ cond (obeys k (rule_of k z i) (field i (fields (part file at e)))) (Some (b + 1 + span_of (other 44) (part file (b + 1) e))) None
    unfolding held_of
    turned = rw (← ex, ← is) er

    pub along-stops : r ≡ None → Broken file at e k z (b + 1 - at) (i + 1)
    along-stops t =
        let o : b + 1 - at ≡ start_of i (fields (part file at e)) = omega (arith, place) in
        record {
          fault = rw o (obeyed-stops k z (fields (part file at e)) i (more h) l.passed (breaks _ _ (sym turned ∙ t)));
          within = omega (arith, place);
        }

    pub along-on : {t : ℕ} → r ≡ Some t → Along file at e k z (i + 1) t
    along-on {t} q =
        let g = meets (obeys k (rule_of k z i) (field i (fields (part file at e)))) (b + 1 + span_of (other 44) (part file (b + 1) e)) (sym turned ∙ q) in
        let s = part file (b + 1) e in
        let w : length s ≡ e - (b + 1) = part_length file (b + 1) e y.within in
        let j : span_of (other 44) s ≤ length s = span-le (other 44) s in
        let f : length (field i (fields (part file at e))) ≡ span_of (other 44) s = rw (← is, field-here s) (length-take-le _ s j) in
        record {
          high = omega (arith, g.1);
          few = omega (arith, l.few, g.1);
          here = omega (arith, start-next i (fields (part file at e)) (more h), place, g.1);
          passed = obeyed-on k z (fields (part file at e)) i (more h) l.passed g.0;
        }

-- ---- any field held to its rule, a quantity to the unit behind it

-- a turn, by what `held_at` answers of the field from `b + 1` on
module _ (file : List ℕ) (at e k n d i b : ℕ) (y : Typed file at e k (scale_at file at e k n d)) (l : Along file at e k (scale_at file at e k n d) i b) (h : b < e)
    {r : Option ℕ} (er : (fs : List (List ℕ)) → (i ≡ quantity_field → field quantity_unit_field fs ≡ field 1 (fields (part file (b + 1) e)))
    → r ≡ held_of k (rule_of k (scale_for k n d fs) i) (b + 1) (part file (b + 1) e)) where
  behind-it : i ≡ quantity_field → field quantity_unit_field (fields (part file at e)) ≡ field 1 (fields (part file (b + 1) e))
  behind-it q =
      let s : Rest file (fields (part file at e)) at i (b + 1) e =
      rw l.here (rest_at file at e i y.order y.within (more file at e k (scale_at file at e k n d) i b y l h)) in
      let j : i + 1 ≡ 19 = omega arith in
      rw j at (s.same 1)

  held-here : r ≡ held_of k (rule_of k (scale_at file at e k n d) i) (b + 1) (part file (b + 1) e)
  held-here = er (fields (part file at e)) behind-it

  pub turn-stops : r ≡ None → Broken file at e k (scale_at file at e k n d) (b + 1 - at) (i + 1)
  turn-stops t = along-stops file at e k (scale_at file at e k n d) i b y l _ r h refl held-here t

  pub turn_on : {t : ℕ} → r ≡ Some t → Along file at e k (scale_at file at e k n d) (i + 1) t
  turn_on q = along-on file at e k (scale_at file at e k n d) i b y l _ r h refl held-here q

  pub turn-past : {t : ℕ} → r ≡ Some t → b + 1 ≤ t
  turn-past q = held-past k (rule_of k (scale_at file at e k n d) i) (b + 1) (part file (b + 1) e) held-here q

module _ (k n d i a : ℕ) (s : List ℕ) {b : Bool} (eb : b ≡ eqb i quantity_field && eqb k 250) (fs : List (List ℕ)) where
  pub held-quantity : {r : Option ℕ} → b ≡ true → r ≡ held_of 250 (Value (decimals_named (field 1 (fields s)))) a s
      → (i ≡ quantity_field → field quantity_unit_field fs ≡ field 1 (fields s)) → r ≡ held_of k (rule_of k (scale_for k n d fs) i) a s
  unfolding quantity_decimals
  held-quantity t e u =
      let q = rule-quantity k n d i fs (sym eb ∙ t) in
      rw (q.2, u q.1, q.0) e

  pub held-field : {r : Option ℕ} {x : Rule} → b ≡ false → x ≡ rule_of k (scale n d) i → r ≡ held_of k x a s → r ≡ held_of k (rule_of k (scale_for k n d fs) i) a s
  held-field t ex e = rw (← rule-for k n d i fs (sym eb ∙ t), ← ex) e

-- ---- the fields that later rules ask for

-- the field w starts at p, if the loop has passed it
pub record Noted (fs : List (List ℕ)) (at i w p : ℕ) : Type 0 where
  pub is : w < i → p ≡ at + start_of w fs

pub noted-none : (fs : List (List ℕ)) (at w : ℕ) → Noted fs at 1 w at
noted-none fs at w = record { is = λ h. (let z : w ≡ 0 = omega arith in rw z (omega (arith, start-zero fs))) }

noted-on : (fs : List (List ℕ)) (at i w p a r : ℕ) → Noted fs at i w p → a ≡ at + start_of i fs → r ≡ cond (eqb i w) a p → Noted fs at (i + 1) w r
noted-on fs at i w p a r s h e = record { is = λ g. go (eqb i w) refl g }
  where
    go : (b : Bool) → eqb i w ≡ b → w < i + 1 → r ≡ at + start_of w fs
    go true q g = rw (q, h, eqb-true i w q) at e
    go false q g =
        let ne : i ≡ w → ⊥ = eqb-false i w q in
        let lt : w < i = omega arith in
        rw (q, s.is lt) at e

-- every kind has the fields that are asked for
module _ (k : ℕ) (z : Scale) where
  some-field : 0 < count_of k z
  unfolding count_of row_of
  some-field =
      by-test some (eqb k 100) (λ t. omega arith)
      (λ t. by-test some (eqb k 200) (λ t. omega arith)
      (λ t. by-test some (eqb k 300) (λ t. omega arith)
      (λ t. by-test some (eqb k 400) (λ t. omega arith)
      (λ t. by-test some (eqb k 500) (λ t. omega arith)
      (λ t. by-test some (eqb k 250) (λ t. omega arith)
      (λ t. by-test some (eqb k 550) (λ t. omega arith) (λ t. omega arith)))))))
    where
      some : List Rule → Type 0
      some row = 0 < length row

  abbrev fits : ℕ → Type 0
  fits x = x < count_of k z

  asked-second : second_asked k < count_of k z
  unfolding second_asked count_of row_of
  asked-second =
      by-test fits (eqb k 200) (λ t. rw (eqb-true k 200 t) (omega arith))
      (λ t. by-test fits (eqb k 250) (λ t. rw (eqb-true k 250 t) (omega arith)) (λ t. some-field))

  asked-first : first_asked k z.n < count_of k z
  unfolding first_asked count_of row_of
  asked-first =
      by-test fits (eqb k 200) (λ t. rw (eqb-true k 200 t) (omega arith))
      (λ t. by-test fits (eqb k 300) (λ t. omega (arith, count-300 k z (eqb-true k 300 t)))
      (λ t. by-test fits (eqb k 500) (λ t. rw (eqb-true k 500 t) (omega arith))
      (λ t. by-test fits (eqb k 250) (λ t. rw (eqb-true k 250 t) (omega arith)) (λ t. some-field))))

-- n counts in a 300 only
pub asked-for : (k n d : ℕ) (fs : List (List ℕ)) {v : ℕ} → v ≡ first_asked k n → v ≡ first_asked k (scale_for k n d fs).n
unfolding first_asked
asked-for k n d fs h = h ∙ by-test same (eqb k 300) (λ t. refl) (λ t. by-test same (eqb k 250) (λ u. rw t) (λ u. rw t))
  where
    same : Scale → Type 0
    same z = first_asked k n ≡ first_asked k z.n

pub along-end : (file : List ℕ) (at e k : ℕ) (z : Scale) (i b v w p q : ℕ) → Typed file at e k z → Along file at e k z i b → e ≤ b
    → Noted (fields (part file at e)) at i v p → Noted (fields (part file at e)) at i w q → v ≡ first_asked k z.n → w ≡ second_asked k
    → Sound file at e k z p q
along-end file at e k z i b v w p q y l h np nq ev ew =
    let l₂ : length (fields (part file at e)) ≤ i = none file at e k z i b y l h in
    record {
      fault = obeyed-all k z (fields (part file at e)) i l₂ l.passed;
      first = rw ev at (starts v p np (omega (arith, y.count, asked-first k z)) l₂);
      second = rw ew at (starts w q nq (omega (arith, y.count, asked-second k z)) l₂);
    }
  where
    starts : (x a : ℕ) → Noted (fields (part file at e)) at i x a → x < length (fields (part file at e)) → length (fields (part file at e)) ≤ i
        → Starts file (fields (part file at e)) at x a e
    starts x a s g m =
        let is : a ≡ at + start_of x (fields (part file at e)) = s.is (omega arith) in
        record { place = is; rest = rw is (rest_at file at e x y.order y.within g) }

-- ---- the values of a 300

pub value-left : (file : List ℕ) (at e n d i t : ℕ) → Typed file at e 300 (scale n d) → Along file at e 300 (scale n d) i t → i < n + 2 → t < e
value-left file at e n d i t y l few = left file at e 300 (scale n d) i t y l (omega (arith, y.count, count-300 300 (scale n d) refl))

-- the same field, its number put otherwise
pub along-at : (file : List ℕ) (at e k : ℕ) (z : Scale) (i j t : ℕ) → Along file at e k z i t → i ≡ j → Along file at e k z j t
along-at file at e k z i j t l q = subst (λ (x : ℕ). Along file at e k z x t) q l

-- the next of those that are left
pub along-value : (file : List ℕ) (at e n d left t : ℕ) {r : Option ℕ} {z : ℕ} → Typed file at e 300 (scale n d) → Along file at e 300 (scale n d) (n + 2 - left) t → 2 ≤ n + 2 - left → 0 < left
    → r ≡ held_of 300 (Value d) (t + 1) (part file (t + 1) e) → r ≡ Some z → Along file at e 300 (scale n d) (n + 2 - (left - 1)) z
unfolding row_of
along-value file at e n d left t {r} {z} y l two some er q =
    let i : ℕ = n + 2 - left in
    let few : i < n + 2 = omega arith in
    let on : i + 1 ≡ n + 2 - (left - 1) = omega arith in
    along-at file at e 300 (scale n d) (i + 1) (n + 2 - (left - 1)) z
    (along-on file at e 300 (scale n d) i t y l (Value d) r (value-left file at e n d i t y l few) (rule-is 300 (scale n d) 300 i refl (row-value n d i two few)) er q)
    on

-- what `passed` answers
module _ (file : List ℕ) (at e k n d i b : ℕ) where
  pub goes_none : Along file at e k (scale_at file at e k n d) i b → (r : Spot) → r ≡ record { i = i; b = b } → Goes file at e k (scale_at file at e k n d) i b r
  goes_none l r q = rw q (record { along = l; on = omega arith; more = omega arith; first = λ h. h; second = λ h. h })

  pub goes-values : k ≡ 300 → 2 ≤ i → i < n + 2 → (r : Spot) → Along file at e 300 (scale n d) r.i r.b × (b ≤ r.b) × (i ≤ r.i) × (r.i ≤ n + 2) → Goes file at e k (scale_at file at e k n d) i b r
  unfolding first_asked second_asked
  goes-values q two few r h =
      rw q
      (record {
        along = h.0;
        on = h.1;
        more = h.2;
        first = λ g. omega (arith, h.3);
        second = λ g. omega arith;
      })

-- field i was looked at, and the loop went on from i + 1
module _ {file : List ℕ} {at e k : ℕ} {z : Scale} {i t : ℕ} {s : Spot} (g : Goes file at e k z (i + 1) t s) (w p a r : ℕ)
    (m : Noted (fields (part file at e)) at i w p) (h : a ≡ at + start_of i (fields (part file at e))) (q : r ≡ cond (eqb i w) a p) where
  pub noted-first : w ≡ first_asked k z.n → Noted (fields (part file at e)) at s.i w r
  noted-first f = record { is = λ l. (noted-on (fields (part file at e)) at i w p a r m h q).is (rw (← f) at g.first l) }

  pub noted-second : w ≡ second_asked k → Noted (fields (part file at e)) at s.i w r
  noted-second f = record { is = λ l. (noted-on (fields (part file at e)) at i w p a r m h q).is (rw (← f) at g.second l) }

-- at a 300
module _ (file : List ℕ) (at e k n d i b : ℕ) (q : k ≡ 300) where
  pub typed-300 : Typed file at e k (scale_at file at e k n d) → Typed file at e 300 (scale n d)
  typed-300 y = rw q at y

  pub along-300 : Along file at e k (scale_at file at e k n d) i b → Along file at e 300 (scale n d) i b
  along-300 l = rw q at l

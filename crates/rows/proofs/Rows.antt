-- The rule of a field, found in the table by its number: past the row, in the values of a 300 and behind them.
-- Assumes nothing.
use Rattle.std.proofs.Common.{Option}
use Prim.Native.Nat.{ℕ, zero, suc, ◌+◌, ◌-◌, ◌≤◌, ◌<◌, min}
use mathlib.Core.Path.{◌≡◌, refl, sym, ◌∙◌, ap}
use mathlib.Core.List.{List, [], ◌∷◌}
use mathlib.Core.Bool.{Bool, true, false, false≢true, ◌&&◌}
use mathlib.Core.Logic.{◌≢◌}
use native.Mathlib.Omega.{arith}
use native.Mathlib.Decide.{dec_lt}
use lib.ListN.{length, get_or, set, replicate, length-replicate, length-append, get_or-replicate, get_or-eq_default, get_or-append}
use lib.Seq.{get_or-append-add, get_or-set_other}
use lib.Dec.{eqb}
use borrow.Author.Tests.{ne_eqb, eq-eqb, eqb-true}
use Rattle.ground.proofs.Cases.{by}
use Rattle.ground.proofs.Tests.{and-true}
use Rattle.format.specs.Numbers.{is_number, fraction_of, value_of}
use Rattle.format.specs.Quality.{is_graded}
use Rattle.format.specs.Records.{Scale, scale, scale_for, row300, row250, row_of, count_of, rule_of, obeys, quantity_field, quantity_decimals}
use Rattle.format.specs.declared.Rule.{Rule}
use Rattle.format.specs.declared.Rule.TheVariants.{Indicator, Value, Quality, Reason, Description, Time, Load}
use Rattle.format.specs.declared.Grade.{Grade}

pub past_row : (row : List Rule) (i : ℕ) → length row ≤ i → Indicator ≡ get_or row i Indicator
past_row row i h = sym (get_or-eq_default row Indicator {n = i} h)

-- past the row, or in its first field
pub off-row : (row : List Rule) (i : ℕ) → (i < length row → i ≡ 0) → get_or row 0 Indicator ≡ Indicator → Indicator ≡ get_or row i Indicator
off-row row i h e = by (dec_lt i (length row))
  where
    by : Dec (i < length row) → Indicator ≡ get_or row i Indicator
    by (yes p) = rw (h p) (sym e)
    by (no p) = past_row row i (omega arith)

-- a `match` with the arms 1 to n: what it says of i behind them all
abbrev pub Past : ℕ → ℕ → Type 0
Past i zero = Unit {0}
Past i (suc n) = Past i n × (i ≡ suc n → ⊥)

pub past-arms : (n i : ℕ) → Past i n → i < suc n → i ≡ 0
past-arms zero i p h = omega arith
past-arms (suc n) i p h = past-arms n i p.0 (let q = p.1 in omega arith)

-- behind the values of a 300
abbrev pub behind : List Rule
behind = Quality ∷ Reason ∷ Description ∷ Time ∷ Load ∷ []

module _ (n d i : ℕ) where
  pub row-value : 2 ≤ i → i < n + 2 → Value d ≡ get_or (row300 (scale n d)) i Indicator
  row-value l h =
      let e : suc (suc (i - 2)) ≡ i = omega arith in
      let k : i - 2 < n = omega arith in
      rw (← e) (sym (get_or-append (replicate n (Value d)) behind Indicator (i - 2) (rw (length-replicate n (Value d)) k) ∙ get_or-replicate n (i - 2) (Value d) Indicator k))

  pub row-behind : n + 2 ≤ i → (k : ℕ) {x : Rule} → i - n ≡ k → x ≡ get_or behind (k - 2) Indicator → x ≡ get_or (row300 (scale n d)) i Indicator
  row-behind h k q₀ e =
      let m : suc (suc (n + (k - 2))) ≡ i = omega arith in
      let r : n ≡ length (replicate n (Value d)) = sym (length-replicate n (Value d)) in
      let q = get_or-append-add (replicate n (Value d)) behind (k - 2) Indicator in
      e ∙ sym (rw (← m) (rw (length-replicate n (Value d)) at q))

  pub row-past : n + 7 ≤ i → Indicator ≡ get_or (row300 (scale n d)) i Indicator
  row-past h = row-behind (omega arith) (i - n) refl (past_row behind (i - n - 2) (omega arith))

-- ---- by the record's kind

module _ (k : ℕ) (z : Scale) where
  pub rule-is : (j i : ℕ) {x : Rule} → k ≡ j → x ≡ get_or (row_of j z) i Indicator → x ≡ rule_of k z i
  unfolding rule_of
  rule-is j i h e = rw h e

  pub count-is : (j : ℕ) {x : ℕ} → k ≡ j → x ≡ length (row_of j z) → x ≡ count_of k z
  unfolding count_of
  count-is j h e = rw h e

  pub count-300 : k ≡ 300 → z.n + 7 ≡ count_of k z
  unfolding count_of row_of
  count-300 h = rw (h, length-append (replicate z.n (Value z.decimals)) behind, length-replicate z.n (Value z.decimals)) (omega arith)

  -- a 900
  module _ (a : k ≡ 100 → ⊥) (b : k ≡ 200 → ⊥) (c : k ≡ 300 → ⊥) (d : k ≡ 400 → ⊥) (e : k ≡ 500 → ⊥) (f : k ≡ 250 → ⊥) (g : k ≡ 550 → ⊥) where
    row-900 : row_of k z ≡ Indicator ∷ []
    unfolding row_of
    row-900 = rw (ne_eqb _ _ a, ne_eqb _ _ b, ne_eqb _ _ c, ne_eqb _ _ d, ne_eqb _ _ e, ne_eqb _ _ f, ne_eqb _ _ g)

    pub rule-900 : (i : ℕ) → Indicator ≡ rule_of k z i
    unfolding rule_of
    rule-900 i = rw row-900 (off-row (Indicator ∷ []) i (λ h. omega arith) refl)

    pub count-900 : 1 ≡ count_of k z
    unfolding count_of
    count-900 = rw row-900

-- how many fields there are, n says in a 300 alone, and decimals nowhere
count-other : (k : ℕ) (z w : Scale) → eqb k 300 ≡ false → count_of k z ≡ count_of k w
unfolding count_of row_of
count-other k z w h = by (eqb k 250) (λ u. rw (eqb-true k 250 u)) (λ u. rw (h, u))

pub count-for : (k n d : ℕ) (fs : List (List ℕ)) {c : ℕ} → c ≡ count_of k (scale n 0) → c ≡ count_of k (scale_for k n d fs)
count-for k n d fs e =
    e
    ∙ by (eqb k 300)
    (λ t. let h : k ≡ 300 = eqb-true k 300 t in rw t (sym (count-300 k (scale n 0) h) ∙ count-300 k (scale n d) h))
    (λ t. count-other k (scale n 0) (scale_for k n d fs) t)

-- as `count_of` asks for it
pub count-day : (k n : ℕ) → k ≡ 300 → n + 7 ≡ count_of k (scale n 0)
count-day k n h = count-300 k (scale n 0) h

-- ---- what the rules of a record are made from

-- a quantity's decimals count at its own field alone
quantity-alone : (d m i : ℕ) → i ≢ quantity_field → get_or (row250 d) i Indicator ≡ get_or (row250 m) i Indicator
quantity-alone d m i h =
    let e : row250 m ≡ set (row250 d) quantity_field (Value m) = refl in
    sym (ap (λ (row : List Rule). get_or row i Indicator) e ∙ get_or-set_other (row250 d) quantity_field i (Value m) Indicator h)

module _ (k n d i : ℕ) (fs : List (List ℕ)) where
  -- any field but a 250's quantity has the rule that the channel's own scale gives
  pub rule-for : (eqb i quantity_field && eqb k 250) ≡ false → rule_of k (scale n d) i ≡ rule_of k (scale_for k n d fs) i
  unfolding rule_of row_of
  rule-for h =
      by (eqb k 300) (λ t. rw t)
      (λ t. by (eqb k 250)
      (λ u. let q : i ≢ quantity_field = λ o. false≢true (sym h ∙ rw (u, eq-eqb i quantity_field o)) in
      let w : k ≡ 250 = eqb-true k 250 u in
      rw w (quantity-alone d (quantity_decimals fs) i q))
      (λ u. rw (t, u)))

  pub rule-quantity : (eqb i quantity_field && eqb k 250) ≡ true → (k ≡ 250) × (i ≡ quantity_field) × (rule_of k (scale_for k n d fs) i ≡ Value (quantity_decimals fs))
  unfolding rule_of row_of
  rule-quantity h =
      let g = and-true (eqb i quantity_field) (eqb k 250) h in
      let p = eqb-true k 250 g.1 in
      let q = eqb-true i quantity_field g.0 in
      (p, q, rw (p, q))

-- ---- a field held to its rule

value-six : (d m : ℕ) → m ≡ min d 6 → (s : List ℕ) → value_of m s ≡ value_of d s
unfolding value_of fraction_of
value-six d m w s = let e : min m 6 ≡ min d 6 = omega arith in rw e

module _ (k : ℕ) (rule : Rule) (s : List ℕ) (x : Rule) {b : Bool} (h : rule ≡ x) where
  pub obeys-is : b ≡ obeys k x s → b ≡ obeys k rule s
  obeys-is e = rw h e

  -- y is what a rule of numbers answers
  pub obeys-number : {y z : Option ℕ} → b ≡ is_number y → y ≡ z → is_number z ≡ obeys k x s → b ≡ obeys k rule s
  obeys-number e q w = rw h (e ∙ ap is_number q ∙ w)

  -- what `is_value` answers, which is asked for no more than six decimals
  pub obeys-value : (d m : ℕ) → x ≡ Value d → m ≡ min d 6 → b ≡ is_number (value_of m s) → b ≡ obeys k rule s
  unfolding obeys
  obeys-value d m q w e = rw (h, q) (e ∙ ap is_number (value-six d m w s))

  pub obeys-graded : {y z : Option Grade} → b ≡ is_graded y → y ≡ z → is_graded z ≡ obeys k x s → b ≡ obeys k rule s
  obeys-graded e q w = rw h (e ∙ ap is_graded q ∙ w)

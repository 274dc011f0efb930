-- One field held to its rule, at a likely length or by its end. Assumes nothing.
use Rattle.std.proofs.Common.{Option, Some, None}
use Prim.Native.Nat.{ℕ, ◌+◌, ◌-◌, ◌≤◌, ◌<◌}
use mathlib.Core.Path.{◌≡◌, refl, sym, ap, ◌∙◌}
use mathlib.Core.List.{List, [], ◌∷◌}
use mathlib.Core.Bool.{Bool, true, false, cond}
use native.Mathlib.Nat.{add-zero}
use native.Mathlib.Omega.{arith}
use lib.ListN.{length, get_or, take, drop}
use lib.Dec.{eqb}
use borrow.Author.Tests.{eqb-true, eq-eqb, le-leb}
use Rattle.ground.specs.Lists.{all, span_of, other, part, same}
use Rattle.ground.specs.Digits.{is_digit}
use Rattle.ground.specs.Text.{bytes}
use Rattle.ground.proofs.Lists.{rest}
use Rattle.ground.proofs.Same.{same-sound}
use Rattle.ground.proofs.Tests.{or-true}
use Rattle.format.specs.Bytes.{capital, is_alnum, is_letter, is_capital, are_all, is_text, end_space}
use Rattle.format.specs.Texts.{is_nmi, is_suffix, is_stream, is_description, is_direction}
use Rattle.format.specs.Numbers.{is_number, or_empty, reason_of, value_of}
use Rattle.format.specs.Units.{units, same_letters, unit_from, unit_of, decimals_named}
use Rattle.format.specs.Dates.{date_of, time_of, next_read_of, load_of}
use Rattle.format.specs.Quality.{stands_alone, quality_of}
use Rattle.format.specs.Cut.{fields, field}
use Rattle.format.specs.Records.{obeys}
use Rattle.format.specs.declared.Rule.{Rule}
use Rattle.format.specs.declared.Rule.TheVariants as rule
use Rattle.format.proofs.Units.{named_some}
use Rattle.format.proofs.ValueText.{value-still}
use Rattle.quick_values.specs.Shapes.{is_thousandths}
use Rattle.quick_values.proofs.Shapes.{thousandths-value, thousandths-plain}
use Rattle.ground.proofs.Bytes.{holds-none}
use Rattle.quick_dates.proofs.CommonDates.{date-plain, time-plain}
use Rattle.tries.specs.Holds.{Ended, held_of}
use Rattle.lines.specs.Places.{Stops, Cut}
use Rattle.lines.proofs.Cuts.{first-is}
use Rattle.lines.proofs.Commas.{stops-comma, span-is, field_is, long}

alnum-plain : (f : List ℕ) → all is_alnum f ≡ true → all (other 44) f ≡ true
unfolding is_alnum is_digit is_letter is_capital
alnum-plain f h = holds-none 44 is_alnum refl f h

-- ---- m bytes that are a field

module _ (file : List ℕ) (a e m : ℕ) (within : e ≤ length file) (le : a ≤ e) (s : Stops file a e m) where
  module _ (plain : all (other 44) (part file a (a + m)) ≡ true) where
    pub ended_at : (p : List ℕ → Bool) → p (part file a (a + m)) ≡ true → Ended p a (part file a e) (Some (a + m))
    ended_at p t = (rw (span-is file a e m within le s plain), rw (field_is file a e m within le s plain) t)

  pub alnum-ended : {o : Bool} → o ≡ all is_alnum (part file a (a + m)) → o ≡ true → Ended (are_all is_alnum m m) a (part file a e) (Some (a + m))
  unfolding are_all
  alnum-ended e t =
      let h : all is_alnum (part file a (a + m)) ≡ true = sym e ∙ t in
      ended_at (alnum-plain (part file a (a + m)) h) (are_all is_alnum m m) (rw (long file a _ m within le s, le-leb m m (omega arith), h))

  pub date-ended : {o : Bool} → o ≡ is_number (date_of (part file a (a + m))) → o ≡ true → Ended (λ f. is_number (date_of f)) a (part file a e) (Some (a + m))
  date-ended e t = let h = sym e ∙ t in ended_at (date-plain (part file a (a + m)) h) (λ f. is_number (date_of f)) h

  pub time-ended : {o : Bool} → o ≡ is_number (time_of (part file a (a + m))) → o ≡ true → Ended (λ f. is_number (time_of f)) a (part file a e) (Some (a + m))
  time-ended e t = let h = sym e ∙ t in ended_at (time-plain (part file a (a + m)) h) (λ f. is_number (time_of f)) h

pub one_ended : (file : List ℕ) (a e x : ℕ) → e ≤ length file → a ≤ e → Stops file a e 1 → get_or file a 0 ≡ x → eqb x 44 ≡ false
    → Ended (λ f. same f (x ∷ [])) a (part file a e) (Some (a + 1))
unfolding same
one_ended file a e x within le s g n =
    let h : a < length file = omega (arith, s.room) in
    let q : part file a (a + 1) ≡ x ∷ [] = one h in
    ended_at file a e 1 within le s (rw (q, n)) (λ f. same f (x ∷ [])) (rw (q, eq-eqb x x refl))
  where
    one : a < length file → part file a (a + 1) ≡ x ∷ []
    one h = let w : a + 1 - a ≡ 1 = omega arith in rw (w, rest file a h, g)

pub none-ended : (file : List ℕ) (a e : ℕ) → e ≤ length file → a ≤ e → Stops file a e 0 → Ended (λ f. eqb (length f) 0) a (part file a e) (Some a)
none-ended file a e within le s =
    let w : a + 0 - a ≡ 0 = omega arith in
    rw add-zero at (ended_at file a e 0 within le s (rw w) (λ f. eqb (length f) 0) (rw w))

pub kwh-ended : (file : List ℕ) (a e : ℕ) → e ≤ length file → a ≤ e → Stops file a e 3 → {o : Bool} → o ≡ same (part file a (a + 3)) (bytes "kWh") → o ≡ true
    → Ended (λ f. same f (bytes "kWh")) a (part file a e) (Some (a + 3))
kwh-ended file a e within le s eo t =
    let h : same (part file a (a + 3)) (bytes "kWh") ≡ true = sym eo ∙ t in
    let q : part file a (a + 3) ≡ bytes "kWh" = same-sound (part file a (a + 3)) (bytes "kWh") h in
    ended_at file a e 3 within le s (rw q) (λ f. same f (bytes "kWh")) h

-- ---- the rule of such a field

ended_by : (p q : List ℕ → Bool) → ((f : List ℕ) → p f ≡ true → q f ≡ true) → (a : ℕ) (s : List ℕ) (r : Option ℕ) → Ended p a s r → Ended q a s r
ended_by p q h a s (Some z) g = (g.0, h (field 0 (fields s)) g.1)
ended_by p q h a s None g = tt

or-empty : (rule : List ℕ → Option ℕ) (f : List ℕ) → is_number (rule f) ≡ true → is_number (or_empty 0 rule f) ≡ true
or-empty rule f t = go (eqb (length f) 0)
  where
    go : (b : Bool) → is_number (cond b (Some 0) (rule f)) ≡ true
    go true = refl
    go false = t

module _ (a : ℕ) (s : List ℕ) (r : Option ℕ) (x : Rule) where
  pub ended-nmi : x ≡ rule.Nmi → Ended (are_all is_alnum 10 10) a s r → (k : ℕ) → Ended (obeys k x) a s r
  unfolding obeys is_nmi
  ended-nmi e h k = rw e h

  pub ended-suffix : x ≡ rule.Suffix → Ended (are_all is_alnum 2 2) a s r → (k : ℕ) → Ended (obeys k x) a s r
  unfolding obeys is_suffix
  ended-suffix e h k = rw e h

  pub ended-stream : x ≡ rule.Stream → Ended (are_all is_alnum 2 2) a s r → (k : ℕ) → Ended (obeys k x) a s r
  unfolding obeys is_stream is_suffix
  ended-stream e h k = rw e (ended_by (are_all is_alnum 2 2) (obeys k rule.Stream) (λ f t. rw (t, or-true (eqb (length f) 0))) a s r h)

  pub ended-unit : x ≡ rule.Unit → Ended (λ f. same f (bytes "kWh")) a s r → (k : ℕ) → Ended (obeys k x) a s r
  unfolding obeys units same_letters unit_from unit_of same capital
  ended-unit e h k = rw e (ended_by (λ f. same f (bytes "kWh")) (obeys k rule.Unit) (λ f t. rw (same-sound f (bytes "kWh") t)) a s r h)

  pub ended-direction : x ≡ rule.Direction → Ended (λ f. same f (69 ∷ [])) a s r → (k : ℕ) → Ended (obeys k x) a s r
  unfolding obeys is_direction
  ended-direction e h k = rw e (ended_by (λ f. same f (69 ∷ [])) (obeys k rule.Direction) (λ f t. rw (t, or-true (same f (73 ∷ [])))) a s r h)

  pub ended-date : x ≡ rule.Date → Ended (λ f. is_number (date_of f)) a s r → (k : ℕ) → Ended (obeys k x) a s r
  unfolding obeys
  ended-date e h k = rw e h

  pub ended-next : x ≡ rule.NextRead → Ended (λ f. is_number (date_of f)) a s r → (k : ℕ) → Ended (obeys k x) a s r
  unfolding obeys next_read_of
  ended-next e h k = rw e (ended_by (λ f. is_number (date_of f)) (obeys k rule.NextRead) (or-empty date_of) a s r h)

  pub ended-time : x ≡ rule.Time → Ended (λ f. is_number (time_of f)) a s r → (k : ℕ) → Ended (obeys k x) a s r
  unfolding obeys
  ended-time e h k = rw e h

  pub ended-load : x ≡ rule.Load → Ended (λ f. is_number (time_of f)) a s r → (k : ℕ) → Ended (obeys k x) a s r
  unfolding obeys load_of
  ended-load e h k = rw e (ended_by (λ f. is_number (time_of f)) (obeys k rule.Load) (or-empty time_of) a s r h)

  pub ended-quality : x ≡ rule.Quality → Ended (λ f. same f (65 ∷ [])) a s r → (k : ℕ) → Ended (obeys k x) a s r
  unfolding obeys quality_of stands_alone
  ended-quality e h k = rw e (ended_by (λ f. same f (65 ∷ [])) (obeys k rule.Quality) (λ f t. rw (same-sound f (65 ∷ []) t)) a s r h)

  pub ended-reason : x ≡ rule.Reason → Ended (λ f. eqb (length f) 0) a s r → (k : ℕ) → Ended (obeys k x) a s r
  unfolding obeys reason_of
  ended-reason e h k = rw e (ended_by (λ f. eqb (length f) 0) (obeys k rule.Reason) (λ f t. rw t) a s r h)

  pub ended-description : x ≡ rule.Description → Ended (λ f. eqb (length f) 0) a s r → (k : ℕ) → Ended (obeys k x) a s r
  unfolding obeys is_description is_text end_space
  ended-description e h k = rw e (ended_by (λ f. eqb (length f) 0) (obeys k rule.Description) none a s r h)
    where
      none : (f : List ℕ) → eqb (length f) 0 ≡ true → obeys k rule.Description f ≡ true
      none [] t = refl
      none (b ∷ f) t = absurd (let q : length (b ∷ f) ≡ 0 = eqb-true (length (b ∷ f)) 0 t in let z : ⊥ = omega arith in z)

-- ---- the field held to its rule

module _ (k : ℕ) (x : Rule) (a : ℕ) (s : List ℕ) where
  pub held-ended : (z : ℕ) → Ended (obeys k x) a s (Some z) → Some z ≡ held_of k x a s
  unfolding held_of
  held-ended z h = rw (h.0, h.1)

  pub held-tried : {r : Option ℕ} {z : ℕ} → ((j : ℕ) → Ended (obeys j x) a s r) → r ≡ Some z → Some z ≡ held_of k x a s
  held-tried {r} {z} h e = held-ended z (rw e at (h k))

-- m is what `field_end` answers of the record from a on, o what the rule answers of that field
module _ (file : List ℕ) (a e m k : ℕ) (x : Rule) (le : a ≤ e) (within : e ≤ length file) (em : m ≡ span_of (other 44) (take (e - a) (drop a file)))
    {o : Bool} (eo : o ≡ obeys k x (take (a + m - a) (drop a file))) where
  held-is : o ≡ obeys k x (field 0 (fields (part file a e)))
  held-is = rw (← first-is file a e m le within em) eo

  pub held_to : o ≡ true → Some (a + m) ≡ held_of k x a (part file a e)
  unfolding held_of
  held_to t = rw (← held-is, t, ← em)

  pub held-broken : o ≡ false → None ≡ held_of k x a (part file a e)
  unfolding held_of
  held-broken t = rw (← held-is, t)

-- of a value of at most d decimals
module _ (file : List ℕ) (a e d : ℕ) (le : a ≤ e) (within : e ≤ length file) where
  pub held-thousandths : {o : Bool} → 5 < e - a → get_or file (a + 5) 0 ≡ 44 → o ≡ is_thousandths (take (a + 5 - a) (drop a file)) → o ≡ true → 3 ≤ d
      → Some (a + 5) ≡ held_of 300 (rule.Value d) a (part file a e)
  unfolding obeys
  held-thousandths h c eo t three =
      let q : is_thousandths (part file a (a + 5)) ≡ true = sym eo ∙ t in
      held-ended 300 (rule.Value d) a (part file a e) (a + 5)
      (ended_at file a e 5 within le (stops-comma file a e 5 within h c) (thousandths-plain _ q) (obeys 300 (rule.Value d)) (thousandths-value d _ three q))

-- of a quantity that has one decimal at the most, which every unit has
pub quantity-short : (file : List ℕ) (a e b x : ℕ) → Cut file a e b x → {o : Bool} → o ≡ is_number (value_of 1 (take (b - a) (drop a file))) → o ≡ true
    → Some b ≡ held_of 250 (rule.Value (decimals_named (field 1 (fields (part file a e))))) a (part file a e)
unfolding held_of obeys
quantity-short file a e b x c eo t =
    let d = decimals_named (field 1 (fields (part file a e))) in
    let w : is_number (value_of d (part file a b)) ≡ true = value-still 1 d (part file a b) (named_some (field 1 (fields (part file a e)))) (sym eo ∙ t) in
    rw (c.here, w, ← c.to)

-- of a quantity: the field ends at b, the next one starts at x, and d are the decimals of the unit that stands there
module _ (file : List ℕ) (a e b x : ℕ) (c : Cut file a e b x) {d : ℕ} {f : List ℕ} (u : f ≡ field 0 (fields (part file x e))) (ed : d ≡ decimals_named f)
    {o : Bool} (eo : o ≡ is_number (value_of d (take (b - a) (drop a file)))) where
  own : d ≡ decimals_named (field 1 (fields (part file a e)))
  own = ed ∙ ap decimals_named (u ∙ sym (c.later 0))

  asked : o ≡ obeys 250 (rule.Value (decimals_named (field 1 (fields (part file a e))))) (field 0 (fields (part file a e)))
  unfolding obeys
  asked = rw (c.here, ← own) eo

  pub quantity-to : o ≡ true → Some b ≡ held_of 250 (rule.Value (decimals_named (field 1 (fields (part file a e))))) a (part file a e)
  unfolding held_of
  quantity-to t = rw (← asked, t, ← c.to)

  pub quantity-broken : o ≡ false → None ≡ held_of 250 (rule.Value (decimals_named (field 1 (fields (part file a e))))) a (part file a e)
  unfolding held_of
  quantity-broken t = rw (← asked, t)

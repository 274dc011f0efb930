-- What a field at a place of the file says of the record that it stands in: a number, a quality with reason and description. Assumes nothing.
use Rattle.std.specs.Option.{unwrap_or}
use Rattle.std.proofs.Common.{Some, None}
use Rattle.std.proofs.Common.{Option, Some, None}
use Prim.Native.Nat.{ℕ, ◌+◌, ◌-◌, ◌^◌, ◌≤◌, ◌<◌}
use mathlib.Core.Path.{◌≡◌, refl, sym, ◌∙◌, ap}
use mathlib.Core.List.{List}
use mathlib.Core.Bool.{Bool, true, false, cond}
use native.Mathlib.Nat.{add-zero}
use native.Mathlib.Omega.{arith}
use native.Mathlib.Decide.{dec_lt}
use lib.ListN.{length, get_or, take, drop}
use lib.Dec.{eqb}
use mir.Val.{Fits}
use mir.Syntax.{w8, w16}
use Rattle.ground.specs.Lists.{part}
use Rattle.ground.proofs.Spans.{part_length}
use Rattle.format.specs.Numbers.{number_in, that, number_of, small_of, interval_of, length_of, intervals_of, reason_of, value_of}
use Rattle.format.specs.Units.{unit_of}
use Rattle.format.specs.Dates.{is_date, date_of}
use Rattle.format.specs.Records.{indicator_of, kind_in, millionths}
use Rattle.format.specs.Quality.{flag_in, method_in, quality_of, grade}
use Rattle.format.specs.Cut.{fields, field, start_of}
use Rattle.format.specs.Day.{Row, row_at, tag_at}
use Rattle.format.specs.declared.Tag.{Tag}
use Rattle.format.proofs.Cut.{start-zero}
use Rattle.format.proofs.Numbers.{under, number-under, small-under}
use Rattle.format.proofs.Units.{known_small, unit-known}
use Rattle.format.proofs.Total.{millionths-below}
use Rattle.lines.specs.Places.{Cut, Rest, Starts}
use Rattle.lines.proofs.Cuts.{rest-first}
use Rattle.lines.proofs.Commas.{comma-field}
use Rattle.quick_kinds.proofs.Indicators.{indicator-plain}
use Rattle.format.specs.declared.Grade.{Grade}

-- ---- numbers

-- of the field f, which is g: x is what its rule answers
pub says : (rule : List ℕ → Option ℕ) {f g : List ℕ} {x : Option ℕ} {v : ℕ} → v ≡ number_in x → x ≡ rule f → f ≡ g → v ≡ number_in (rule g)
says rule e q h = e ∙ ap number_in (q ∙ ap rule h)

-- of the record that the field stands in
pub says_of : (rule : List ℕ → Option ℕ) {file : List ℕ} {fs : List (List ℕ)} {p i a e v : ℕ} → v ≡ number_in (rule (field 0 (fields (part file a e))))
    → Starts file fs p i a e → v ≡ number_in (rule (field i fs))
says_of rule e s = e ∙ ap (λ (f : List ℕ). number_in (rule f)) (rest-first s.rest)

pub kind-says : (fs : List (List ℕ)) {f : List ℕ} {x : Option ℕ} {v : ℕ} → v ≡ number_in x → x ≡ indicator_of f → f ≡ field 0 fs → v ≡ kind_in fs
unfolding kind_in
kind-says fs e q h = says indicator_of e q h

-- a number in hand is below what bounds it
number-below : (k : ℕ) (x : Option ℕ) → 0 < k → under k x → number_in x < k
number-below k (Some v) h u = u
number-below k None h u = h

-- three bytes that name a kind
pub kind-tried : (file : List ℕ) (a e : ℕ) {x : Option ℕ} {k : ℕ} → a ≤ e → e ≤ length file → 3 < e - a → get_or file (a + 3) 0 ≡ 44
    → x ≡ indicator_of (take (a + 3 - a) (drop a file)) → x ≡ Some k → k ≡ kind_in (fields (part file a e))
unfolding kind_in
kind-tried file a e le within h c ex ek =
    let i : indicator_of (part file a (a + 3)) ≡ Some _ = sym ex ∙ ek in
    let f : part file a (a + 3) ≡ field 0 (fields (part file a e)) = comma-field file a e 3 le within h c (indicator-plain (part file a (a + 3)) (rw i)) in
    rw (← f, i)

pub interval-below : (s : List ℕ) {x : Option ℕ} {v : ℕ} → x ≡ interval_of s → v ≡ number_in x → v < 10000
unfolding interval_of
interval-below s {x} {v} e q =
    let h : v ≡ number_in (small_of 4 s) = q ∙ ap number_in e in
    omega (arith, number-below (10 ^ 4) (small_of 4 s) (omega arith) (small-under 4 s))

that-under : (p : ℕ → Bool) (k : ℕ) (x : Option ℕ) → under k x → under k (that p x)
that-under p k (Some v) u = go (p v)
  where
    go : (b : Bool) → under k (cond b (Some v) None)
    go true = u
    go false = tt
that-under p k None u = tt

pub date-below : (s : List ℕ) {x : Option ℕ} {v : ℕ} → x ≡ date_of s → v ≡ number_in x → v < 10 ^ 8
unfolding date_of
date-below s {x} {v} e q =
    let h : v ≡ number_in (that is_date (number_of 8 8 s)) = q ∙ ap number_in e in
    omega (arith, number-below (10 ^ 8) (that is_date (number_of 8 8 s)) (omega arith) (that-under is_date (10 ^ 8) (number_of 8 8 s) (number-under 8 8 s)))

module _ (s : List ℕ) {x : Option ℕ} {v : ℕ} (e : x ≡ value_of 6 s) (q : v ≡ number_in x) where
  pub value-is : v ≡ millionths s
  unfolding millionths
  value-is = q ∙ ap number_in e

  pub value-small : v < 10 ^ 13
  value-small = rw value-is (millionths-below s)

-- n, by the interval length
pub intervals-say : {f g : List ℕ} {x : Option ℕ} {v n : ℕ} → n ≡ intervals_of v → v ≡ number_in x → x ≡ length_of f → f ≡ g
    → n ≡ intervals_of (number_in (length_of g))
intervals-say i e q h = i ∙ ap intervals_of (says length_of e q h)

unit-below : (s : List ℕ) → number_in (unit_of s) < 23
unit-below s = number-below 23 (unit_of s) (omega arith) (one (unit_of s) refl)
  where
    one : (x : Option ℕ) → unit_of s ≡ x → under 23 x
    one (Some u) e = known_small u (unit-known s u e)
    one None e = tt

pub unit-fits : (s : List ℕ) {x : Option ℕ} {v : ℕ} → x ≡ unit_of s → v ≡ number_in x → Fits w8 v
unit-fits s {x} {v} e q = let h : v ≡ number_in (unit_of s) = q ∙ ap number_in e in omega (arith, unit-below s)

reason-below : (s : List ℕ) → number_in (reason_of s) < 65536
unfolding reason_of
reason-below s = go (eqb (length s) 0)
  where
    go : (b : Bool) → number_in (cond b (Some 65535) (small_of 3 s)) < 65536
    go true = omega arith
    go false = omega (arith, number-below (10 ^ 3) (small_of 3 s) (omega arith) (small-under 3 s))

pub reason-fits : (s : List ℕ) {x : Option ℕ} {v : ℕ} → x ≡ reason_of s → v ≡ number_in x → Fits w16 v
reason-fits s {x} {v} e q = let h : v ≡ number_in (reason_of s) = q ∙ ap number_in e in omega (arith, reason-below s)

-- ---- quality, reason and description

start_first : (x : ℕ) (fs : List (List ℕ)) → x + start_of 0 fs ≡ x
start_first x fs = rw (start-zero fs, add-zero x)

pub tag-eq : {a b d e f a₁ b₁ d₁ e₁ f₁ : ℕ} → a ≡ a₁ → b ≡ b₁ → d ≡ d₁ → e ≡ e₁ → f ≡ f₁
    → ◌≡◌ {A = Tag} (record { flag = a; method = b; reason = d; start = e; length = f }) (record { flag = a₁; method = b₁; reason = d₁; start = e₁; length = f₁ })
tag-eq p q r s t = rw (p, q, r, s, t)

place-eq : (m n x y : ℕ) → m ≡ n → (0 < n → x ≡ y) → cond (eqb m 0) 0 x ≡ cond (eqb n 0) 0 y
place-eq m n x y e h = by (dec_lt 0 n)
  where
    by : Dec (0 < n) → cond (eqb m 0) 0 x ≡ cond (eqb n 0) 0 y
    by (yes p) = rw (e, h p)
    by (no p) = let z : n ≡ 0 = omega arith in rw (e, z)

-- what is taken of a field that may say no quality
pub graded : (x : Option Grade) {g : Grade} → g ≡ unwrap_or x (grade 0 255) → (g.flag ≡ flag_in x) × (g.method ≡ method_in x)
graded (Some y) e = (ap (λ z. z.flag) e, ap (λ z. z.method) e)
graded None e = (ap (λ z. z.flag) e, ap (λ z. z.method) e)

-- by the three cuts of its fields: g is what `quality` answers of the first
pub tag_is : (file : List ℕ) (k a e b x b₁ x₁ b₂ x₂ : ℕ) (g : Option Grade) (fl me re st : ℕ) → Cut file a e b x → Cut file x e b₁ x₁ → Cut file x₁ e b₂ x₂
    → g ≡ quality_of k (part file a b) → fl ≡ flag_in g → me ≡ method_in g → re ≡ number_in (reason_of (part file x b₁)) → st ≡ cond (eqb (b₂ - x₁) 0) 0 x₁
    → record { flag = fl; method = me; reason = re; start = st; length = b₂ - x₁ } ≡ tag_at k (row_at a (part file a e)) 0
unfolding tag_at
tag_is file k a e b x b₁ x₁ b₂ x₂ g fl me re st c c₁ c₂ eg ef em er es =
    let fs = fields (part file a e) in
    let h₁ : field 1 fs ≡ part file x b₁ = c.later 0 ∙ c₁.here in
    let h₂ : field 2 fs ≡ part file x₁ b₂ = c.later 1 ∙ c₁.later 0 ∙ c₂.here in
    let n : length (field 2 fs) ≡ b₂ - x₁ = ap length h₂ ∙ part_length file x₁ b₂ (omega (arith, c₂.on, c₂.ends, c₂.within)) in
    let q : g ≡ quality_of k (field 0 fs) = eg ∙ ap (quality_of k) (sym c.here) in
    tag-eq
    (ef ∙ ap flag_in q)
    (em ∙ ap method_in q)
    (er ∙ ap (λ (s : List ℕ). number_in (reason_of s)) (sym h₁))
    (es ∙ place-eq (b₂ - x₁) (length (field 2 fs)) x₁ (a + start_of 2 fs) (sym n) (λ z. far z))
    (sym n)
  where
    far : 0 < length (field 2 (fields (part file a e))) → x₁ ≡ a + start_of 2 (fields (part file a e))
    far z =
        let z₁ : 0 < length (field 1 (fields (part file x e))) = rw (c.later 1) at z in
        sym (c.place 1 z ∙ c₁.place 0 z₁ ∙ start_first x₁ (fields (part file x₁ e)))

-- in the record that it stands in
pub tag-moves : (file : List ℕ) (k : ℕ) (x : Row) (i a e : ℕ) → Rest file x.cells x.place i a e → tag_at k (row_at a (part file a e)) 0 ≡ tag_at k x i
unfolding tag_at
tag-moves file k x i a e s =
    let fs = fields (part file a e) in
    let h₀ : field 0 fs ≡ field i x.cells = rest-first s in
    tag-eq
    (ap (λ (f : List ℕ). flag_in (quality_of k f)) h₀)
    (ap (λ (f : List ℕ). method_in (quality_of k f)) h₀)
    (ap (λ (f : List ℕ). number_in (reason_of f)) (sym (s.same 1)))
    (place-eq (length (field 2 fs)) (length (field (i + 2) x.cells)) (a + start_of 2 fs) (x.place + start_of (i + 2) x.cells)
    (ap length (sym (s.same 2))) (λ g. sym (s.place 2 g)))
    (ap length (sym (s.same 2)))

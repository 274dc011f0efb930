-- A field that meets its rule neither begins nor ends with a space: a law for each rule, and so for each row of the table. Assumes nothing.
use Rattle.std.proofs.Common.{Option, Some, None}
use Prim.Native.Nat.{ℕ, zero, suc, ◌+◌, ◌-◌, ◌≤◌, ◌<◌}
use mathlib.Core.Path.{◌≡◌, refl}
use mathlib.Core.Bool.{Bool, true, false, false≢true, cond, not, ◌&&◌}
use mathlib.Core.List.{List, [], ◌∷◌, ◌++◌}
use native.Mathlib.Omega.{arith}
use native.Mathlib.Numerals.{add-one}
use lib.ListN.{length, get_or, drop, replicate}
use lib.Dec.{eqb, leb}
use borrow.Author.Tests.{eqb-true, ne_eqb, leb-true, not-true, not-false}
use Rattle.ground.specs.Lists.{all, span_of, other, same}
use Rattle.ground.specs.Text.{bytes}
use Rattle.ground.specs.Digits.{is_digit}
use Rattle.ground.proofs.Same.{same-sound}
use Rattle.ground.proofs.Tests.{and-true, or-other}
use Rattle.ground.proofs.Cases.{by, both}
use Rattle.ground.proofs.Digits.{digit_not, all_map}
use Rattle.format.specs.Bytes.{is_capital, is_letter, is_alnum, end_space, is_text, are_all}
use Rattle.format.specs.Texts.{is_nmi, is_suffix, is_stream, is_party, is_configuration, is_register, is_serial, is_service_order, is_description, is_direction, is_trans_code, version_of}
use Rattle.format.specs.Numbers.{is_number, number_in, that, or_empty, number_of, small_of, leading_zero, interval_of, length_of, is_length, no_reason, reason_of, point, before, behind, times, fraction_of, amount, value_of, are_digits, is_read, is_index_read}
use Rattle.format.specs.Dates.{is_date, is_time, is_minute, date_of, time_of, created_of, next_read_of, load_of, is_read_time, taken_of, read_time_of}
use Rattle.format.specs.Quality.{stands_alone, takes_method, no_method, with_method, quality_of, is_graded, grade}
use Rattle.format.specs.Records.{Scale, is_kind, indicator_of, kind_in, row_of, obeys}
use Rattle.format.specs.declared.Rule.{Rule}
use Rattle.format.specs.declared.Rule.TheVariants.{Indicator, Version, Created, Party, Nmi, Configuration, Register, Suffix, Stream, Serial, Unit, Length, NextRead, Date, Value, Quality, Reason, Description, Time, Load, Interval, TransCode, ServiceOrder, ReadTime, IndexRead, Direction, RegisterRead}
use Rattle.format.proofs.Units.{unit-are-letters}
use Rattle.theorems.specs.Grammar.{Each}

-- ---- lists without a space

pub all-at : (p : ℕ → Bool) (s : List ℕ) (i : ℕ) → all p s ≡ true → i < length s → p (get_or s i 0) ≡ true
all-at p [] i h l = absurd (let z : ⊥ = omega arith in z)
all-at p (b ∷ s) zero h l = (and-true (p b) (all p s) h).0
all-at p (b ∷ s) (suc i) h l = all-at p s i (and-true (p b) (all p s) h).1 (omega arith)

no-space : (s : List ℕ) → all (other 32) s ≡ true → end_space s ≡ false
unfolding end_space
no-space [] h = refl
no-space (b ∷ s) h =
    let n : ℕ = length (b ∷ s) - 1 in
    let l : n < length (b ∷ s) = omega arith in
    let e : eqb b 32 ≡ false = not-true _ (all-at (other 32) (b ∷ s) 0 h (omega arith)) in
    let f : eqb (get_or (b ∷ s) n 0) 32 ≡ false = not-true _ (all-at (other 32) (b ∷ s) n h l) in
    rw (e, f)

empty : (s : List ℕ) → eqb (length s) 0 ≡ true → end_space s ≡ false
empty [] h = no-space [] refl
empty (b ∷ s) h = absurd (let z : suc (length s) ≡ 0 = eqb-true _ _ h in let y : ⊥ = omega arith in y)

-- where every byte up to the first point and every byte behind it passes
all-point : (q : ℕ → Bool) (s : List ℕ) → all q (before s) ≡ true → all q (behind s) ≡ true → q 46 ≡ true → all q s ≡ true
unfolding span_of
all-point q [] h k p = refl
all-point q (b ∷ s) h k p =
    by (other 46 b)
    (λ e.
    let u : (q b && all q (before s)) ≡ true = rw e at h in
    let v : all q (drop (suc (span_of (other 46) s) + 1) (b ∷ s)) ≡ true = rw e at k in
    let w : all q (drop (suc (span_of (other 46) s)) s) ≡ true = rw add-one at v in
    both (q b) (all q s) (and-true (q b) (all q (before s)) u).0 (all-point q s (and-true (q b) (all q (before s)) u).1 (rw add-one w) p))
    (λ e.
    let w : all q s ≡ true = rw e at k in
    both (q b) (all q s) (rw (eqb-true b 46 (not-false _ e)) p) w)

-- ---- kinds of bytes

digit-byte : (b : ℕ) → is_digit b ≡ true → other 32 b ≡ true
digit-byte b h = digit_not 32 b (omega arith) h

letter-byte : (b : ℕ) → is_letter b ≡ true → other 32 b ≡ true
unfolding is_letter is_capital
letter-byte b h = by (eqb b 32) (λ e. absurd (let z : false ≡ true = (rw (eqb-true b 32 e) at h) in false≢true z)) (λ e. rw e)

alnum-byte : (b : ℕ) → is_alnum b ≡ true → other 32 b ≡ true
unfolding is_alnum
alnum-byte b h = by (is_digit b) (λ e. digit-byte b e) (λ e. letter-byte b (or-other (is_digit b) (is_letter b) h e))

capital-byte : (b : ℕ) → is_capital b ≡ true → other 32 b ≡ true
unfolding is_capital
capital-byte b h = let k : 65 ≤ b = leb-true 65 b (and-true (leb 65 b) (leb b 90) h).0 in rw (ne_eqb b 32 (λ e. omega arith))

module _ (p : ℕ → Bool) (q : (b : ℕ) → p b ≡ true → other 32 b ≡ true) (s : List ℕ) where
  all-tidy : all p s ≡ true → end_space s ≡ false
  all-tidy h = no-space s (all_map p (other 32) q s h)

  are-tidy : (a b : ℕ) → are_all p a b s ≡ true → end_space s ≡ false
  unfolding are_all
  are-tidy a b h = all-tidy (and-true (leb a (length s) && leb (length s) b) (all p s) h).1

text-tidy : (a b : ℕ) (s : List ℕ) → is_text a b s ≡ true → end_space s ≡ false
unfolding is_text
text-tidy a b s h = not-true _ (and-true (leb a (length s) && leb (length s) b) (not (end_space s)) h).1

-- ---- numbers

of-that : (p : ℕ → Bool) (x : Option ℕ) → is_number (that p x) ≡ true → is_number x ≡ true
of-that p (Some v) h = refl
of-that p None h = h

number_digits : (a b : ℕ) (s : List ℕ) → is_number (number_of a b s) ≡ true → all is_digit s ≡ true
unfolding number_of are_all
number_digits a b s h =
    by (are_all is_digit a b s)
    (λ e. (and-true (leb a (length s) && leb (length s) b) (all is_digit s) e).1)
    (λ e. absurd (let z : false ≡ true = (rw e at h) in false≢true z))

number-tidy : (a b : ℕ) (s : List ℕ) → is_number (number_of a b s) ≡ true → end_space s ≡ false
number-tidy a b s h = all-tidy is_digit digit-byte s (number_digits a b s h)

small-tidy : (m : ℕ) (s : List ℕ) → is_number (small_of m s) ≡ true → end_space s ≡ false
unfolding small_of
small-tidy m s h =
    by (leading_zero s)
    (λ e. absurd (let z : false ≡ true = (rw e at h) in false≢true z))
    (λ e. number-tidy 1 m s (rw e at h))

empty-tidy : (v : ℕ) (rule : List ℕ → Option ℕ) (s : List ℕ) → (is_number (rule s) ≡ true → end_space s ≡ false) → is_number (or_empty v rule s) ≡ true → end_space s ≡ false
empty-tidy v rule s f h = by (eqb (length s) 0) (λ e. empty s e) (λ e. f (rw e at h))

-- so many digits, whose number passes a test
that-tidy : (p : ℕ → Bool) (m : ℕ) (s : List ℕ) → is_number (that p (number_of m m s)) ≡ true → end_space s ≡ false
that-tidy p m s h = number-tidy m m s (of-that p (number_of m m s) h)

amount-parts : (x y : Option ℕ) → is_number (amount x y) ≡ true → (is_number x ≡ true) × (is_number y ≡ true)
amount-parts (Some w) (Some m) h = (refl, refl)
amount-parts (Some w) None h = (refl, h)
amount-parts None y h = absurd (false≢true h)

of-times : (k : ℕ) (x : Option ℕ) → is_number (times k x) ≡ true → is_number x ≡ true
of-times k (Some v) h = refl
of-times k None h = h

-- digits before the first point and digits behind it
split-tidy : (s : List ℕ) → all is_digit (before s) ≡ true → all is_digit (behind s) ≡ true → end_space s ≡ false
split-tidy s h k =
    no-space s (all-point (other 32) s (all_map is_digit (other 32) digit-byte (before s) h) (all_map is_digit (other 32) digit-byte (behind s) k) refl)

value-tidy : (d : ℕ) (s : List ℕ) → is_number (value_of d s) ≡ true → end_space s ≡ false
unfolding value_of fraction_of
value-tidy d s h =
    by (eqb (point s) (length s))
    (λ e. number-tidy 1 7 s (amount-parts (number_of 1 7 s) (Some 0) (rw e at h)).0)
    (λ e.
    let u = amount-parts (number_of 1 7 (before s)) (fraction_of d (behind s)) (rw e at h) in
    split-tidy s (number_digits 1 7 (before s) u.0) (number_digits 1 _ (behind s) (of-times _ (number_of 1 _ (behind s)) u.1)))

digits-all : (s : List ℕ) → are_digits s ≡ true → all is_digit s ≡ true
unfolding are_digits
digits-all s h = (and-true (leb 1 (length s)) (all is_digit s) h).1

read-tidy : (s : List ℕ) → is_read s ≡ true → end_space s ≡ false
unfolding is_read
read-tidy s h =
    let w = (and-true (leb (length s) 15) (cond (eqb (point s) (length s)) (are_digits s) (are_digits (before s) && are_digits (behind s))) h).1 in
    by (eqb (point s) (length s))
    (λ e. all-tidy is_digit digit-byte s (digits-all s (rw e at w)))
    (λ e.
    let u = and-true (are_digits (before s)) (are_digits (behind s)) (rw e at w) in
    split-tidy s (digits-all (before s) u.0) (digits-all (behind s) u.1))

-- ---- qualities

alone-byte : (k b : ℕ) → stands_alone k b ≡ true → other 32 b ≡ true
unfolding stands_alone
alone-byte k b h = by (eqb b 32) (λ e. absurd (let z : false ≡ true = (rw (eqb-true b 32 e) at h) in false≢true z)) (λ e. rw e)

method-byte : (b : ℕ) → takes_method b ≡ true → other 32 b ≡ true
unfolding takes_method
method-byte b h = by (eqb b 32) (λ e. absurd (let z : false ≡ true = (rw (eqb-true b 32 e) at h) in false≢true z)) (λ e. rw e)

with_number : (q : ℕ) (x : Option ℕ) → is_graded (with_method q x) ≡ true → is_number x ≡ true
with_number q (Some v) h = refl
with_number q None h = h

quality-tidy : (k : ℕ) (s : List ℕ) → is_graded (quality_of k s) ≡ true → end_space s ≡ false
unfolding quality_of stands_alone takes_method
quality-tidy k [] h = no-space [] refl
quality-tidy k (b ∷ s) h =
    no-space (b ∷ s)
    (by (stands_alone k b)
    (λ e.
    let u : is_graded (cond (eqb (length (b ∷ s)) 1) (Some (grade b no_method)) None) ≡ true = rw e at h in
    by (eqb (length (b ∷ s)) 1)
    (λ f. both (other 32 b) (all (other 32) s) (alone-byte k b e) (single s (eqb-true _ _ f)))
    (λ f. absurd (let z : false ≡ true = (rw f at u) in false≢true z)))
    (λ e.
    let u : is_graded (cond (takes_method b) (with_method b (number_of 2 2 s)) None) ≡ true = rw e at h in
    by (takes_method b)
    (λ f. both (other 32 b) (all (other 32) s) (method-byte b f)
    (all_map is_digit (other 32) digit-byte s (number_digits 2 2 s (with_number b (number_of 2 2 s) (rw f at u)))))
    (λ f. absurd (let z : false ≡ true = (rw f at u) in false≢true z))))
  where
    single : (t : List ℕ) → suc (length t) ≡ 1 → all (other 32) t ≡ true
    single [] e = refl
    single (x ∷ t) e = absurd (let z : ⊥ = omega arith in z)

-- ---- each rule

abbrev pub Tidy : Rule → Type 0
Tidy u = (k : ℕ) (f : List ℕ) → obeys k u f ≡ true → end_space f ≡ false

version : Tidy Version
unfolding obeys version_of end_space
version k f h =
    by (same f (bytes "NEM12")) (λ e. rw (same-sound f (bytes "NEM12") e))
    (λ e. by (same f (bytes "NEM13")) (λ g. rw (same-sound f (bytes "NEM13") g)) (λ g. absurd (let z : false ≡ true = (rw (e, g) at h) in false≢true z)))

created : Tidy Created
unfolding obeys created_of
created k f h = that-tidy is_minute 12 f h

party : Tidy Party
unfolding obeys is_party
party k f h = text-tidy 1 10 f (and-true (is_text 1 10 f) (all (other 35) f) h).0

nmi : Tidy Nmi
unfolding obeys is_nmi
nmi k f h = are-tidy is_alnum alnum-byte f 10 10 h

configuration : Tidy Configuration
unfolding obeys is_configuration
configuration k f h = text-tidy 1 240 f h

register : Tidy Register
unfolding obeys is_register
register k f h = text-tidy 0 10 f h

suffix : Tidy Suffix
unfolding obeys is_suffix
suffix k f h = are-tidy is_alnum alnum-byte f 2 2 h

stream : Tidy Stream
unfolding obeys is_stream is_suffix
stream k f h = by (eqb (length f) 0) (λ e. empty f e) (λ e. are-tidy is_alnum alnum-byte f 2 2 (or-other (eqb (length f) 0) (is_suffix f) h e))

serial : Tidy Serial
unfolding obeys is_serial
serial k f h = text-tidy 0 12 f h

unit : Tidy Unit
unfolding obeys
unit k f h = all-tidy is_letter letter-byte f (unit-are-letters f h)

interval-length : Tidy Length
unfolding obeys length_of
interval-length k f h = small-tidy 2 f (of-that is_length (small_of 2 f) h)

next-read : Tidy NextRead
unfolding obeys next_read_of date_of
next-read k f h = empty-tidy 0 date_of f (that-tidy is_date 8 f) h

date : Tidy Date
unfolding obeys date_of
date k f h = that-tidy is_date 8 f h

value : (d : ℕ) → Tidy (Value d)
unfolding obeys
value d k f h = value-tidy d f h

quality : Tidy Quality
unfolding obeys
quality k f h = quality-tidy k f h

reason : Tidy Reason
unfolding obeys reason_of
reason k f h = empty-tidy no_reason (small_of 3) f (small-tidy 3 f) h

description : Tidy Description
unfolding obeys is_description
description k f h = text-tidy 0 240 f h

time : Tidy Time
unfolding obeys time_of
time k f h = that-tidy is_time 14 f h

load : Tidy Load
unfolding obeys load_of time_of
load k f h = empty-tidy 0 time_of f (that-tidy is_time 14 f) h

interval : Tidy Interval
unfolding obeys interval_of
interval k f h = small-tidy 4 f h

trans-code : Tidy TransCode
unfolding obeys is_trans_code
trans-code k f h = are-tidy is_capital capital-byte f 1 1 h

service-order : Tidy ServiceOrder
unfolding obeys is_service_order
service-order k f h = text-tidy 0 15 f h

read-time : Tidy ReadTime
unfolding obeys read_time_of taken_of
read-time k f h = empty-tidy 0 taken_of f (that-tidy is_read_time 14 f) h

index_read : Tidy IndexRead
unfolding obeys is_index_read
index_read k f h = by (eqb (length f) 0) (λ e. empty f e) (λ e. read-tidy f (or-other (eqb (length f) 0) (is_read f) h e))

direction : Tidy Direction
unfolding obeys is_direction end_space
direction k f h =
    by (same f (bytes "I"))
    (λ e. rw (same-sound f (bytes "I") e))
    (λ e. rw (same-sound f (bytes "E") (or-other (same f (bytes "I")) (same f (bytes "E")) h e)))

register-read : Tidy RegisterRead
unfolding obeys
register-read k f h = read-tidy f h

-- an indicator is three digits
pub indicator-tidy : (f : List ℕ) (fs : List (List ℕ)) → (kind_in (f ∷ fs) ≡ 0 → ⊥) → end_space f ≡ false
unfolding kind_in indicator_of
indicator-tidy f fs h = number-tidy 3 3 f (of-that is_kind (number_of 3 3 f) (some (that is_kind (number_of 3 3 f)) h))
  where
    some : (x : Option ℕ) → (number_in x ≡ 0 → ⊥) → is_number x ≡ true
    some (Some v) h = refl
    some None h = absurd (h refl)

-- ---- each row

values : (n d : ℕ) (us : List Rule) → Each Tidy us → Each Tidy (replicate n (Value d) ++ us)
values zero d us h = h
values (suc n) d us h = (value d, values n d us h)

-- a row is an indicator and rules that leave no space at an end
pub record Tidied (us : List Rule) : Type 0 where
  pub tail : List Rule
  pub is : us ≡ Indicator ∷ tail
  pub tidy : Each Tidy tail

pub tidied : (k : ℕ) (z : Scale) → Tidied (row_of k z)
unfolding row_of
tidied k z =
    by (eqb k 100) (λ e. rw e (record { tail = _; is = refl; tidy = (version, (created, (party, (party, tt)))) }))
    λ e₁. by (eqb k 200)
    (λ e. rw (e₁, e) (record { tail = _; is = refl; tidy = (nmi, (configuration, (register, (suffix, (stream, (serial, (unit, (interval-length, (next-read, tt))))))))) }))
    λ e₂. by (eqb k 300)
    (λ e. rw (e₁, e₂, e)
    (record { tail = _; is = refl; tidy = (date, values z.n z.decimals (Quality ∷ Reason ∷ Description ∷ Time ∷ Load ∷ []) (quality, (reason, (description, (time, (load, tt)))))) }))
    λ e₃. by (eqb k 400)
    (λ e. rw (e₁, e₂, e₃, e) (record { tail = _; is = refl; tidy = (interval, (interval, (quality, (reason, (description, tt))))) }))
    λ e₄. by (eqb k 500)
    (λ e. rw (e₁, e₂, e₃, e₄, e) (record { tail = _; is = refl; tidy = (trans-code, (service-order, (read-time, (index_read, tt)))) }))
    λ e₅. by (eqb k 250)
    (λ e. rw (e₁, e₂, e₃, e₄, e₅, e)
    (record {
      tail = _;
      is = refl;
      tidy = (
        nmi,
        (
          configuration,
          (
            register,
            (
              suffix,
              (
                stream,
                (
                  serial,
                  (
                    direction,
                    (
                      register-read,
                      (
                        time,
                        (
                          quality,
                          (
                            reason,
                            (
                              description,
                              (
                                register-read,
                                (
                                  time,
                                  (
                                    quality,
                                    (
                                      reason,
                                      (
                                        description,
                                        (value z.decimals, (unit, (next-read, (time, (load, tt))))),
                                      ),
                                    ),
                                  ),
                                ),
                              ),
                            ),
                          ),
                        ),
                      ),
                    ),
                  ),
                ),
              ),
            ),
          ),
        ),
      );
    }))
    λ e₆. by (eqb k 550)
    (λ e. rw (e₁, e₂, e₃, e₄, e₅, e₆, e) (record { tail = _; is = refl; tidy = (trans-code, (service-order, (trans-code, (service-order, tt)))) }))
    λ e₇. rw (e₁, e₂, e₃, e₄, e₅, e₆, e₇) (record { tail = []; is = refl; tidy = tt })

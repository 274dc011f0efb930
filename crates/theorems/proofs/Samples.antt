-- A record of each kind that is in order: the 300 with any number of intervals, and 400s that complete any cover. Assumes nothing.
use Rattle.std.proofs.Common.{Some}
use Prim.Native.Nat.{ℕ, zero, suc, ◌+◌, ◌≤◌, ◌<◌}
use mathlib.Core.Path.{◌≡◌, refl, sym, ap, ◌∙◌}
use mathlib.Core.Bool.{true, false}
use mathlib.Core.List.{List, [], ◌∷◌, ◌++◌}
use native.Mathlib.Omega.{arith}
use lib.ListN.{length, replicate, length-replicate}
use lib.Seq.{get_or-append-add}
use lib.Dec.{eqb}
use borrow.Author.Tests.{eqb-true, eqb-false}
use Rattle.ground.specs.Lists.{all, span_of, same}
use Rattle.ground.specs.Text.{bytes}
use Rattle.ground.specs.Digits.{is_digit, dec}
use Rattle.ground.proofs.Cases.{by}
use Rattle.ground.proofs.Digits.{all-dec}
use Rattle.format.specs.Bytes.{plain, field_byte, is_capital, capital, is_letter, is_alnum, end_space, is_text, are_all}
use Rattle.format.specs.Texts.{is_nmi, is_suffix, is_stream, is_party, is_configuration, is_register, is_serial, is_service_order, is_description, is_direction, is_trans_code, version_of}
use Rattle.format.specs.Numbers.{number_of, leading_zero, small_of, interval_of, is_length, length_of, reason_of, value_of, are_digits, is_read, is_index_read}
use Rattle.format.specs.Units.{units, same_letters, unit_from, unit_of, unit_at, decimals_of, decimals_named}
use Rattle.format.specs.Dates.{is_leap, days_in_month, is_day, is_date, is_time, is_minute, date_of, time_of, created_of, next_read_of, load_of, read_time_of}
use Rattle.format.specs.Quality.{stands_alone, takes_method, quality_of, is_graded, flag_in, needs_reason, across, Mark}
use Rattle.format.specs.Cut.{fields, field}
use Rattle.format.specs.Records.{scale_for, is_kind, indicator_of, kind_in, row_of, count_of, rule_of, obeys, version_in, date_in, first_in, last_in, quantity_decimals, qualities_of, mark_at, mark_in, agrees}
use Rattle.format.specs.Order.{Shared, none_yet, all_have, they_differ, is_varied}
use Rattle.format.specs.Faults.{fault_in, broken_in}
use Rattle.format.specs.declared.Rule.{Rule}
use Rattle.format.specs.declared.Rule.TheVariants.{Value, Quality, Reason, Description, Time, Load}
use Rattle.format.proofs.Cut.{fields-some}
use Rattle.format.proofs.NumberText.{small-back}
use Rattle.passing.proofs.Fit.{Ok}
use Rattle.theorems.specs.Grammar.{Each, Record, Meets, IsRecord, Covers}
use Rattle.theorems.proofs.Bytes.{fields-bytes, digits-bytes}
use Rattle.theorems.proofs.Across.{agrees-together}
use Rattle.theorems.proofs.Rows.{is-record}
use Rattle.theorems.proofs.Apart.{Apart}

-- ---- by their texts

of-text : (k : ℕ) (l : List ℕ) → (k ≡ 0 → ⊥) → all plain l ≡ true → kind_in (fields l) ≡ k → Ok k (scale_for k 0 0 (fields l)) (fields l) → IsRecord k 0 0 (fields l)
of-text k l z p e o = is-record k 0 0 (fields l) z (fields-some l, fields-bytes l p) e o

abbrev pub sample100 : Record
sample100 = fields (bytes "100,NEM12,200401011200,MDP1,RETAILER")

pub is-100 : IsRecord 100 0 0 sample100
unfolding same is_digit end_space is_text are_all is_party version_of number_of is_leap days_in_month is_day is_date is_time is_minute created_of fields is_kind indicator_of kind_in row_of count_of rule_of obeys qualities_of fault_in broken_in
is-100 = of-text 100 (bytes "100,NEM12,200401011200,MDP1,RETAILER") (λ z. omega arith) refl refl (refl, refl, refl)

pub version-100 : version_in sample100 ≡ 12
unfolding same version_of fields version_in
version-100 = refl

abbrev pub sample200 : Record
sample200 = fields (bytes "200,NEM1234567,E1,1,E1,N1,METER1,kWh,30,")

pub is-200 : IsRecord 200 0 0 sample200
unfolding same is_digit is_capital capital is_letter is_alnum end_space is_text are_all is_nmi is_suffix is_stream is_configuration is_register is_serial units same_letters unit_from unit_of number_of leading_zero small_of is_length length_of next_read_of fields is_kind indicator_of kind_in row_of count_of rule_of obeys qualities_of fault_in broken_in
is-200 = of-text 200 (bytes "200,NEM1234567,E1,1,E1,N1,METER1,kWh,30,") (λ z. omega arith) refl refl (refl, refl, refl)

abbrev pub sample500 : Record
sample500 = fields (bytes "500,O,,,")

pub is-500 : IsRecord 500 0 0 sample500
unfolding is_digit is_capital end_space is_text are_all is_service_order is_trans_code number_of is_index_read read_time_of fields is_kind indicator_of kind_in row_of count_of rule_of obeys qualities_of fault_in broken_in
is-500 = of-text 500 (bytes "500,O,,,") (λ z. omega arith) refl refl (refl, refl, refl)

-- it has no read time
pub untimed-500 : length (field 3 sample500) ≡ 0
unfolding fields
untimed-500 = refl

abbrev pub sample250 : Record
sample250 = fields (bytes "250,NEM1234567,E1,1,E1,N1,METER1,E,0,20040101000000,A,,,0,20040201000000,A,,,0,kWh,,20040202000000,")

pub is-250 : IsRecord 250 0 0 sample250
unfolding span_of same is_digit is_capital capital is_letter is_alnum end_space is_text are_all is_nmi is_suffix is_stream is_configuration is_register is_serial units same_letters unit_from unit_of unit_at decimals_of decimals_named is_description is_direction number_of reason_of value_of are_digits is_read is_leap days_in_month is_day is_date is_time time_of next_read_of load_of stands_alone quality_of needs_reason across fields is_kind indicator_of kind_in row_of count_of rule_of obeys quantity_decimals qualities_of mark_at agrees fault_in broken_in
is-250 =
    of-text 250 (bytes "250,NEM1234567,E1,1,E1,N1,METER1,E,0,20040101000000,A,,,0,20040201000000,A,,,0,kWh,,20040202000000,") (λ z. omega arith) refl refl
    (refl, refl, refl)

abbrev pub sample550 : Record
sample550 = fields (bytes "550,N,,A,")

pub is-550 : IsRecord 550 0 0 sample550
unfolding is_digit is_capital end_space is_text are_all is_service_order is_trans_code number_of fields is_kind indicator_of kind_in row_of count_of rule_of obeys qualities_of fault_in broken_in
is-550 = of-text 550 (bytes "550,N,,A,") (λ z. omega arith) refl refl (refl, refl, refl)

abbrev pub sample900 : Record
sample900 = fields (bytes "900")

pub is-900 : IsRecord 900 0 0 sample900
unfolding is_digit are_all number_of fields is_kind indicator_of kind_in row_of count_of rule_of obeys qualities_of fault_in broken_in
is-900 = of-text 900 (bytes "900") (λ z. omega arith) refl refl (refl, refl, refl)

-- ---- a 300 of n intervals, of the last date that there is, whose values no unit refuses

abbrev ending : Record
ending = bytes "A" ∷ [] ∷ [] ∷ bytes "21991231000000" ∷ [] ∷ []

abbrev pub sample300 : ℕ → Record
sample300 n = bytes "300" ∷ bytes "21991231" ∷ (replicate n (bytes "0") ++ ending)

noughts : (n d : ℕ) (us : List Rule) (fs : Record) → Meets 300 us fs → Meets 300 (replicate n (Value d) ++ us) (replicate n (bytes "0") ++ fs)
unfolding obeys value_of span_of number_of are_all is_digit field_byte end_space
noughts zero d us fs h = h
noughts (suc n) d us fs h = ((refl, refl), refl, noughts n d us fs h)

ending-meets : Meets 300 (Quality ∷ Reason ∷ Description ∷ Time ∷ Load ∷ []) ending
unfolding obeys number_of are_all is_digit field_byte end_space is_text is_description is_leap days_in_month is_day is_date is_time time_of load_of reason_of stands_alone quality_of
ending-meets = ((refl, refl), refl, ((refl, refl), refl, ((refl, refl), refl, ((refl, refl), refl, ((refl, refl), refl, tt)))))

module _ (n : ℕ) where
  ending_at : (i j : ℕ) → i ≡ n + 2 + j → field i (sample300 n) ≡ field j ending
  ending_at i j h =
      let g : i ≡ suc (suc (length (replicate n (bytes "0")) + j)) = omega (arith, length-replicate n (bytes "0")) in
      rw g (get_or-append-add (replicate n (bytes "0")) ending j [])

  mark-300 : mark_at 300 (n + 2) (sample300 n) ≡ record { flag = 65; method = 255; reason = 65535; text = [] }
  unfolding mark_at reason_of stands_alone quality_of
  mark-300 = rw (ending_at (n + 2) 0 (omega arith), ending_at (n + 2 + 1) 1 refl, ending_at (n + 2 + 2) 2 refl)

  agrees-300 : agrees (mark_at 300 (n + 2) (sample300 n)) ≡ true
  unfolding agrees across needs_reason
  agrees-300 = rw mark-300

  pub is-300 : (d : ℕ) → IsRecord 300 n d (sample300 n)
  unfolding kind_in indicator_of is_kind number_of are_all is_digit row_of obeys field_byte end_space is_leap days_in_month is_day is_date date_of qualities_of
  is-300 d =
      record {
        indicator = refl;
        meets = ((refl, refl), refl, ((refl, refl), refl, noughts n d (Quality ∷ Reason ∷ Description ∷ Time ∷ Load ∷ []) ending ending-meets));
        together = (agrees-together (mark_at 300 (n + 2) (sample300 n)) agrees-300, tt);
      }

  pub date-300 : date_in (sample300 n) ≡ 21991231
  unfolding date_in date_of number_of are_all is_digit is_leap days_in_month is_day is_date
  date-300 = refl

  -- it is no V day
  pub plain-300 : is_varied n (sample300 n) ≡ false
  unfolding is_varied stands_alone quality_of
  plain-300 = rw (ending_at (n + 2) 0 (omega arith))

-- ---- 400s

abbrev sample400 : ℕ → ℕ → List ℕ → Record
sample400 a e q = bytes "400" ∷ dec a ∷ dec e ∷ q ∷ [] ∷ [] ∷ []

-- a quality that asks for no reason, with its flag
record Bare (q : List ℕ) (flag : ℕ) : Type 0 where
  clean : all field_byte q ≡ true
  graded : is_graded (quality_of 400 q) ≡ true
  says : flag_in (quality_of 400 q) ≡ flag
  agreed : across flag 65535 0 ≡ true

bare-a : Bare (bytes "A") 65
unfolding field_byte stands_alone quality_of needs_reason across
bare-a = record { clean = refl; graded = refl; says = refl; agreed = refl }

bare-e : Bare (bytes "E52") 69
unfolding field_byte number_of are_all is_digit stands_alone takes_method quality_of needs_reason across
bare-e = record { clean = refl; graded = refl; says = refl; agreed = refl }

module _ (a e : ℕ) (q : List ℕ) (flag : ℕ) (b : Bare q flag) (l : a < 10000) (m : e < 10000) where
  start_back : small_of 4 (dec a) ≡ Some a
  start_back = small-back 4 a (omega arith) (omega arith) (omega arith)

  end_back : small_of 4 (dec e) ≡ Some e
  end_back = small-back 4 e (omega arith) (omega arith) (omega arith)

  is-400 : IsRecord 400 0 0 (sample400 a e q)
  unfolding kind_in indicator_of is_kind number_of are_all is_digit field_byte end_space is_text is_description reason_of interval_of row_of count_of rule_of obeys qualities_of mark_at agrees fault_in broken_in
  is-400 =
      is-record 400 0 0 (sample400 a e q) (λ z. omega arith)
      (omega arith, (refl, (digits-bytes (dec a) (all-dec a), (digits-bytes (dec e) (all-dec e), (b.clean, (refl, (refl, tt)))))))
      refl
      (refl, rw (start_back, end_back, b.graded), rw (b.says, b.agreed))

  first-400 : first_in (sample400 a e q) ≡ a
  unfolding first_in interval_of
  first-400 = rw start_back

  last-400 : last_in (sample400 a e q) ≡ e
  unfolding last_in interval_of
  last-400 = rw end_back

  flag-400 : (x : Mark) → mark_in (sample400 a e q) ≡ x → x.flag ≡ flag
  unfolding mark_at
  flag-400 x h = sym (ap (λ (y : Mark). y.flag) h) ∙ b.says

-- 400s that complete the cover of n intervals from a on, and do not leave the day alike
pub record Completes (n a : ℕ) (x : Shared) : Type 0 where
  pub runs : List Record
  pub each : Each (IsRecord 400 0 0) runs
  pub covers : Covers n a runs
  pub apart : Apart x runs

module _ (n a : ℕ) (lo : a ≤ n) (hi : n ≤ 288) where
  one-run : (x : Shared) (q : List ℕ) (flag : ℕ) → Bare q flag → Apart x (sample400 a n q ∷ []) → Completes n a x
  one-run x q flag b h =
      let f = first-400 a n q flag b (omega arith) (omega arith) in
      let l = last-400 a n q flag b (omega arith) (omega arith) in
      record {
        runs = sample400 a n q ∷ [];
        each = (is-400 a n q flag b (omega arith) (omega arith), tt);
        covers = (f, omega arith, omega arith, omega arith);
        apart = h;
      }

  two_runs : a < n → Completes n a none_yet
  two_runs s =
      let p : List ℕ = bytes "A" in
      let q : List ℕ = bytes "E52" in
      let f = first-400 a a p 65 bare-a (omega arith) (omega arith) in
      let l = last-400 a a p 65 bare-a (omega arith) (omega arith) in
      let g = first-400 (a + 1) n q 69 bare-e (omega arith) (omega arith) in
      let m = last-400 (a + 1) n q 69 bare-e (omega arith) (omega arith) in
      record {
        runs = sample400 a a p ∷ sample400 (a + 1) n q ∷ [];
        each = (is-400 a a p 65 bare-a (omega arith) (omega arith), (is-400 (a + 1) n q 69 bare-e (omega arith) (omega arith), tt));
        covers = (f, omega arith, omega arith, (omega arith, omega arith, omega arith, omega arith));
        apart = λ h.
            (let u = flag-400 a a p 65 bare-a (omega arith) (omega arith) h.0 h.1.0 in
            let w = flag-400 (a + 1) n q 69 bare-e (omega arith) (omega arith) h.0 h.1.1.0 in
            omega arith);
      }

  pub complete-cover : (x : Shared) → (x ≡ none_yet → a < n) → Completes n a x
  complete-cover none_yet s = two_runs (s refl)
  complete-cover (all_have m) s =
      by (eqb m.flag 65)
      (λ t. one-run (all_have m) (bytes "E52") 69 bare-e
      (λ h. let u = flag-400 a n (bytes "E52") 69 bare-e (omega arith) (omega arith) m h.0 in let w : m.flag ≡ 65 = eqb-true _ _ t in omega arith))
      (λ t. one-run (all_have m) (bytes "A") 65 bare-a
      (λ h. eqb-false _ _ t (flag-400 a n (bytes "A") 65 bare-a (omega arith) (omega arith) m h.0)))
  complete-cover they_differ s = one-run they_differ (bytes "A") 65 bare-a tt

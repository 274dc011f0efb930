-- For each interval length and unit there is a 200, and a file's beginning with it, a short one, behind which a day of them may stand. Assumes nothing.
use Rattle.std.proofs.Common.{Some}
use Prim.Native.Nat.{ℕ, ◌≤◌, ◌<◌}
use mathlib.Core.Path.{◌≡◌, refl, sym, ap, ◌∙◌, subst}
use mathlib.Core.Logic.{◌≢◌}
use mathlib.Core.Bool.{true}
use mathlib.Core.List.{List, [], ◌∷◌}
use native.Mathlib.Omega.{arith}
use lib.ListN.{length, length-append}
use lib.Dec.{eqb, leb}
use borrow.Author.Tests.{eqb-true, ne_eqb, le-leb, leb-true}
use Rattle.ground.specs.Text.{bytes}
use Rattle.ground.specs.Digits.{is_digit, dec}
use Rattle.ground.proofs.Tests.{and-true, or-other}
use Rattle.ground.proofs.Cases.{by}
use Rattle.ground.proofs.Digits.{all_map, dec-most}
use Rattle.format.specs.Bytes.{field_byte, is_capital, is_letter, is_alnum, end_space, is_text, are_all}
use Rattle.format.specs.Texts.{is_nmi, is_suffix, is_stream, is_configuration, is_register, is_serial}
use Rattle.format.specs.Numbers.{is_number, number_of, is_length, length_of, intervals_of}
use Rattle.format.specs.Units.{unit_of, is_unit, unit_name, decimals_of}
use Rattle.format.specs.Dates.{next_read_of}
use Rattle.format.specs.Cut.{lines, fields}
use Rattle.format.specs.Records.{is_kind, indicator_of, kind_in, row_of, obeys, unit_in, decimals_in, intervals_in, qualities_of}
use Rattle.format.specs.Order.{first200, first300, Due, due, begun, on100, on200, after_of}
use Rattle.format.specs.Faults.{is_open, is_not_later, is_off, is_alike, is_elsewhere}
use Rattle.format.specs.File.{behind200}
use Rattle.format.specs.Day.{no_channel}
use Rattle.format.specs.declared.Rule.TheVariants.{Nmi, Configuration, Register, Suffix, Stream, Serial, Unit, Length, NextRead}
use Rattle.format.proofs.Numbers.{intervals-known}
use Rattle.format.proofs.NumberText.{small-back}
use Rattle.format.proofs.Units.{unit-are-letters, unit-back, name-most}
use Rattle.passing.specs.Passes.{Passes, Leads, head_in, unit_before}
use Rattle.theorems.specs.Grammar.{Record, join, text, IsRecord}
use Rattle.theorems.specs.Days.{record_at}
use Rattle.theorems.proofs.Rows.{record-fields}
use Rattle.theorems.proofs.Says.{unit-named, decimals-of}
use Rattle.theorems.proofs.Sizes.{size, length-join}
use Rattle.theorems.proofs.Takes.{fields-of}
use Rattle.theorems.proofs.Samples.{sample100, is-100, version-100}
use Rattle.shortest.specs.Blocks.{HeadOf}
use Rattle.shortest.proofs.Pass.{cut, lines_cut, Tests, go_on}
use Rattle.shortest.proofs.Texts.{dec-bytes}
use Rattle.shortest.proofs.Written.{good-record}

-- ---- a 200 of the interval length m and the unit u

abbrev pub head_written : ℕ → ℕ → Record
head_written m u =
    bytes "200" ∷ bytes "NEM1234567" ∷ bytes "E1" ∷ bytes "1" ∷ bytes "E1" ∷ bytes "N1" ∷ bytes "METER1" ∷ unit_name u ∷ dec m ∷ [] ∷ []

letter-byte : (b : ℕ) → is_letter b ≡ true → field_byte b ≡ true
unfolding is_letter is_capital field_byte
letter-byte b h =
    by (is_capital b)
    (λ e. let w = and-true (leb 65 b) (leb b 90) e in within (leb-true 65 b w.0) (let y = leb-true b 90 w.1 in omega arith))
    (λ e. let w = and-true (leb 97 b) (leb b 122) (or-other (is_capital b) _ h e) in within (let y = leb-true 97 b w.0 in omega arith) (leb-true b 122 w.1))
  where
    within : 65 ≤ b → b ≤ 122 → field_byte b ≡ true
    within l m = rw (le-leb 32 b (omega arith), le-leb b 126 (omega arith), ne_eqb b 44 (λ e. omega arith))

module _ (m u : ℕ) (z : intervals_of m ≢ 0) (h : is_unit u ≡ true) where
  known : is_length m ≡ true
  known = intervals-known m ∙ rw (ne_eqb _ _ z)

  small : m < 100
  unfolding is_length
  small =
      by (eqb m 5) (λ e. let y = eqb-true m 5 e in omega arith)
      λ e₁. by (eqb m 15) (λ e. let y = eqb-true m 15 e in omega arith)
      λ e₂. let y = eqb-true m 30 (let x : eqb m 30 ≡ true = (rw (e₁, e₂) at known) in x) in omega arith

  length_back : length_of (dec m) ≡ Some m
  unfolding length_of
  length_back = rw (small-back 2 m (omega arith) (omega (arith, small)) (omega (arith, small)), known)

  named : is_number (unit_of (unit_name u)) ≡ true
  named = rw (unit-back u h)

  pub is-head : IsRecord 200 0 0 (head_written m u)
  unfolding row_of obeys kind_in indicator_of is_kind number_of are_all is_digit is_capital is_letter is_alnum end_space is_text is_nmi is_suffix is_stream is_configuration is_register is_serial next_read_of field_byte qualities_of
  is-head =
      good-record 200 0 0 (Nmi ∷ Configuration ∷ Register ∷ Suffix ∷ Stream ∷ Serial ∷ Unit ∷ Length ∷ NextRead ∷ []) (bytes "200")
      (bytes "NEM1234567" ∷ bytes "E1" ∷ bytes "1" ∷ bytes "E1" ∷ bytes "N1" ∷ bytes "METER1" ∷ unit_name u ∷ dec m ∷ [] ∷ [])
      refl (λ y. omega arith) refl refl (
        refl,
        refl,
        (
          refl,
          refl,
          (
            refl,
            refl,
            (
              refl,
              refl,
              (
                refl,
                refl,
                (
                  refl,
                  refl,
                  (
                    all_map is_letter field_byte letter-byte (unit_name u) (unit-are-letters (unit_name u) named),
                    named,
                    (dec-bytes m, rw length_back, (refl, refl, tt)),
                  ),
                ),
              ),
            ),
          ),
        ),
      )
      tt

  pub head-intervals : intervals_in (head_written m u) ≡ intervals_of m
  unfolding intervals_in
  head-intervals = rw length_back

  pub head-unit : unit_in (head_written m u) ≡ u
  unfolding unit_in
  head-unit = rw (unit-back u h)

  pub head-decimals : decimals_in (head_written m u) ≡ decimals_of u
  head-decimals = decimals-of (head_written m u) is-head ∙ ap decimals_of head-unit

  pub head_of : HeadOf (behind200 (intervals_of m) (decimals_of u)) (record_at 0 (head_written m u))
  head_of = record { intervals = head-intervals; unit = unit-named (head_written m u) is-head; decimals = head-decimals }

-- ---- a 100 and that 200

pub record Place (m u : ℕ) : Type 0 where
  pub before : List ℕ
  pub leads : Leads before (due first300 12 (intervals_of m) (decimals_of u) 0 1 0)
  pub unit : unit_before before ≡ u
  pub short : length before ≤ 100

tests-100 : Tests begun 100 sample100
unfolding is_open is_not_later is_off is_alike is_elsewhere
tests-100 = record { free = refl; may = refl; rises = refl; cover = refl; apart = refl; day = refl }

tests-200 : (fs : Record) → Tests (due first200 12 0 0 0 0 0) 200 fs
unfolding is_open is_not_later is_off is_alike is_elsewhere
tests-200 fs = record { free = refl; may = refl; rises = refl; cover = refl; apart = refl; day = refl }

module _ (m u : ℕ) (z : intervals_of m ≢ 0) (h : is_unit u ≡ true) where
  head : Record
  head = head_written m u

  rows : List Record
  rows = sample100 ∷ head ∷ []

  rows_cut : lines (text rows) ≡ cut rows
  unfolding rows head
  rows_cut = lines_cut rows (record-fields 100 0 0 sample100 is-100, (record-fields 200 0 0 head (is-head m u z h), tt))

  passed : Passes begun (cut rows) (due first300 12 (intervals_of m) (decimals_of u) 0 1 0)
  unfolding rows head after_of
  passed =
      let end : Due = due first300 12 (intervals_of m) (decimals_of u) 0 1 0 in
      let first : Due = due first200 12 0 0 0 0 0 in
      let e : on200 first head ≡ end = rw (head-intervals m u z h, head-decimals m u z h) in
      let f : on100 begun sample100 ≡ first = rw version-100 in
      let p : Passes first (cut (head ∷ [])) end = go_on first 200 0 0 head (is-head m u z h) refl (cut []) end (tests-200 head) (refl, e) in
      go_on begun 100 0 0 sample100 is-100 refl (cut (head ∷ [])) end tests-100 (subst (λ (x : Due). Passes x (cut (head ∷ [])) end) (sym f) p)

  -- the last 200 is that one
  last : (fs : Record) → head_in fs (cut rows) ≡ head
  unfolding rows head
  last fs =
      let w = fields-of head (record-fields 200 0 0 head (is-head m u z h)) in
      rw (w.0, (is-head m u z h).indicator)

  unit-there : unit_in head ≡ u
  unfolding head
  unit-there = head-unit m u z h

  few : length (text rows) ≤ 100
  unfolding rows head text size fields
  few =
      omega (
        arith,
        length-append (join sample100) (13 ∷ 10 ∷ text (head ∷ [])),
        length-append (join head) (13 ∷ 10 ∷ []),
        length-join sample100 (omega arith),
        length-join head (omega arith),
        name-most u,
        dec-most m 2 (omega arith) (small m u z h),
      )

  pub place : Place m u
  place =
      record {
        before = text rows;
        leads = rw rows_cut passed;
        unit = rw rows_cut (ap unit_in (last no_channel.cells) ∙ unit-there);
        short = few;
      }

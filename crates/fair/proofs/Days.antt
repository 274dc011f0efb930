-- The same of a day of a file and of one that a store holds: it is shared out among the outputs of the map on its date, and neither 25 nor 27 can come. Assumes nothing.
use Prim.Native.Nat.{ℕ, zero, suc, ◌+◌, ◌-◌, ◌≤◌}
use mathlib.Core.Path.{◌≡◌, refl, sym, ◌∙◌}
use mathlib.Core.Bool.{Bool, true, false, cond}
use mathlib.Core.List.{List, [], ◌∷◌}
use native.Mathlib.Omega.{arith}
use borrow.Author.Tests.{leb-true, le-leb}
use lib.ListN.{length, drop, length-map}
use lib.Dec.{leb, eqb}
use Rattle.ground.specs.Lists.{all, sum}
use Rattle.ground.proofs.Tests.{and-true}
use Rattle.ground.proofs.Cases.{by, both}
use Rattle.ground.proofs.Digits.{all_map}
use Rattle.format.specs.Numbers.{intervals_of}
use Rattle.format.proofs.Numbers.{intervals-most}
use Rattle.format.specs.Cut.{Lines, line, rest, lines, fields, field}
use Rattle.format.specs.Records.{kind_in, intervals_in, date_in}
use Rattle.format.specs.Answers.{Answer, accepted, refused}
use Rattle.format.specs.File.{check_of}
use Rattle.format.specs.Day.{Row, row_at, BlockRows, DayRows, days_from, days_of, values_of, no_channel}
use Rattle.entries.specs.Keys.{Key}
use Rattle.entries.specs.Left.{left}
use Rattle.entries.specs.declared.Entry.{Entry}
use Rattle.store.specs.Head.{header_of}
use Rattle.store.specs.Ranges.{slot_of}
use Rattle.store.specs.Store.{block_in, is_store}
use Rattle.store.specs.declared.Header.{Header}
use Rattle.store.specs.Calls.{seek, is_there, day_rows, rows_at}
use Rattle.tenants.specs.Outputs.{Output, fit_output, is_kept, outputs_given, keys_of, shares_of}
use Rattle.tenants.specs.Versions.{versions_in, is_map, version_on}
use Rattle.versions.proofs.Maps.{mapping}
use Rattle.tenant_map.proofs.Asks.{version-most, on-shares-long}
use Rattle.history.proofs.Sound.{sound-kept}
use Rattle.history.proofs.Exactly.{given_back, kept-fit}
use Rattle.whose.specs.Whose.{nmi_field, suffix_field}
use Rattle.sums.proofs.Sums.{values-most}
use Rattle.day_sums.specs.Sought.{found, missing, sought_first, sought_after, day_in}
use Rattle.stored_sums.specs.Sums.{sum_at}
use Rattle.splits.specs.Calls.{outputs_on, is_on, split_on, split_day_of, split_stored_of}
use Rattle.fair.specs.Shared.{Shared, Refuses}
use Rattle.fair.proofs.Calls.{passed, refuses, accepts, split-shared, fit-refuses}

-- ---- the map on a date

module _ (m : List ℕ) (date : ℕ) (a : is_map m ≡ true) (b : leb 1 (version_on (versions_in m) date) ≡ true) where
  kept_on : all is_kept (outputs_on m date) ≡ true
  kept_on = sound-kept (versions_in m) (version_on (versions_in m) date - 1) (mapping m a).sound (omega (arith, leb-true 1 (version_on (versions_in m) date) b, version-most (versions_in m) date))

  many-on : length (outputs_on m date) ≡ 128
  many-on = sym (length-map (outputs_on m date) (λ (o : Output). o.share)) ∙ on-shares-long m date a (leb-true _ _ b)

  -- handed in, they are the same
  given-on : outputs_given 128 (keys_of (outputs_on m date)) (shares_of (outputs_on m date)) ≡ outputs_on m date
  given-on = given_back (outputs_on m date) 128 many-on kept_on

  fit_on : all fit_output (outputs_given 128 (keys_of (outputs_on m date)) (shares_of (outputs_on m date))) ≡ true
  fit_on = rw given-on (all_map is_kept fit_output kept-fit (outputs_on m date) kept_on)

module _ (t : ℕ) (nmi suffix : List ℕ) (date : ℕ) (m ps : List ℕ) where
  pub on-shared : {xs qs : List ℕ} → split_on t nmi suffix date m ps ≡ left (accepted xs) qs → Shared t (is_on nmi suffix) (outputs_on m date) ps qs
  unfolding split_on
  on-shared e =
      let a = passed (is_map m) 21 ps _ e in
      let b = passed (leb 1 (version_on (versions_in m) date)) 14 ps _ a.1 in
      rw (given-on m date a.0 b.0) at
      (split-shared t nmi suffix (keys_of (outputs_on m date)) (shares_of (outputs_on m date)) ps b.1)

  pub on-refuses : {numbers : ℕ → Bool} → t ≤ 2880000000000000 → numbers 21 ≡ true → numbers 14 ≡ true → numbers 15 ≡ true → numbers 26 ≡ true
      → Refuses numbers ps (split_on t nmi suffix date m ps)
  unfolding split_on
  on-refuses h x y z w =
      by (is_map m)
      (λ a. rw a
      (by (leb 1 (version_on (versions_in m) date))
      (λ b. rw b (fit-refuses t nmi suffix (keys_of (outputs_on m date)) (shares_of (outputs_on m date)) ps h (fit_on m date a b) z w))
      (λ b. rw b (refuses false 14 ps (left (accepted []) ps) y (accepts ps [] ps)))))
      (λ a. rw a (refuses false 21 ps (left (accepted []) ps) x (accepts ps [] ps)))

-- ---- how large a day's sum can be

few-each : (p : ℕ) (c : Row) (ls : Lines) → all (λ (d : DayRows). leb d.block.n 288) (days_from p c ls) ≡ true
unfolding days_from intervals_in
few-each p c (rest t) = refl
few-each p c (line r ls) =
    by (eqb (kind_in (fields r)) 300)
    (λ e. rw e (both _ _ (le-leb _ 288 (intervals-most _)) (few-each (p + length r + 2) c ls)))
    (λ e. rw e (few-each (p + length r + 2) (cond (eqb (kind_in (fields r)) 200) (row_at p r) c) ls))

few-left : (k : ℕ) (ds : List DayRows) → all (λ (d : DayRows). leb d.block.n 288) ds ≡ true → all (λ (d : DayRows). leb d.block.n 288) (drop k ds) ≡ true
few-left zero ds e = e
few-left (suc k) [] e = refl
few-left (suc k) (d ∷ ds) e = few-left k ds (and-true (leb d.block.n 288) _ e).1

few-first : (ds : List DayRows) (d : DayRows) → all (λ (d : DayRows). leb d.block.n 288) ds ≡ true → sought_first ds ≡ found d → d.block.n ≤ 288
few-first [] d e h = absurd (let z : ◌≡◌ {A = ℕ} 0 1 = cc in (let o : ⊥ = omega arith in o))
few-first (x ∷ ds) d e h =
    let z : x ≡ d = cc in
    rw (← z) (leb-true _ _ (and-true (leb x.block.n 288) _ e).0)

values-fit : (d : BlockRows) → d.n ≤ 288 → sum (values_of d) ≤ 2880000000000000
unfolding values_of
values-fit d h = omega (arith, values-most d.n d.top.cells)

-- ---- of a file

module _ (file : List ℕ) (day : ℕ) (d : DayRows) (h : day_in file day ≡ found d) where
  few-here : (a : Answer) → sought_after a (sought_first (drop day (days_of file))) ≡ found d → d.block.n ≤ 288
  unfolding days_of
  few-here (accepted xs) e = few-first (drop day (days_of file)) d (few-left day (days_of file) (few-each 0 no_channel (lines file))) e
  few-here (refused x p k i) e = absurd (let z : ◌≡◌ {A = ℕ} 0 1 = cc in (let o : ⊥ = omega arith in o))

  -- 288 values, each below 10^13
  pub day-most : sum (values_of d.block) ≤ 2880000000000000
  unfolding day_in
  day-most = values-fit d.block (few-here (check_of file) h)

  module _ (m ps : List ℕ) where
    -- a day that is accepted was shared out among the outputs that its channel has on its date
    pub day-shared : {xs qs : List ℕ} → split_day_of file day m ps ≡ left (accepted xs) qs
        → Shared (sum (values_of d.block)) (is_on (field nmi_field d.channel.cells) (field suffix_field d.channel.cells)) (outputs_on m (date_in d.block.top.cells)) ps qs
    unfolding split_day_of
    day-shared e = on-shared (sum (values_of d.block)) _ _ (date_in d.block.top.cells) m ps (rw h at e)

    -- a refusal of a day that is there is 21, 14, 15 or 26
    pub day-refuses : {numbers : ℕ → Bool} → numbers 21 ≡ true → numbers 14 ≡ true → numbers 15 ≡ true → numbers 26 ≡ true
        → Refuses numbers ps (split_day_of file day m ps)
    unfolding split_day_of
    day-refuses x y z w = rw h (on-refuses (sum (values_of d.block)) _ _ (date_in d.block.top.cells) m ps day-most x y z w)

-- a day that isn't there leaves the parts
pub missing-keeps : (file : List ℕ) (day : ℕ) (a : Answer) → day_in file day ≡ missing a → (m ps : List ℕ) → split_day_of file day m ps ≡ left a ps
unfolding split_day_of
missing-keeps file day a h m ps = rw h

-- ---- of a store

rows-n : (n unit p : ℕ) (ls : Lines) → (rows_at n unit p ls).n ≡ n
unfolding rows_at
rows-n n unit p (rest t) = refl
rows-n n unit p (line r ls) = refl

rows_few : (s : List ℕ) (h : Header) (e : Entry) → (day_rows s h e).n ≤ 288
unfolding day_rows
rows_few s h e = rw (rows-n (intervals_of e.minutes) e.unit (h.room + e.start) (lines (block_in s h e))) (intervals-most e.minutes)

module _ (s : List ℕ) (x : Key) where
  pub stored-most : sum_at s x ≤ 2880000000000000
  unfolding sum_at
  stored-most = values-fit (day_rows s (header_of s) (slot_of s (header_of s) (seek s (header_of s) x))) (rows_few s (header_of s) (slot_of s (header_of s) (seek s (header_of s) x)))

  module _ (m ps : List ℕ) where
    pub stored-shared : {xs qs : List ℕ} → split_stored_of s x m ps ≡ left (accepted xs) qs
        → Shared (sum_at s x) (is_on x.nmi x.suffix) (outputs_on m x.date) ps qs
    unfolding split_stored_of
    stored-shared e =
        let a = passed (is_store s) 21 ps _ e in
        let b = passed (is_there s (header_of s) x) 14 ps _ a.1 in
        on-shared (sum_at s x) x.nmi x.suffix x.date m ps b.1

    pub stored-refuses : {numbers : ℕ → Bool} → numbers 21 ≡ true → numbers 14 ≡ true → numbers 15 ≡ true → numbers 26 ≡ true
        → Refuses numbers ps (split_stored_of s x m ps)
    unfolding split_stored_of
    stored-refuses a b d f =
        refuses (is_store s) 21 ps _ a
        (refuses (is_there s (header_of s) x) 14 ps _ b
        (on-refuses (sum_at s x) x.nmi x.suffix x.date m ps stored-most a b d f))

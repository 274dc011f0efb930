-- A block that is accepted on its own: it has bytes, what its check answers is what the day in it says, its day has a value and a mark for each interval, and
-- the day does not go by the block's place. Assumes nothing.
use Prim.Native.Nat.{ℕ, ◌+◌, ◌-◌, ◌≤◌}
use mathlib.Core.Path.{◌≡◌, refl, sym, ap, ◌∙◌}
use mathlib.Core.Bool.{true}
use mathlib.Core.List.{List, [], ◌∷◌}
use native.Mathlib.Omega.{arith}
use lib.ListN.{length, get_or}
use Rattle.ground.proofs.Cases.{by}
use Rattle.format.specs.Numbers.{intervals_of}
use Rattle.format.specs.Units.{decimals_of}
use Rattle.format.specs.Cut.{Lines, line, rest, lines, fields}
use Rattle.format.specs.Records.{date_in, update_in, mark_at}
use Rattle.format.specs.Order.{Due, is_varied}
use Rattle.format.specs.Answers.{accepted}
use Rattle.format.specs.File.{behind200, top_says, block_check_of}
use Rattle.format.specs.Day.{each_of, values_of, marks_of, day_of}
use Rattle.store.specs.Calls.{rows_at}
use Rattle.passing.specs.Sound.{is_sound}
use Rattle.passing.proofs.Fit.{free_of}
use Rattle.passing.proofs.Steps.{block_found}
use Rattle.passing.proofs.Rows.{cover-anywhere}
use Rattle.passing.proofs.Days.{sound-block}
use Rattle.passing.proofs.Blocks.{headed}
use Rattle.passing.proofs.Alone.{accepted-alone}

-- ---- another place

pub day-moved : (n u p q : ℕ) (ls : Lines) → day_of (rows_at n u p ls) ≡ day_of (rows_at n u q ls)
unfolding rows_at day_of marks_of each_of values_of
day-moved n u p q (rest t) = refl
day-moved n u p q (line r ls) =
    by (is_varied n (fields r))
    (λ t. rw t (rw (cover-anywhere (λ fs. mark_at 400 3 fs) (p + length r + 2) (q + length r + 2) ls)))
    (λ t. rw t)

-- ---- a block that is accepted

-- bytes with a record
line-some : (s r : List ℕ) (ls : Lines) → lines s ≡ line r ls → 1 ≤ length s
unfolding lines
line-some [] r ls q = let z : ◌≡◌ {A = ℕ} 0 1 = cc in absurd (let w : ⊥ = omega arith in w)
line-some (x ∷ s) r ls q = omega arith

module _ (m y : ℕ) (b xs : List ℕ) (e : block_check_of m y b ≡ accepted xs) where
  abbrev n : ℕ
  n = intervals_of m

  pub record Block : Type 0 where
    pub first : List ℕ
    pub others : Lines
    pub is : lines b ≡ line first others
    pub date : get_or xs 0 0 ≡ date_in (fields first)
    pub update : get_or xs 2 0 ≡ update_in n (fields first)
    pub sound : (p : ℕ) → is_sound (block_found p first others n y) ≡ true

  pub block : Block
  block =
      let w = accepted-alone m y b xs e in
      let a = w.5 in
      let i : n ≡ w.1 = a.intervals in
      let st : Due = behind200 w.1 (decimals_of y) in
      let d = headed st b a.accepted in
      let s : top_says w.1 (line d.first d.others) ≡ w.0 ∷ w.1 ∷ w.2 ∷ w.3 ∷ [] = rw d.is at a.says in
      let t : date_in (fields d.first) ≡ w.0 = cc in
      let u : update_in w.1 (fields d.first) ≡ w.2 = cc in
      record {
        first = d.first;
        others = d.others;
        is = d.is;
        date = ap (λ (l : List ℕ). get_or l 0 0) w.6 ∙ sym t;
        update = ap (λ (l : List ℕ). get_or l 2 0) w.6 ∙ sym u ∙ ap (λ (j : ℕ). update_in j (fields d.first)) (sym i);
        sound = λ p.
            rw i (sound-block st a.accepted.end p d.first d.others y (free_of a.accepted.end 300 a.accepted.free.1 (λ z. omega arith)) d.kind (rw d.is at a.accepted.passes));
      }

  -- it has bytes
  pub block-some : 1 ≤ length b
  block-some = line-some b block.first block.others block.is

  -- what is read from it, at any place
  pub rows_are : (p : ℕ) → rows_at n y p (lines b) ≡ block_found p block.first block.others n y
  unfolding rows_at
  rows_are p = rw block.is

  pub rows-sound : (p : ℕ) → is_sound (rows_at n y p (lines b)) ≡ true
  rows-sound p = rw (rows_are p) (block.sound p)

  -- its check answers the day's date and update time
  pub says-date : (p : ℕ) → get_or xs 0 0 ≡ (day_of (rows_at n y p (lines b))).date
  unfolding day_of
  says-date p = rw (rows_are p) block.date

  pub says-update : (p : ℕ) → get_or xs 2 0 ≡ (day_of (rows_at n y p (lines b))).update
  unfolding day_of
  says-update p = rw (rows_are p) block.update

-- The days of records that are passed are sound: what is fit of one record is the next clause of the cover. Assumes nothing.
use Prim.Native.Nat.{ℕ, ◌+◌, ◌≤◌, ◌<◌}
use mathlib.Core.Path.{◌≡◌, refl, sym, ◌∙◌, subst}
use mathlib.Core.List.{List, [], ◌∷◌}
use mathlib.Core.Bool.{true, false}
use native.Mathlib.Omega.{arith}
use lib.ListN.{length, replicate, length-replicate, length-append}
use lib.Dec.{eqb}
use borrow.Author.Tests.{eqb-true, eqb-false, eq-eqb, le-leb}
use Rattle.ground.proofs.Cases.{by}
use Rattle.format.specs.Cut.{Lines, line, rest, lines, fields}
use Rattle.format.specs.Records.{Scale, scale, kind_in, row_of, count_of, intervals_in, unit_in, first_in, last_in}
use Rattle.format.specs.Order.{may_come, in_varied, is_end, Due, begun, is_varied, on300, on400}
use Rattle.format.specs.Answers.{accepted}
use Rattle.format.specs.File.{after, check_of}
use Rattle.format.specs.Day.{Row, runs_from, days_from, no_channel, days_of}
use Rattle.format.specs.declared.Rule.TheVariants.{Quality, Value, Reason, Description, Time, Load}
use Rattle.format.proofs.States.{excluded}
use Rattle.passing.specs.Passes.{Passes}
use Rattle.passing.specs.Sound.{covers_from, is_sound, are_sound}
use Rattle.passing.proofs.Fit.{fine-fit, fit-cover, head, free_of}
use Rattle.passing.proofs.Steps.{after-300, after-400, block_found, channel-on}
use Rattle.passing.proofs.Walk.{file-passes}
use Rattle.passing.proofs.Counts.{Holds, counts-begun, holds-begun, counted}
use Rattle.passing.specs.Passes.{Counts}

-- no V day is open where the records end
abbrev Shut : Due → Type 0
Shut st = in_varied st.expect ≡ true → st.n < st.next

-- under a V day, from a state that expects the 400 of interval j + 1: the 400s here cover the rest of it
covers-on : (st end : Due) (q j : ℕ) (ls : Lines) → Shut end → in_varied st.expect ≡ true → st.next ≡ j + 1 → j ≤ st.n → Passes st ls end → covers_from j st.n (runs_from q ls) ≡ true
unfolding runs_from covers_from
covers-on st end q j (rest t) o x e h a =
    let l : st.n < st.next = subst Shut (sym a.1) o x in
    let w : j ≡ st.n = omega arith in
    eq-eqb _ _ w
covers-on st end q j (line r ls) o x e h a =
    let f = fine-fit st r a.0 in
    by (eqb (kind_in (fields r)) 400)
    (λ i.
    let k : kind_in (fields r) ≡ 400 = eqb-true _ _ i in
    let c = fit-cover st r f k in
    let g : first_in (fields r) ≡ j + 1 = c.0 ∙ e in
    let l : last_in (fields r) ≤ st.n = c.2 in
    rw (i, eq-eqb _ _ g, le-leb _ _ c.1, le-leb _ _ l)
    (covers-on (on400 st (fields r)) end (q + length r + 2) (last_in (fields r)) ls o refl refl l (rw (after-400 st r k) at a.1)))
    (λ i.
    let l : st.n < st.next = free_of st (kind_in (fields r)) f.free (eqb-false _ _ i) x in
    let w : j ≡ st.n = omega arith in
    rw i (eq-eqb _ _ w))

pub count-300 : (z : Scale) → count_of 300 z ≡ z.n + 7
unfolding count_of row_of
count-300 z =
    omega (arith, length-append (replicate z.n (Value z.decimals)) (Quality ∷ Reason ∷ Description ∷ Time ∷ Load ∷ []), length-replicate z.n (Value z.decimals))

-- the block of a 300 that is passed
pub sound-block : (st end : Due) (q : ℕ) (r : List ℕ) (ls : Lines) (u : ℕ) → (in_varied end.expect ≡ true → end.n < end.next) → kind_in (fields r) ≡ 300 → Passes st (line r ls) end → is_sound (block_found q r ls st.n u) ≡ true
unfolding is_sound
sound-block st end q r ls u o k a =
    let f = fine-fit st r a.0 in
    let count : length (fields r) ≡ st.n + 7 = rw k at f.ok.0 ∙ count-300 (scale st.n st.decimals) in
    let p : Passes (on300 st (fields r)) ls end = rw (after-300 st r k) at a.1 in
    by (is_varied st.n (fields r))
    (λ v. rw (eq-eqb _ _ count, v, covers-on (on300 st (fields r)) end (q + length r + 2) 0 ls o (rw v) refl (omega arith) p))
    (λ v. rw (eq-eqb _ _ count, v))

-- the days that a reading finds in records that are passed, to where no V day is open, under the 200 c
pub passed-days : (st end : Due) (q : ℕ) (c : Row) (ls : Lines) → (in_varied end.expect ≡ true → end.n < end.next) → Counts st → Holds st (intervals_in c.cells) → Passes st ls end
    → are_sound (days_from q c ls) ≡ true
unfolding days_from
passed-days st end q c (rest t) o g h a = refl
passed-days st end q c (line r ls) o g h a =
    let f = fine-fit st r a.0 in
    let s = counted st (kind_in (fields r)) (fields r) g (head _ _ f.may) in
    let w = s.holds (intervals_in c.cells) h in
    by (eqb (kind_in (fields r)) 300)
    (λ i.
    let k : kind_in (fields r) ≡ 300 = eqb-true _ _ i in
    let t : eqb (kind_in (fields r)) 200 ≡ false = rw k in
    let m : may_come st.expect 300 ≡ true = rw k at f.may in
    let b : is_sound (block_found q r ls (intervals_in c.cells) (unit_in c.cells)) ≡ true = rw (h m) at (sound-block st end q r ls (unit_in c.cells) o k a) in
    rw (i, b) (passed-days (after st r) end (q + length r + 2) c ls o s.counts (rw t at w) a.1))
    (λ i. rw i (passed-days (after st r) end (q + length r + 2) _ ls o s.counts (rw (channel-on (kind_in (fields r)) q c r) w) a.1))

-- each day of a file that is accepted
pub checked-days : (file xs : List ℕ) → check_of file ≡ accepted xs → are_sound (days_of file) ≡ true
unfolding days_of
checked-days file xs e =
    let w = file-passes file xs e in
    passed-days begun w.end 0 no_channel (lines file) (λ z. excluded in_varied is_end refl w.end.expect z w.expected) counts-begun (holds-begun _) w.passes

-- What is found of a day, place by place: the fields of its 200, the end of its block, and how many channels stand before it. Assumes nothing.
use Rattle.std.proofs.Common.{Option, Some, None, Result, Err}
use Rattle.std.proofs.Common as common
use Prim.Native.Nat.{ℕ, ◌+◌, ◌-◌, ◌≤◌, ◌<◌}
use mathlib.Core.Path.{◌≡◌, sym, ap, ◌∙◌}
use mathlib.Core.Bool.{Bool, true, false, not, ◌&&◌, ◌||◌}
use mathlib.Core.List.{List, [], ◌∷◌, ◌++◌}
use native.Mathlib.Omega.{arith}
use native.Mathlib.Nat.{add-zero}
use lib.ListN.{length, take, drop}
use lib.Seq.{drop-append_seam, take-append_seam}
use lib.Dec.{eqb, leb}
use borrow.Author.Tests.{eqb-true, leb-true, not-true, not-false}
use Rattle.ground.specs.Lists.{part}
use Rattle.ground.proofs.Tests.{and-true}
use Rattle.ground.proofs.Cases.{by}
use Rattle.format.specs.Numbers.{is_length, small_of, that, length_of, number_in}
use Rattle.format.specs.Texts.{is_nmi, is_suffix}
use Rattle.format.specs.Bytes.{are_all}
use Rattle.format.specs.Cut.{Lines, line, rest, lines, fields, field, start_of}
use Rattle.format.specs.Records.{no_scale, row_of, rule_of, count_of, obeys, kind_in, unit_in}
use Rattle.format.specs.Answers.{accepted, refusal, refused_as, checked_as}
use Rattle.format.specs.File.{check_of, IsAccepted}
use Rattle.format.specs.Day.{DayRows, days_of}
use Rattle.format.specs.Total.{totals_from}
use Rattle.format.specs.declared.Refusal.{Refusal}
use Rattle.format.specs.declared.Checked.{Checked}
use Rattle.format.proofs.Cut.{start-zero}
use Rattle.passing.proofs.Fit.{Ok, fine-unbroken}
use Rattle.passing.proofs.Files.{onto, lines-behind}
use Rattle.passing.proofs.Parts.{Parts, parts}
use Rattle.lines.specs.Places.{LineEnd, Rest}
use Rattle.lines.proofs.Cuts.{rest-first}
use Rattle.lines.proofs.Ends.{line-none, line-more, line-long}
use Rattle.day.specs.Places.{channel_at, day_at, days_at, located, inside}
use Rattle.day.specs.declared.Under.{Under}
use Rattle.day.specs.declared.Place.{Place}
use Rattle.day.proofs.Find.{room-behind, heads-found, line-found}
use Rattle.channel.specs.Places.{totals_in, totals_at}
use Rattle.checking.specs.Tour.{ChannelsBefore}
use Rattle.whose.specs.Whose.{channels_before, minutes_in, under_end, whose_as, whose_is, day_found_as, find_of}
use Rattle.whose.specs.Stands.{Stands}
use Rattle.whose.specs.declared.DayFound.{DayFound}

-- ---- the interval length

small-length : (m : ℕ) → is_length m ≡ true → m ≤ 30
unfolding is_length
small-length m t =
    by (eqb m 5)
    (λ i. let z : m ≡ 5 = eqb-true _ _ i in omega arith)
    (λ i. let y : (eqb m 15 || eqb m 30) ≡ true = (rw i at t) in
    by (eqb m 15)
    (λ j. let z : m ≡ 15 = eqb-true _ _ j in omega arith)
    (λ j. let z : m ≡ 30 = eqb-true _ _ (rw j at y) in omega arith))

length-small : (s : List ℕ) → number_in (length_of s) ≤ 30
unfolding length_of
length-small s = go (small_of 2 s)
  where
    go : (x : Option ℕ) → number_in (that is_length x) ≤ 30
    go (Some m) = by (is_length m) (λ t. rw t (small-length m t)) (λ t. rw t (omega arith))
    go None = omega arith

-- what the number of a field is that was read as one
module _ (f : List ℕ) (x : Option ℕ) (m : ℕ) (ex : x ≡ length_of f) (em : m ≡ number_in x) where
  pub minutes-small : m ≤ 30
  minutes-small = rw (em, ex) (length-small f)

  pub minutes-are : (file : List ℕ) (fs : List (List ℕ)) (p a e : ℕ) → f ≡ field 0 (fields (part file a e)) → Rest file fs p 8 a e → m ≡ minutes_in fs
  unfolding minutes_in
  minutes-are file fs p a e ef s = em ∙ ap number_in ex ∙ ap (λ (g : List ℕ). number_in (length_of g)) (ef ∙ rest-first s)

-- ---- the records under a 300

-- the record at a place ends at e, and x is behind the 400s and 500s from there on
module _ (file : List ℕ) (at e x : ℕ) (s : LineEnd file at e) (inv : x ≡ under_end at (lines (drop at file))) where
  pub under_none : e ≡ length file → at ≡ x
  unfolding under_end
  under_none h = sym (inv ∙ rw (line-none file at e s h))

  module _ (go : e ≡ length file → ⊥) {k : ℕ} (ek : k ≡ kind_in (fields (part file at e))) {b : Bool} (eb : b ≡ (eqb k 400 || eqb k 500)) where
    behind : at + length (part file at e) + 2 ≡ e + 2
    behind = omega (arith, line-long file at e s, s.order)

    pub under-stop : not b ≡ true → at ≡ x
    unfolding under_end
    under-stop h = sym (inv ∙ rw (line-more file at e s go, ← ek, ← eb, not-true b h))

    pub under_more : not b ≡ false → x ≡ under_end (e + 2) (lines (drop (e + 2) file))
    unfolding under_end
    under_more h = inv ∙ rw (line-more file at e s go, ← ek, ← eb, not-false b h, behind)

pub ruleset unders = (under_none, under-stop, under_more)

-- ---- the day

place_is : (file : List ℕ) (fs : List (List ℕ)) (p i x e : ℕ) → Rest file fs p i x e → 0 < length (field i fs) → x ≡ p + start_of i fs
place_is file fs p i x e s h =
    let z : p + start_of (i + 0) fs ≡ x + start_of 0 (fields (part file x e)) = s.place 0 (rw (add-zero i) h) in
    let y : p + start_of i fs ≡ x + start_of 0 (fields (part file x e)) = rw (add-zero i) at z in
    omega (arith, y, start-zero (fields (part file x e)))

pub found-is : (file : List ℕ) (a e : ℕ) (u : Under) (before : ℕ) → Stands file a e u before → (n s y m z : ℕ)
    → Rest file (channel_at file u).cells u.at 1 n u.end → Rest file (channel_at file u).cells u.at 4 s u.end
    → y ≡ unit_in (channel_at file u).cells → m ≡ minutes_in (channel_at file u).cells → z ≡ under_end (e + 2) (lines (drop (e + 2) file))
    → accepted ((before - 1) ∷ n ∷ s ∷ y ∷ m ∷ a ∷ z ∷ []) ≡ whose_as (whose_is file (day_at file a e u))
unfolding whose_is
found-is file a e u before w n s y m z rn rs ey em ez =
    let go : e ≡ length file → ⊥ = λ h. (let o : ⊥ = omega (arith, w.room) in o) in
    let on : a + length (part file a e) + 2 ≡ e + 2 = omega (arith, line-long file a e w.line, w.line.order) in
    rw (w.channels, place_is file _ _ 1 n _ rn w.nmi, place_is file _ _ 4 s _ rs w.suffix, ey, em, ez, line-more file a e w.line go, on)

-- ---- in a file that is accepted

-- a 200 that is in order has an NMI and a suffix
long-enough : (f : ℕ → Bool) (n : ℕ) (s : List ℕ) → are_all f n n s ≡ true → n ≤ length s
unfolding are_all
long-enough f n s h = leb-true _ _ (and-true (leb n (length s)) _ (and-true (leb n (length s) && leb (length s) n) _ h).0).0

pub named : (fs : List (List ℕ)) → Ok 200 no_scale fs → (0 < length (field 1 fs)) × (0 < length (field 4 fs))
unfolding count_of row_of rule_of obeys is_nmi is_suffix
named fs o =
    let n : length fs ≡ 10 = o.0 in
    let x = fine-unbroken 200 no_scale 0 0 fs o.1 1 (omega arith) in
    let y = fine-unbroken 200 no_scale 0 0 fs o.1 4 (omega arith) in
    let i : 10 ≤ length (field 1 fs) = long-enough _ 10 (field 1 fs) x in
    let j : 2 ≤ length (field 4 fs) = long-enough _ 2 (field 4 fs) y in
    (omega arith, omega arith)

-- the channels of records one behind the other
count-onto : (x z : Lines) → length (totals_from (onto x z)) ≡ length (totals_from x) + length (totals_from z)
unfolding totals_from
count-onto (rest t) z = omega arith
count-onto (line r x) z =
    by (eqb (kind_in (fields r)) 200)
    (λ t. rw t (omega (arith, count-onto x z)))
    (λ t. by (eqb (kind_in (fields r)) 250) (λ i. rw (t, i) (omega (arith, count-onto x z))) (λ i. rw (t, i) (count-onto x z)))

-- cut at a day, the file is what stands before its block, the block, and what is behind it
module _ (file : List ℕ) (day : ℕ) (d : DayRows) (w : Parts file day d) where
  pub before-is : take d.block.top.place file ≡ w.before
  before-is = rw w.place (ap (take (length w.before)) w.is ∙ take-append_seam w.before (w.block ++ w.behind))

  pub onward-is : drop d.block.top.place file ≡ w.block ++ w.behind
  onward-is = rw w.place (ap (drop (length w.before)) w.is ∙ drop-append_seam w.before (w.block ++ w.behind))

  pub channels-are : channels_before file d.block.top.place ≡ w.st.channels
  unfolding channels_before
  channels-are = ap (λ (l : List ℕ). length (totals_from (lines l))) before-is ∙ w.counted

  channels-left : length (totals_in file) ≡ w.st.channels + length (totals_at file d.block.top.place)
  channels-left =
      let x : length (totals_in file) ≡ length (totals_from (onto (lines w.before) (lines (w.block ++ w.behind)))) =
      ap (λ (l : List ℕ). length (totals_from (lines l))) w.is
      ∙ ap (λ (ls : Lines). length (totals_from ls)) (lines-behind _ _ w.before (w.block ++ w.behind) w.leads) in
      let y : length (totals_at file d.block.top.place) ≡ length (totals_from (lines (w.block ++ w.behind))) =
      ap (λ (l : List ℕ). length (totals_from (lines l))) onward-is in
      omega (arith, x, y, count-onto (lines w.before) (lines (w.block ++ w.behind)), w.counted)

module _ (file : List ℕ) (day : ℕ) (p : Option Place) (q : Place) (h : p ≡ Some q) (i : inside file p) (l : located file p ≡ drop day (days_of file)) where
  abbrev a : ℕ
  a = q.at

  abbrev e : ℕ
  e = q.end

  abbrev u : Under
  u = q.under

  here : drop day (days_of file) ≡ day_at file a e u ∷ days_at file (e + 2) u
  here = sym (rw h at l)

  pub stands : IsAccepted file → (before : ℕ) → ChannelsBefore file day before → Stands file a e u before
  stands x before b =
      let w = parts file x.0 day (day_at file a e u) (days_at file (e + 2) u) x.1 here in
      let n = named (channel_at file u).cells w.head in
      let c : before ≡ w.st.channels =
      omega (arith, b x (day_at file a e u) (days_at file (e + 2) u) here, channels-left file day (day_at file a e u) w) in
      record {
        line = line-found file p q h i;
        room = room-behind file p q h i;
        heads = heads-found file p q h i;
        nmi = n.0;
        suffix = n.1;
        channels = c ∙ sym (channels-are file day (day_at file a e u) w);
        some = omega (arith, c, w.some);
      }

-- ---- what is answered

module _ (file : List ℕ) (day : ℕ) where
  pub find-refused : (c : Result Checked Refusal) (x : Refusal) → checked_as c ≡ check_of file → c ≡ Err x → refused_as x ≡ find_of file day
  unfolding find_of
  find-refused c x e h = rw (← e, h)

  module _ (x : IsAccepted file) (p : Option Place) (l : located file p ≡ drop day (days_of file)) where
    pub find_none : p ≡ None → (r : Refusal) → refused_as r ≡ refusal 14 → refused_as r ≡ find_of file day
    unfolding find_of
    find_none h r er = rw (er, x.1, ← l, h)

    pub find_at : (q : Place) → p ≡ Some q → (r : DayFound) → day_found_as (common.Ok r) ≡ whose_as (whose_is file (day_at file q.at q.end q.under)) → day_found_as (common.Ok r) ≡ find_of file day
    unfolding find_of
    find_at q h r er = rw (er, x.1, ← l, h)

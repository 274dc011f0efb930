-- The walk to the day of a number. Assumes nothing.
use Prim.Native.Nat.{ℕ, zero, suc, ◌+◌, ◌-◌, ◌≤◌, ◌<◌}
use mathlib.Core.Path.{◌≡◌, refl, sym, ap, ◌∙◌}
use mathlib.Core.List.{List, [], ◌∷◌}
use native.Mathlib.Omega.{arith}
use Rattle.std.specs.Prelude.{Option, Some, None}
use lib.ListN.{length, drop}
use lib.Seq.{drop-nil, drop-length}
use borrow.Author.Tests.{ne_eqb}
use Rattle.ground.specs.Lists.{part}
use Rattle.format.specs.Numbers.{number_in, length_of, intervals_of}
use Rattle.format.specs.Units.{unit_of}
use Rattle.format.specs.Cut.{lines, fields, field}
use Rattle.format.specs.Records.{kind_in, intervals_in, unit_in}
use Rattle.format.specs.Day.{DayRows, days_from}
use Rattle.lines.specs.Places.{LineEnd, Rest}
use Rattle.lines.proofs.Cuts.{rest-first}
use Rattle.lines.proofs.Ends.{line-none, line-more, line-room, line-long}
use Rattle.day.specs.Places.{Heads, day_at, days_at, inside, Behind}
use Rattle.day.specs.declared.Under.{Under}
use Rattle.day.specs.declared.DayStart.{DayStart}
use Rattle.day.specs.declared.Place.{Place}

-- n is in the ninth field of a 200
pub intervals-is : (file : List ℕ) (fs : List (List ℕ)) (p x e n : ℕ) → Rest file fs p 8 x e
    → n ≡ intervals_of (number_in (length_of (field 0 (fields (part file x e))))) → n ≡ intervals_in fs
unfolding intervals_in
intervals-is file fs p x e n s h = h ∙ ap (λ (f : List ℕ). intervals_of (number_in (length_of f))) (rest-first s)

-- its unit in the eighth
pub unit-is : (file : List ℕ) (fs : List (List ℕ)) (p x e u : ℕ) → Rest file fs p 7 x e → u ≡ number_in (unit_of (field 0 (fields (part file x e)))) → u ≡ unit_in fs
unfolding unit_in
unit-is file fs p x e u s h = h ∙ ap (λ (f : List ℕ). number_in (unit_of f)) (rest-first s)

-- a record on, less of the file is left
pub line-less : (file : List ℕ) (at e : ℕ) → LineEnd file at e → (e ≡ length file → ⊥) → length file - (e + 2) < length file - at
line-less file at e s go = omega (arith, line-room file at e s go, s.order)

drop_here : (left : ℕ) (d : DayRows) (ds : List DayRows) → left ≡ 0 → drop left (d ∷ ds) ≡ d ∷ ds
drop_here left d ds z = rw z

drop-next : (left : ℕ) (d : DayRows) (ds : List DayRows) → (left ≡ 0 → ⊥) → drop left (d ∷ ds) ≡ drop (left - 1) ds
drop-next zero d ds z = absurd (z refl)
drop-next (suc k) d ds z = let m : suc k - 1 ≡ k = omega arith in rw m

-- the record at a place ends at e; `left` days are to be passed, and u is the 200 before
module _ (file : List ℕ) (at e left : ℕ) (u : Under) (s : LineEnd file at e) (ds : List DayRows) (inv : ds ≡ drop left (days_at file at u)) where
  pub find_none : e ≡ length file → [] ≡ ds
  unfolding days_from
  find_none h = rw (inv, line-none file at e s h, drop-nil)

  module _ (go : e ≡ length file → ⊥) {k : ℕ} (ek : k ≡ kind_in (fields (part file at e))) where
    behind : at + length (part file at e) + 2 ≡ e + 2
    behind = omega (arith, line-long file at e s, s.order)

    is-day : k ≡ 300 → days_at file at u ≡ day_at file at e u ∷ days_at file (e + 2) u
    unfolding days_from
    is-day h = rw (line-more file at e s go, ← ek, h, behind)

    pub find-here : k ≡ 300 → left ≡ 0 → day_at file at e u ∷ days_at file (e + 2) u ≡ ds
    find-here h z = sym (inv ∙ rw (is-day h) (drop_here left (day_at file at e u) (days_at file (e + 2) u) z))

    pub find-next : k ≡ 300 → (left ≡ 0 → ⊥) → ds ≡ drop (left - 1) (days_at file (e + 2) u)
    find-next h z = inv ∙ rw (is-day h) (drop-next left (day_at file at e u) (days_at file (e + 2) u) z)

    pub find-channel : (k ≡ 300 → ⊥) → k ≡ 200 → (v : Under) → v.at ≡ at → v.end ≡ e → ds ≡ drop left (days_at file (e + 2) v)
    unfolding days_from
    find-channel h z v va ve = rw (inv, line-more file at e s go, ← ek, z, va, ve, behind)

    pub find-other : (k ≡ 300 → ⊥) → (k ≡ 200 → ⊥) → ds ≡ drop left (days_at file (e + 2) u)
    unfolding days_from
    find-other h z = rw (inv, line-more file at e s go, ← ek, ne_eqb _ _ h, ne_eqb _ _ z, behind)

pub ruleset finds = (find_none, find-here, find-next, find-channel, find-other)

-- ---- behind a day

-- before the first 200
pub no-heads : (file : List ℕ) (u : Under) → u.at ≡ 0 → u.end ≡ 0 → Heads file u
no-heads file u a e = record { order = omega arith; within = omega arith }

-- the 200 that was passed
pub heads-here : (file : List ℕ) (at e : ℕ) → LineEnd file at e → (u : Under) → u.at ≡ at → u.end ≡ e → Heads file u
heads-here file at e l u ua ue = record { order = omega (arith, l.order); within = omega (arith, l.within) }

pub room-behind : (file : List ℕ) (p : Option Place) (d : Place) → p ≡ Some d → inside file p → d.end + 2 ≤ length file
room-behind file p d h i = let w : inside file (Some d) = rw h at i in w.1

pub behind-day : (file : List ℕ) (p : Option Place) (d : Place) → p ≡ Some d → inside file p → (r : DayStart) → r.at ≡ d.end + 2 → r.left ≡ 0 → r.under ≡ d.under
    → Behind file p r
behind-day file p d h i r ra rl ru =
    let w : inside file (Some d) = rw h at i in
    record { within = rw ra w.1; heads = rw ru w.2; is = rw (h, ra, rl, ru) }

pub behind-none : (file : List ℕ) (p : Option Place) → p ≡ None → (r : DayStart) → r.at ≡ length file → r.left ≡ 0 → Heads file r.under → Behind file p r
unfolding days_from lines
behind-none file p h r ra rl u = record { within = omega arith; heads = u; is = rw (h, ra, rl, drop-length file) }

-- the 300 of a day that was found, and its 200
module _ (file : List ℕ) (p : Option Place) (d : Place) (h : p ≡ Some d) (i : inside file p) where
  found : inside file (Some d)
  found = rw h at i

  pub day-order : d.at ≤ d.end
  day-order = found.0

  pub day-within : d.end ≤ length file
  day-within = omega (arith, found.1)

  pub heads-found : Heads file d.under
  heads-found = found.2

  pub line-found : LineEnd file d.at d.end
  line-found = found.3

  pub under-order : d.under.at ≤ d.under.end
  under-order = heads-found.order

  pub under-within : d.under.end ≤ length file
  under-within = heads-found.within

-- The cases of a reading: no such day, a list too short, the day filled. Assumes nothing.
use Prim.Native.Nat.{ℕ, zero, suc, ◌+◌}
use mathlib.Core.Path.{◌≡◌, refl, sym, ◌∙◌}
use mathlib.Core.List.{List, [], ◌∷◌}
use mathlib.Core.Bool.{Bool, true, false, not}
use Rattle.std.specs.Prelude.{Option, Some, None}
use lib.ListN.{drop}
use lib.Seq.{drop-drop}
use borrow.Author.Tests.{leb-true, not-true, not-false}
use Rattle.ground.proofs.Tests.{and-true}
use Rattle.ground.specs.Lists.{part}
use Rattle.format.specs.Cut.{fields}
use Rattle.format.specs.Records.{intervals_in, unit_in}
use Rattle.format.specs.Answers.{Answer, refusal}
use Rattle.format.specs.Day.{DayRows, days_of, Five, outcome, enough_for, room_for, read_into, read_first, read_of}
use Rattle.passing.specs.Sound.{is_sound, are_sound}
use Rattle.passing.proofs.Days.{checked-days}
use Rattle.day.specs.Places.{block_at, day_at, DayAhead, located, inside, Behind}
use Rattle.format.specs.File.{IsAccepted}
use Rattle.day.specs.declared.DayStart.{DayStart}
use Rattle.day.specs.declared.Place.{Place}
use Rattle.day.proofs.Find.{room-behind, day-order}
use Rattle.filling.specs.Fillable.{Here, Fillable, day_into}

module _ (file : List ℕ) (a e n unit : ℕ) (vs : List ℕ) (ms : Five) {b : Bool} (eb : b ≡ room_for n vs ms) where
  pub ready : Here file a e n unit → not b ≡ false → Fillable file a e n unit vs ms
  unfolding enough_for
  ready h hb =
      let t = sym eb ∙ not-false b hb in
      let t₅ = and-true _ _ t in
      let t₄ = and-true _ _ t₅.0 in
      let t₃ = and-true _ _ t₄.0 in
      let t₂ = and-true _ _ t₃.0 in
      let t₁ = and-true _ _ t₂.0 in
      record {
        here = h;
        values = leb-true _ _ t₁.0;
        marks =
            record {
              flags = leb-true _ _ t₁.1;
              methods = leb-true _ _ t₂.1;
              reasons = leb-true _ _ t₃.1;
              starts = leb-true _ _ t₄.1;
              lengths = leb-true _ _ t₅.1;
            };
      }

  pub at-15 : (r : Answer) → not b ≡ true → r ≡ refusal 15 → outcome r vs ms ≡ day_into (block_at file a e n unit) vs ms
  at-15 r h er = rw (← eb, not-true b h, er)

  pub at-filled : (r : Answer) (vs₁ : List ℕ) (ms₁ : Five) → not b ≡ false → outcome r vs₁ ms₁ ≡ read_into (block_at file a e n unit) vs ms
      → outcome r vs₁ ms₁ ≡ day_into (block_at file a e n unit) vs ms
  at-filled r vs₁ ms₁ h q = rw (← eb, not-false b h) q

-- what stands at the place p that the walk to a day answers
module _ (file : List ℕ) (p : Option Place) where
  pub day-here : (n unit : ℕ) (d : Place) → p ≡ Some d → n ≡ intervals_in (fields (part file d.under.at d.under.end)) → unit ≡ unit_in (fields (part file d.under.at d.under.end))
      → inside file p → are_sound (located file p) ≡ true → Here file d.at d.end n unit
  day-here n unit d h en eu i s =
      let t : are_sound (located file (Some d)) ≡ true = rw h at s in
      record { order = day-order file p d h i; within = room-behind file p d h i; sound = rw (en, eu) (and-true (is_sound (day_at file d.at d.end d.under).block) _ t).0 }

  module _ (vs : List ℕ) (ms : Five) where
    pub day-missing : (r : Answer) → p ≡ None → r ≡ refusal 14 → outcome r vs ms ≡ read_first (located file p) vs ms
    day-missing r h er = rw (h, er)

    pub day-found : (n unit : ℕ) (d : Place) (r : Answer) (vs₁ : List ℕ) (ms₁ : Five) → p ≡ Some d → n ≡ intervals_in (fields (part file d.under.at d.under.end))
        → unit ≡ unit_in (fields (part file d.under.at d.under.end)) → outcome r vs₁ ms₁ ≡ day_into (block_at file d.at d.end n unit) vs ms → outcome r vs₁ ms₁ ≡ read_first (located file p) vs ms
    day-found n unit d r vs₁ ms₁ h en eu q = rw h (rw (en, eu) at q)

-- ---- a file that was accepted

pub are_sound-drop : (k : ℕ) (ds : List DayRows) → are_sound ds ≡ true → are_sound (drop k ds) ≡ true
are_sound-drop zero ds h = h
are_sound-drop (suc k) [] h = refl
are_sound-drop (suc k) (d ∷ ds) h = are_sound-drop k ds (and-true (is_sound d.block) _ h).1

module _ (file : List ℕ) (day : ℕ) (p : Option Place) (ep : located file p ≡ drop day (days_of file)) where
  pub place-sound : IsAccepted file → are_sound (located file p) ≡ true
  place-sound a = rw ep (are_sound-drop day (days_of file) (checked-days file a.0 a.1))

  pub next-noted : (r : DayStart) → Behind file p r → DayAhead file (day + 1) r
  next-noted r b = record { within = b.within; heads = b.heads; is = sym (drop-drop 1 day (days_of file)) ∙ rw (← ep) b.is }

  pub noted-is : IsAccepted file → (r : Answer) (vs vs₁ : List ℕ) (ms ms₁ : Five) → outcome r vs₁ ms₁ ≡ read_first (located file p) vs ms
      → outcome r vs₁ ms₁ ≡ read_of file day vs ms
  unfolding read_of
  noted-is a r vs vs₁ ms ms₁ q = rw (a.1, ← ep) q

-- A day of the call that is refused: so is the call. Assumes nothing.
use Prim.Native.Nat.{ℕ, zero, suc, ◌+◌}
use mathlib.Core.Path.{◌≡◌, sym, ap, ◌∙◌}
use mathlib.Core.Logic.{◌≢◌}
use mathlib.Core.List.{List, [], ◌∷◌}
use mathlib.Core.Bool.{true, false, ◌&&◌}
use lib.ListN.{drop}
use lib.Seq.{drop-drop}
use Rattle.ground.proofs.Cases.{by}
use Rattle.ground.proofs.Tests.{and-true}
use Rattle.format.specs.Answers.{accepted, refusal}
use Rattle.format.specs.File.{check_of}
use Rattle.format.specs.Day.{DayRows, days_of, room_for, read_into, read_of}
use Rattle.passing.specs.Sound.{is_sound, are_sound}
use Rattle.months.specs.Month.{Lent, behind, places_for, stopped, in_front, in_turn}
use Rattle.month_room.specs.Room.{fault_in}
use Rattle.month_lists.proofs.Lay.{day_lists}
use Rattle.month_lists.proofs.Turn.{turn-read}

module _ (file ys : List ℕ) (ck : check_of file ≡ accepted ys) where
  -- there is no day
  pub stops-14 : (m day : ℕ) (w : Lent) → drop day (days_of file) ≡ [] → in_turn file (suc m) day w ≡ stopped (refusal 14)
  unfolding in_turn read_of
  stops-14 m day w e = rw (ck, e)

  -- a long list has no places, or another has none
  pub stops-15 : (m day : ℕ) (w : Lent) (d : DayRows) (ds : List DayRows) → drop day (days_of file) ≡ d ∷ ds
      → (room_for d.block.n w.values w.marks && places_for 1 w.days) ≡ false → in_turn file (suc m) day w ≡ stopped (refusal 15)
  unfolding in_turn read_of read_into
  stops-15 m day w d ds e f =
      by (room_for d.block.n w.values w.marks)
      (λ t. let p : places_for 1 w.days ≡ false = rw t at f in rw (ck, e, t, p))
      (λ t. rw (ck, e, t))

  pub stops : (m day : ℕ) (w : Lent) (ds : List DayRows) (x : ℕ) → drop day (days_of file) ≡ ds → are_sound ds ≡ true → fault_in m ds w ≡ x → x ≢ 0
      → in_turn file m day w ≡ stopped (refusal x)
  unfolding fault_in
  stops zero day w ds x e s q ne = absurd (ne (sym q))
  stops (suc m) day w [] x e s q ne = stops-14 m day w e ∙ ap (λ (n : ℕ). stopped (refusal n)) q
  stops (suc m) day w (d ∷ ds) x e s q ne =
      let n = d.block.n in
      let a = and-true (is_sound d.block) (are_sound ds) s in
      by (room_for n w.values w.marks && places_for 1 w.days)
      (λ t.
      let b = and-true (room_for n w.values w.marks) (places_for 1 w.days) t in
      let next : drop (day + 1) (days_of file) ≡ ds = sym (drop-drop 1 day (days_of file)) ∙ ap (drop 1) e in
      turn-read file ys ck day m d ds e a.0 w b.0 b.1
      ∙ ap (in_front 1 n (day_lists d.block)) (stops m (day + 1) (behind n 1 w) ds x next a.1 (rw t at q) ne))
      (λ t. stops-15 m day w d ds e t ∙ ap (λ (n : ℕ). stopped (refusal n)) (rw t at q))

-- A day filled into the lists: what its 300 and its 400s say, put together. Assumes nothing.
use Prim.Native.Nat.{ℕ, ◌+◌, ◌≤◌}
use mathlib.Core.Path.{◌≡◌, ap, ◌∙◌}
use mathlib.Core.List.{List, [], ◌∷◌, map}
use mathlib.Core.Bool.{true}
use native.Mathlib.Omega.{arith}
use lib.ListN.{length, length-map}
use lib.Seq.{sets, sets-eq}
use lib.Dec.{eqb}
use Rattle.ground.specs.Lists.{part}
use Rattle.ground.proofs.Tests.{and-true}
use Rattle.format.specs.Cut.{fields}
use Rattle.format.specs.Records.{date_in, update_in, load_in}
use Rattle.format.specs.Order.{is_varied}
use Rattle.format.specs.Answers.{accepted}
use Rattle.format.specs.Day.{row_at, each_of, tag_at, tags_of, values_of, Five, over, over_five, outcome, read_into}
use Rattle.format.specs.declared.Tag.{Tag}
use Rattle.lists.specs.Lists.{stored, Roomy}
use Rattle.passing.specs.Sound.{is_sound}
use Rattle.filling.specs.Fillable.{Fillable}
use Rattle.passing.proofs.Sound.{sound-fields, sound-each, sound-values}
use Rattle.day.specs.Places.{values_from, runs_at, block_at}
use Rattle.day_marks.specs.Marks.{run_tags, tags_for, is_covered}
use Rattle.day.proofs.Values.{values-are}

-- ---- stores from place 0 on leave the tail

over-one : (xs ws : List ℕ) → length xs ≤ length ws → sets ws 0 xs ≡ over xs ws
over-one xs ws h =
    let z : 0 + length xs ≤ length ws = omega arith in
    let q : 0 + length xs ≡ length xs = omega arith in
    sets-eq xs ws 0 z ∙ rw q

over-five : (ts : List Tag) (n : ℕ) (ms : Five) → length ts ≡ n → Roomy n ms → stored ms 0 ts ≡ over_five ts ms
unfolding stored over_five
over-five ts n ms h r =
    rw (
      over-one (map (λ (t : Tag). t.flag) ts) ms.flags (omega (arith, length-map ts (λ (t : Tag). t.flag), r.flags)),
      over-one (map (λ (t : Tag). t.method) ts) ms.methods (omega (arith, length-map ts (λ (t : Tag). t.method), r.methods)),
      over-one (map (λ (t : Tag). t.reason) ts) ms.reasons (omega (arith, length-map ts (λ (t : Tag). t.reason), r.reasons)),
      over-one (map (λ (t : Tag). t.start) ts) ms.starts (omega (arith, length-map ts (λ (t : Tag). t.start), r.starts)),
      over-one (map (λ (t : Tag). t.length) ts) ms.lengths (omega (arith, length-map ts (λ (t : Tag). t.length), r.lengths)),
    )

-- ---- a day at a place: t is the mark of its 300

module _ (file : List ℕ) (a e n unit : ℕ) (t : Tag) (et : t ≡ tag_at 300 (row_at a (part file a e)) (n + 2)) where
  pub covered-is : (vs : List ℕ) (ms : Five) → Fillable file a e n unit vs ms → is_covered t n (runs_at file (e + 2)) ≡ true
  unfolding is_sound is_covered is_varied tag_at
  covered-is vs ms r = rw et (and-true (eqb (length (fields (part file a e))) (n + 7)) _ r.here.sound).1

  tags-are : tags_for t n (runs_at file (e + 2)) ≡ tags_of (block_at file a e n unit)
  unfolding tags_for run_tags tags_of each_of is_varied tag_at
  tags-are = rw et

  pub fill_is : (d u l : ℕ) (vs vs₁ : List ℕ) (ms ms₁ : Five) → d ≡ date_in (fields (part file a e))
      → u ≡ update_in n (fields (part file a e)) → l ≡ load_in n (fields (part file a e))
      → vs₁ ≡ sets vs 0 (values_from n 2 (fields (part file a e))) → ms₁ ≡ stored ms 0 (tags_for t n (runs_at file (e + 2)))
      → Fillable file a e n unit vs ms → outcome (accepted (d ∷ n ∷ u ∷ l ∷ unit ∷ [])) vs₁ ms₁ ≡ read_into (block_at file a e n unit) vs ms
  unfolding read_into values_of tags_of
  fill_is d u l vs vs₁ ms ms₁ ed eu el ev em r =
      let w = block_at file a e n unit in
      let so = r.here.sound in
      let y : values_from n 2 (fields (part file a e)) ≡ values_of w = values-are n (fields (part file a e)) (sound-fields w so) in
      let v₁ : vs₁ ≡ over (values_of w) vs = ev ∙ ap (sets vs 0) y ∙ over-one (values_of w) vs (omega (arith, sound-values w so, r.values)) in
      let m₁ : ms₁ ≡ over_five (tags_of w) ms = em ∙ ap (stored ms 0) tags-are ∙ over-five (tags_of w) n ms (sound-each w so tag_at) r.marks in
      rw (ed, eu, el, v₁, m₁)

-- A day's stretch of the long lists, lent and come back; a day laid into the lists. Assumes nothing.
use Prim.Native.Nat.{ℕ, ◌+◌, ◌-◌, ◌≤◌}
use mathlib.Core.Path.{◌≡◌, ap, ◌∙◌}
use mathlib.Core.List.{List, [], ◌∷◌, map}
use Rattle.std.proofs.Common.{Option, Some, None}
use native.Mathlib.Omega.{arith}
use lib.ListN.{length, take, drop, get_or, length-map, length-drop}
use lib.Seq.{sets, length-take-le}
use borrow.Rule.Slice.PartMut.{put_mid}
use Rattle.ground.specs.Lists.{part}
use Rattle.format.specs.Cut.{fields}
use Rattle.format.specs.Records.{intervals_in, unit_in}
use Rattle.format.specs.Answers.{Answer, accepted, refused}
use Rattle.format.specs.Day.{Five, five, over, over_five, Outcome, outcome, read_into, values_of, tags_of, tag_at}
use Rattle.format.specs.declared.Tag.{Tag}
use Rattle.passing.proofs.Sound.{sound-values, sound-each}
use Rattle.lists.specs.Lists.{stored}
use Rattle.lists.proofs.Parts.{put-part}
use Rattle.day.specs.Places.{block_at, located}
use Rattle.day.specs.declared.Place.{Place}
use Rattle.filling.specs.Fillable.{Here, Fillable}
use Rattle.months.specs.Month.{each_mark, Daily, Lent, lent}
use Rattle.month_room.specs.Room.{Long}
use Rattle.month_lists.specs.Laid.{stretched, noted, laid, n_first, laid_first, Reached}

-- ---- lent

abbrev pub mid : ℕ → ℕ → List ℕ → List ℕ
mid k n xs = take (k + n - k) (drop k xs)

abbrev puts : ℕ → ℕ → Five → Five → Five
puts k n l m =
    five
    (put_mid k (k + n - k) l.flags m.flags)
    (put_mid k (k + n - k) l.methods m.methods)
    (put_mid k (k + n - k) l.reasons m.reasons)
    (put_mid k (k + n - k) l.starts m.starts)
    (put_mid k (k + n - k) l.lengths m.lengths)

module _ (k n : ℕ) where
  only-n : k + n - k ≡ n
  only-n = omega arith

  mid-long : (xs : List ℕ) → k + n ≤ length xs → n ≤ length (mid k n xs)
  mid-long xs h = let e : length (mid k n xs) ≡ n = rw only-n (length-take-le n (drop k xs) (omega (arith, length-drop k xs))) in omega arith

  back : (ws xs : List ℕ) → k + n ≤ length ws → length xs ≡ n → put_mid k (k + n - k) ws (over xs (mid k n ws)) ≡ sets ws k xs
  back ws xs h e = rw only-n (put-part ws xs k n (omega arith) h)

  module _ (file : List ℕ) (a e unit : ℕ) (vs : List ℕ) (ms : Five) (h : Here file a e n unit) (l : Long (k + n) vs ms) where
    pub lendable : Fillable file a e n unit (mid k n vs) (each_mark (mid k n) ms)
    lendable =
        record {
          here = h;
          values = mid-long vs l.values;
          marks =
              record {
                flags = mid-long ms.flags l.marks.flags;
                methods = mid-long ms.methods l.marks.methods;
                reasons = mid-long ms.reasons l.marks.reasons;
                starts = mid-long ms.starts l.marks.starts;
                lengths = mid-long ms.lengths l.marks.lengths;
              };
        }

    pub stretch-is : (d u t : ℕ) (vs₁ : List ℕ) (ms₁ : Five)
        → outcome (accepted (d ∷ n ∷ u ∷ t ∷ unit ∷ [])) vs₁ ms₁ ≡ read_into (block_at file a e n unit) (mid k n vs) (each_mark (mid k n) ms)
        → outcome (accepted (d ∷ n ∷ u ∷ t ∷ unit ∷ [])) (put_mid k (k + n - k) vs vs₁) (puts k n ms ms₁) ≡ stretched (block_at file a e n unit) k vs ms
    unfolding read_into over_five stretched stored tags_of
    stretch-is d u t vs₁ ms₁ q =
        let b = block_at file a e n unit in
        let ts = tags_of b in
        let many : length ts ≡ n = sound-each b h.sound tag_at in
        ap (λ (o : Outcome). outcome o.answer (put_mid k (k + n - k) vs o.values) (puts k n ms o.marks)) q
        ∙ rw (
          back vs (values_of b) l.values (sound-values b h.sound),
          back ms.flags (map (λ (t : Tag). t.flag) ts) l.marks.flags (length-map ts (λ (t : Tag). t.flag) ∙ many),
          back ms.methods (map (λ (t : Tag). t.method) ts) l.marks.methods (length-map ts (λ (t : Tag). t.method) ∙ many),
          back ms.reasons (map (λ (t : Tag). t.reason) ts) l.marks.reasons (length-map ts (λ (t : Tag). t.reason) ∙ many),
          back ms.starts (map (λ (t : Tag). t.start) ts) l.marks.starts (length-map ts (λ (t : Tag). t.start) ∙ many),
          back ms.lengths (map (λ (t : Tag). t.length) ts) l.marks.lengths (length-map ts (λ (t : Tag). t.length) ∙ many),
        )

-- ---- the first of the days at a place

-- a number of an answer
abbrev number_at : ℕ → Answer → ℕ
number_at i (accepted xs) = get_or xs i 0
number_at i (refused x p r f) = 0

-- there is none
module _ (file : List ℕ) (p : Option Place) (h : p ≡ None) where
  pub none-n : 0 ≡ n_first (located file p)
  none-n = rw h

  pub none-laid : (k i : ℕ) (w : Lent) → w ≡ laid_first (located file p) k i w
  none-laid k i w = rw h

module _ (file : List ℕ) (p : Option Place) (n unit : ℕ) (s : Place) (h : p ≡ Some s) (en : n ≡ intervals_in (fields (part file s.under.at s.under.end))) where
  pub first-n : n ≡ n_first (located file p)
  first-n = rw h en

  module _ (k i : ℕ) (w : Lent) (r : Reached (k + n_first (located file p)) (i + 1) w) where
    pub reaches : Long (k + n) w.values w.marks
    reaches = rw first-n r.long

    pub day-laid : (d t l : ℕ) (vs₁ : List ℕ) (ms₁ : Five) (ds₁ : Daily) → unit ≡ unit_in (fields (part file s.under.at s.under.end))
        → outcome (accepted (d ∷ n ∷ t ∷ l ∷ unit ∷ [])) vs₁ ms₁ ≡ stretched (block_at file s.at s.end n unit) k w.values w.marks
        → ds₁ ≡ noted i d n t l unit w.days → lent vs₁ ms₁ ds₁ ≡ laid_first (located file p) k i w
    unfolding stretched laid
    day-laid d t l vs₁ ms₁ ds₁ eu q g =
        rw (
          h,
          ← en,
          ← eu,
          g,
          ap (λ (o : Outcome). o.values) q,
          ap (λ (o : Outcome). o.marks) q,
          ap (λ (o : Outcome). number_at 0 o.answer) q,
          ap (λ (o : Outcome). number_at 2 o.answer) q,
          ap (λ (o : Outcome). number_at 3 o.answer) q,
        )

-- A day laid into lists, and what stands up to it and behind it. Assumes nothing.
use Prim.Native.Nat.{ℕ, ◌+◌, ◌≤◌}
use mathlib.Core.Path.{◌≡◌, refl, sym, ◌∙◌}
use mathlib.Core.List.{List, [], ◌∷◌, ◌++◌, map, append_assoc}
use mathlib.Core.Bool.{true}
use native.Mathlib.Nat.{zero-add, add-zero, add_assoc}
use native.Mathlib.Numerals.{add-one}
use native.Mathlib.Omega.{arith}
use lib.ListN.{length, take, drop, set, length-map, length-set, length-append, take-append-drop}
use lib.Seq.{sets, sets-eq, length-sets, take_at, drop_at, drop-drop, take-suc-set, drop-set-lt, length-take-le}
use Rattle.format.specs.Records.{date_in, update_in, load_in}
use Rattle.format.specs.Day.{BlockRows, DayRows, five, values_of, tags_of, tag_at}
use Rattle.format.specs.declared.Tag.{Tag}
use Rattle.passing.specs.Sound.{is_sound}
use Rattle.passing.proofs.Sound.{sound-values, sound-each}
use Rattle.lists.specs.Lists.{stored}
use Rattle.months.specs.Month.{daily, Lent, lent, up_to, behind, joined, Turns, read, stopped, in_front}
use Rattle.month_lists.specs.Laid.{noted, laid, laid_first, Reached}

-- ---- one list

module _ (k n : ℕ) (ws xs : List ℕ) (h : k + n ≤ length ws) (e : length xs ≡ n) where
  cut : sets ws k xs ≡ take k ws ++ xs ++ drop (k + n) ws
  cut = let q : k + length xs ≤ length ws = omega arith in sets-eq xs ws k q ∙ rw e

  front_long : length (take k ws ++ xs) ≡ k + n
  front_long = simp length-append (omega (arith, length-take-le k ws (omega arith)))

  up_one : take k ws ++ xs ≡ take (k + n) (sets ws k xs)
  up_one = rw cut (sym (take_at (take k ws ++ xs) (drop (k + n) ws) (k + n) front_long))

  down-one : drop n (drop k ws) ≡ drop (k + n) (sets ws k xs)
  down-one = drop-drop n k ws ∙ rw cut (sym (drop_at (take k ws ++ xs) (drop (k + n) ws) (k + n) front_long))

module _ (i x : ℕ) (ws : List ℕ) (h : i + 1 ≤ length ws) where
  up-place : take i ws ++ (x ∷ []) ≡ take (i + 1) (set ws i x)
  up-place = rw (add-one i) (sym (take-suc-set ws i x (omega arith)))

  down-place : drop 1 (drop i ws) ≡ drop (i + 1) (set ws i x)
  down-place = drop-drop 1 i ws ∙ sym (drop-set-lt (i + 1) ws i x (omega arith))

-- ---- all of them

-- what a day is in the lists
unfoldable pub day_lists : BlockRows → Lent
day_lists d =
    lent
    (values_of d)
    (five
    (map (λ (t : Tag). t.flag) (tags_of d))
    (map (λ (t : Tag). t.method) (tags_of d))
    (map (λ (t : Tag). t.reason) (tags_of d))
    (map (λ (t : Tag). t.start) (tags_of d))
    (map (λ (t : Tag). t.length) (tags_of d)))
    (daily (date_in d.top.cells ∷ []) (d.n ∷ []) (update_in d.n d.top.cells ∷ []) (load_in d.n d.top.cells ∷ []) (d.unit ∷ []))

module _ (d : BlockRows) (s : is_sound d ≡ true) where
  pub marks-many : (f : Tag → ℕ) → length (map f (tags_of d)) ≡ d.n
  unfolding tags_of
  marks-many f = length-map (tags_of d) f ∙ sound-each d s tag_at

  module _ (k i : ℕ) (w : Lent) (r : Reached (k + d.n) (i + 1) w) where
    pub laid-front : joined (up_to k i w) (day_lists d) ≡ up_to (k + d.n) (i + 1) (laid d k i w)
    unfolding day_lists laid noted stored
    laid-front =
        rw (
          up_one k d.n w.values (values_of d) r.long.values (sound-values d s),
          up_one k d.n w.marks.flags (map (λ (t : Tag). t.flag) (tags_of d)) r.long.marks.flags (marks-many (λ (t : Tag). t.flag)),
          up_one k d.n w.marks.methods (map (λ (t : Tag). t.method) (tags_of d)) r.long.marks.methods (marks-many (λ (t : Tag). t.method)),
          up_one k d.n w.marks.reasons (map (λ (t : Tag). t.reason) (tags_of d)) r.long.marks.reasons (marks-many (λ (t : Tag). t.reason)),
          up_one k d.n w.marks.starts (map (λ (t : Tag). t.start) (tags_of d)) r.long.marks.starts (marks-many (λ (t : Tag). t.start)),
          up_one k d.n w.marks.lengths (map (λ (t : Tag). t.length) (tags_of d)) r.long.marks.lengths (marks-many (λ (t : Tag). t.length)),
          up-place i (date_in d.top.cells) w.days.dates r.daily.dates,
          up-place i d.n w.days.counts r.daily.counts,
          up-place i (update_in d.n d.top.cells) w.days.updates r.daily.updates,
          up-place i (load_in d.n d.top.cells) w.days.loads r.daily.loads,
          up-place i d.unit w.days.units r.daily.units,
        )

    pub laid-behind : behind d.n 1 (behind k i w) ≡ behind (k + d.n) (i + 1) (laid d k i w)
    unfolding laid noted stored
    laid-behind =
        rw (
          down-one k d.n w.values (values_of d) r.long.values (sound-values d s),
          down-one k d.n w.marks.flags (map (λ (t : Tag). t.flag) (tags_of d)) r.long.marks.flags (marks-many (λ (t : Tag). t.flag)),
          down-one k d.n w.marks.methods (map (λ (t : Tag). t.method) (tags_of d)) r.long.marks.methods (marks-many (λ (t : Tag). t.method)),
          down-one k d.n w.marks.reasons (map (λ (t : Tag). t.reason) (tags_of d)) r.long.marks.reasons (marks-many (λ (t : Tag). t.reason)),
          down-one k d.n w.marks.starts (map (λ (t : Tag). t.start) (tags_of d)) r.long.marks.starts (marks-many (λ (t : Tag). t.start)),
          down-one k d.n w.marks.lengths (map (λ (t : Tag). t.length) (tags_of d)) r.long.marks.lengths (marks-many (λ (t : Tag). t.length)),
          down-place i (date_in d.top.cells) w.days.dates r.daily.dates,
          down-place i d.n w.days.counts r.daily.counts,
          down-place i (update_in d.n d.top.cells) w.days.updates r.daily.updates,
          down-place i (load_in d.n d.top.cells) w.days.loads r.daily.loads,
          down-place i d.unit w.days.units r.daily.units,
        )

    pub laid-reached : Reached (k + d.n) (i + 1) (laid d k i w)
    unfolding laid noted stored
    laid-reached =
        record {
          long =
              record {
                values = simp length-sets r.long.values;
                marks =
                    record {
                      flags = simp length-sets r.long.marks.flags;
                      methods = simp length-sets r.long.marks.methods;
                      reasons = simp length-sets r.long.marks.reasons;
                      starts = simp length-sets r.long.marks.starts;
                      lengths = simp length-sets r.long.marks.lengths;
                    };
              };
          daily =
              record {
                dates = simp length-set r.daily.dates;
                counts = simp length-set r.daily.counts;
                updates = simp length-set r.daily.updates;
                loads = simp length-set r.daily.loads;
                units = simp length-set r.daily.units;
              };
        }

-- ---- days before days

-- none before them
pub front-none : (w : Lent) (t : Turns) → in_front 0 0 (up_to 0 0 w) t ≡ t
front-none w (read d n b) = rw (zero-add d, zero-add n)
front-none w (stopped x) = refl

-- those before them in two parts
pub front-front : (i j k n : ℕ) (a b : Lent) (t : Turns) → in_front i k a (in_front j n b t) ≡ in_front (i + j) (k + n) (joined a b) t
front-front i j k n a b (read d m c) =
    rw (
      add_assoc i j d,
      add_assoc k n m,
      append_assoc a.values b.values c.values,
      append_assoc a.marks.flags b.marks.flags c.marks.flags,
      append_assoc a.marks.methods b.marks.methods c.marks.methods,
      append_assoc a.marks.reasons b.marks.reasons c.marks.reasons,
      append_assoc a.marks.starts b.marks.starts c.marks.starts,
      append_assoc a.marks.lengths b.marks.lengths c.marks.lengths,
      append_assoc a.days.dates b.days.dates c.days.dates,
      append_assoc a.days.counts b.days.counts c.days.counts,
      append_assoc a.days.updates b.days.updates c.days.updates,
      append_assoc a.days.loads b.days.loads c.days.loads,
      append_assoc a.days.units b.days.units c.days.units,
    )
front-front i j k n a b (stopped x) = refl

-- all of them
pub front-all : (i k : ℕ) (w : Lent) → in_front i k (up_to k i w) (read 0 0 (behind k i w)) ≡ read i k w
front-all i k w =
    rw (
      add-zero i,
      add-zero k,
      take-append-drop k w.values,
      take-append-drop k w.marks.flags,
      take-append-drop k w.marks.methods,
      take-append-drop k w.marks.reasons,
      take-append-drop k w.marks.starts,
      take-append-drop k w.marks.lengths,
      take-append-drop i w.days.dates,
      take-append-drop i w.days.counts,
      take-append-drop i w.days.updates,
      take-append-drop i w.days.loads,
      take-append-drop i w.days.units,
    )

-- ---- lists keep their lengths

pub record Alike (w w₀ : Lent) : Type 0 where
  pub values : length w.values ≡ length w₀.values
  pub flags : length w.marks.flags ≡ length w₀.marks.flags
  pub methods : length w.marks.methods ≡ length w₀.marks.methods
  pub reasons : length w.marks.reasons ≡ length w₀.marks.reasons
  pub starts : length w.marks.starts ≡ length w₀.marks.starts
  pub lengths : length w.marks.lengths ≡ length w₀.marks.lengths
  pub dates : length w.days.dates ≡ length w₀.days.dates
  pub counts : length w.days.counts ≡ length w₀.days.counts
  pub updates : length w.days.updates ≡ length w₀.days.updates
  pub loads : length w.days.loads ≡ length w₀.days.loads
  pub units : length w.days.units ≡ length w₀.days.units

pub alike : (w : Lent) → Alike w w
alike w =
    record {
      values = refl;
      flags = refl;
      methods = refl;
      reasons = refl;
      starts = refl;
      lengths = refl;
      dates = refl;
      counts = refl;
      updates = refl;
      loads = refl;
      units = refl;
    }

still : (all : List DayRows) (k i : ℕ) (w w₀ : Lent) → Alike w w₀ → Alike (laid_first all k i w) w₀
unfolding laid noted stored
still [] k i w w₀ a = a
still (d ∷ ds) k i w w₀ a =
    record {
      values = simp length-sets a.values;
      flags = simp length-sets a.flags;
      methods = simp length-sets a.methods;
      reasons = simp length-sets a.reasons;
      starts = simp length-sets a.starts;
      lengths = simp length-sets a.lengths;
      dates = simp length-set a.dates;
      counts = simp length-set a.counts;
      updates = simp length-set a.updates;
      loads = simp length-set a.loads;
      units = simp length-set a.units;
    }

pub still_alike : (all : List DayRows) (k i : ℕ) (w w₁ w₀ : Lent) → Alike w w₀ → w₁ ≡ laid_first all k i w → Alike w₁ w₀
still_alike all k i w w₁ w₀ a e = rw e (still all k i w w₀ a)

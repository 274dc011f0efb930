-- The marks of a day: the walk over its 400s, and the 300's own. Assumes nothing.
use Prim.Native.Nat.{ℕ, ◌+◌, ◌-◌, ◌≤◌, ◌<◌}
use mathlib.Core.Path.{◌≡◌, refl, sym, ap, ◌∙◌}
use mathlib.Core.List.{List, [], ◌∷◌, ◌++◌}
use mathlib.Core.Bool.{Bool, true, false}
use native.Mathlib.Nat.{sub-zero}
use native.Mathlib.Omega.{arith}
use native.Mathlib.Decide.{dec_lt}
use lib.ListN.{length, replicate, length-replicate}
use lib.Dec.{eqb}
use borrow.Author.Tests.{eqb-true, eqb-false, ne_eqb}
use Rattle.ground.specs.Lists.{part}
use Rattle.format.specs.Numbers.{number_in, interval_of}
use Rattle.format.specs.Cut.{fields, field}
use Rattle.format.specs.Records.{kind_in, first_in, last_in}
use Rattle.format.specs.Day.{Row, row_at, Five, runs_from, cover_of, tag_at}
use Rattle.format.specs.declared.Tag.{Tag}
use Rattle.lines.specs.Places.{LineEnd, Cut, Rest}
use Rattle.lines.proofs.Cuts.{rest-first, rest-next}
use Rattle.says.proofs.Fields.{tag-moves}
use Rattle.lines.proofs.Ends.{line-none, line-more, line-room, line-long}
use Rattle.lists.specs.Lists.{stored, Roomy}
use Rattle.lists.proofs.Laws.{stored-append, Even, even-room}
use Rattle.passing.specs.Sound.{covers_from}
use Rattle.passing.proofs.Sound.{Covered, cover-first}
use Rattle.day.specs.Places.{runs_at}
use Rattle.day_marks.specs.Marks.{run_tags, tags_for, is_covered}

-- ---- one 400, where its third field starts at x

module _ (file : List ℕ) (a e x : ℕ) (s : Rest file (fields (part file a e)) a 2 x e) where
  pub run-last : (t : ℕ) → t ≡ number_in (interval_of (field 0 (fields (part file x e)))) → t ≡ last_in (fields (part file a e))
  unfolding last_in
  run-last t h = h ∙ ap (λ (f : List ℕ). number_in (interval_of f)) (rest-first s)

  pub run-tag : (b y : ℕ) (g : Tag) → Cut file x e b y → g ≡ tag_at 400 (row_at y (part file y e)) 0 → g ≡ tag_at 400 (row_at a (part file a e)) 3
  run-tag b y g k h = h ∙ tag-moves file 400 (row_at a (part file a e)) 3 y e (rest-next s k)

-- ---- the 400s at a place, in the terms of a walk: e is where the record at that place ends

module _ (file : List ℕ) (at e : ℕ) (s : LineEnd file at e) where
  runs_none : e ≡ length file → runs_at file at ≡ []
  unfolding runs_from
  runs_none h = rw (line-none file at e s h)

  module _ (go : e ≡ length file → ⊥) where
    behind : at + length (part file at e) + 2 ≡ e + 2
    behind = omega (arith, line-long file at e s, s.order)

    runs-stop : (kind_in (fields (part file at e)) ≡ 400 → ⊥) → runs_at file at ≡ []
    unfolding runs_from
    runs-stop h = rw (line-more file at e s go, ne_eqb _ _ h)

    runs-more : kind_in (fields (part file at e)) ≡ 400 → runs_at file at ≡ row_at at (part file at e) ∷ runs_at file (e + 2)
    unfolding runs_from
    runs-more h = rw (line-more file at e s go, h, behind)

-- what a cover of the intervals behind the first k up to n says of its first 400, of which t is the last
record Turn (file : List ℕ) (at e n k t : ℕ) : Type 0 where
  more : k < t
  most : t ≤ n
  room : e + 2 ≤ length file
  left : covers_from t n (runs_at file (e + 2)) ≡ true
  marks : run_tags (runs_at file at) ≡ replicate (t - k) (tag_at 400 (row_at at (part file at e)) 3) ++ run_tags (runs_at file (e + 2))

module _ (file : List ℕ) (at e n k t : ℕ) (s : LineEnd file at e) (more : k < n)
    (et : t ≡ last_in (fields (part file at e))) (inv : covers_from k n (runs_at file at) ≡ true) where
  not_done : runs_at file at ≡ [] → ⊥
  unfolding covers_from
  not_done q =
      let z : eqb k n ≡ true = rw q at inv in
      let y : k ≡ n = eqb-true k n z in
      omega arith

  found : (e ≡ length file → ⊥) → kind_in (fields (part file at e)) ≡ 400 → Turn file at e n k t
  unfolding run_tags cover_of
  found go is =
      let u = runs-more file at e s go is in
      let v : Covered k n (row_at at (part file at e)) (runs_at file (e + 2)) = cover-first k n _ _ (rw u at inv) in
      let g : last_in (fields (part file at e)) + 1 - first_in (fields (part file at e)) ≡ t - k = omega (arith, v.first, v.order) in
      record {
        more = omega (arith, v.first, v.order);
        most = omega (arith, v.within);
        room = line-room file at e s go;
        left = rw et v.left;
        marks = rw (u, g);
      }

  turn : Turn file at e n k t
  turn = by (dec_lt e (length file))
    where
      kind : (e ≡ length file → ⊥) → (b : Bool) → eqb (kind_in (fields (part file at e))) 400 ≡ b → Turn file at e n k t
      kind go true q = found go (eqb-true _ _ q)
      kind go false q = absurd (not_done (runs-stop file at e s go (eqb-false _ _ q)))

      by : Dec (e < length file) → Turn file at e n k t
      by (yes p) = kind (λ q. omega arith) (eqb (kind_in (fields (part file at e))) 400) refl
      by (no p) = absurd (not_done (runs_none file at e s (omega (arith, s.within))))

  pub turn-order : k ≤ t
  turn-order = omega (arith, turn.more)

  pub turn-less : n - t < n - k
  turn-less = omega (arith, turn.more, turn.most)

  pub turn-most : t ≤ n
  turn-most = turn.most

  pub turn-room : e + 2 ≤ length file
  turn-room = turn.room

  pub turn-left : covers_from t n (runs_at file (e + 2)) ≡ true
  turn-left = turn.left

  -- l₀ are the five lists at the start, l those of now
  pub turn-roomy : (l l₀ : Five) → Even l l₀ → Roomy n l₀ → Roomy t l
  turn-roomy l l₀ v r = even-room v r turn.most

  -- and l₁ those with the mark g put in
  pub turn_on : (l l₁ whole : Five) (g : Tag) → g ≡ tag_at 400 (row_at at (part file at e)) 3 → l₁ ≡ stored l k (replicate (t - k) g)
      → stored l k (run_tags (runs_at file at)) ≡ whole → stored l₁ t (run_tags (runs_at file (e + 2))) ≡ whole
  turn_on l l₁ whole g eg el w =
      let h : k + length (replicate (t - k) g) ≡ t = omega (arith, length-replicate (t - k) g, turn.more) in
      let ys = run_tags (runs_at file (e + 2)) in
      ap (λ (z : Five). stored z t ys) el
      ∙ ap (λ (z : ℕ). stored (stored l k (replicate (t - k) g)) z ys) (sym h)
      ∙ sym (stored-append l k (replicate (t - k) g) ys)
      ∙ ap (λ (z : Tag). stored l k (replicate (t - k) z ++ ys)) eg
      ∙ ap (stored l k) (sym turn.marks)
      ∙ w

-- the end: a cover of nothing has no 400
pub cover-end : (n k : ℕ) (xs : List Row) (l whole : Five) → n ≤ k → k ≤ n → covers_from k n xs ≡ true → stored l k (run_tags xs) ≡ whole → l ≡ whole
unfolding run_tags cover_of stored
cover-end n k [] l whole h g e inv = inv
cover-end n k (x ∷ xs) l whole h g e inv =
    let v = cover-first k n x xs e in
    absurd (let z : ⊥ = omega (arith, v.first, v.order, v.within) in z)

-- ---- the marks of a day whose 300 has the tag t

module _ (t : Tag) (n : ℕ) (xs : List Row) where
  pub covered-v : t.flag ≡ 86 → is_covered t n xs ≡ true → covers_from 0 n xs ≡ true
  unfolding is_covered
  covered-v h s = rw h at s

  pub marks-cover : (l l₁ : Five) → t.flag ≡ 86 → l₁ ≡ stored l 0 (run_tags xs) → l₁ ≡ stored l 0 (tags_for t n xs)
  unfolding tags_for
  marks-cover l l₁ h e = rw h e

  pub marks-own : (l l₁ : Five) → (t.flag ≡ 86 → ⊥) → l₁ ≡ stored l 0 (replicate (n - 0) t) → l₁ ≡ stored l 0 (tags_for t n xs)
  unfolding tags_for
  marks-own l l₁ h e = rw (ne_eqb _ _ h) (rw sub-zero at e)

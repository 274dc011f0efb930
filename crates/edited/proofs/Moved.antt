-- The days of a file by the block of one of them: those before it, its own, and those behind, which are the same wherever they start but for the places of
-- their records. So a reading of one of these leaves the same, but for the starts of descriptions. Assumes nothing.
use Prim.Native.Nat.{ℕ, zero, suc, ◌+◌, ◌-◌, ◌<◌}
use mathlib.Core.Path.{◌≡◌, refl, sym, ap, ap₂, ◌∙◌}
use mathlib.Core.Bool.{true, false, cond, ◌||◌}
use mathlib.Core.List.{List, [], ◌∷◌, ◌++◌, map, map-append}
use native.Mathlib.Omega.{arith}
use lib.ListN.{length, take, drop, replicate, length-append, length-map}
use lib.Seq.{take_at, drop_at}
use lib.Dec.{eqb}
use borrow.Author.Tests.{eqb-true, ne_eqb, le-leb, lt-leb}
use Rattle.ground.proofs.Tests.{and-true}
use Rattle.ground.proofs.Cases.{by}
use Rattle.ground.proofs.Lists.{map-replicate}
use Rattle.format.specs.Cut.{Lines, line, rest, lines, fields, field, start_of}
use Rattle.format.specs.Records.{kind_in, unit_in, intervals_in, first_in, last_in, mark_at}
use Rattle.format.specs.Order.{Due, begun, is_varied}
use Rattle.format.specs.Answers.{Answer, accepted}
use Rattle.format.specs.File.{after, check_of}
use Rattle.format.specs.Day.{Row, row_at, DayRows, runs_from, day_from, days_from, no_channel, days_of, cover_of, each_of, tag_at, tags_of, values_of, Day, marks_of, day_of, Five, Outcome, outcome, over, over_five, room_for, read_into, read_first, after_check, read_of}
use Rattle.format.specs.declared.Tag.{Tag}
use Rattle.format.proofs.Cut.{bytes_of, bytes-lines}
use Rattle.passing.specs.Passes.{Passes, Leads, kinds_of, are_under, Accepted, Counts}
use Rattle.passing.specs.Sound.{is_sound}
use Rattle.passing.proofs.Fit.{fine-fit, head}
use Rattle.passing.proofs.Steps.{runs-end, block_found, days-more}
use Rattle.passing.proofs.Rows.{cover-anywhere}
use Rattle.passing.proofs.Counts.{counts-begun, counted}
use Rattle.passing.proofs.Sound.{sound-each}
use Rattle.passing.proofs.Files.{onto, lines-behind, runs-lines}
use Rattle.passing.proofs.Blocks.{headed, under_one}
use Rattle.passing.proofs.Parts.{Apart, apart-runs}
use Rattle.theorems.specs.Days.{meant}
use Rattle.edited.specs.Edited.{shifted, with_starts}

-- ---- lines behind others

-- the last 200 in these lines, the first of which starts at p; c where there is none
abbrev pub last_head : ℕ → Row → Lines → Row
last_head p c (rest t) = c
last_head p c (line r ls) = last_head (p + length r + 2) (cond (eqb (kind_in (fields r)) 200) (row_at p r) c) ls

days-onto : (a e : Due) (p : ℕ) (c : Row) (ls m : Lines) → Passes a ls e → ((q : ℕ) → runs_from q m ≡ [])
    → days_from p c (onto ls m) ≡ days_from p c ls ++ days_from (p + length (bytes_of ls)) (last_head p c ls) m
unfolding days_from
days-onto a e p c (rest t) m h g = let u : p ≡ p + length t = omega (arith, ap length h.0) in ap (λ (i : ℕ). days_from i c m) u
days-onto a e p c (line r ls) m h g =
    let q : ℕ = p + length r + 2 in
    let u : q + length (bytes_of ls) ≡ p + length (r ++ 13 ∷ 10 ∷ bytes_of ls) = omega (arith, length-append r (13 ∷ 10 ∷ bytes_of ls)) in
    let on : (c' : Row) → days_from q c' (onto ls m) ≡ days_from q c' ls ++ days_from (p + length (r ++ 13 ∷ 10 ∷ bytes_of ls)) (last_head q c' ls) m =
    λ c'. days-onto (after a r) e q c' ls m h.1 g ∙ ap (λ (i : ℕ). days_from q c' ls ++ days_from i (last_head q c' ls) m) u in
    let d : day_from p c r (onto ls m) ≡ day_from p c r ls =
    ap (λ (x : List Row). record { channel = c; block = record { n = intervals_in c.cells; unit = unit_in c.cells; top = row_at p r; runs = x } }) (runs-lines q ls m g) in
    by (eqb (kind_in (fields r)) 300)
    (λ t. let k : kind_in (fields r) ≡ 300 = eqb-true _ _ t in rw k (ap₂ (λ (x : DayRows) (xs : List DayRows). x ∷ xs) d (on c)))
    (λ t. rw t (on (cond (eqb (kind_in (fields r)) 200) (row_at p r) c)))

-- no day among 400s and 500s
under-skip : (a e : Due) (p : ℕ) (c : Row) (ls m : Lines) → are_under (kinds_of ls) ≡ true → Passes a ls e → days_from p c (onto ls m) ≡ days_from (p + length (bytes_of ls)) c m
unfolding days_from
under-skip a e p c (rest t) m b h = let u : p ≡ p + length t = omega (arith, ap length h.0) in ap (λ (i : ℕ). days_from i c m) u
under-skip a e p c (line r ls) m b h =
    let w = and-true (eqb (kind_in (fields r)) 400 || eqb (kind_in (fields r)) 500) (are_under (kinds_of ls)) b in
    let u : p + length r + 2 + length (bytes_of ls) ≡ p + length (r ++ 13 ∷ 10 ∷ bytes_of ls) = omega (arith, length-append r (13 ∷ 10 ∷ bytes_of ls)) in
    let i = under-skip (after a r) e (p + length r + 2) c ls m w.1 h.1 ∙ ap (λ (j : ℕ). days_from j c m) u in
    under_one (kind_in (fields r)) w.0 (λ k. rw k i) (λ k. rw k i)

-- ---- a block in a file

-- the day of a block at p under the 200 c
abbrev pub block_day : (st : Due) (b : List ℕ) → Accepted st b → ℕ → Row → DayRows
block_day st b a p c = day_from p c (headed st b a).first (headed st b a).others

module _ (st : Due) (b : List ℕ) (a : Accepted st b) where
  -- its bytes
  pub block-length : length b ≡ length (headed st b a).first + 2 + length (bytes_of (headed st b a).others)
  block-length =
      let w = headed st b a in
      let e : length b ≡ length (w.first ++ 13 ∷ 10 ∷ bytes_of w.others) = ap length (sym (bytes-lines b)) ∙ ap (λ (ls : Lines). length (bytes_of ls)) w.is in
      omega (arith, length-append w.first (13 ∷ 10 ∷ bytes_of w.others))

  module _ (m : Lines) (g : (q : ℕ) → runs_from q m ≡ []) where
    block_runs : (q : ℕ) → runs_from q (onto (lines b) m) ≡ []
    block_runs q =
        let w = headed st b a in
        ap (λ (ls : Lines). runs_from q (onto ls m)) w.is ∙ runs-end q w.first (onto w.others m) (λ z. let e : 300 ≡ 400 = sym w.kind ∙ z in omega arith)

    block-days : (p : ℕ) (c : Row) → days_from p c (onto (lines b) m) ≡ block_day st b a p c ∷ days_from (p + length b) c m
    block-days p c =
        let w = headed st b a in
        let q : ℕ = p + length w.first + 2 in
        let u : q + length (bytes_of w.others) ≡ p + length b = omega (arith, block-length) in
        ap (λ (ls : Lines). days_from p c (onto ls m)) w.is
        ∙ days-more p w.first (onto w.others m) c w.kind
        ∙ ap₂ (λ (x : List Row) (xs : List DayRows). record { channel = c; block = record { n = intervals_in c.cells; unit = unit_in c.cells; top = row_at p w.first; runs = x } } ∷ xs)
        (runs-lines q w.others m g)
        (under-skip (after st w.first) a.end q c w.others m w.under w.passes ∙ ap (λ (i : ℕ). days_from i c m) u)

-- so many days
days-count : (a e : Due) (p : ℕ) (c : Row) (ls : Lines) → Passes a ls e → Counts a → a.days + length (days_from p c ls) ≡ e.days
unfolding days_from
days-count a e p c (rest t) h n = let z : a.days ≡ e.days = ap (λ (s : Due). s.days) h.1 in omega arith
days-count a e p c (line r ls) h n =
    let s = counted a (kind_in (fields r)) (fields r) n (head _ _ (fine-fit a r h.0).may) in
    by (eqb (kind_in (fields r)) 300)
    (λ t.
    let x : (after a r).days ≡ a.days + 1 = rw t at s.days in
    let i = days-count (after a r) e (p + length r + 2) c ls h.1 s.counts in
    rw t (omega arith))
    (λ t.
    let x : (after a r).days ≡ a.days = rw t at s.days in
    let i = days-count (after a r) e (p + length r + 2) (cond (eqb (kind_in (fields r)) 200) (row_at p r) c) ls h.1 s.counts in
    rw t (omega arith))

-- the days of a file by the block b behind `before`
module _ (before behind : List ℕ) (st : Due) (h : Leads before st) (o : Apart (lines behind)) where
  abbrev pub head_there : Row
  head_there = last_head 0 no_channel (lines before)

  pub days-before : length (days_of before) ≡ st.days
  unfolding days_of
  days-before = let i = days-count begun st 0 no_channel (lines before) h counts-begun in omega arith

  pub days-by : (b : List ℕ) (a : Accepted st b)
      → days_of (before ++ (b ++ behind)) ≡ days_of before ++ (block_day st b a (length before) head_there ∷ days_from (length before + length b) head_there (lines behind))
  unfolding days_of
  days-by b a =
      let p : 0 + length (bytes_of (lines before)) ≡ length before = omega (arith, ap length (bytes-lines before)) in
      let m : Lines = onto (lines b) (lines behind) in
      let g = apart-runs (lines behind) o in
      ap (days_from 0 no_channel) (lines-behind begun st before (b ++ behind) h ∙ ap (onto (lines before)) (lines-behind st a.end b behind a.passes))
      ∙ days-onto begun st 0 no_channel (lines before) m h (block_runs st b a (lines behind) g)
      ∙ ap (λ (xs : List DayRows). days_from 0 no_channel (lines before) ++ xs) (ap (λ (i : ℕ). days_from i head_there m) p ∙ block-days st b a (lines behind) g (length before) head_there)

-- ---- other places

-- days from e on, and from b on
module _ (e b : ℕ) where
  abbrev pub moved_tag : Tag → Tag
  moved_tag t = record { flag = t.flag; method = t.method; reason = t.reason; start = shifted e b t.start; length = t.length }

  -- a day at other places
  pub record Moved (x y : DayRows) : Type 0 where
    pub same : meant y ≡ meant x
    pub tags : tags_of y.block ≡ map moved_tag (tags_of x.block)

  abbrev pub EachMoved : List DayRows → List DayRows → Type 0
  EachMoved [] [] = Unit {0}
  EachMoved [] (y ∷ ys) = ⊥
  EachMoved (x ∷ xs) [] = ⊥
  EachMoved (x ∷ xs) (y ∷ ys) = Moved x y × EachMoved xs ys

  shifted-on : (i : ℕ) → b + i ≡ shifted e b (e + i)
  shifted-on i = rw (le-leb e (e + i) (omega arith)) (omega arith)

  module _ (some : 0 < e) where
    start-moved : (f : List ℕ) (k s : ℕ) → cond (eqb (length f) 0) 0 (b + k + s) ≡ shifted e b (cond (eqb (length f) 0) 0 (e + k + s))
    start-moved [] k s = rw (lt-leb e 0 some)
    start-moved (x ∷ f) k s =
        let u : b + k + s ≡ b + (k + s) = omega arith in
        let v : e + (k + s) ≡ e + k + s = omega arith in
        rw (ne_eqb (length (x ∷ f)) 0 (λ z. omega arith)) (u ∙ shifted-on (k + s) ∙ ap (shifted e b) v)

    tag-moved : (j k i : ℕ) (r : List ℕ) → tag_at j (row_at (b + k) r) i ≡ moved_tag (tag_at j (row_at (e + k) r) i)
    unfolding tag_at
    tag-moved j k i r =
        ap (λ (s : ℕ). record { flag = (tag_at j (row_at k r) i).flag; method = (tag_at j (row_at k r) i).method; reason = (tag_at j (row_at k r) i).reason; start = s; length = (tag_at j (row_at k r) i).length })
        (start-moved (field (i + 2) (fields r)) k (start_of (i + 2) (fields r)))

    cover-moved : (k : ℕ) (ls : Lines) → cover_of (λ x. tag_at 400 x 3) (runs_from (b + k) ls) ≡ map moved_tag (cover_of (λ x. tag_at 400 x 3) (runs_from (e + k) ls))
    unfolding runs_from cover_of
    cover-moved k (rest t) = refl
    cover-moved k (line r ls) =
        let i : ℕ = last_in (fields r) + 1 - first_in (fields r) in
        let u : b + k + length r + 2 ≡ b + (k + length r + 2) = omega arith in
        let v : e + (k + length r + 2) ≡ e + k + length r + 2 = omega arith in
        let f : ℕ → List Tag = λ q. cover_of (λ x. tag_at 400 x 3) (runs_from q ls) in
        by (eqb (kind_in (fields r)) 400)
        (λ t. rw t
        (ap₂ (λ (x y : List Tag). x ++ y)
        (ap (replicate i) (tag-moved 400 k 3 r) ∙ sym (map-replicate moved_tag i (tag_at 400 (row_at (e + k) r) 3)))
        (ap f u ∙ cover-moved (k + length r + 2) ls ∙ ap (λ (q : ℕ). map moved_tag (f q)) v)
        ∙ sym (map-append moved_tag (replicate i (tag_at 400 (row_at (e + k) r) 3)) (f (e + k + length r + 2)))))
        (λ t. rw t)

    block-moved : (k n u : ℕ) (r : List ℕ) (ls : Lines) → tags_of (block_found (b + k) r ls n u) ≡ map moved_tag (tags_of (block_found (e + k) r ls n u))
    unfolding tags_of each_of
    block-moved k n u r ls =
        let x : b + k + length r + 2 ≡ b + (k + length r + 2) = omega arith in
        let y : e + (k + length r + 2) ≡ e + k + length r + 2 = omega arith in
        let f : ℕ → List Tag = λ q. cover_of (λ x. tag_at 400 x 3) (runs_from q ls) in
        by (is_varied n (fields r))
        (λ t. rw t (ap f x ∙ cover-moved (k + length r + 2) ls ∙ ap (λ (q : ℕ). map moved_tag (f q)) y))
        (λ t. rw t (ap (replicate n) (tag-moved 300 k (n + 2) r) ∙ sym (map-replicate moved_tag n (tag_at 300 (row_at (e + k) r) (n + 2)))))

-- what a day means doesn't go by its places
day-means : (p q n u : ℕ) (r : List ℕ) (ls : Lines) → day_of (block_found p r ls n u) ≡ day_of (block_found q r ls n u)
unfolding day_of marks_of each_of values_of
day-means p q n u r ls =
    by (is_varied n (fields r))
    (λ t. rw t (rw (cover-anywhere (λ fs. mark_at 400 3 fs) (p + length r + 2) (q + length r + 2) ls)))
    (λ t. rw t)

-- what a reading of the day x leaves, where it says these of the intervals
told : Day → List Tag → List ℕ → Five → Outcome
told x ts vs ms = outcome (accepted (x.date ∷ x.n ∷ x.update ∷ x.load ∷ x.unit ∷ [])) (over x.values vs) (over_five ts ms)

module _ (e b : ℕ) (some : 0 < e) where
  pub days-moved : (k : ℕ) (c c' : Row) (ls : Lines) → c'.cells ≡ c.cells → EachMoved e b (days_from (e + k) c ls) (days_from (b + k) c' ls)
  unfolding days_from
  days-moved k c c' (rest t) q = tt
  days-moved k c c' (line r ls) q =
      let i : ℕ = k + length r + 2 in
      let u : b + k + length r + 2 ≡ b + i = omega arith in
      let v : e + k + length r + 2 ≡ e + i = omega arith in
      let on : (x y : Row) → y.cells ≡ x.cells → EachMoved e b (days_from (e + k + length r + 2) x ls) (days_from (b + k + length r + 2) y ls) =
      λ x y z. rw (u, v) (days-moved i x y ls z) in
      let d : Moved e b (day_from (e + k) c r ls) (day_from (b + k) c' r ls) =
      record {
        same = rw q (day-means (b + k) (e + k) (intervals_in c.cells) (unit_in c.cells) r ls);
        tags = rw q (block-moved e b some k (intervals_in c.cells) (unit_in c.cells) r ls);
      } in
      by (eqb (kind_in (fields r)) 300)
      (λ t. rw t (d, on c c' q))
      (λ t. by (eqb (kind_in (fields r)) 200)
      (λ s. rw (t, s) (on (row_at (e + k) r) (row_at (b + k) r) refl))
      (λ s. rw (t, s) (on c c' q)))

  -- ---- lists of days

  pub same-moved : (xs ys : List DayRows) → EachMoved e b xs ys → map meant ys ≡ map meant xs
  same-moved [] [] h = refl
  same-moved [] (y ∷ ys) h = absurd h
  same-moved (x ∷ xs) [] h = absurd h
  same-moved (x ∷ xs) (y ∷ ys) h = ap₂ (λ (d : Day) (ds : List Day). d ∷ ds) h.0.same (same-moved xs ys h.1)

  pub drop-moved : (k : ℕ) (xs ys : List DayRows) → EachMoved e b xs ys → EachMoved e b (drop k xs) (drop k ys)
  drop-moved zero xs ys h = h
  drop-moved (suc k) [] [] h = h
  drop-moved (suc k) [] (y ∷ ys) h = absurd h
  drop-moved (suc k) (x ∷ xs) [] h = absurd h
  drop-moved (suc k) (x ∷ xs) (y ∷ ys) h = drop-moved k xs ys h.1

  -- ---- readings

  map-moved : {X : Type 0} (f : Tag → X) (g : Tag → X) → ((t : Tag) → f (moved_tag e b t) ≡ g t) → (ts : List Tag) → map f (map (moved_tag e b) ts) ≡ map g ts
  map-moved f g h [] = refl
  map-moved {X} f g h (t ∷ ts) = ap₂ (λ (x : X) (xs : List X). x ∷ xs) (h t) (map-moved f g h ts)

  told_moved : (x : Day) (ts : List Tag) (vs : List ℕ) (ms : Five) → length ts ≡ x.n → told x (map (moved_tag e b) ts) vs ms ≡ with_starts (shifted e b) (told x ts vs ms)
  unfolding told over_five
  told_moved x ts vs ms l =
      let xs : List ℕ = map (λ (t : Tag). t.start) ts in
      let i : length xs ≡ x.n = length-map ts (λ (t : Tag). t.start) ∙ l in
      let m : map (λ (t : Tag). t.start) (map (moved_tag e b) ts) ≡ map (shifted e b) xs = starts ts in
      let j : length (map (shifted e b) xs) ≡ length xs = length-map xs (shifted e b) in
      let s : over (map (λ (t : Tag). t.start) (map (moved_tag e b) ts)) ms.starts
      ≡ map (shifted e b) (take x.n (over xs ms.starts)) ++ drop x.n (over xs ms.starts) =
      rw (m, j, take_at xs (drop (length xs) ms.starts) x.n i, drop_at xs (drop (length xs) ms.starts) x.n i) in
      rw (
        map-moved (λ (t : Tag). t.flag) (λ (t : Tag). t.flag) (λ t. refl) ts,
        map-moved (λ (t : Tag). t.method) (λ (t : Tag). t.method) (λ t. refl) ts,
        map-moved (λ (t : Tag). t.reason) (λ (t : Tag). t.reason) (λ t. refl) ts,
        map-moved (λ (t : Tag). t.length) (λ (t : Tag). t.length) (λ t. refl) ts,
        s,
      )
    where
      starts : (ts : List Tag) → map (λ (t : Tag). t.start) (map (moved_tag e b) ts) ≡ map (shifted e b) (map (λ (t : Tag). t.start) ts)
      starts [] = refl
      starts (t ∷ ts) = ap (λ (xs : List ℕ). shifted e b t.start ∷ xs) (starts ts)

  pub first-moved : (xs ys : List DayRows) → EachMoved e b xs ys → ((x : DayRows) (others : List DayRows) → xs ≡ x ∷ others → is_sound x.block ≡ true) → (vs : List ℕ) (ms : Five)
      → read_first ys vs ms ≡ with_starts (shifted e b) (read_first xs vs ms)
  unfolding read_into day_of told tags_of
  first-moved [] [] h g vs ms = refl
  first-moved [] (y ∷ ys) h g vs ms = absurd h
  first-moved (x ∷ xs) [] h g vs ms = absurd h
  first-moved (x ∷ xs) (y ∷ ys) h g vs ms =
      let d : Day = meant x in
      let ts : List Tag = tags_of x.block in
      let n : y.block.n ≡ x.block.n = ap (λ (z : Day). z.n) h.0.same in
      let l : length ts ≡ x.block.n = sound-each x.block (g x xs refl) tag_at in
      let q : told (meant y) (tags_of y.block) vs ms ≡ with_starts (shifted e b) (told d ts vs ms) =
      ap₂ (λ (z : Day) (us : List Tag). told z us vs ms) h.0.same h.0.tags ∙ told_moved d ts vs ms l in
      by (room_for x.block.n vs ms)
      (λ t. let s : room_for y.block.n vs ms ≡ true = ap (λ (i : ℕ). room_for i vs ms) n ∙ t in rw (t, s) q)
      (λ t. let s : room_for y.block.n vs ms ≡ false = ap (λ (i : ℕ). room_for i vs ms) n ∙ t in rw (t, s))

-- where the first is the same, whatever is behind
pub first-before : (k : ℕ) (xs ys zs : List DayRows) → k < length xs → (vs : List ℕ) (ms : Five) → read_first (drop k (xs ++ ys)) vs ms ≡ read_first (drop k (xs ++ zs)) vs ms
first-before k [] ys zs h vs ms = absurd (let z : ⊥ = omega arith in z)
first-before zero (x ∷ xs) ys zs h vs ms = refl
first-before (suc k) (x ∷ xs) ys zs h vs ms = first-before k xs ys zs (omega arith) vs ms

-- a reading of an accepted file
pub read-first : (file xs : List ℕ) (k : ℕ) (vs : List ℕ) (ms : Five) → check_of file ≡ accepted xs → read_of file k vs ms ≡ read_first (drop k (days_of file)) vs ms
unfolding read_of
read-first file xs k vs ms e = ap (λ (a : Answer). after_check a (read_first (drop k (days_of file)) vs ms) vs ms) e

-- What the days of a file in the format mean, by its grammar: the same at every place, as many days and channels as the check answers, n values and n marks, each
-- interval with the mark of the record that names it. Assumes nothing.
use Prim.Native.Nat.{ℕ, suc, ◌+◌, ◌-◌, ◌≤◌, ◌<◌}
use mathlib.Core.Path.{◌≡◌, refl, sym, ap, ◌∙◌}
use mathlib.Core.Bool.{true, false}
use mathlib.Core.List.{List, [], ◌∷◌, ◌++◌, map, map-append}
use native.Mathlib.Omega.{arith}
use lib.ListN.{length, get_or, take, drop, replicate, length-append, length-take, length-drop, length-map, length-replicate, get_or-replicate, get_or-append}
use lib.Seq.{get_or-append-add}
use Rattle.ground.specs.Lists.{sum}
use Rattle.ground.proofs.Cases.{by}
use Rattle.format.specs.Cut.{lines}
use Rattle.format.specs.Quality.{Mark, no_mark}
use Rattle.format.specs.Records.{scale, row_of, unit_in, intervals_in, millionths, values_in, first_in, last_in, mark_at, mark_in}
use Rattle.format.specs.Order.{is_varied}
use Rattle.format.specs.Day.{Row, days_of, cover_of, each_of, values_of, marks_of, day_of}
use Rattle.format.specs.Total.{totals_from}
use Rattle.theorems.specs.Grammar.{Each, Record, join, Block, Covers, Marked, IsBlock, Channel, Reading, Content, nem12, nem13, channels_in, blocks_in, days_in, InFormat}
use Rattle.theorems.specs.Days.{behind, record_at, rows_at, rows_of, block_at, block_days, behind_blocks, channel_days, content_days, day_in, meant, block_meanings, channel_meanings, meanings, channel_values, reading_values, totals}
use Rattle.theorems.proofs.Lists.{each_at}
use Rattle.theorems.proofs.Rows.{meets-length}
use Rattle.theorems.proofs.Days.{days, channel-totals}
use Rattle.theorems.proofs.Once.{row-length}

-- ---- a day means the same at every place

abbrev marked : Row → Mark
marked x = mark_in x.cells

cover-anywhere : (p q : ℕ) (rs : List Record) → cover_of marked (rows_at p rs) ≡ cover_of marked (rows_at q rs)
unfolding cover_of
cover-anywhere p q [] = refl
cover-anywhere p q (r ∷ rs) =
    ap (λ (ms : List Mark). replicate (last_in r + 1 - first_in r) (mark_in r) ++ ms) (cover-anywhere (p + length (join r) + 2) (q + length (join r) + 2) rs)

pub day-anywhere : (p n u : ℕ) (b : Block) → day_of (block_at p n u b) ≡ day_in n u b
unfolding day_in day_of marks_of each_of values_of
day-anywhere p n u b = rw (cover-anywhere (p + length (join b.top) + 2) (0 + length (join b.top) + 2) b.runs)

block-meanings : (p : ℕ) (c : Row) (bs : List Block) → map meant (block_days p c bs) ≡ block_meanings (intervals_in c.cells) (unit_in c.cells) bs
block-meanings p c [] = refl
block-meanings p c (b ∷ bs) = rw (day-anywhere p (intervals_in c.cells) (unit_in c.cells) b, block-meanings (behind p (rows_of b)) c bs)

channel-meanings : (p : ℕ) (cs : List Channel) → map meant (channel_days p cs) ≡ channel_meanings cs
channel-meanings p [] = refl
channel-meanings p (c ∷ cs) =
    let q : ℕ = p + length (join c.head) + 2 in
    let n : Row = record_at p c.head in
    map-append meant (block_days q n c.blocks) (channel_days (behind_blocks q c.blocks) cs)
    ∙ rw (block-meanings q n c.blocks, channel-meanings (behind_blocks q c.blocks) cs)

content-meanings : (p : ℕ) (x : Content) → map meant (content_days p x) ≡ meanings x
content-meanings p (nem12 cs) = channel-meanings p cs
content-meanings p (nem13 rs) = refl

-- the days of a file mean what the blocks of its structure mean, in order
pub meaning : (file : List ℕ) (v c d : ℕ) (h : InFormat file v c d) → map meant (days_of file) ≡ meanings h.content
meaning file v c d h = ap (map meant) (days file v c d h) ∙ content-meanings (length (join h.header) + 2) h.content

-- ---- as many as the check answers

block-count : (p : ℕ) (c : Row) (bs : List Block) → length (block_days p c bs) ≡ length bs
block-count p c [] = refl
block-count p c (b ∷ bs) = ap suc (block-count (behind p (rows_of b)) c bs)

channel-count : (p : ℕ) (cs : List Channel) → length (channel_days p cs) ≡ blocks_in cs
channel-count p [] = refl
channel-count p (c ∷ cs) =
    let q : ℕ = p + length (join c.head) + 2 in
    let n : Row = record_at p c.head in
    let ds = block_days q n c.blocks in
    let es = channel_days (behind_blocks q c.blocks) cs in
    omega (arith, length-append ds es, block-count q n c.blocks, channel-count (behind_blocks q c.blocks) cs)

content-count : (p : ℕ) (x : Content) → length (content_days p x) ≡ days_in x
content-count p (nem12 cs) = channel-count p cs
content-count p (nem13 rs) = refl

pub day-count : (file : List ℕ) (v c d : ℕ) → InFormat file v c d → length (days_of file) ≡ d
day-count file v c d h = ap length (days file v c d h) ∙ content-count (length (join h.header) + 2) h.content ∙ sym h.days

totals-count : (x : Content) → length (totals x) ≡ channels_in x
totals-count (nem12 cs) = go cs
  where
    go : (cs : List Channel) → length (map sum (channel_values cs)) ≡ length cs
    go [] = refl
    go (c ∷ cs) = ap suc (go cs)
totals-count (nem13 rs) = go rs
  where
    go : (rs : List Reading) → length (map sum (reading_values rs)) ≡ length rs
    go [] = refl
    go (r ∷ rs) = ap suc (go rs)

pub total-count : (file : List ℕ) (v c d : ℕ) → InFormat file v c d → length (totals_from (lines file)) ≡ c
total-count file v c d h = ap length (channel-totals file v c d h) ∙ totals-count h.content ∙ sym h.channels

-- ---- every interval has its value and its mark

module _ (n d u : ℕ) (b : Block) (h : IsBlock n d b) where
  pub value-count : length (day_in n u b).values ≡ n
  unfolding day_in day_of values_of values_in
  value-count =
      let fs : Record = b.top in
      length-map (take n (drop 2 fs)) millionths
      ∙ omega (arith, length-take n (drop 2 fs), length-drop 2 fs, meets-length 300 (row_of 300 (scale n d)) fs h.top.meets, row-length (scale n d))

  -- the marks of a 300 that is not V are its own
  pub uniform-marks : is_varied n b.top ≡ false → (day_in n u b).marks ≡ replicate n (mark_at 300 (n + 2) b.top)
  unfolding day_in day_of marks_of each_of
  uniform-marks e = rw e

  pub varied-marks : is_varied n b.top ≡ true → (day_in n u b).marks ≡ cover_of marked (rows_at 0 b.runs)
  unfolding day_in day_of marks_of each_of
  varied-marks e = rw e (cover-anywhere (0 + length (join b.top) + 2) 0 b.runs)

cover-count : (n a p : ℕ) (rs : List Record) → Covers n a rs → a + length (cover_of marked (rows_at p rs)) ≡ n + 1
unfolding cover_of
cover-count n a p [] c = omega arith
cover-count n a p (r ∷ rs) c =
    let q : ℕ = p + length (join r) + 2 in
    let m : ℕ = last_in r + 1 - first_in r in
    let e = c.0 in
    let l = c.1 in
    omega (arith, length-append (replicate m (mark_in r)) (cover_of marked (rows_at q rs)), length-replicate m (mark_in r), cover-count n (last_in r + 1) q rs c.3)

pub mark-count : (n d u : ℕ) (b : Block) → IsBlock n d b → length (day_in n u b).marks ≡ n
mark-count n d u b h =
    by (is_varied n b.top)
    (λ e. ap length (varied-marks n d u b h e) ∙ (let w = cover-count n 1 0 b.runs (h.covers e) in omega arith))
    (λ e. ap length (uniform-marks n d u b h e) ∙ length-replicate n (mark_at 300 (n + 2) b.top))

-- of these 400s, each gives its mark to the intervals from its first to its last, where ms has the marks from interval a on
abbrev pub Gives : ℕ → List Mark → List Record → Type 0
Gives a ms rs = Each (λ r. (i : ℕ) → first_in r ≤ i → i ≤ last_in r → get_or ms (i - a) no_mark ≡ mark_in r) rs

low : (n a : ℕ) (rs : List Record) → Covers n a rs → Each (λ r. a ≤ first_in r) rs
low n a [] c = tt
low n a (r ∷ rs) c = let e = c.0 in let l = c.1 in (omega arith, weaken rs (low n (last_in r + 1) rs c.3))
  where
    weaken : (us : List Record) → Each (λ u. last_in r + 1 ≤ first_in u) us → Each (λ u. a ≤ first_in u) us
    weaken [] h = tt
    weaken (u ∷ us) h = let x : last_in r + 1 ≤ first_in u = h.0 in let e = c.0 in let l = c.1 in (omega arith, weaken us h.1)

-- behind m more marks
further : (a s : ℕ) (ms ns : List Mark) (rs : List Record) → a + length ms ≡ s → Each (λ r. s ≤ first_in r) rs → Gives s ns rs → Gives a (ms ++ ns) rs
further a s ms ns [] e l h = tt
further a s ms ns (r ∷ rs) e l h = (
  λ i lo hi. (let x : s ≤ first_in r = l.0 in let z : i - a ≡ length ms + (i - s) = omega arith in rw z (get_or-append-add ms ns (i - s) no_mark ∙ h.0 i lo hi)),
  further a s ms ns rs e l.1 h.1,
)

cover-gives : (n a p : ℕ) (rs : List Record) → Covers n a rs → Gives a (cover_of marked (rows_at p rs)) rs
unfolding cover_of
cover-gives n a p [] c = tt
cover-gives n a p (r ∷ rs) c =
    let q : ℕ = p + length (join r) + 2 in
    let m : ℕ = last_in r + 1 - first_in r in
    let e : first_in r ≡ a = c.0 in
    let l : first_in r ≤ last_in r = c.1 in
    let ms : List Mark = replicate m (mark_in r) in
    let k : length ms ≡ m = length-replicate m (mark_in r) in (
      λ i lo hi. (let z : i - a < m = omega arith in get_or-append ms (cover_of marked (rows_at q rs)) no_mark (i - a) (omega arith) ∙ get_or-replicate m (i - a) (mark_in r) no_mark z),
      further a (last_in r + 1) ms (cover_of marked (rows_at q rs)) rs (omega arith) (low n (last_in r + 1) rs c.3) (cover-gives n (last_in r + 1) q rs c.3),
    )

-- on a V day, each 400 gives its mark to the intervals from its first to its last (they count from 1)
pub interval-marks : (n d u : ℕ) (b : Block) → IsBlock n d b → is_varied n b.top ≡ true → Gives 1 (day_in n u b).marks b.runs
interval-marks n d u b h e = rw (varied-marks n d u b h e) (cover-gives n 1 0 b.runs (h.covers e))

-- ---- a V day has two intervals with different marks

pub unlike-intervals : (n d u : ℕ) (b : Block) → IsBlock n d b → is_varied n b.top ≡ true → (m : Mark) → Each (λ x. x ≡ m) (day_in n u b).marks → ⊥
unlike-intervals n d u b h e m all = h.unlike e (m, go 1 b.runs (omega arith) (h.covers e) (interval-marks n d u b h e))
  where
    go : (a : ℕ) (rs : List Record) → 1 ≤ a → Covers n a rs → Gives 1 (day_in n u b).marks rs → Marked m rs
    go a [] l c g = tt
    go a (r ∷ rs) l c g =
        let x : first_in r ≡ a = c.0 in
        let y : first_in r ≤ last_in r = c.1 in
        let z : last_in r ≤ n = c.2 in
        let i : first_in r - 1 < length (day_in n u b).marks = omega (arith, mark-count n d u b h) in
        (sym (g.0 (first_in r) (omega arith) y) ∙ each_at (λ x. x ≡ m) no_mark (day_in n u b).marks (first_in r - 1) all i, go (last_in r + 1) rs (omega arith) c.3 g.1)

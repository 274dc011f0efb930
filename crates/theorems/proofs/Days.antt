-- The days that the lines of a file in the format show are those of its grammar, in order and with their places; and so are the channels' totals. Assumes nothing.
use Prim.Native.Nat.{ℕ, ◌+◌}
use mathlib.Core.Path.{◌≡◌, refl, sym, ap, ap₂, ◌∙◌}
use mathlib.Core.List.{List, [], ◌∷◌, ◌++◌, map}
use native.Mathlib.Nat.{add-zero}
use native.Mathlib.Omega.{arith}
use lib.ListN.{length}
use borrow.Author.Tests.{eq-eqb, ne_eqb}
use Rattle.ground.specs.Lists.{sum}
use Rattle.ground.proofs.Lists.{sum-append}
use Rattle.format.specs.Cut.{line, lines, fields}
use Rattle.format.specs.Records.{unit_in, decimals_in, intervals_in, date_in, values_in, quantity_in}
use Rattle.format.specs.Day.{Row, DayRows, runs_from, days_from, no_channel, days_of}
use Rattle.format.specs.Total.{sum_from, totals_from}
use Rattle.passing.proofs.Files.{lines-row}
use Rattle.theorems.specs.Grammar.{Each, Record, join, text, IsRecord, Block, Extra, IsBlock, Channel, IsChannel, Reading, IsReading, Content, nem12, nem13, IsContent, blocks_then, channels_then, readings_then, content_then, InFormat}
use Rattle.theorems.specs.Days.{behind, record_at, rows_at, block_days, behind_blocks, channel_days, content_days, block_values, channel_values, reading_values, totals}
use Rattle.theorems.proofs.Rows.{record-fields}
use Rattle.theorems.proofs.Takes.{fields-of}

-- ---- one record

abbrev Runs : ℕ → List Record → List Row
Runs p rows = runs_from p (lines (text rows))

abbrev Days : ℕ → Row → List Record → List DayRows
Days p c rows = days_from p c (lines (text rows))

abbrev Sum : ℕ → List Record → ℕ
Sum n rows = sum_from n (lines (text rows))

abbrev Totals : List Record → List ℕ
Totals rows = totals_from (lines (text rows))

module _ (fs : Record) (rows : List Record) (p k n d : ℕ) (h : IsRecord k n d fs) where
  row-lines : lines (text (fs ∷ rows)) ≡ line (join fs) (lines (text rows))
  unfolding text
  row-lines = lines-row (join fs) (text rows) (fields-of fs (record-fields k n d fs h)).1

  row-cells : fields (join fs) ≡ fs
  row-cells = (fields-of fs (record-fields k n d fs h)).0

  run_on : k ≡ 400 → Runs p (fs ∷ rows) ≡ record_at p fs ∷ Runs (p + length (join fs) + 2) rows
  unfolding runs_from
  run_on z = rw (row-lines, row-cells, h.indicator, eq-eqb _ _ z)

  run-stop : (k ≡ 400 → ⊥) → Runs p (fs ∷ rows) ≡ []
  unfolding runs_from
  run-stop z = rw (row-lines, row-cells, h.indicator, ne_eqb _ _ z)

  day-on : (c : Row) → k ≡ 300 → Days p c (fs ∷ rows)
      ≡ record { channel = c; block = record { n = intervals_in c.cells; unit = unit_in c.cells; top = record_at p fs; runs = Runs (p + length (join fs) + 2) rows } }
      ∷ Days (p + length (join fs) + 2) c rows
  unfolding days_from
  day-on c z = rw (row-lines, row-cells, h.indicator, eq-eqb _ _ z)

  day-skip : (c : Row) → (k ≡ 300 → ⊥) → (k ≡ 200 → ⊥) → Days p c (fs ∷ rows) ≡ Days (p + length (join fs) + 2) c rows
  unfolding days_from
  day-skip c z y = rw (row-lines, row-cells, h.indicator, ne_eqb _ _ z, ne_eqb _ _ y)

  day-channel : (c : Row) → k ≡ 200 → Days p c (fs ∷ rows) ≡ Days (p + length (join fs) + 2) (record_at p fs) rows
  unfolding days_from
  day-channel c z = rw (row-lines, row-cells, h.indicator, ne_eqb k 300 (λ y. omega arith), eq-eqb _ _ z)

  sum-on : (m : ℕ) → k ≡ 300 → Sum m (fs ∷ rows) ≡ sum (values_in m fs) + Sum m rows
  unfolding sum_from
  sum-on m z = rw (row-lines, row-cells, h.indicator, ne_eqb k 200 (λ y. omega arith), eq-eqb _ _ z)

  sum-skip : (m : ℕ) → (k ≡ 300 → ⊥) → (k ≡ 200 → ⊥) → Sum m (fs ∷ rows) ≡ Sum m rows
  unfolding sum_from
  sum-skip m z y = rw (row-lines, row-cells, h.indicator, ne_eqb _ _ y, ne_eqb _ _ z)

  sum-stop : (m : ℕ) → k ≡ 200 → Sum m (fs ∷ rows) ≡ 0
  unfolding sum_from
  sum-stop m z = rw (row-lines, row-cells, h.indicator, eq-eqb _ _ z)

  total-200 : k ≡ 200 → Totals (fs ∷ rows) ≡ Sum (intervals_in fs) rows ∷ Totals rows
  unfolding totals_from
  total-200 z = rw (row-lines, row-cells, h.indicator, eq-eqb _ _ z)

  total-250 : k ≡ 250 → Totals (fs ∷ rows) ≡ quantity_in fs ∷ Totals rows
  unfolding totals_from
  total-250 z = rw (row-lines, row-cells, h.indicator, ne_eqb k 200 (λ y. omega arith), eq-eqb _ _ z)

  total-skip : (k ≡ 200 → ⊥) → (k ≡ 250 → ⊥) → Totals (fs ∷ rows) ≡ Totals rows
  unfolding totals_from
  total-skip z y = rw (row-lines, row-cells, h.indicator, ne_eqb _ _ z, ne_eqb _ _ y)

-- ---- lists

pub behind-append : (p : ℕ) (rs xs : List Record) → behind p (rs ++ xs) ≡ behind (behind p rs) xs
behind-append p [] xs = refl
behind-append p (r ∷ rs) xs = behind-append (p + length (join r) + 2) rs xs

runs_of : (p : ℕ) (rs rows : List Record) → Each (IsRecord 400 0 0) rs → ((q : ℕ) → Runs q rows ≡ []) → Runs p (rs ++ rows) ≡ rows_at p rs
runs_of p [] rows h s = s p
runs_of p (r ∷ rs) rows h s =
    run_on r (rs ++ rows) p 400 0 0 h.0 refl ∙ ap (λ (x : List Row). record_at p r ∷ x) (runs_of (p + length (join r) + 2) rs rows h.1 s)

-- records of a kind that says nothing of days
skip-days : (p k : ℕ) (c : Row) (rs rows : List Record) → (k ≡ 300 → ⊥) → (k ≡ 200 → ⊥) → Each (IsRecord k 0 0) rs → Days p c (rs ++ rows) ≡ Days (behind p rs) c rows
skip-days p k c [] rows y z h = refl
skip-days p k c (r ∷ rs) rows y z h = day-skip r (rs ++ rows) p k 0 0 h.0 c y z ∙ skip-days (p + length (join r) + 2) k c rs rows y z h.1

pub extras-500 : (t : ℕ) (xs : List Record) → Each (Extra t) xs → Each (IsRecord 500 0 0) xs
extras-500 t [] h = tt
extras-500 t (x ∷ xs) h = (h.0.0, extras-500 t xs h.1)

-- no 400 comes first
stop-extras : (t : ℕ) (xs rows : List Record) → Each (Extra t) xs → ((q : ℕ) → Runs q rows ≡ []) → (q : ℕ) → Runs q (xs ++ rows) ≡ []
stop-extras t [] rows h s q = s q
stop-extras t (x ∷ xs) rows h s q = run-stop x (xs ++ rows) q 500 0 0 h.0.0 (λ z. omega arith)

stop-blocks : (n d : ℕ) (bs : List Block) (rows : List Record) → Each (IsBlock n d) bs → ((q : ℕ) → Runs q rows ≡ []) → (q : ℕ) → Runs q (blocks_then bs rows) ≡ []
stop-blocks n d [] rows h s q = s q
stop-blocks n d (b ∷ bs) rows h s q = run-stop b.top (b.runs ++ (b.extra ++ blocks_then bs rows)) q 300 n d h.0.top (λ z. omega arith)

stop-channels : (cs : List Channel) (rows : List Record) → Each IsChannel cs → ((q : ℕ) → Runs q rows ≡ []) → (q : ℕ) → Runs q (channels_then cs rows) ≡ []
stop-channels [] rows h s q = s q
stop-channels (c ∷ cs) rows h s q = run-stop c.head (blocks_then c.blocks (channels_then cs rows)) q 200 0 0 h.0.head (λ z. omega arith)

days-blocks : (p : ℕ) (c : Row) (bs : List Block) (rows : List Record) → Each (IsBlock (intervals_in c.cells) (decimals_in c.cells)) bs → ((q : ℕ) → Runs q rows ≡ [])
    → Days p c (blocks_then bs rows) ≡ block_days p c bs ++ Days (behind_blocks p bs) c rows
days-blocks p c [] rows h s = refl
days-blocks p c (b ∷ bs) rows h s =
    let n : ℕ = intervals_in c.cells in
    let m : ℕ = decimals_in c.cells in
    let more : List Record = blocks_then bs rows in
    let g = h.0 in
    let q : ℕ = p + length (join b.top) + 2 in
    let r : Runs q (b.runs ++ (b.extra ++ more)) ≡ rows_at q b.runs =
    runs_of q b.runs (b.extra ++ more) g.runs (stop-extras (date_in b.top) b.extra more g.extra (stop-blocks n m bs rows h.1 s)) in
    let d : Days q c (b.runs ++ (b.extra ++ more)) ≡ block_days (behind q (b.runs ++ b.extra)) c bs ++ Days (behind_blocks (behind q (b.runs ++ b.extra)) bs) c rows =
    skip-days q 400 c b.runs (b.extra ++ more) (λ z. omega arith) (λ z. omega arith) g.runs
    ∙ skip-days (behind q b.runs) 500 c b.extra more (λ z. omega arith) (λ z. omega arith) (extras-500 (date_in b.top) b.extra g.extra)
    ∙ rw (← behind-append q b.runs b.extra) (days-blocks (behind q (b.runs ++ b.extra)) c bs rows h.1 s) in
    day-on b.top (b.runs ++ (b.extra ++ more)) p 300 n m g.top c refl ∙ rw (r, d)

days-channels : (p : ℕ) (d : Row) (cs : List Channel) (rows : List Record) → Each IsChannel cs → ((q : ℕ) → Runs q rows ≡ []) → ((q : ℕ) (e : Row) → Days q e rows ≡ [])
    → Days p d (channels_then cs rows) ≡ channel_days p cs
days-channels p d [] rows h s z = z p d
days-channels p d (c ∷ cs) rows h s z =
    let g = h.0 in
    let q : ℕ = p + length (join c.head) + 2 in
    let m : Row = record_at p c.head in
    day-channel c.head (blocks_then c.blocks (channels_then cs rows)) p 200 0 0 g.head d refl
    ∙ days-blocks q m c.blocks (channels_then cs rows) g.blocks (stop-channels cs rows h.1 s)
    ∙ ap (λ (x : List DayRows). block_days q m c.blocks ++ x) (days-channels (behind_blocks q c.blocks) m cs rows h.1 s z)

none-readings : (c : Row) (rs : List Reading) (rows : List Record) → Each IsReading rs → ((q : ℕ) → Days q c rows ≡ []) → (q : ℕ) → Days q c (readings_then rs rows) ≡ []
none-readings c [] rows h z q = z q
none-readings c (r ∷ rs) rows h z q =
    day-skip r.head (r.codes ++ readings_then rs rows) q 250 0 0 h.0.head c (λ y. omega arith) (λ y. omega arith)
    ∙ skip-days (q + length (join r.head) + 2) 550 c r.codes (readings_then rs rows) (λ y. omega arith) (λ y. omega arith) h.0.codes
    ∙ none-readings c rs rows h.1 z (behind (q + length (join r.head) + 2) r.codes)

-- ---- the days

end-days : (l : Record) → IsRecord 900 0 0 l → (q : ℕ) (c : Row) → Days q c (l ∷ []) ≡ []
unfolding days_from lines text
end-days l h q c = day-skip l [] q 900 0 0 h c (λ z. omega arith) (λ z. omega arith)

content-days : (p : ℕ) (x : Content) (v : ℕ) (l : Record) → IsContent v x → IsRecord 900 0 0 l → Days p no_channel (content_then x (l ∷ [])) ≡ content_days p x
content-days p (nem12 cs) v l g h = days-channels p no_channel cs (l ∷ []) g.2 (λ q. run-stop l [] q 900 0 0 h (λ z. omega arith)) (end-days l h)
content-days p (nem13 rs) v l g h = none-readings no_channel rs (l ∷ []) g.2 (λ q. end-days l h q no_channel) p

pub days : (file : List ℕ) (v c d : ℕ) (h : InFormat file v c d) → days_of file ≡ content_days (length (join h.header) + 2) h.content
unfolding days_of
days file v c d h =
    let q : ℕ = 0 + length (join h.header) + 2 in
    let z : q ≡ length (join h.header) + 2 = omega arith in
    rw (h.bytes, ← z)
    (day-skip h.header (content_then h.content (h.last ∷ [])) 0 100 0 0 h.is-header no_channel (λ y. omega arith) (λ y. omega arith)
    ∙ content-days q h.content v h.last h.is-content h.is_last)

-- ---- totals

skip-sum : (m k : ℕ) (rs rows : List Record) → (k ≡ 300 → ⊥) → (k ≡ 200 → ⊥) → Each (IsRecord k 0 0) rs → Sum m (rs ++ rows) ≡ Sum m rows
skip-sum m k [] rows y z h = refl
skip-sum m k (r ∷ rs) rows y z h = sum-skip r (rs ++ rows) 0 k 0 0 h.0 m y z ∙ skip-sum m k rs rows y z h.1

skip-totals : (k : ℕ) (rs rows : List Record) → (k ≡ 200 → ⊥) → (k ≡ 250 → ⊥) → Each (IsRecord k 0 0) rs → Totals (rs ++ rows) ≡ Totals rows
skip-totals k [] rows y z h = refl
skip-totals k (r ∷ rs) rows y z h = total-skip r (rs ++ rows) 0 k 0 0 h.0 y z ∙ skip-totals k rs rows y z h.1

sum-blocks : (m d : ℕ) (bs : List Block) (rows : List Record) → Each (IsBlock m d) bs → Sum m rows ≡ 0 → Sum m (blocks_then bs rows) ≡ sum (block_values m bs)
sum-blocks m d [] rows h z = z
sum-blocks m d (b ∷ bs) rows h z =
    let more : List Record = blocks_then bs rows in
    let g = h.0 in
    sum-on b.top (b.runs ++ (b.extra ++ more)) 0 300 m d g.top m refl
    ∙ ap (λ (x : ℕ). sum (values_in m b.top) + x)
    (skip-sum m 400 b.runs (b.extra ++ more) (λ y. omega arith) (λ y. omega arith) g.runs
    ∙ skip-sum m 500 b.extra more (λ y. omega arith) (λ y. omega arith) (extras-500 (date_in b.top) b.extra g.extra) ∙ sum-blocks m d bs rows h.1 z)
    ∙ sym (sum-append (values_in m b.top) (block_values m bs))

skip-blocks : (m d : ℕ) (bs : List Block) (rows : List Record) → Each (IsBlock m d) bs → Totals (blocks_then bs rows) ≡ Totals rows
skip-blocks m d [] rows h = refl
skip-blocks m d (b ∷ bs) rows h =
    let more : List Record = blocks_then bs rows in
    let g = h.0 in
    total-skip b.top (b.runs ++ (b.extra ++ more)) 0 300 m d g.top (λ z. omega arith) (λ z. omega arith)
    ∙ skip-totals 400 b.runs (b.extra ++ more) (λ z. omega arith) (λ z. omega arith) g.runs
    ∙ skip-totals 500 b.extra more (λ z. omega arith) (λ z. omega arith) (extras-500 (date_in b.top) b.extra g.extra) ∙ skip-blocks m d bs rows h.1

sum-channels : (m : ℕ) (cs : List Channel) (rows : List Record) → Each IsChannel cs → Sum m rows ≡ 0 → Sum m (channels_then cs rows) ≡ 0
sum-channels m [] rows h z = z
sum-channels m (c ∷ cs) rows h z = sum-stop c.head (blocks_then c.blocks (channels_then cs rows)) 0 200 0 0 h.0.head m refl

total-channels : (cs : List Channel) (rows : List Record) → Each IsChannel cs → ((m : ℕ) → Sum m rows ≡ 0) → Totals rows ≡ [] → Totals (channels_then cs rows) ≡ map sum (channel_values cs)
total-channels [] rows h s z = z
total-channels (c ∷ cs) rows h s z =
    let m : ℕ = intervals_in c.head in
    let d : ℕ = decimals_in c.head in
    let more : List Record = channels_then cs rows in
    let g = h.0 in
    total-200 c.head (blocks_then c.blocks more) 0 200 0 0 g.head refl
    ∙ rw (
      sum-blocks m d c.blocks more g.blocks (sum-channels m cs rows h.1 (s m)),
      skip-blocks m d c.blocks more g.blocks,
      total-channels cs rows h.1 s z,
    )

total-readings : (rs : List Reading) (rows : List Record) → Each IsReading rs → Totals rows ≡ [] → Totals (readings_then rs rows) ≡ map sum (reading_values rs)
total-readings [] rows h z = z
total-readings (r ∷ rs) rows h z =
    total-250 r.head (r.codes ++ readings_then rs rows) 0 250 0 0 h.0.head refl
    ∙ ap₂ (λ (q : ℕ) (x : List ℕ). q ∷ x) (sym (add-zero (quantity_in r.head))) (skip-totals 550 r.codes (readings_then rs rows) (λ y. omega arith) (λ y. omega arith) h.0.codes ∙ total-readings rs rows h.1 z)

end-sum : (l : Record) → IsRecord 900 0 0 l → (m : ℕ) → Sum m (l ∷ []) ≡ 0
unfolding sum_from lines text
end-sum l h m = sum-skip l [] 0 900 0 0 h m (λ z. omega arith) (λ z. omega arith)

end-totals : (l : Record) → IsRecord 900 0 0 l → Totals (l ∷ []) ≡ []
unfolding totals_from lines text
end-totals l h = total-skip l [] 0 900 0 0 h (λ z. omega arith) (λ z. omega arith)

content-totals : (x : Content) (v : ℕ) (l : Record) → IsContent v x → IsRecord 900 0 0 l → Totals (content_then x (l ∷ [])) ≡ totals x
content-totals (nem12 cs) v l g h = total-channels cs (l ∷ []) g.2 (end-sum l h) (end-totals l h)
content-totals (nem13 rs) v l g h = total-readings rs (l ∷ []) g.2 (end-totals l h)

pub channel-totals : (file : List ℕ) (v c d : ℕ) (h : InFormat file v c d) → totals_from (lines file) ≡ totals h.content
channel-totals file v c d h =
    rw h.bytes
    (total-skip h.header (content_then h.content (h.last ∷ [])) 0 100 0 0 h.is-header (λ y. omega arith) (λ y. omega arith)
    ∙ content-totals h.content v h.last h.is-content h.is_last)

-- A file in the format has one structure, and the bytes of a block are one block: records are told apart by their indicators. Assumes nothing.
use Prim.Native.Nat.{ℕ, ◌+◌}
use mathlib.Core.Path.{◌≡◌, refl, sym, ap, ◌∙◌, subst}
use mathlib.Core.Logic.{◌≢◌}
use mathlib.Core.List.{List, [], ◌∷◌, ◌++◌, append-nil}
use native.Mathlib.Omega.{arith}
use lib.ListN.{length}
use Rattle.format.specs.Cut.{Lines, line, rest, lines, fields}
use Rattle.format.specs.Records.{Scale, scale, kind_in, version_in, unit_in, decimals_in, intervals_in, date_in, row_of, count_of}
use Rattle.format.specs.Day.{each_of, values_of, Day, marks_of, day_of}
use Rattle.passing.proofs.Days.{count-300}
use Rattle.passing.proofs.Files.{lines-row}
use Rattle.theorems.specs.Grammar.{Each, Record, join, text, IsRecord, Block, IsBlock, Channel, IsChannel, Reading, IsReading, Content, nem12, nem13, IsContent, blocks_then, channels_then, readings_then, content_then, InFormat}
use Rattle.theorems.specs.Days.{day_in, in_unit, ReadsAs}
use Rattle.theorems.proofs.Lists.{each_append}
use Rattle.theorems.proofs.Rows.{Fields, record-fields, meets-length}
use Rattle.theorems.proofs.Takes.{fields-of}
use Rattle.theorems.proofs.Days.{extras-500}

-- ---- the records that bytes are

abbrev records_in : Lines → List Record
records_in (rest t) = []
records_in (line r ls) = fields r ∷ records_in ls

records-text : (rs : List Record) → Each Fields rs → records_in (lines (text rs)) ≡ rs
unfolding lines text
records-text [] h = refl
records-text (r ∷ rs) h = let w = fields-of r h.0 in rw (lines-row (join r) (text rs) w.1, w.0, records-text rs h.1)

text-once : (rs us : List Record) → Each Fields rs → Each Fields us → text rs ≡ text us → rs ≡ us
text-once rs us h g e = sym (records-text rs h) ∙ ap (λ (s : List ℕ). records_in (lines s)) e ∙ records-text us g

records-all : (k : ℕ) (rs : List Record) → Each (IsRecord k 0 0) rs → Each Fields rs
records-all k [] h = tt
records-all k (r ∷ rs) h = (record-fields k 0 0 r h.0, records-all k rs h.1)

block-all : (n d : ℕ) (b : Block) (t : List Record) → IsBlock n d b → Each Fields t → Each Fields (b.top ∷ (b.runs ++ (b.extra ++ t)))
block-all n d b t h g = (
  record-fields 300 n d b.top h.top,
  each_append Fields b.runs (b.extra ++ t) (records-all 400 b.runs h.runs)
      (each_append Fields b.extra t (records-all 500 b.extra (extras-500 (date_in b.top) b.extra h.extra)) g),
)

blocks-all : (n d : ℕ) (bs : List Block) (t : List Record) → Each (IsBlock n d) bs → Each Fields t → Each Fields (blocks_then bs t)
blocks-all n d [] t h g = g
blocks-all n d (b ∷ bs) t h g = block-all n d b (blocks_then bs t) h.0 (blocks-all n d bs t h.1 g)

channels-all : (cs : List Channel) (t : List Record) → Each IsChannel cs → Each Fields t → Each Fields (channels_then cs t)
channels-all [] t h g = g
channels-all (c ∷ cs) t h g =
    (record-fields 200 0 0 c.head h.0.head, blocks-all (intervals_in c.head) (decimals_in c.head) c.blocks (channels_then cs t) h.0.blocks (channels-all cs t h.1 g))

readings-all : (rs : List Reading) (t : List Record) → Each IsReading rs → Each Fields t → Each Fields (readings_then rs t)
readings-all [] t h g = g
readings-all (r ∷ rs) t h g =
    (record-fields 250 0 0 r.head h.0.head, each_append Fields r.codes (readings_then rs t) (records-all 550 r.codes h.0.codes) (readings-all rs t h.1 g))

content-all : (v : ℕ) (x : Content) (t : List Record) → IsContent v x → Each Fields t → Each Fields (content_then x t)
content-all v (nem12 cs) t h g = channels-all cs t h.2 g
content-all v (nem13 rs) t h g = readings-all rs t h.2 g

-- ---- where a list of one kind ends

-- the first record, if there is one, is of such a kind
abbrev Starts : (ℕ → Type 0) → List Record → Type 0
Starts P [] = Unit {0}
Starts P (r ∷ rs) = P (kind_in r)

starts-if : (P Q : ℕ → Type 0) (rs : List Record) → ((k : ℕ) → P k → Q k) → Starts P rs → Starts Q rs
starts-if P Q [] f h = tt
starts-if P Q (r ∷ rs) f h = f (kind_in r) h

-- a list of one kind, and then another list
starts-append : (P : ℕ → Type 0) (k : ℕ) (rs t : List Record) → Each (IsRecord k 0 0) rs → P k → Starts P t → Starts P (rs ++ t)
starts-append P k [] t h p s = s
starts-append P k (r ∷ rs) t h p s = subst P (sym h.0.indicator) p

split : (k : ℕ) (rs us s t : List Record) → Each (IsRecord k 0 0) rs → Each (IsRecord k 0 0) us → Starts (λ a. a ≢ k) s → Starts (λ a. a ≢ k) t
    → rs ++ s ≡ us ++ t → (rs ≡ us) × (s ≡ t)
split k [] [] s t h g p q e = (refl, e)
split k [] (u ∷ us) s t h g p q e = let z : kind_in u ≢ k = (rw e at p) in absurd (z g.0.indicator)
split k (r ∷ rs) [] s t h g p q e = let z : kind_in r ≢ k = (rw (sym e) at q) in absurd (z h.0.indicator)
split k (r ∷ rs) (u ∷ us) s t h g p q e =
    let a : r ≡ u = cc in
    let b : rs ++ s ≡ us ++ t = cc in
    let w = split k rs us s t h.1 g.1 p q b in
    let c : rs ≡ us = w.0 in
    (cc, w.1)

-- ---- blocks

-- what may follow a day, and what a 200's days
abbrev Outside : ℕ → Type 0
Outside k = (k ≢ 400) × (k ≢ 500)

abbrev Beyond : ℕ → Type 0
Beyond k = (k ≢ 300) × (k ≢ 400) × (k ≢ 500)

block-once : (n m x y : ℕ) (b c : Block) (s t : List Record) → IsBlock n x b → IsBlock m y c → Starts Outside s → Starts Outside t
    → b.top ∷ (b.runs ++ (b.extra ++ s)) ≡ c.top ∷ (c.runs ++ (c.extra ++ t)) → (b ≡ c) × (s ≡ t)
block-once n m x y b c s t h g p q e =
    let i = extras-500 (date_in b.top) b.extra h.extra in
    let j = extras-500 (date_in c.top) c.extra g.extra in
    let e₁ : b.top ≡ c.top = cc in
    let d : b.runs ++ (b.extra ++ s) ≡ c.runs ++ (c.extra ++ t) = cc in
    let w = split 400 b.runs c.runs (b.extra ++ s) (c.extra ++ t) h.runs g.runs
    (starts-append (λ a. a ≢ 400) 500 b.extra s i (λ z. omega arith) (starts-if Outside (λ a. a ≢ 400) s (λ k o. o.0) p))
    (starts-append (λ a. a ≢ 400) 500 c.extra t j (λ z. omega arith) (starts-if Outside (λ a. a ≢ 400) t (λ k o. o.0) q)) d in
    let u = split 500 b.extra c.extra s t i j (starts-if Outside (λ a. a ≢ 500) s (λ k o. o.1) p) (starts-if Outside (λ a. a ≢ 500) t (λ k o. o.1) q) w.1 in
    (block b.top c.top b.runs c.runs b.extra c.extra e₁ w.0 u.0, u.1)
  where
    block : (o o' : Record) (r r' x x' : List Record) → o ≡ o' → r ≡ r' → x ≡ x' → ◌≡◌ {A = Block} (record { top = o; runs = r; extra = x }) (record { top = o'; runs = r'; extra = x' })
    block o o' r r' x x' a b c = rw (a, b, c)

starts-blocks : (P : ℕ → Type 0) (n d : ℕ) (bs : List Block) (t : List Record) → Each (IsBlock n d) bs → P 300 → Starts P t → Starts P (blocks_then bs t)
starts-blocks P n d [] t h p s = s
starts-blocks P n d (b ∷ bs) t h p s = subst P (sym h.0.top.indicator) p

outside-blocks : (n d : ℕ) (bs : List Block) (t : List Record) → Each (IsBlock n d) bs → Starts Beyond t → Starts Outside (blocks_then bs t)
outside-blocks n d bs t h s = starts-blocks Outside n d bs t h (λ z. omega arith, λ z. omega arith) (starts-if Beyond Outside t (λ k b. (b.1, b.2)) s)

blocks-once : (n m x y : ℕ) (bs cs : List Block) (s t : List Record) → Each (IsBlock n x) bs → Each (IsBlock m y) cs → Starts Beyond s → Starts Beyond t
    → blocks_then bs s ≡ blocks_then cs t → (bs ≡ cs) × (s ≡ t)
blocks-once n m x y [] [] s t h g p q e = (refl, e)
blocks-once n m x y [] (c ∷ cs) s t h g p q e = let z : Beyond (kind_in c.top) = (rw e at p) in absurd (z.0 g.0.top.indicator)
blocks-once n m x y (b ∷ bs) [] s t h g p q e = let z : Beyond (kind_in b.top) = (rw (sym e) at q) in absurd (z.0 h.0.top.indicator)
blocks-once n m x y (b ∷ bs) (c ∷ cs) s t h g p q e =
    let w = block-once n m x y b c (blocks_then bs s) (blocks_then cs t) h.0 g.0 (outside-blocks n x bs s h.1 p) (outside-blocks m y cs t g.1 q) e in
    let u = blocks-once n m x y bs cs s t h.1 g.1 p q w.1 in
    let a : b ≡ c = w.0 in
    let d : bs ≡ cs = u.0 in
    (cc, u.1)

-- ---- channels

beyond : (k : ℕ) → (k ≡ 200) → Beyond k
beyond k e = (λ z. omega arith, λ z. omega arith, λ z. omega arith)

beyond-channels : (cs : List Channel) (l : Record) → Each IsChannel cs → IsRecord 900 0 0 l → Starts Beyond (channels_then cs (l ∷ []))
beyond-channels [] l h g = let e = g.indicator in (λ z. omega arith, λ z. omega arith, λ z. omega arith)
beyond-channels (c ∷ cs) l h g = beyond (kind_in c.head) h.0.head.indicator

channels-once : (cs ds : List Channel) (l r : Record) → Each IsChannel cs → Each IsChannel ds → IsRecord 900 0 0 l → IsRecord 900 0 0 r
    → channels_then cs (l ∷ []) ≡ channels_then ds (r ∷ []) → (cs ≡ ds) × (l ≡ r)
channels-once [] [] l r h g p q e = (refl, cc)
channels-once [] (d ∷ ds) l r h g p q e = let z : l ≡ d.head = cc in absurd (let y : kind_in l ≡ kind_in d.head = rw z in let u : ⊥ = omega (arith, p.indicator, g.0.head.indicator) in u)
channels-once (c ∷ cs) [] l r h g p q e = let z : c.head ≡ r = cc in absurd (let y : kind_in c.head ≡ kind_in r = rw z in let u : ⊥ = omega (arith, q.indicator, h.0.head.indicator) in u)
channels-once (c ∷ cs) (d ∷ ds) l r h g p q e =
    let a : c.head ≡ d.head = cc in
    let f : blocks_then c.blocks (channels_then cs (l ∷ [])) ≡ blocks_then d.blocks (channels_then ds (r ∷ [])) = cc in
    let w = blocks-once (intervals_in c.head) (intervals_in d.head) (decimals_in c.head) (decimals_in d.head) c.blocks d.blocks (channels_then cs (l ∷ [])) (channels_then ds (r ∷ [])) h.0.blocks g.0.blocks
    (beyond-channels cs l h.1 p) (beyond-channels ds r g.1 q) f in
    let u = channels-once cs ds l r h.1 g.1 p q w.1 in
    let b : cs ≡ ds = u.0 in
    let k : c ≡ d = channel c.head d.head c.blocks d.blocks a w.0 in
    (cc, u.1)
  where
    channel : (o o' : Record) (b b' : List Block) → o ≡ o' → b ≡ b' → ◌≡◌ {A = Channel} (record { head = o; blocks = b }) (record { head = o'; blocks = b' })
    channel o o' b b' a c = rw (a, c)

-- ---- readings

starts-readings : (rs : List Reading) (l : Record) → Each IsReading rs → IsRecord 900 0 0 l → Starts (λ a. a ≢ 550) (readings_then rs (l ∷ []))
starts-readings [] l h g = let e = g.indicator in λ z. omega arith
starts-readings (r ∷ rs) l h g = let e = h.0.head.indicator in λ z. omega arith

readings-once : (rs us : List Reading) (l k : Record) → Each IsReading rs → Each IsReading us → IsRecord 900 0 0 l → IsRecord 900 0 0 k
    → readings_then rs (l ∷ []) ≡ readings_then us (k ∷ []) → (rs ≡ us) × (l ≡ k)
readings-once [] [] l k h g p q e = (refl, cc)
readings-once [] (u ∷ us) l k h g p q e = let z : l ≡ u.head = cc in absurd (let y : kind_in l ≡ kind_in u.head = rw z in let x : ⊥ = omega (arith, p.indicator, g.0.head.indicator) in x)
readings-once (r ∷ rs) [] l k h g p q e = let z : r.head ≡ k = cc in absurd (let y : kind_in r.head ≡ kind_in k = rw z in let x : ⊥ = omega (arith, q.indicator, h.0.head.indicator) in x)
readings-once (r ∷ rs) (u ∷ us) l k h g p q e =
    let a : r.head ≡ u.head = cc in
    let f : r.codes ++ readings_then rs (l ∷ []) ≡ u.codes ++ readings_then us (k ∷ []) = cc in
    let w = split 550 r.codes u.codes (readings_then rs (l ∷ [])) (readings_then us (k ∷ [])) h.0.codes g.0.codes (starts-readings rs l h.1 p) (starts-readings us k g.1 q) f in
    let v = readings-once rs us l k h.1 g.1 p q w.1 in
    let b : rs ≡ us = v.0 in
    let c : r ≡ u = reading r.head u.head r.codes u.codes a w.0 in
    (cc, v.1)
  where
    reading : (o o' : Record) (x x' : List Record) → o ≡ o' → x ≡ x' → ◌≡◌ {A = Reading} (record { head = o; codes = x }) (record { head = o'; codes = x' })
    reading o o' x x' a b = rw (a, b)

-- ---- the file

content-once : (v : ℕ) (x y : Content) (l k : Record) → IsContent v x → IsContent v y → IsRecord 900 0 0 l → IsRecord 900 0 0 k
    → content_then x (l ∷ []) ≡ content_then y (k ∷ []) → (x ≡ y) × (l ≡ k)
content-once v (nem12 cs) (nem12 ds) l k h g p q e = let w = channels-once cs ds l k h.2 g.2 p q e in (ap nem12 w.0, w.1)
content-once v (nem12 cs) (nem13 rs) l k h g p q e = absurd (let z : ⊥ = omega (arith, h.0, g.0) in z)
content-once v (nem13 rs) (nem12 ds) l k h g p q e = absurd (let z : ⊥ = omega (arith, h.0, g.0) in z)
content-once v (nem13 rs) (nem13 us) l k h g p q e = let w = readings-once rs us l k h.2 g.2 p q e in (ap nem13 w.0, w.1)

-- a file is in the format in one way
pub one-structure : (file : List ℕ) (v c d v' c' d' : ℕ) (h : InFormat file v c d) (g : InFormat file v' c' d')
    → (h.header ≡ g.header) × (h.content ≡ g.content) × (h.last ≡ g.last)
one-structure file v c d v' c' d' h g =
    let x = content_then h.content (h.last ∷ []) in
    let y = content_then g.content (g.last ∷ []) in
    let e : h.header ∷ x ≡ g.header ∷ y =
    text-once (h.header ∷ x) (g.header ∷ y)
    (record-fields 100 0 0 h.header h.is-header, content-all v h.content (h.last ∷ []) h.is-content (record-fields 900 0 0 h.last h.is_last, tt))
    (record-fields 100 0 0 g.header g.is-header, content-all v' g.content (g.last ∷ []) g.is-content (record-fields 900 0 0 g.last g.is_last, tt))
    (sym h.bytes ∙ g.bytes) in
    let a : h.header ≡ g.header = cc in
    let f : x ≡ y = cc in
    let u : v' ≡ v = g.version ∙ ap version_in (sym a) ∙ sym h.version in
    let w = content-once v h.content g.content h.last g.last h.is-content (subst (λ (z : ℕ). IsContent z g.content) u g.is-content) h.is_last g.is_last f in
    (a, w.0, w.1)

-- ---- a block

pub row-length : (z : Scale) → length (row_of 300 z) ≡ z.n + 7
unfolding count_of
row-length z = count-300 z

-- bytes are a block in one way, of one number of intervals, and so they are one day but for its unit, which is that of its 200
pub one_block : (a b : Record) (s : List ℕ) (d e : Day) → ReadsAs a s d → ReadsAs b s e → d ≡ in_unit (unit_in a) e
unfolding day_in day_of values_of marks_of each_of
one_block a b s d e h g =
    let x = h.block in
    let y = g.block in
    let k : ℕ = intervals_in a in
    let m : ℕ = intervals_in b in
    let f : text (x.top ∷ (x.runs ++ (x.extra ++ []))) ≡ text (y.top ∷ (y.runs ++ (y.extra ++ []))) =
    rw (append-nil x.extra, append-nil y.extra) (sym h.bytes ∙ g.bytes) in
    let i : ℕ = decimals_in a in
    let j : ℕ = decimals_in b in
    let w = block-once k m i j x y [] [] h.good g.good tt tt
    (text-once (x.top ∷ (x.runs ++ (x.extra ++ []))) (y.top ∷ (y.runs ++ (y.extra ++ []))) (block-all k i x [] h.good tt) (block-all m j y [] g.good tt) f) in
    let l : length x.top ≡ length y.top = ap (λ (z : Block). length z.top) w.0 in
    let n : k ≡ m =
    omega (
      arith,
      meets-length 300 (row_of 300 (scale k i)) x.top h.good.top.meets,
      meets-length 300 (row_of 300 (scale m j)) y.top g.good.top.meets,
      row-length (scale k i),
      row-length (scale m j),
    ) in
    h.is ∙ rw (n, w.0) (sym (ap (in_unit (unit_in a)) g.is))

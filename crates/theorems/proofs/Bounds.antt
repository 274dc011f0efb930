-- 02, request 7: "A value takes at least two bytes with its comma, so a file within the length limit holds fewer than 524,288 of them, each below 10^13
-- millionths." So every total of a file in the format is below 2^64. Assumes nothing.
use Prim.Native.Nat.{ℕ, zero, suc, ◌+◌, ◌*◌, ◌^◌, ◌≤◌, ◌<◌}
use mathlib.Core.Path.{◌≡◌, refl, ap}
use mathlib.Core.Bool.{true, false≢true}
use mathlib.Core.List.{List, [], ◌∷◌, ◌++◌, map}
use native.Mathlib.Omega.{arith}
use lib.ListN.{length, take, drop, replicate, length-append, length-map, length-take}
use lib.Dec.{ltb}
use borrow.Author.Tests.{ltb-true}
use Rattle.ground.specs.Lists.{all, span_of, sum}
use Rattle.ground.proofs.Digits.{all_append}
use Rattle.ground.proofs.Tests.{and-true}
use Rattle.format.specs.Bytes.{are_all}
use Rattle.format.specs.Numbers.{is_number, number_of, value_of}
use Rattle.format.specs.Cut.{field}
use Rattle.format.specs.Records.{row_of, obeys, decimals_in, intervals_in, millionths, values_in, quantity_field, quantity_in}
use Rattle.format.specs.Block.{small_value}
use Rattle.format.specs.declared.Rule.{Rule}
use Rattle.format.specs.declared.Rule.TheVariants.{Value}
use Rattle.format.proofs.Total.{values-fit, sum-most}
use Rattle.theorems.specs.Grammar.{Each, Record, join, text, Meets, IsRecord, Block, IsBlock, Channel, IsChannel, Reading, Content, nem12, nem13, IsContent, blocks_then, channels_then, readings_then, content_then, InFormatUpTo, InFormat}
use Rattle.theorems.specs.Days.{block_values, channel_values, reading_values, values, value_count, totals}
use Rattle.theorems.proofs.Lists.{each-if}
use Rattle.theorems.proofs.Sizes.{size, length-join}

-- ---- "A value takes at least two bytes with its comma"

value-some : (d : ℕ) (s : List ℕ) → is_number (value_of d s) ≡ true → 1 ≤ length s
unfolding value_of number_of are_all span_of
value-some d [] h = absurd (false≢true h)
value-some d (b ∷ s) h = omega arith

values-size : (k n d : ℕ) (us : List Rule) (fs : Record) → Meets k (replicate n (Value d) ++ us) fs → 2 * n ≤ size fs
unfolding size obeys
values-size k zero d us fs h = omega arith
values-size k (suc n) d us [] h = absurd h
values-size k (suc n) d us (f ∷ fs) h = omega (arith, value-some d f h.1, values-size k n d us fs h.2)

day-size : (n d : ℕ) (fs : Record) → IsRecord 300 n d fs → 2 * length (values_in n fs) ≤ length (join fs)
unfolding row_of values_in size
day-size n d [] h = absurd h.meets
day-size n d (f ∷ []) h = absurd h.meets.2
day-size n d (f ∷ g ∷ fs) h =
    omega (
      arith,
      values-size 300 n d _ fs h.meets.2.2,
      length-join (f ∷ g ∷ fs) (omega arith),
      length-map (take n fs) millionths,
      length-take n fs,
    )

-- records are no shorter with others before them
text-more : (rs t : List Record) → length (text t) ≤ length (text (rs ++ t))
unfolding text
text-more [] t = omega arith
text-more (r ∷ rs) t = omega (arith, length-append (join r) (13 ∷ 10 ∷ text (rs ++ t)), text-more rs t)

blocks-size : (n d : ℕ) (bs : List Block) (t : List Record) → Each (IsBlock n d) bs → 2 * length (block_values n bs) + length (text t) ≤ length (text (blocks_then bs t))
unfolding text
blocks-size n d [] t h = omega arith
blocks-size n d (b ∷ bs) t h =
    let more : List Record = blocks_then bs t in
    omega (
      arith,
      length-append (values_in n b.top) (block_values n bs),
      day-size n d b.top h.0.top,
      length-append (join b.top) (13 ∷ 10 ∷ text (b.runs ++ (b.extra ++ more))),
      text-more b.runs (b.extra ++ more),
      text-more b.extra more,
      blocks-size n d bs t h.1,
    )

channels-size : (cs : List Channel) (t : List Record) → Each IsChannel cs → 2 * sum (map length (channel_values cs)) + length (text t) ≤ length (text (channels_then cs t))
unfolding text
channels-size [] t h = omega arith
channels-size (c ∷ cs) t h =
    let more : List Record = channels_then cs t in
    omega (
      arith,
      length-append (join c.head) (13 ∷ 10 ∷ text (blocks_then c.blocks more)),
      blocks-size (intervals_in c.head) (decimals_in c.head) c.blocks more h.0.blocks,
      channels-size cs t h.1,
    )

-- of a 250 its CR LF is two bytes already
readings-size : (rs : List Reading) (t : List Record) → 2 * sum (map length (reading_values rs)) + length (text t) ≤ length (text (readings_then rs t))
unfolding text
readings-size [] t = omega arith
readings-size (r ∷ rs) t =
    let more : List Record = readings_then rs t in
    omega (arith, length-append (join r.head) (13 ∷ 10 ∷ text (r.codes ++ more)), text-more r.codes more, readings-size rs t)

content-size : (v : ℕ) (x : Content) (t : List Record) → IsContent v x → 2 * value_count x + length (text t) ≤ length (text (content_then x t))
content-size v (nem12 cs) t h = channels-size cs t h.2
content-size v (nem13 rs) t h = readings-size rs t

-- of a file of at most so many bytes
pub two_bytes : (most : ℕ) (file : List ℕ) (v c d : ℕ) (h : InFormatUpTo most file v c d) → 2 * value_count h.content < most
unfolding text
two_bytes most file v c d h =
    omega (
      arith,
      ap length h.bytes,
      length-append (join h.header) (13 ∷ 10 ∷ text (content_then h.content (h.last ∷ []))),
      content-size v h.content (h.last ∷ []) h.is-content,
      h.short,
    )

-- "a file within the length limit holds fewer than 524,288 of them"
pub few-values : (file : List ℕ) (v c d : ℕ) (h : InFormat file v c d) → value_count h.content < 524288
few-values file v c d h = omega (arith, two_bytes 1048576 file v c d h)

-- ---- "each below 10^13 millionths"

abbrev Fit : List ℕ → Type 0
Fit vs = all small_value vs ≡ true

blocks-fit : (n : ℕ) (bs : List Block) → Fit (block_values n bs)
unfolding values_in
blocks-fit n [] = refl
blocks-fit n (b ∷ bs) = all_append small_value (values_in n b.top) (block_values n bs) (values-fit (take n (drop 2 b.top))) (blocks-fit n bs)

content-fit : (x : Content) → Each Fit (values x)
unfolding quantity_in
content-fit (nem12 cs) = go cs
  where
    go : (cs : List Channel) → Each Fit (channel_values cs)
    go [] = tt
    go (c ∷ cs) = (blocks-fit (intervals_in c.head) c.blocks, go cs)
content-fit (nem13 rs) = go rs
  where
    go : (rs : List Reading) → Each Fit (reading_values rs)
    go [] = tt
    go (r ∷ rs) = (values-fit (field quantity_field r.head ∷ []), go rs)

pub small-values : (x : Content) → Each (Each (λ v. v < 10 ^ 13)) (values x)
unfolding small_value
small-values x = each-if Fit (Each (λ v. v < 10 ^ 13)) go (values x) (content-fit x)
  where
    go : (vs : List ℕ) → Fit vs → Each (λ v. v < 10 ^ 13) vs
    go [] h = tt
    go (v ∷ vs) h = let w = and-true (ltb v (10 ^ 13)) (all small_value vs) h in (ltb-true v (10 ^ 13) w.0, go vs w.1)

-- ---- every total is below 2^64

totals-most : (k : ℕ) (vss : List (List ℕ)) → Each Fit vss → sum (map length vss) ≤ k → Each (λ t. t ≤ k * 10 ^ 13) (map sum vss)
totals-most k [] h l = tt
totals-most k (vs ∷ vss) h l = (omega (arith, sum-most vs h.0), totals-most k vss h.1 (omega arith))

pub totals-fit : (file : List ℕ) (v c d : ℕ) (h : InFormat file v c d) → Each (λ t. t < 2 ^ 64) (totals h.content)
totals-fit file v c d h =
    each-if (λ t. t ≤ value_count h.content * 10 ^ 13) (λ t. t < 2 ^ 64) (λ t l. omega (arith, two_bytes _ file v c d h)) (totals h.content)
    (totals-most (value_count h.content) (values h.content) (content-fit h.content) (omega arith))

-- Day k of an accepted file has exactly one meaning, and it is that of the block that stands at its place. Assumes nothing.
use Prim.Native.Nat.{ℕ, zero, suc, ◌+◌, ◌≤◌, ◌<◌}
use mathlib.Core.Path.{◌≡◌, refl, sym, ap, ◌∙◌}
use mathlib.Core.List.{List, [], ◌∷◌, ◌++◌, map, append_assoc}
use native.Mathlib.Omega.{arith}
use lib.ListN.{length, drop, length-append, drop_of_length-le}
use Rattle.format.specs.Records.{unit_in, decimals_in, intervals_in}
use Rattle.format.specs.Day.{Row, DayRows, days_of, Day}
use Rattle.format.specs.Answers.{accepted}
use Rattle.format.specs.File.{check_of}
use Rattle.theorems.specs.Grammar.{Each, Record, join, text, IsRecord, Block, IsBlock, Channel, IsChannel, Content, nem12, nem13, IsContent, blocks_then, channels_then, content_then}
use Rattle.theorems.specs.Days.{behind, record_at, rows_of, block_days, behind_blocks, channel_days, content_days, meant, meanings, Means, StandsAt, OneDay}
use Rattle.theorems.proofs.Lists.{each_append, each-drop}
use Rattle.theorems.proofs.Format.{format}
use Rattle.theorems.proofs.Days.{days}
use Rattle.theorems.proofs.Meaning.{day-anywhere, meaning, day-count}

-- ---- bytes and places

pub text-append : (rs us : List Record) → text (rs ++ us) ≡ text rs ++ text us
unfolding text
text-append [] us = refl
text-append (r ∷ rs) us = rw (text-append rs us, append_assoc (join r) (13 ∷ 10 ∷ text rs) (text us))

behind-text : (p : ℕ) (rs : List Record) → behind p rs ≡ p + length (text rs)
unfolding text
behind-text p [] = omega arith
behind-text p (r ∷ rs) = behind-text (p + length (join r) + 2) rs ∙ omega (arith, length-append (join r) (13 ∷ 10 ∷ text rs))

pub block-text : (b : Block) (t : List Record) → text (b.top ∷ (b.runs ++ (b.extra ++ t))) ≡ text (rows_of b) ++ text t
block-text b t = rw (← append_assoc b.runs b.extra t) (text-append (rows_of b) t)

-- ---- each day stands in the file

abbrev Standing : List ℕ → DayRows → Type 0
Standing file x = StandsAt file x.block.top.place (meant x)

-- the rows t start at p in the file, behind the bytes s
record From (file s : List ℕ) (p : ℕ) (t : List Record) : Type 0 where
  is : file ≡ s ++ text t
  place : length s ≡ p

-- one record on, and one block
from_row : (file s : List ℕ) (p : ℕ) (r : Record) (t : List Record) → From file s p (r ∷ t) → From file (s ++ (join r ++ 13 ∷ 10 ∷ [])) (p + length (join r) + 2) t
unfolding text
from_row file s p r t f =
    record {
      is = rw (append_assoc s (join r ++ 13 ∷ 10 ∷ []) (text t), append_assoc (join r) (13 ∷ 10 ∷ []) (text t)) f.is;
      place = omega (arith, f.place, length-append s (join r ++ 13 ∷ 10 ∷ []), length-append (join r) (13 ∷ 10 ∷ []));
    }

from_block : (file s : List ℕ) (p : ℕ) (b : Block) (t : List Record) → From file s p (b.top ∷ (b.runs ++ (b.extra ++ t))) → From file (s ++ text (rows_of b)) (behind p (rows_of b)) t
from_block file s p b t f =
    record {
      is = rw (append_assoc s (text (rows_of b)) (text t), ← block-text b t) f.is;
      place = omega (arith, f.place, length-append s (text (rows_of b)), behind-text p (rows_of b));
    }

-- where the blocks end, there what follows starts
record Stood (file : List ℕ) (p : ℕ) (c : Row) (bs : List Block) (t : List Record) : Type 0 where
  each : Each (Standing file) (block_days p c bs)
  s : List ℕ
  from : From file s (behind_blocks p bs) t

stand-blocks : (file s : List ℕ) (p : ℕ) (c : Row) (bs : List Block) (t : List Record) → IsRecord 200 0 0 c.cells → Each (IsBlock (intervals_in c.cells) (decimals_in c.cells)) bs
    → From file s p (blocks_then bs t) → Stood file p c bs t
stand-blocks file s p c [] t h g f = record { each = tt; s = s; from = f }
stand-blocks file s p c (b ∷ bs) t h g f =
    let w = stand-blocks file (s ++ text (rows_of b)) (behind p (rows_of b)) c bs t h g.1 (from_block file s p b (blocks_then bs t) f) in
    record {
      each = (
        record {
          before = s;
          block = text (rows_of b);
          after = text (blocks_then bs t);
          is = rw (← block-text b (blocks_then bs t)) f.is;
          place = f.place;
          head = c.cells;
          reads = record { is-head = h; block = b; good = g.0; bytes = refl; is = day-anywhere p (intervals_in c.cells) (unit_in c.cells) b };
        },
        w.each,
      );
      s = w.s;
      from = w.from;
    }

stand-channels : (file s : List ℕ) (p : ℕ) (cs : List Channel) (t : List Record) → Each IsChannel cs → From file s p (channels_then cs t) → Each (Standing file) (channel_days p cs)
stand-channels file s p [] t h f = tt
stand-channels file s p (c ∷ cs) t h f =
    let q : ℕ = p + length (join c.head) + 2 in
    let n : Row = record_at p c.head in
    let w = stand-blocks file (s ++ (join c.head ++ 13 ∷ 10 ∷ [])) q n c.blocks (channels_then cs t) h.0.head h.0.blocks
    (from_row file s p c.head (blocks_then c.blocks (channels_then cs t)) f) in
    each_append (Standing file) (block_days q n c.blocks) (channel_days (behind_blocks q c.blocks) cs) w.each
    (stand-channels file w.s (behind_blocks q c.blocks) cs t h.1 w.from)

stand-content : (file s : List ℕ) (p v : ℕ) (x : Content) (t : List Record) → IsContent v x → From file s p (content_then x t) → Each (Standing file) (content_days p x)
stand-content file s p v (nem12 cs) t h f = stand-channels file s p cs t h.2 f
stand-content file s p v (nem13 rs) t h f = tt

-- ---- day k

record Found (k : ℕ) (xs : List DayRows) : Type 0 where
  rows : DayRows
  more : List DayRows
  is : drop k xs ≡ rows ∷ more

find : (k : ℕ) (xs : List DayRows) → k < length xs → Found k xs
find k [] h = absurd (let z : ⊥ = omega arith in z)
find zero (x ∷ xs) h = record { rows = x; more = xs; is = refl }
find (suc k) (x ∷ xs) h = let w = find k xs (omega arith) in record { rows = w.rows; more = w.more; is = w.is }

map-drop : (k : ℕ) (xs : List DayRows) → drop k (map meant xs) ≡ map meant (drop k xs)
map-drop zero xs = refl
map-drop (suc k) [] = refl
map-drop (suc k) (x ∷ xs) = map-drop k xs

-- a day of the file, read in any way, is what its rows mean
means-rows : (file : List ℕ) (k : ℕ) (day : Day) (rows : DayRows) (more : List DayRows) → drop k (days_of file) ≡ rows ∷ more → Means file k day → day ≡ meant rows
means-rows file k day rows more e m =
    let a : map meant (drop k (days_of file)) ≡ day ∷ m.more =
    sym (map-drop k (days_of file)) ∙ ap (drop k) (meaning file m.v m.c m.d m.how) ∙ m.is in
    let b : meant rows ∷ map meant more ≡ day ∷ m.more = rw e at a in
    let z : day ≡ meant rows = cc in
    z

module _ (file : List ℕ) (v c d : ℕ) (e : check_of file ≡ accepted (v ∷ c ∷ d ∷ [])) (k : ℕ) where
  -- each of the days that the check answers has one meaning
  pub one-day : k < d → OneDay file k
  unfolding text
  one-day l =
      let h = (format file v c d).0 e in
      let p : ℕ = length (join h.header) + 2 in
      let w = find k (days_of file) (omega (arith, day-count file v c d h)) in
      let z : 0 + length (join h.header) + 2 ≡ p = omega arith in
      let f : From file (join h.header ++ 13 ∷ 10 ∷ []) p (content_then h.content (h.last ∷ [])) =
      rw z at (from_row file [] 0 h.header (content_then h.content (h.last ∷ [])) (record { is = h.bytes; place = refl })) in
      let s : Each (Standing file) (days_of file) = rw (days file v c d h) (stand-content file (join h.header ++ 13 ∷ 10 ∷ []) p v h.content (h.last ∷ []) h.is-content f) in
      let t : Each (Standing file) (w.rows ∷ w.more) = rw w.is at (each-drop (Standing file) k (days_of file) s) in
      let b : drop k (meanings h.content) ≡ meant w.rows ∷ map meant w.more =
      ap (drop k) (sym (meaning file v c d h)) ∙ map-drop k (days_of file) ∙ ap (map meant) w.is in
      record {
        rows = w.rows;
        more = w.more;
        found = w.is;
        means = record { v = v; c = c; d = d; how = h; more = map meant w.more; is = b };
        only = λ other m. means-rows file k other w.rows w.more w.is m;
        stands = t.0;
      }

  -- and there are no others
  pub no-day : d ≤ k → drop k (days_of file) ≡ []
  no-day l =
      let h = (format file v c d).0 e in
      let n : length (days_of file) ≤ k = omega (arith, day-count file v c d h) in
      drop_of_length-le (days_of file) n

-- A number of each used slot, the offset of its block, the length or the date, read into a list, and the offsets written: as loops meet them. Assumes nothing.
use Prim.Native.Nat.{ℕ, ◌+◌, ◌-◌, ◌≤◌, ◌<◌}
use mathlib.Core.Path.{◌≡◌, refl, sym, ap, ◌∙◌}
use mathlib.Core.List.{List, ◌++◌, append-nil}
use mathlib.Core.Bool.{Bool, true, false}
use native.Mathlib.Nat.{sub-zero}
use native.Mathlib.Numerals.{add-one}
use native.Mathlib.Omega.{arith}
use lib.ListN.{length, drop, get_or, set, length-set, drop_of_length-le}
use lib.Seq.{sets, length-sets, drop-length, drop-cons}
use Rattle.ground.specs.Lists.{from}
use Rattle.ground.proofs.Cases.{by}
use Rattle.ground.proofs.From.{from_step, from_end, length_from}
use Rattle.ground.proofs.Room.{sets-front}
use Rattle.entries.specs.Little.{number_at, in_bytes}
use Rattle.entries.specs.Entries.{entry_at}
use Rattle.store.specs.Used.{used}
use Rattle.store.specs.Ranges.{slot_place, starts, sizes}
use Rattle.store.specs.Moves.{offset_put, offsets_put}
use Rattle.store.specs.declared.Header.{Header}
use Rattle.slots.specs.Fields.{field_of}

-- ---- one slot

module _ (m : List ℕ) (h : Header) (map k i : ℕ) where
  pub field-free : {b : Bool} → b ≡ used map i → b ≡ false → 0 ≡ field_of m h map k i
  unfolding field_of
  field-free e t = rw (← e, t)

  pub field-used : {b : Bool} {p r : ℕ} → b ≡ used map i → b ≡ true → p ≡ slot_place h i → r ≡ number_at m (p + k) 4 → r ≡ field_of m h map k i
  unfolding field_of
  field-used e t q n = rw (← e, t) (n ∙ ap (λ (a : ℕ). number_at m (a + k) 4) q)

module _ (m : List ℕ) (h : Header) (map i v : ℕ) where
  pub offset-free : {b : Bool} → b ≡ used map i → b ≡ false → m ≡ offset_put h map i v m
  unfolding offset_put
  offset-free e t = rw (← e, t)

  pub offset-used : {b : Bool} {p : ℕ} {l : List ℕ} → b ≡ used map i → b ≡ true → p ≡ slot_place h i → l ≡ sets m (p + 18) (in_bytes 4 v) → l ≡ offset_put h map i v m
  unfolding offset_put
  offset-used e t q n = rw (← e, t) (n ∙ ap (λ (a : ℕ). sets m (a + 18) (in_bytes 4 v)) q)

-- ---- reading: the first i places are filled

pub record Filled (f : ℕ → ℕ) (n : ℕ) (l : List ℕ) (i : ℕ) : Type 0 where
  pub within : i ≤ n
  pub long : length l ≡ n
  pub left : sets l i (from f i (n - i)) ≡ from f 0 n

module _ (f : ℕ → ℕ) (n : ℕ) where
  pub filled_none : (l : List ℕ) → length l ≡ n → Filled f n l 0
  filled_none l e =
      let k = length_from f 0 n in
      let z : length (from f 0 n) ≡ length l = omega arith in
      record {
        within = omega arith;
        long = e;
        left =
            rw (sub-zero n)
            (sets-front l (from f 0 n) (omega arith)
            ∙ ap (λ (k : ℕ). from f 0 n ++ drop k l) z
            ∙ ap (λ (z : List ℕ). from f 0 n ++ z) (drop-length l)
            ∙ append-nil (from f 0 n));
      }

  pub filled_more : (l : List ℕ) (i : ℕ) {x : ℕ} → i < n → x ≡ f i → Filled f n l i → Filled f n (set l i x) (i + 1)
  filled_more l i h e r =
      record {
        within = omega arith;
        long = simp length-set r.long;
        left = rw (e, add-one i) (rw (from_step f i n h, add-one i) at r.left);
      }

  pub filled-all : (l : List ℕ) (i : ℕ) → n ≤ i → Filled f n l i → l ≡ from f 0 n
  filled-all l i h r = rw (from_end f i n h) at r.left

pub starts-are : (m : List ℕ) (h : Header) (map : ℕ) → from (field_of m h map 18) 0 64 ≡ starts m h map
unfolding field_of entry_at
starts-are m h map = refl

pub sizes-are : (m : List ℕ) (h : Header) (map : ℕ) → from (field_of m h map 22) 0 64 ≡ sizes m h map
unfolding field_of entry_at
sizes-are m h map = refl

-- ---- writing: the first i slots are written

pub length-offset : (h : Header) (map i v : ℕ) (m : List ℕ) → length (offset_put h map i v m) ≡ length m
unfolding offset_put
length-offset h map i v m = by (used map i) (λ t. rw t (length-sets m (slot_place h i + 18) (in_bytes 4 v))) (λ t. rw t)

pub record Writing (h : Header) (map : ℕ) (vs m₀ m : List ℕ) (i : ℕ) : Type 0 where
  pub within : i ≤ length vs
  pub kept : length m ≡ length m₀
  pub left : offsets_put h map i (drop i vs) m ≡ offsets_put h map 0 vs m₀

module _ (h : Header) (map : ℕ) (vs m₀ : List ℕ) where
  pub writing-none : Writing h map vs m₀ m₀ 0
  writing-none = record { within = omega arith; kept = refl; left = refl }

  pub writing_more : (m : List ℕ) (i : ℕ) {l : List ℕ} → i < length vs → l ≡ offset_put h map i (get_or vs i 0) m → Writing h map vs m₀ m i
      → Writing h map vs m₀ l (i + 1)
  unfolding offsets_put
  writing_more m i g e r =
      record {
        within = omega arith;
        kept = ap length e ∙ length-offset h map i (get_or vs i 0) m ∙ r.kept;
        left =
            ap (offsets_put h map (i + 1) (drop (i + 1) vs)) e
            ∙ ap (λ (k : ℕ). offsets_put h map (i + 1) (drop k vs) (offset_put h map i (get_or vs i 0) m)) (add-one i)
            ∙ ap (λ (z : List ℕ). offsets_put h map i z m) (sym (drop-cons vs i 0 g))
            ∙ r.left;
      }

  pub writing-all : (m : List ℕ) (i : ℕ) → length vs ≤ i → Writing h map vs m₀ m i → m ≡ offsets_put h map 0 vs m₀
  unfolding offsets_put
  writing-all m i g r = rw (drop_of_length-le vs g) at r.left

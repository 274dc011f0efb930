-- The laws of a pass by chunks: what a chunk's two answers say of the whole. Assumes nothing.
use mathlib.Core.Path.{◌≡◌, refl, sym, ◌∙◌}
use mathlib.Core.Bool.{Bool, true, false, not, ◌&&◌}
use mathlib.Core.List.{List, [], ◌∷◌}
use Prim.Native.Nat.{ℕ, ◌+◌, ◌-◌, ◌≤◌, ◌<◌}
use native.Mathlib.Omega.{arith}
use lib.ListN.{length, get_or, take, drop, drop_of_length-le, length-drop}
use lib.Seq.{drop-drop, take-add, length-take-le}
use borrow.Author.Tests.{eq-eqb, ne_eqb, not-true, not-false}
use Rattle.ground.specs.Lists.{all, span_of, other}
use Rattle.ground.proofs.Tests.{and-false, and-all}
use Rattle.ground.proofs.Lists.{rest}
use Rattle.ground.proofs.Spans.{span-on, span-stop, span-all, span-block}
use Rattle.format.specs.Bytes.{plain}
use Rattle.format.specs.Cut.{fields}
use Rattle.format.proofs.Cut.{count-on, count-more, count-end, count-append}
use Rattle.lines.specs.Places.{Scanned}

-- `ok` says whether the bytes before i pass
pub record Held (p : ℕ → Bool) (s : List ℕ) (i : ℕ) (ok : Bool) : Type 0 where
  pub within : i ≤ length s
  pub same : ok && all p (drop i s) ≡ all p s

module _ (p : ℕ → Bool) (s : List ℕ) where
  pub held_none : Held p s 0 true
  held_none = record { within = omega arith; same = refl }

  pub held_on : (i : ℕ) (ok b : Bool) → i < length s → b ≡ p (get_or s i 0) → not b ≡ false → Held p s i ok → Held p s (i + 1) ok
  held_on i ok b h e t r = record { within = omega arith; same = rw (rest s i h, ← e, not-false b t) at r.same }

  pub held-off : (i : ℕ) (ok b : Bool) → i < length s → b ≡ p (get_or s i 0) → not b ≡ true → Held p s i ok → Held p s (i + 1) false
  held-off i ok b h e t r = record { within = omega arith; same = rw (rest s i h, ← e, not-true b t, and-false) at r.same }

  pub held-end : (i : ℕ) (ok : Bool) → length s ≤ i → Held p s i ok → ok ≡ all p s
  held-end i ok h r = rw (drop_of_length-le s h, and-all) at r.same

-- the test is that a byte is not x, and the code compares the byte
module _ (x : ℕ) (s : List ℕ) (i : ℕ) (ok : Bool) (h : i < length s) (r : Held (other x) s i ok) where
  pub free_on : (get_or s i 0 ≡ x → ⊥) → Held (other x) s (i + 1) ok
  free_on ne = held_on (other x) s i ok true h (rw (ne_eqb _ _ ne)) refl r

  pub free_off : get_or s i 0 ≡ x → Held (other x) s (i + 1) false
  free_off q = held-off (other x) s i ok false h (rw (eq-eqb _ _ q)) refl r

-- n of the bytes before i are commas
pub record Counted (s : List ℕ) (i n : ℕ) : Type 0 where
  pub within : i ≤ length s
  pub few : n ≤ i
  pub same : n + length (fields (drop i s)) ≡ length (fields s)

module _ (s : List ℕ) where
  pub counted_none : Counted s 0 0
  counted_none = record { within = omega arith; few = omega arith; same = omega arith }

  module _ (i n : ℕ) (h : i < length s) (r : Counted s i n) where
    pub counted-on : (get_or s i 0 ≡ 44 → ⊥) → Counted s (i + 1) n
    counted-on ne =
        let e : other 44 (get_or s i 0) ≡ true = rw (ne_eqb _ _ ne) in
        record { within = omega arith; few = omega (arith, r.few); same = omega (arith, r.same, count-on s i h e) }

    pub counted-more : get_or s i 0 ≡ 44 → Counted s (i + 1) (n + 1)
    counted-more q =
        let e : other 44 (get_or s i 0) ≡ false = rw (eq-eqb _ _ q) in
        record { within = omega arith; few = omega (arith, r.few); same = omega (arith, r.same, count-more s i h e) }

  pub counted-end : (i n : ℕ) → length s ≤ i → Counted s i n → n + 1 ≡ length (fields s)
  counted-end i n h r = omega (arith, r.same, count-end s i h)

  pub counted-few : (i n : ℕ) → Counted s i n → n ≤ length s
  counted-few i n r = omega (arith, r.few, r.within)

pub scanned-none : (s : List ℕ) → Scanned s 0 0
unfolding fields
scanned-none s = record { within = omega arith; few = omega arith; span = omega arith; count = refl }

module _ (s : List ℕ) (i c : ℕ) (r : Scanned s i c) where
  -- a chunk from i to e: b and n are what `all_plain` and `commas_in` answer of it
  pub scanned-chunk : (e m n : ℕ) (b : Bool) → e ≡ i + m → m ≤ length s - i → b ≡ all plain (take (e - i) (drop i s)) → not b ≡ false
      → n + 1 ≡ length (fields (take (e - i) (drop i s))) → n ≤ length (take (e - i) (drop i s)) → Scanned s e (c + n)
  scanned-chunk e m n b q h f t g k =
      let d : e - i ≡ m = omega arith in
      let l : m ≤ length (drop i s) = omega (arith, length-drop i s) in
      let u : all plain (take m (drop i s)) ≡ true = rw (← d) (sym f ∙ not-false b t) in
      let v = span-block plain m (drop i s) l u in
      let w : drop m (drop i s) ≡ drop (i + m) s = drop-drop m i s in
      let x : n + 1 ≡ length (fields (take m (drop i s))) = rw d at g in
      let y : length (take (e - i) (drop i s)) ≡ m = rw d (length-take-le m (drop i s) l) in
      rw q
      record {
        within = omega arith;
        few = omega (arith, r.few);
        span = omega (arith, r.span, rw w at v);
        count = rw (take-add i m s) (omega (arith, r.count, count-append (take i s) (take m (drop i s))));
      }

  module _ (h : i < length s) (b : Bool) (f : b ≡ plain (get_or s i 0)) where
    pub scanned-stops : not b ≡ true → i ≡ span_of plain s
    scanned-stops t = span-stop plain s i h (sym f ∙ not-true b t) r.span

    one : take 1 (drop i s) ≡ get_or s i 0 ∷ []
    one = rw (rest s i h)

    module _ (t : not b ≡ false) where
      next : span_of plain s ≡ i + 1 + span_of plain (drop (i + 1) s)
      next = span-on plain s i h (sym f ∙ not-false b t) r.span

      pub scanned-byte : (get_or s i 0 ≡ 44 → ⊥) → Scanned s (i + 1) c
      unfolding fields
      scanned-byte ne =
          let x : length (fields (take 1 (drop i s))) ≡ 1 = rw (one, ne_eqb _ _ ne) in
          record {
            within = omega arith;
            few = omega (arith, r.few);
            span = next;
            count = rw (take-add i 1 s) (omega (arith, r.count, count-append (take i s) (take 1 (drop i s))));
          }

      pub scanned-comma : get_or s i 0 ≡ 44 → Scanned s (i + 1) (c + 1)
      unfolding fields
      scanned-comma q =
          let x : length (fields (take 1 (drop i s))) ≡ 2 = rw (one, eq-eqb _ _ q) in
          record {
            within = omega arith;
            few = omega (arith, r.few);
            span = next;
            count = rw (take-add i 1 s) (omega (arith, r.count, count-append (take i s) (take 1 (drop i s))));
          }

  pub scanned-end : length s ≤ i → i ≡ span_of plain s
  scanned-end h = span-all plain s i h r.span

pub ruleset passes = (held_none, held_on, held-off, held-end, free_on, free_off, counted_none, counted-on, counted-more, counted-end, counted-few, scanned-none, scanned-chunk, scanned-stops, scanned-byte, scanned-comma, scanned-end)

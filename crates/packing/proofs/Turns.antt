-- The loop that packs: what holds before each turn, a turn, the end. Assumes nothing.
use Prim.Native.Nat.{ℕ, ◌+◌, ◌≤◌, ◌<◌}
use mathlib.Core.Path.{◌≡◌, refl, sym, ap, ap₂, ◌∙◌}
use mathlib.Core.List.{List, ◌++◌}
use mathlib.Core.Bool.{true, false, cond}
use native.Mathlib.Omega.{arith}
use lib.ListN.{length, take, drop, get_or, set, length-append}
use lib.Seq.{sets, length-sets, take-length}
use lib.Dec.{ltb}
use borrow.Author.Tests.{lt-ltb, le-ltb}
use Rattle.ground.proofs.Room.{sets-append, sets-front}
use Rattle.ground.proofs.Cases.{split, same_or}
use Rattle.format.specs.Day.{over}
use Rattle.store.specs.Moves.{covered, keep, kept, placed}
use Rattle.moving.specs.Moving.{moved, Within}
use Rattle.moving.proofs.Stores.{drop-sets}
use Rattle.moving.proofs.Moves.{length-stretch, moved-sets}
use Rattle.ranges.specs.Laid.{Laid}
use Rattle.packing.specs.Packing.{packed, pack_of}
use Rattle.packing.specs.Steps.{Next}
use Rattle.packing.proofs.Keeps.{length-keep, kept-gap, kept_block, kept-few, covered-in, covered_out, length-placed, placed_at, placed_same, placed-set, placed-still}

-- where a block lies while the blocks before place p are packed
abbrev pub rule_at : List ℕ → List ℕ → List ℕ → ℕ → ℕ → ℕ
rule_at os ns room p o = cond (ltb o p) (length (kept os ns room o)) o

-- the blocks before place p are packed, and no block lies across it
pub record Packing (room₀ os₀ ns room os : List ℕ) (p q : ℕ) : Type 0 where
  pub within : p ≤ length room₀
  pub bytes : q ≡ length (kept os₀ ns room₀ p)
  pub stored : room ≡ sets room₀ 0 (kept os₀ ns room₀ p)
  pub places : os ≡ placed (rule_at os₀ ns room₀ p) os₀ ns
  pub clear : (j : ℕ) → j < length os₀ → 0 < get_or ns j 0 → get_or os₀ j 0 < p → get_or os₀ j 0 + get_or ns j 0 ≤ p

module _ (room₀ os₀ ns : List ℕ) where
  pub packing-none : Packing room₀ os₀ ns room₀ os₀ 0 0
  unfolding keep
  packing-none =
      record {
        within = omega arith;
        bytes = refl;
        stored = refl;
        places = sym (placed-still (rule_at os₀ ns room₀ 0) os₀ ns (λ o. rw (le-ltb o 0 (omega arith))));
        clear = λ j a b h. absurd (omega arith);
      }

  module _ (laid : Laid os₀ ns (length room₀)) (room os : List ℕ) (p q : ℕ) (r : Packing room₀ os₀ ns room os p q) where
    pub as_long : length room ≡ length room₀
    as_long = ap length r.stored ∙ length-sets room₀ 0 (kept os₀ ns room₀ p)

    pub as_many : length os ≡ length os₀
    as_many = ap length r.places ∙ length-placed (rule_at os₀ ns room₀ p) os₀ ns

    pub few : q ≤ p
    few = omega (arith, r.bytes, kept-few (covered os₀ ns) room₀ p)

    place-now : (j : ℕ) → j < length os₀ → 0 < get_or ns j 0 → get_or os j 0 ≡ rule_at os₀ ns room₀ p (get_or os₀ j 0)
    place-now j a h = ap (λ (z : List ℕ). get_or z j 0) r.places ∙ placed_at (rule_at os₀ ns room₀ p) os₀ ns j a (omega (arith, laid.as_many)) h

    -- a block at p or behind it still lies where it lay, and the others lie before p
    pub still : (j : ℕ) → j < length os₀ → 0 < get_or ns j 0 → p ≤ get_or os₀ j 0 → get_or os j 0 ≡ get_or os₀ j 0
    still j a h g = place-now j a h ∙ rw (le-ltb (get_or os₀ j 0) p g)

    pub lay : (j : ℕ) → j < length os₀ → 0 < get_or ns j 0 → p ≤ get_or os j 0 → p ≤ get_or os₀ j 0
    lay j a h g =
        split p (get_or os₀ j 0) (λ k. k)
        (λ k.
        let e : get_or os j 0 ≡ length (kept os₀ ns room₀ (get_or os₀ j 0)) = place-now j a h ∙ rw (lt-ltb (get_or os₀ j 0) p k) in
        absurd (omega (arith, kept-few (covered os₀ ns) room₀ (get_or os₀ j 0))))

    module _ (i : ℕ) (next : Next os ns p i) where
      -- no block is left: nothing is covered from p on
      pub none_left : length os ≤ i → (j : ℕ) → j < length os₀ → 0 < get_or ns j 0 → get_or os₀ j 0 < p
      none_left e j a h =
          split p (get_or os₀ j 0)
          (λ k. absurd (omega (arith, next.some j (omega (arith, as_many)) h (omega (arith, still j a h k)))))
          (λ k. k)

      none-covered : length os ≤ i → (x : ℕ) → p ≤ x → covered os₀ ns x ≡ false
      none-covered e x g =
          covered_out os₀ ns x (λ j a b h k. omega (arith, r.clear j a (omega arith) (none_left e j a (omega arith))))

      all-kept : length os ≤ i → keep (covered os₀ ns) 0 room₀ ≡ kept os₀ ns room₀ p
      all-kept e =
          ap (keep (covered os₀ ns) 0) (sym (take-length room₀))
          ∙ kept-gap (covered os₀ ns) room₀ p (length room₀) r.within (omega arith) (λ x a b. none-covered e x a)

      pub packing-all : length os ≤ i → packed q room os ≡ pack_of room₀ os₀ ns
      unfolding pack_of
      packing-all e =
          let k = all-kept e in
          let b : q ≡ length (keep (covered os₀ ns) 0 room₀) = r.bytes ∙ ap length (sym k) in
          let m : room ≡ over (keep (covered os₀ ns) 0 room₀) room₀ =
          r.stored ∙ ap (sets room₀ 0) (sym k) ∙ sets-front room₀ (keep (covered os₀ ns) 0 room₀) (length-keep (covered os₀ ns) 0 room₀) in
          let s : os ≡ placed (λ (o : ℕ). length (kept os₀ ns room₀ o)) os₀ ns =
          r.places
          ∙ placed_same (rule_at os₀ ns room₀ p) (λ (o : ℕ). length (kept os₀ ns room₀ o)) os₀ ns
          (λ j a c h. rw (lt-ltb (get_or os₀ j 0) p (none_left e j a h))) in
          ap₂ (λ (x : ℕ) (y : List ℕ). packed x y os) b m ∙ ap (packed (length (keep (covered os₀ ns) 0 room₀)) (over (keep (covered os₀ ns) 0 room₀) room₀)) s

      -- a block is left
      module _ (some : i < length os) where
        lies : get_or os₀ i 0 ≡ get_or os i 0
        lies = sym (still i (omega (arith, as_many)) (next.block some) (lay i (omega (arith, as_many)) (next.block some) (next.behind some)))

        pub turn_inside : get_or os i 0 + get_or ns i 0 ≤ length room₀
        turn_inside = omega (arith, lies, laid.inside i (omega (arith, as_many)) (next.block some))

        -- the next block's place is least
        nearest : (j : ℕ) → j < length os₀ → 0 < get_or ns j 0 → p ≤ get_or os₀ j 0 → get_or os i 0 ≤ get_or os₀ j 0
        nearest j a h g = let e = still j a h g in omega (arith, next.least j (omega (arith, as_many)) h (omega arith))

        gap : (x : ℕ) → p ≤ x → x < get_or os i 0 → covered os₀ ns x ≡ false
        gap x g l =
            covered_out os₀ ns x (λ j a b h k.
            split p (get_or os₀ j 0)
            (λ m. omega (arith, nearest j a (omega arith) m))
            (λ m. omega (arith, r.clear j a (omega arith) m)))

        block : (x : ℕ) → get_or os i 0 ≤ x → x < get_or os i 0 + get_or ns i 0 → covered os₀ ns x ≡ true
        block x g l = covered-in os₀ ns i x (omega (arith, as_many)) (omega (arith, as_many, laid.as_many)) (omega (arith, lies)) (omega (arith, lies))

        kept_here : kept os₀ ns room₀ (get_or os i 0) ≡ kept os₀ ns room₀ p
        kept_here = kept-gap (covered os₀ ns) room₀ p (get_or os i 0) (next.behind some) (omega (arith, turn_inside)) gap

        kept_then : kept os₀ ns room₀ (get_or os i 0 + get_or ns i 0) ≡ kept os₀ ns room₀ p ++ take (get_or ns i 0) (drop (get_or os i 0) room₀)
        kept_then =
            kept_block (covered os₀ ns) room₀ (get_or os i 0) (get_or ns i 0) turn_inside block
            ∙ ap (λ (z : List ℕ). z ++ take (get_or ns i 0) (drop (get_or os i 0) room₀)) kept_here

        pub turn-within : Within room (get_or os i 0) q (get_or ns i 0)
        turn-within =
            record { from = omega (arith, as_long, turn_inside); to = omega (arith, as_long, turn_inside, few, next.behind some) }

        -- another block lies behind the end of this one, or before p
        beyond : (j : ℕ) → j < length os₀ → 0 < get_or ns j 0 → (j ≡ i → ⊥) → p ≤ get_or os₀ j 0 → get_or os i 0 + get_or ns i 0 ≤ get_or os₀ j 0
        beyond j a h d g =
            omega (arith, lies, laid.apart i j (omega (arith, as_many)) a (next.block some) h (omega (arith, lies, nearest j a h g)) (λ e. d (sym e)))

        moved-room : moved room (get_or os i 0) q (get_or ns i 0) ≡ sets room₀ 0 (kept os₀ ns room₀ (get_or os i 0 + get_or ns i 0))
        moved-room =
            let e : q ≡ 0 + length (kept os₀ ns room₀ p) = omega (arith, r.bytes) in
            moved-sets room (get_or os i 0) q (get_or ns i 0) turn-within
            ∙ ap (λ (z : List ℕ). sets room q (take (get_or ns i 0) z))
            (ap (drop (get_or os i 0)) r.stored ∙ drop-sets (get_or os i 0) room₀ 0 (kept os₀ ns room₀ p) (omega (arith, few, next.behind some)))
            ∙ ap₂ (λ (z : List ℕ) (k : ℕ). sets z k (take (get_or ns i 0) (drop (get_or os i 0) room₀))) r.stored e
            ∙ sym (sets-append room₀ 0 (kept os₀ ns room₀ p) (take (get_or ns i 0) (drop (get_or os i 0) room₀)))
            ∙ ap (sets room₀ 0) (sym kept_then)

        new-place : q ≡ rule_at os₀ ns room₀ (get_or os i 0 + get_or ns i 0) (get_or os₀ i 0)
        new-place =
            rw (lt-ltb (get_or os₀ i 0) (get_or os i 0 + get_or ns i 0) (omega (arith, lies, next.block some)))
            (r.bytes ∙ ap length (sym kept_here) ∙ ap (λ (k : ℕ). length (kept os₀ ns room₀ k)) (sym lies))

        pub packing-more : Packing room₀ os₀ ns (moved room (get_or os i 0) q (get_or ns i 0)) (set os i q) (get_or os i 0 + get_or ns i 0) (q + get_or ns i 0)
        packing-more =
            record {
              within = turn_inside;
              bytes =
                  omega (
                    arith,
                    r.bytes,
                    ap length kept_then,
                    length-append (kept os₀ ns room₀ p) (take (get_or ns i 0) (drop (get_or os i 0) room₀)),
                    length-stretch room₀ (get_or os i 0) (get_or ns i 0) turn_inside,
                  );
              stored = moved-room;
              places =
                  ap₂ (λ (z : List ℕ) (v : ℕ). set z i v) r.places new-place
                  ∙ placed-set (rule_at os₀ ns room₀ p) (rule_at os₀ ns room₀ (get_or os i 0 + get_or ns i 0)) os₀ ns i
                  (omega (arith, as_many)) (omega (arith, as_many, laid.as_many)) (next.block some)
                  (λ j a b h d.
                  split p (get_or os₀ j 0)
                  (λ m. rw (le-ltb (get_or os₀ j 0) p m, le-ltb (get_or os₀ j 0) (get_or os i 0 + get_or ns i 0) (beyond j a h d m)))
                  (λ m. rw (lt-ltb (get_or os₀ j 0) p m, lt-ltb (get_or os₀ j 0) (get_or os i 0 + get_or ns i 0) (omega (arith, next.behind some)))));
              clear =
                  λ j a h l.
                  same_or j i
                  (λ e. omega (arith, lies, ap (λ (k : ℕ). get_or os₀ k 0) e, ap (λ (k : ℕ). get_or ns k 0) e))
                  (λ d.
                  split p (get_or os₀ j 0)
                  (λ m. absurd (omega (arith, beyond j a h d m)))
                  (λ m. omega (arith, r.clear j a h m, next.behind some)));
            }

-- ---- in the code's terms

-- every fact of a turn: block i, of n bytes at place o, goes to place q
pub record Turn (room₀ os₀ ns room os : List ℕ) (p q i o n : ℕ) : Type 0 where
  pub within : Within room o q n
  pub inside : o + n ≤ length room₀
  pub falls : p < o + n
  pub down : q ≤ o
  pub at : o ≡ get_or os i 0
  pub more : (l : List ℕ) → l ≡ moved room o q n → Packing room₀ os₀ ns l (set os i q) (o + n) (q + n)

pub turn : {room₀ os₀ ns room os : List ℕ} {p q i o n : ℕ} → Laid os₀ ns (length room₀) → Packing room₀ os₀ ns room os p q → Next os ns p i → i < length os
    → o ≡ get_or os i 0 → n ≡ get_or ns i 0 → Turn room₀ os₀ ns room os p q i o n
turn {room₀} {os₀} {ns} {room} {os} {p} {q} {i} {o} {n} laid r next some eo en =
    rw (eo, en)
    record {
      within = turn-within room₀ os₀ ns laid room os p q r i next some;
      inside = turn_inside room₀ os₀ ns laid room os p q r i next some;
      falls = omega (arith, next.behind some, next.block some);
      down = omega (arith, few room₀ os₀ ns laid room os p q r, next.behind some);
      at = refl;
      more = λ l e. rw e (packing-more room₀ os₀ ns laid room os p q r i next some);
    }

-- the places are still as many as the lengths
pub even : {room₀ os₀ ns room os : List ℕ} {p q : ℕ} → Laid os₀ ns (length room₀) → Packing room₀ os₀ ns room os p q → length os ≡ length ns
even {room₀} {os₀} {ns} {room} {os} {p} {q} laid r = as_many room₀ os₀ ns laid room os p q r ∙ laid.as_many

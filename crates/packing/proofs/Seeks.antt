-- The loop that looks for the next block: what holds before each turn, a turn, the end. Assumes nothing.
use Prim.Native.Nat.{ℕ, ◌+◌, ◌≤◌, ◌<◌}
use mathlib.Core.Path.{◌≡◌, refl, sym, ◌∙◌}
use mathlib.Core.List.{List}
use mathlib.Core.Bool.{Bool, true, false, ◌&&◌, false≢true}
use native.Mathlib.Omega.{arith}
use lib.ListN.{length, get_or}
use mir.Val.{Fits}
use mir.Syntax.{w32}
use lib.Dec.{leb, ltb, eqb}
use borrow.Author.Tests.{leb-true, ltb-true, eqb-true, le-leb, lt-ltb}
use borrow.Author.Count.{below_more}
use Rattle.ground.proofs.Tests.{and-true}
use Rattle.ground.proofs.Cases.{split}
use Rattle.packing.specs.Steps.{Next}

-- ---- one range

-- block i lies at p itself: none is nearer
pub next-at : (os ns : List ℕ) (p i : ℕ) {b : Bool} → i < length os → b ≡ (ltb 0 (get_or ns i 0) && eqb (get_or os i 0) p) → b ≡ true → Next os ns p i
next-at os ns p i l e t =
    let z = and-true (ltb 0 (get_or ns i 0)) (eqb (get_or os i 0) p) (sym e ∙ t) in
    let y = eqb-true (get_or os i 0) p z.1 in
    record {
      within = omega arith;
      block = λ g. ltb-true 0 (get_or ns i 0) z.0;
      behind = λ g. omega arith;
      some = λ j a c d. l;
      least = λ j a c d. omega arith;
    }

-- ---- all of them

-- of the first i ranges `best` is the one sought, at place `least`; or there is none yet, and `least` is behind every place
pub record Seeking (os ns : List ℕ) (p best least i : ℕ) : Type 0 where
  pub within : i ≤ length os
  pub in_all : best ≤ length os
  pub block : best < length os → 0 < get_or ns best 0
  pub behind : best < length os → p ≤ get_or os best 0
  pub there : best < length os → least ≡ get_or os best 0
  pub none : length os ≤ best → least ≡ 4294967296
  pub passed : (j : ℕ) → j < i → 0 < get_or ns j 0 → p ≤ get_or os j 0 → least ≤ get_or os j 0

module _ (os ns : List ℕ) (p : ℕ) where
  pub seeking-none : Seeking os ns p (length os) 4294967296 0
  seeking-none =
      record {
        within = omega arith;
        in_all = omega arith;
        block = λ h. absurd (omega arith);
        behind = λ h. absurd (omega arith);
        there = λ h. absurd (omega arith);
        none = λ h. refl;
        passed = λ j h. absurd (omega arith);
      }

  module _ (best least i : ℕ) (b : Bool) (h : i < length os) (e : b ≡ (ltb 0 (get_or ns i 0) && leb p (get_or os i 0) && ltb (get_or os i 0) least)) (s : Seeking os ns p best least i) where
    pub seeking-found : (x : ℕ) → b ≡ true → x ≡ get_or os i 0 → Seeking os ns p i x (i + 1)
    seeking-found k t f =
        let z = and-true (ltb 0 (get_or ns i 0) && leb p (get_or os i 0)) (ltb (get_or os i 0) least) (sym e ∙ t) in
        let y = and-true (ltb 0 (get_or ns i 0)) (leb p (get_or os i 0)) z.0 in
        record {
          within = omega arith;
          in_all = omega arith;
          block = λ g. ltb-true 0 (get_or ns i 0) y.0;
          behind = λ g. leb-true p (get_or os i 0) y.1;
          there = λ g. f;
          none = λ g. absurd (omega arith);
          passed =
              below_more _ i (λ j a c d. omega (arith, s.passed j a c d, ltb-true (get_or os i 0) least z.1)) (λ c d. omega arith);
        }

    pub seeking-on : b ≡ false → Seeking os ns p best least (i + 1)
    seeking-on t =
        record {
          within = omega arith;
          in_all = s.in_all;
          block = s.block;
          behind = s.behind;
          there = s.there;
          none = s.none;
          passed =
              below_more _ i s.passed (λ c d.
              split least (get_or os i 0) (λ g. g)
              (λ g. absurd (false≢true (sym t ∙ e ∙ rw (lt-ltb 0 (get_or ns i 0) c, le-leb p (get_or os i 0) d, lt-ltb (get_or os i 0) least g)))));
        }

  pub seeking-all : (best least i : ℕ) → length os ≤ i → ((j : ℕ) → Fits w32 (get_or os j 0)) → Seeking os ns p best least i → Next os ns p best
  seeking-all best least i h fits s =
      let there : (j : ℕ) → j < length os → 0 < get_or ns j 0 → p ≤ get_or os j 0 → best < length os =
      λ j a c d. split (length os) best (λ g. absurd (omega (arith, s.none g, s.passed j (omega arith) c d, fits j))) (λ g. g) in
      record {
        within = s.in_all;
        block = s.block;
        behind = s.behind;
        some = there;
        least = λ j a c d. omega (arith, s.there (there j a c d), s.passed j (omega arith) c d);
      }

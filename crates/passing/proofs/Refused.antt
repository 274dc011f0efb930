-- A block on its own, refused: at one of its records, and with another number than 4, it is the refusal that the check of a file gives there. Assumes nothing.
use Prim.Native.Nat.{ℕ, ◌+◌, ◌<◌}
use mathlib.Core.Path.{◌≡◌, refl, sym, ap, ap₂, ◌∙◌}
use mathlib.Core.Logic.{◌≢◌}
use mathlib.Core.Bool.{Bool, true, false, not, ◌&&◌, ◌||◌}
use mathlib.Core.List.{List, [], ◌∷◌, ◌++◌}
use native.Mathlib.Omega.{arith}
use lib.ListN.{length}
use lib.Dec.{eqb}
use Rattle.ground.proofs.Cases.{by}
use Rattle.format.specs.Numbers.{intervals_of}
use Rattle.format.specs.Units.{is_unit, decimals_of}
use Rattle.format.specs.Cut.{Lines, line, rest, lines, fields}
use Rattle.format.specs.Records.{kind_in}
use Rattle.format.specs.Order.{first300, in_day, is_end, Due, due, begun}
use Rattle.format.specs.Answers.{accepted, refused}
use Rattle.format.specs.Faults.{◌▹◌, stop, f3, is_open, f10, fault_at, fault_of, Fault, Fine, Stop}
use Rattle.format.specs.File.{after, or_go_on, walk_of, behind200, is_foreign, block_fault_of, end_of, block_walk_of, top_says, block_check_of}
use Rattle.format.proofs.States.{only, not-ended}
use Rattle.passing.specs.Passes.{Leads, kinds_of}
use Rattle.passing.proofs.Fit.{fine-fit}
use Rattle.passing.proofs.Steps.{after-300}
use Rattle.passing.proofs.Walk.{not-accepted}
use Rattle.passing.proofs.Files.{walk-append}
use Rattle.passing.proofs.Blocks.{counting, fault-counting, after-counting}
use Rattle.passing.proofs.Alone.{alone-fine, Inside, inside-kind, inside-after, inside-300}

-- ---- one record

-- a fault of a block's record, other than 4, is the file's
same_stop : (f g q : Fault) (b : Bool) (x o i : ℕ) → x ≢ 4 → (f ▹ g ▹ stop b 4 0 0 ▹ (f ▹ g ▹ q)) ≡ Stop x o i → (f ▹ g ▹ q) ≡ Stop x o i
same_stop Fine Fine q true x o i n e = absurd (n (let z : x ≡ 4 = cc in z))
same_stop Fine Fine q false x o i n e = e
same_stop Fine (Stop y p j) q b x o i n e = e
same_stop (Stop y p j) g q b x o i n e = e

stop-same : (st : Due) (r : List ℕ) (x o i : ℕ) → x ≢ 4 → block_fault_of st r ≡ Stop x o i → fault_of st r ≡ Stop x o i
unfolding block_fault_of fault_of fault_at
stop-same st r x o i n e = same_stop (f3 r) (f10 st (kind_in (fields r))) _ (is_foreign st (kind_in (fields r))) x o i n e

-- ---- the walk, in a state with other counts, from another place and record number on

module _ (y : List ℕ) (v c a b x q j i : ℕ) (n : x ≢ 4) where
  -- behind the last record it is 2, or 10 where the cover is short
  at-end : (st : Due) (p k : ℕ) (t : List ℕ) → block_walk_of y st p k (rest t) ≡ refused x q j i → j ≡ k
  unfolding block_walk_of end_of
  at-end st p k t e =
      by (in_day st.expect && eqb (length t) 0)
      (λ s. by (is_open st 0)
      (λ o. let z : refused 10 p k 0 ≡ refused x q j i = (rw (s, o) at e) in let u : j ≡ k = cc in u)
      (λ o. let z : accepted (y ++ k ∷ []) ≡ refused x q j i = (rw (s, o) at e) in not-accepted x q j i (y ++ k ∷ []) (sym z)))
      (λ s. let z : refused 2 p k 0 ≡ refused x q j i = (rw s at e) in let u : j ≡ k = cc in u)

  -- one record, and what the records behind it say
  step : (d : ℕ) (st : Due) (p k : ℕ) (r : List ℕ) (ls : Lines) → is_end st.expect ≡ false
      → (block_fault_of st r ≡ Fine → block_walk_of y (after st r) (p + length r + 2) (k + 1) ls ≡ refused x q j i
      → walk_of (after (counting v c d st) r) (a + (p + length r + 2)) (b + (k + 1)) ls ≡ refused x (a + q) (b + j) i)
      → block_walk_of y st p k (line r ls) ≡ refused x q j i → walk_of (counting v c d st) (a + p) (b + k) (line r ls) ≡ refused x (a + q) (b + j) i
  unfolding block_walk_of walk_of counting
  step d st p k r ls w ih e = go (block_fault_of st r) refl e
    where
      go : (f : Fault) → block_fault_of st r ≡ f → or_go_on p k f (block_walk_of y (after st r) (p + length r + 2) (k + 1) ls) ≡ refused x q j i
          → walk_of (counting v c d st) (a + p) (b + k) (line r ls) ≡ refused x (a + q) (b + j) i
      go Fine h g =
          let u : a + p + length r + 2 ≡ a + (p + length r + 2) = omega arith in
          let z : b + k + 1 ≡ b + (k + 1) = omega arith in
          rw (w, fault-counting v c d st r, (alone-fine st r h).1)
          (ap₂ (λ (s t : ℕ). walk_of (after (counting v c d st) r) s t ls) u z ∙ ih h g)
      go (Stop z o m) h g =
          let e₁ : z ≡ x = cc in
          let e₂ : p + o ≡ q = cc in
          let e₃ : k ≡ j = cc in
          let e₄ : m ≡ i = cc in
          let u : a + p + o ≡ a + q = omega arith in
          rw (w, fault-counting v c d st r, stop-same st r z o m (λ l. n (sym e₁ ∙ l)) h, u, e₁, e₃, e₄)

  -- under the 300
  same-under : (d : ℕ) (st : Due) (p k : ℕ) (ls : Lines) → Inside st → j < k + length (kinds_of ls) → block_walk_of y st p k ls ≡ refused x q j i
      → walk_of (counting v c d st) (a + p) (b + k) ls ≡ refused x (a + q) (b + j) i
  same-under d st p k (rest t) h l e = absurd (let z : ⊥ = omega (arith, at-end st p k t e) in z)
  same-under d st p k (line r ls) h l e =
      step d st p k r ls (not-ended st.expect 500 h)
      (λ f g.
      let w = inside-kind st r h (alone-fine st r f).0 in
      rw (after-counting v c d st r w) (same-under d (after st r) (p + length r + 2) (k + 1) ls (inside-after st r w) (omega arith) g))
      e

  -- behind a 200 of m intervals and w decimals
  same_block : (d m w : ℕ) (ls : Lines) → j < length (kinds_of ls) → block_walk_of y (behind200 m w) 0 0 ls ≡ refused x q j i
      → walk_of (due first300 v m w 0 c d) (a + 0) (b + 0) ls ≡ refused x (a + q) (b + j) i
  unfolding counting
  same_block d m w (rest t) l e = absurd (let z : ⊥ = omega (arith, at-end (behind200 m w) 0 0 t e) in z)
  same_block d m w (line r ls) l e =
      step d (behind200 m w) 0 0 r ls refl
      (λ f g.
      let st : Due = behind200 m w in
      let h : kind_in (fields r) ≡ 300 = only first300 300 _ refl (fine-fit st r (alone-fine st r f).1).may in
      let s : after (counting v c d st) r ≡ counting v c (d + 1) (after st r) = after-300 (counting v c d st) r h ∙ ap (counting v c (d + 1)) (sym (after-300 st r h)) in
      rw s (same-under (d + 1) (after st r) (0 + length r + 2) (0 + 1) ls (inside-300 st r h) (omega arith) g))
      e

-- ---- the theorem

-- Behind any 200 of that interval length and unit, the check of a file refuses the record as the block's check does: the same number and field, and place and record
-- number counted on from the block's start.
pub refused-there : (m u : ℕ) (s : List ℕ) (x q j i : ℕ) → block_check_of m u s ≡ refused x q j i → x ≢ 4 → x ≢ 16 → j < length (kinds_of (lines s))
    → (before : List ℕ) (v c d : ℕ) → Leads before (due first300 v (intervals_of m) (decimals_of u) 0 c d)
    → walk_of begun 0 0 (lines (before ++ s)) ≡ refused x (length before + q) (length (kinds_of (lines before)) + j) i
unfolding block_check_of
refused-there m u s x q j i e n z l before v c d h =
    let a : ℕ = 0 + length before in
    let b : ℕ = 0 + length (kinds_of (lines before)) in
    let n₁ : ℕ = intervals_of m in
    let w : ℕ = decimals_of u in
    by (eqb n₁ 0 || not (is_unit u))
    (λ t. absurd (z (let g : refused 16 0 0 0 ≡ refused x q j i = (rw t at e) in let y : x ≡ 16 = cc in y)))
    (λ t.
    let g : block_walk_of (top_says n₁ (lines s)) (behind200 n₁ w) 0 0 (lines s) ≡ refused x q j i = rw t at e in
    let y : a ≡ length before + 0 = omega arith in
    let k : b ≡ length (kinds_of (lines before)) + 0 = omega arith in
    walk-append begun (due first300 v n₁ w 0 c d) 0 0 before s h
    ∙ ap₂ (λ (p k : ℕ). walk_of (due first300 v n₁ w 0 c d) p k (lines s)) y k
    ∙ same_block (top_says n₁ (lines s)) v c (length before) (length (kinds_of (lines before))) x q j i n d n₁ w (lines s) l g)

-- What a splitting that is accepted leaves, and what one that is refused does. Assumes nothing.
use Prim.Native.Nat.{ℕ, zero, suc, ◌-◌, ◌≤◌, ◌<◌}
use mathlib.Core.Path.{◌≡◌, refl, sym, ap, subst, ◌∙◌}
use mathlib.Core.Bool.{Bool, true, false, not, ◌&&◌}
use mathlib.Core.List.{List, [], ◌∷◌}
use native.Mathlib.Omega.{arith}
use borrow.Author.Tests.{leb-true, eqb-false, not-true, le-leb}
use lib.ListN.{length, get_or, drop, length-map, get_or-append}
use lib.Seq.{take_at, drop_at}
use lib.Dec.{leb, eqb}
use Rattle.ground.specs.Lists.{all, sum}
use Rattle.ground.proofs.Tests.{and-true}
use Rattle.ground.proofs.From.{from-here}
use Rattle.format.specs.Answers.{accepted, refused, refusal}
use Rattle.format.specs.Day.{over}
use Rattle.entries.specs.Left.{Left, left, unless}
use Rattle.tenants.specs.Outputs.{Output, fit_output, outputs_given}
use Rattle.tenants.specs.Calls.{enough}
use Rattle.outputs.proofs.Walks.{given-long}
use Rattle.shares.specs.Shares.{part_of, parts_of}
use Rattle.shares.proofs.Loops.{parts-long}
use Rattle.channel_shares.specs.OnChannel.{weight_of, weights_of}
use Rattle.splits.specs.Calls.{is_on, shared_of, split_of}
use Rattle.fair.specs.Shared.{output_at, one_at, Shared, Refuses}
use Rattle.fair.proofs.Fair.{extra, adds-up, none-for-none, rounded, larger-served, lower-served, part-is}

-- ---- tests in their order

differ : {X : Type 0} {x p k i : ℕ} {xs ps qs : List ℕ} → left (refused x p k i) ps ≡ left (accepted xs) qs → X
differ {X} {x} {p} {k} {i} {xs} e =
    let a : refused x p k i ≡ accepted xs = ap (λ (l : Left). l.answer) e in
    let z : ◌≡◌ {A = ℕ} 0 1 = cc in
    absurd (omega arith)

-- what is accepted behind a test has passed it
pub passed : (b : Bool) (x : ℕ) (ps : List ℕ) (l : Left) {xs qs : List ℕ} → unless b x ps l ≡ left (accepted xs) qs → (b ≡ true) × (l ≡ left (accepted xs) qs)
passed true x ps l e = (refl, e)
passed false x ps l e = differ e

same_number : {x y p k i : ℕ} {ps qs : List ℕ} → left (refusal x) ps ≡ left (refused y p k i) qs → x ≡ y
same_number {x} {y} {p} {k} {i} e =
    let a : refusal x ≡ refused y p k i = ap (λ (l : Left). l.answer) e in
    cc

-- a test gives its number, and leaves the parts
pub refuses : {numbers : ℕ → Bool} (b : Bool) (x : ℕ) (ps : List ℕ) (l : Left) → numbers x ≡ true → Refuses numbers ps l → Refuses numbers ps (unless b x ps l)
refuses true x ps l t r = r
refuses {numbers} false x ps l t r =
    record {
      number = λ e. subst (λ (y : ℕ). numbers y ≡ true) (same_number e) t;
      keeps = λ e. sym (ap (λ (l : Left). l.memory) e);
    }

-- what is accepted is no refusal
pub accepts : {numbers : ℕ → Bool} (ps xs qs : List ℕ) → Refuses numbers ps (left (accepted xs) qs)
accepts ps xs qs = record { number = λ e. differ (sym e); keeps = λ e. differ (sym e) }

-- ---- a total shared out

weight-at : (on : Output → Bool) (os : List Output) (i : ℕ) → i < length os → get_or (weights_of on os) i 0 ≡ weight_of on (output_at os i)
weight-at on [] i h = absurd (let z : ⊥ = omega arith in z)
weight-at on (o ∷ os) zero h = refl
weight-at on (o ∷ os) (suc i) h = weight-at on os i (omega arith)

module _ (t : ℕ) (on : Output → Bool) (os : List Output) (ps : List ℕ) (l : length os ≡ 128) (g : 128 ≤ length ps) (some : 0 < sum (weights_of on os)) where
  abbrev ws : List ℕ
  ws = weights_of on os

  abbrev qs : List ℕ
  qs = over (parts_of t ws) ps

  parts-many : length (parts_of t ws) ≡ 128
  parts-many = parts-long t ws ∙ length-map os (weight_of on) ∙ l

  part_at : (i : ℕ) → i < 128 → get_or qs i 0 ≡ part_of t ws i
  unfolding parts_of
  part_at i h =
      let n : length ws ≡ 128 = length-map os (weight_of on) ∙ l in
      get_or-append (parts_of t ws) (drop (length (parts_of t ws)) ps) 0 i (omega (arith, parts-many)) ∙ from-here (part_of t ws) 0 (length ws) i (omega arith)

  one-at : (i : ℕ) → i < 128 → one_at t ws qs i ≡ extra t ws i
  one-at i h = omega (arith, part_at i h, part-is t ws i)

  off-weighs : (i : ℕ) → i < 128 → on (output_at os i) ≡ false → get_or ws i 0 ≡ 0
  unfolding weight_of
  off-weighs i h e = weight-at on os i (omega arith) ∙ rw e

  on-weighs : (i : ℕ) → i < 128 → on (output_at os i) ≡ true → get_or ws i 0 ≡ (output_at os i).share
  unfolding weight_of
  on-weighs i h e = weight-at on os i (omega arith) ∙ rw e

  out : Shared t on os ps qs
  out =
      record {
        adds-up = ap sum (take_at (parts_of t ws) (drop (length (parts_of t ws)) ps) 128 parts-many) ∙ adds-up t ws some;
        others = λ i h e. part_at i h ∙ none-for-none t ws i some (off-weighs i h e);
        least = λ i h e. rw (← on-weighs i h e) (omega (arith, part_at i h, rounded t ws i));
        most = λ i h e. rw (← on-weighs i h e) (omega (arith, part_at i h, rounded t ws i));
        larger-first = λ i j h k e. omega (arith, one-at i h, one-at j k, larger-served t ws i j (omega (arith, length-map os (weight_of on))) e);
        lower-first = λ i j h k e. omega (arith, one-at i (omega arith), one-at j k, lower-served t ws i j h e);
        behind = drop_at (parts_of t ws) (drop (length (parts_of t ws)) ps) 128 parts-many ∙ ap (λ (n : ℕ). drop n ps) parts-many;
      }

above-none : (s : ℕ) → not (eqb s 0) ≡ true → 0 < s
above-none s e = let h : s ≡ 0 → ⊥ = eqb-false s 0 (not-true (eqb s 0) e) in omega arith

module _ (t : ℕ) (on : Output → Bool) (os : List Output) (ps : List ℕ) where
  shared-out : length os ≡ 128 → 128 ≤ length ps → {xs rs : List ℕ} → shared_of t on os ps ≡ left (accepted xs) rs → Shared t on os ps rs
  unfolding shared_of
  shared-out l g {xs} {rs} e =
      let w = passed (not (eqb (sum (weights_of on os)) 0)) 26 ps _ e in
      let q : over (parts_of t (weights_of on os)) ps ≡ rs = ap (λ (l : Left). l.memory) w.1 in
      rw (← q) (out t on os ps l g (above-none (sum (weights_of on os)) w.0))

  shared-refuses : {numbers : ℕ → Bool} → numbers 26 ≡ true → Refuses numbers ps (shared_of t on os ps)
  unfolding shared_of
  shared-refuses h = refuses (not (eqb (sum (weights_of on os)) 0)) 26 ps _ h (accepts ps _ _)

-- ---- a splitting

module _ (t : ℕ) (nmi suffix keys shares ps : List ℕ) where
  -- what is accepted was shared out among the outputs on the channel
  pub split-shared : {xs qs : List ℕ} → split_of t nmi suffix keys shares ps ≡ left (accepted xs) qs → Shared t (is_on nmi suffix) (outputs_given 128 keys shares) ps qs
  unfolding split_of
  split-shared e =
      let a = passed (leb t 2880000000000000) 27 ps _ e in
      let b = passed (leb 128 (length ps) && enough keys shares) 15 ps _ a.1 in
      let d = passed (all fit_output (outputs_given 128 keys shares)) 25 ps _ b.1 in
      shared-out t (is_on nmi suffix) (outputs_given 128 keys shares) ps (given-long 128 keys shares)
      (leb-true 128 (length ps) (and-true (leb 128 (length ps)) (enough keys shares) b.0).0) d.1

  -- a refusal is 27, 15, 25 or 26
  pub split-refuses : {numbers : ℕ → Bool} → numbers 27 ≡ true → numbers 15 ≡ true → numbers 25 ≡ true → numbers 26 ≡ true
      → Refuses numbers ps (split_of t nmi suffix keys shares ps)
  unfolding split_of
  split-refuses a b d f =
      refuses (leb t 2880000000000000) 27 ps _ a
      (refuses (leb 128 (length ps) && enough keys shares) 15 ps _ b
      (refuses (all fit_output (outputs_given 128 keys shares)) 25 ps _ d
      (shared-refuses t (is_on nmi suffix) (outputs_given 128 keys shares) ps f)))

  -- 15 or 26 where the total isn't too large and the entries are ones that adding takes
  pub fit-refuses : {numbers : ℕ → Bool} → t ≤ 2880000000000000 → all fit_output (outputs_given 128 keys shares) ≡ true → numbers 15 ≡ true → numbers 26 ≡ true
      → Refuses numbers ps (split_of t nmi suffix keys shares ps)
  unfolding split_of
  fit-refuses h e b f =
      rw (le-leb t 2880000000000000 h, e)
      (refuses (leb 128 (length ps) && enough keys shares) 15 ps _ b (shared-refuses t (is_on nmi suffix) (outputs_given 128 keys shares) ps f))

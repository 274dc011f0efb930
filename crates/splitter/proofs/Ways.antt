-- The ways out of splitting a total. Assumes nothing.
use Prim.Native.Nat.{ℕ, ◌+◌, ◌≤◌, ◌<◌}
use mathlib.Core.Path.{◌≡◌, refl, sym, ap, ap₂, ◌∙◌}
use mathlib.Core.Bool.{Bool, true, false, not, ◌&&◌, ◌||◌, cond}
use mathlib.Core.List.{List, [], ◌∷◌, ◌++◌, map-append}
use native.Mathlib.Omega.{arith}
use borrow.Author.Tests.{le-leb, lt-leb, leb-true, eq-eqb, ne_eqb, not-true, not-false}
use lib.ListN.{length, drop, length-map, length-append}
use lib.Seq.{sets, length-sets}
use lib.Dec.{leb, eqb}
use Rattle.ground.specs.Lists.{all, sum}
use Rattle.ground.proofs.Tests.{and-true}
use Rattle.ground.proofs.Cases.{by, both}
use Rattle.ground.proofs.Room.{sets-front, sets-append}
use Rattle.format.specs.Texts.{is_nmi, is_suffix}
use Rattle.format.specs.Bytes.{capital, is_alnum}
use Rattle.format.specs.Answers.{accepted, refusal, refused_as}
use Rattle.format.specs.declared.Refusal.{Refusal}
use Rattle.entries.specs.Left.{Left, left}
use Rattle.entries.specs.Keys.{capitals}
use Rattle.tenants.specs.Outputs.{Output, is_channel, is_empty, fit_output, outputs_given}
use Rattle.tenants.specs.Calls.{enough}
use Rattle.keys.proofs.Letters.{length-capitals}
use Rattle.outputs.proofs.Channels.{many}
use Rattle.outputs.proofs.Walks.{given-long}
use Rattle.shares.specs.Shares.{one, count, parts_of}
use Rattle.shares.specs.Steps.{Ready}
use Rattle.shares.proofs.Loops.{parts-long, sets-all}
use Rattle.channel_shares.specs.OnChannel.{has_key, weight_of, weights_of}
use Rattle.splits.specs.Calls.{is_on, shared_of, split_of}
use Rattle.splitter.specs.Steps.{Fit}

-- ---- the channel

module _ (nmi suffix : List ℕ) {a : Bool} (ea : a ≡ is_nmi nmi) where
  pub no-nmi : not a ≡ true → false ≡ (is_nmi nmi && is_suffix suffix)
  no-nmi t = rw (← ea, not-true a t)

  pub with-nmi : not a ≡ false → {b : Bool} → b ≡ is_suffix suffix → b ≡ (is_nmi nmi && is_suffix suffix)
  with-nmi t eb = rw (← ea, not-false a t) eb

pub channel-told : (nmi suffix : List ℕ) {b : Bool} → b ≡ (is_nmi nmi && is_suffix suffix) → not b ≡ false → (is_nmi nmi && is_suffix suffix) ≡ true
channel-told nmi suffix {b} e t = sym e ∙ not-false b t

-- an NMI and a suffix in capitals, put one behind the other, are the channel's key in capitals
module _ (nmi suffix : List ℕ) (t : (is_nmi nmi && is_suffix suffix) ≡ true) where
  nmi-long : length nmi ≡ 10
  unfolding is_nmi
  nmi-long = (many is_alnum 10 nmi (and-true (is_nmi nmi) (is_suffix suffix) t).0).0

  suffix-long : length suffix ≡ 2
  unfolding is_suffix
  suffix-long = (many is_alnum 2 suffix (and-true (is_nmi nmi) (is_suffix suffix) t).1).0

  module _ (l : List ℕ) (h : length l ≡ 12) where
    pub nmi-fits : 0 + length nmi ≤ length l
    nmi-fits = omega (arith, nmi-long)

    module _ {m : List ℕ} (em : m ≡ sets l 0 (capitals nmi)) where
      pub suffix-fits : 10 + length suffix ≤ length m
      suffix-fits = omega (arith, suffix-long, ap length em, length-sets l 0 (capitals nmi))

      pub channel-put : {n : List ℕ} → n ≡ sets m 10 (capitals suffix) → n ≡ capitals (nmi ++ suffix)
      channel-put en =
          let a : length (capitals nmi) ≡ 10 = length-capitals nmi ∙ nmi-long in
          let k : 0 + length (capitals nmi) ≡ 10 = omega arith in
          let w : length (capitals nmi ++ capitals suffix) ≡ length l =
          omega (arith, length-append (capitals nmi) (capitals suffix), length-capitals nmi, length-capitals suffix, nmi-long, suffix-long) in
          en ∙ rw em (sym (rw k at (sets-append l 0 (capitals nmi) (capitals suffix)))) ∙ sets-all l (capitals nmi ++ capitals suffix) w ∙ sym (map-append capital nmi suffix)

-- ---- who is on the channel

module _ (p q : Output → Bool) (h : (o : Output) → p o ≡ q o) where
  weights-same : (os : List Output) → weights_of p os ≡ weights_of q os
  unfolding weight_of
  weights-same [] = refl
  weights-same (o ∷ os) = ap₂ (◌∷◌) (ap (λ (b : Bool). cond b o.share 0) (h o)) (weights-same os)

  count_same : (os : List Output) → count p os ≡ count q os
  unfolding count
  count_same [] = refl
  count_same (o ∷ os) = omega (arith, ap one (h o), count_same os)

module _ (p : Output → Bool) (h : (o : Output) → p o ≡ false) where
  weights-none : (os : List Output) → sum (weights_of p os) ≡ 0
  unfolding weight_of
  weights-none [] = refl
  weights-none (o ∷ os) = rw (h o) (omega (arith, weights-none os))

-- shares that adding takes are light weights
fit-light : (p : Output → Bool) (os : List Output) → all fit_output os ≡ true → all (λ (w : ℕ). leb w 1000) (weights_of p os) ≡ true
unfolding fit_output weight_of
fit-light p [] e = refl
fit-light p (o ∷ os) e =
    let g = and-true (fit_output o) (all fit_output os) e in
    let s = and-true (leb o.share 1000) (is_channel o.key || is_empty o.key && eqb o.share 0) g.0 in
    both (leb (weight_of p o) 1000) (all (λ (w : ℕ). leb w 1000) (weights_of p os))
    (by (p o) (λ t. rw t s.0) (λ t. rw t))
    (fit-light p os g.1)

-- ---- a total that is fit to be split

-- over the outputs of a key
module _ (t : ℕ) (channel keys shares ps : List ℕ) {s : ℕ} (es : s ≡ sum (weights_of (has_key channel) (outputs_given 128 keys shares))) where
  pub shared-none : s ≡ 0 → {y : Refusal} → refused_as y ≡ refusal 26 → left (refused_as y) ps ≡ shared_of t (has_key channel) (outputs_given 128 keys shares) ps
  unfolding shared_of
  shared-none z g = rw (← es, eq-eqb s 0 z, g)

  module _ (some : s ≡ 0 → ⊥) (f : Fit t keys shares ps) {ws : List ℕ} (ew : ws ≡ weights_of (has_key channel) (outputs_given 128 keys shares)) where
    pub weights-long : length ws ≡ 128
    weights-long = ap length ew ∙ length-map (outputs_given 128 keys shares) (weight_of (has_key channel)) ∙ given-long 128 keys shares

    pub shares-ready : Ready t s ws
    shares-ready =
        record {
          total = f.total;
          weights = record { few = omega (arith, weights-long); light = rw ew (fit-light (has_key channel) (outputs_given 128 keys shares) f.entries) };
          divisor = rw ew es;
          some = omega arith;
        }

    pub shared-out : {c : ℕ} {qs : List ℕ} → c ≡ count (has_key channel) (outputs_given 128 keys shares) → qs ≡ sets ps 0 (parts_of t ws)
        → left (accepted (c ∷ [])) qs ≡ shared_of t (has_key channel) (outputs_given 128 keys shares) ps
    unfolding shared_of
    shared-out {c} {qs} ec eq =
        let w : qs ≡ parts_of t ws ++ drop (length (parts_of t ws)) ps = eq ∙ sets-front ps (parts_of t ws) (omega (arith, parts-long t ws, weights-long, f.parts)) in
        rw (← es, ne_eqb s 0 some, ← ec, ← ew, w)

-- over those on a channel
module _ (t : ℕ) (nmi suffix : List ℕ) (os : List Output) (ps : List ℕ) {b : Bool} (e : b ≡ (is_nmi nmi && is_suffix suffix)) where
  on_none : not b ≡ true → (o : Output) → is_on nmi suffix o ≡ false
  unfolding is_on
  on_none n o = rw (← e, not-true b n)

  pub shared-bad : not b ≡ true → {y : Refusal} → refused_as y ≡ refusal 26 → left (refused_as y) ps ≡ shared_of t (is_on nmi suffix) os ps
  unfolding shared_of
  shared-bad n g = rw (weights-none (is_on nmi suffix) (on_none n) os, g)

  on-key : not b ≡ false → (o : Output) → is_on nmi suffix o ≡ has_key (capitals (nmi ++ suffix)) o
  unfolding is_on
  on-key n o = rw (← e, not-false b n)

  pub shared-on : not b ≡ false → {channel : List ℕ} → channel ≡ capitals (nmi ++ suffix) → {l : Left} → l ≡ shared_of t (has_key channel) os ps
      → l ≡ shared_of t (is_on nmi suffix) os ps
  unfolding shared_of
  shared-on n k g =
      let q : Output → Bool = has_key (capitals (nmi ++ suffix)) in
      rw (weights-same (is_on nmi suffix) q (on-key n) os, count_same (is_on nmi suffix) q (on-key n) os) (rw k at g)

-- ---- lists that are long enough

module _ (parts keys shares : ℕ) where
  pub few-parts : parts < 128 → false ≡ (leb 128 parts && (leb 1536 keys && leb 128 shares))
  few-parts h = rw (lt-leb 128 parts h)

  pub few-keys : 128 ≤ parts → keys < 1536 → false ≡ (leb 128 parts && (leb 1536 keys && leb 128 shares))
  few-keys g h = rw (le-leb 128 parts g, lt-leb 1536 keys h)

  pub enough-shares : 128 ≤ parts → 1536 ≤ keys → leb 128 shares ≡ (leb 128 parts && (leb 1536 keys && leb 128 shares))
  enough-shares g h = rw (le-leb 128 parts g, le-leb 1536 keys h)

module _ (keys shares ps : List ℕ) {a : Bool} (ea : a ≡ (leb 128 (length ps) && (leb 1536 (length keys) && leb 128 (length shares)))) (ta : not a ≡ false) where
  long : (128 ≤ length ps) × (1536 ≤ length keys) × (128 ≤ length shares)
  long =
      let x = and-true (leb 128 (length ps)) (leb 1536 (length keys) && leb 128 (length shares)) (sym ea ∙ not-false a ta) in
      let y = and-true (leb 1536 (length keys)) (leb 128 (length shares)) x.1 in
      (leb-true 128 (length ps) x.0, leb-true 1536 (length keys) y.0, leb-true 128 (length shares) y.1)

  pub keys-enough : 1536 ≤ length keys
  keys-enough = long.1

  pub shares-enough : 128 ≤ length shares
  shares-enough = long.2

  pub split-ready : (t : ℕ) → t ≤ 2880000000000000 → {c : Bool} → c ≡ all fit_output (outputs_given 128 keys shares) → not c ≡ false → Fit t keys shares ps
  split-ready t h {c} ec tc = record { total = h; key-bytes = long.1; places = long.2; parts = long.0; entries = sym ec ∙ not-false c tc }

-- ---- any total

module _ (t : ℕ) (nmi suffix keys shares ps : List ℕ) where
  pub split-27 : 2880000000000000 < t → {y : Refusal} → refused_as y ≡ refusal 27 → left (refused_as y) ps ≡ split_of t nmi suffix keys shares ps
  unfolding split_of
  split-27 h g = rw (lt-leb t 2880000000000000 h, g)

  module _ (h : t ≤ 2880000000000000) {a : Bool} (ea : a ≡ (leb 128 (length ps) && (leb 1536 (length keys) && leb 128 (length shares)))) where
    pub split-15 : not a ≡ true → {y : Refusal} → refused_as y ≡ refusal 15 → left (refused_as y) ps ≡ split_of t nmi suffix keys shares ps
    unfolding split_of enough
    split-15 n g = rw (le-leb t 2880000000000000 h, ← ea, not-true a n, g)

    module _ (ta : not a ≡ false) {c : Bool} (ec : c ≡ all fit_output (outputs_given 128 keys shares)) where
      pub split-25 : not c ≡ true → {y : Refusal} → refused_as y ≡ refusal 25 → left (refused_as y) ps ≡ split_of t nmi suffix keys shares ps
      unfolding split_of enough
      split-25 n g = rw (le-leb t 2880000000000000 h, ← ea, not-false a ta, ← ec, not-true c n, g)

      pub split-shared : not c ≡ false → {l : Left} → l ≡ shared_of t (is_on nmi suffix) (outputs_given 128 keys shares) ps → l ≡ split_of t nmi suffix keys shares ps
      unfolding split_of enough
      split-shared tc g = rw (le-leb t 2880000000000000 h, ← ea, not-false a ta, ← ec, not-false c tc) g

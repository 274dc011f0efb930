-- The ways out of a put. Assumes nothing.
use Rattle.std.proofs.Common.{Result, Ok, Err, Option, Some, None}
use Prim.Native.Nat.{ℕ, ◌+◌, ◌-◌, ◌≤◌, ◌<◌}
use mathlib.Core.Path.{◌≡◌, refl, sym, ap, ◌∙◌}
use mathlib.Core.Bool.{Bool, true, false, cond, not, ◌&&◌}
use mathlib.Core.List.{List, [], ◌∷◌}
use native.Mathlib.Omega.{arith}
use lib.ListN.{length}
use lib.Dec.{leb, ltb, eqb}
use borrow.Author.Tests.{le-ltb, lt-ltb, le-leb, lt-leb, leb-true, eqb-true, not-true, not-false}
use Rattle.ground.proofs.Tests.{and-true}
use Rattle.ground.proofs.Cases.{by}
use Rattle.format.specs.Bytes.{are_all}
use Rattle.format.specs.Texts.{is_nmi, is_suffix}
use Rattle.format.specs.Numbers.{is_length}
use Rattle.format.specs.Answers.{Answer, accepted, refusal, refused_as, written_as}
use Rattle.format.specs.Block.{Given}
use Rattle.format.specs.declared.Refusal.{Refusal}
use Rattle.format.specs.declared.Written.{Written}
use Rattle.passing.proofs.Writes.{written-length, written-answer}
use Rattle.entries.specs.Keys.{Key, good_key}
use Rattle.store.specs.Used.{taken, freed, held, free_from}
use Rattle.store.specs.Moves.{live}
use Rattle.entries.specs.Left.{Left, left}
use Rattle.store.specs.Calls.{seek, is_there, update_of, slot_for, key_given, write_answer, put_into, put_fit, put_of}
use Rattle.store.specs.declared.Header.{Header}
use Rattle.used_map.proofs.Slots.{freed-fewer}
use Rattle.settling.specs.Settling.{Settles}
use Rattle.settling.proofs.Blocks.{live-most}
use Rattle.opening.specs.Opens.{opened_of}
use Rattle.opening.proofs.Ways.{opened-store, opened-header, opened-not}
use Rattle.stored.proofs.Keys.{good}
use Rattle.stored.proofs.Whole.{Whole, whole, slot-within}
use Rattle.stored.proofs.Settle.{slot-before, settles-without}
use Rattle.entering.specs.Enters.{Enterable}
use Rattle.putting.specs.Steps.{block_given, Addable, Opens, Puttable}

-- ---- a day whose block has so many bytes

-- the parts of what is handed in that a slot holds
long-nmi : (s : List ℕ) → is_nmi s ≡ true → length s ≡ 10
unfolding is_nmi are_all
long-nmi s e =
    let a = and-true _ _ e in
    let b = and-true (leb 10 (length s)) (leb (length s) 10) a.0 in
    omega (arith, leb-true 10 (length s) b.0, leb-true (length s) 10 b.1)

long-suffix : (s : List ℕ) → is_suffix s ≡ true → length s ≡ 2
unfolding is_suffix are_all
long-suffix s e =
    let a = and-true _ _ e in
    let b = and-true (leb 2 (length s)) (leb (length s) 2) a.0 in
    omega (arith, leb-true 2 (length s) b.0, leb-true (length s) 2 b.1)

length-small : (n : ℕ) → is_length n ≡ true → n < 256
unfolding is_length
length-small n e =
    by (eqb n 5)
    (λ a. omega (arith, eqb-true n 5 a))
    (λ a. by (eqb n 15)
    (λ b. omega (arith, eqb-true n 15 b))
    (λ b. omega (arith, eqb-true n 30 (rw (a, b) at e))))

module _ {m : List ℕ} {h : Header} {x : Key} {g : Given} {bytes records : ℕ} (p : Puttable m h x g bytes records) where
  pub bytes-are : bytes ≡ length (block_given g)
  bytes-are = let z = written-answer g (length (block_given g)) (bytes ∷ records ∷ []) p.answer in cc

  is_whole : Whole m h
  is_whole = rw p.opens.header (whole m p.opens.store)

  module _ {i : ℕ} (ei : i ≡ seek m h x) {b : Bool} (eb : b ≡ ltb i h.slots && leb g.head.update (update_of m h i)) where
    same : b ≡ is_there m h x && leb g.head.update (update_of m h (seek m h x))
    same = rw (← ei) eb

    pub put-18 : b ≡ true → {a : Answer} → a ≡ refusal 18 → left a m ≡ put_fit m h x g (block_given g)
    unfolding put_fit
    put-18 t q = rw (sym same ∙ t, q)

    module _ (t : b ≡ false) {s : ℕ} (es : s ≡ cond (ltb i h.slots) i (free_from h.map 0 h.slots)) where
      slot_is : s ≡ slot_for m h x
      unfolding slot_for
      slot_is = rw (← ei) es

      pub put-19 : h.slots ≤ s → {a : Answer} → a ≡ refusal 19 → left a m ≡ put_fit m h x g (block_given g)
      unfolding put_fit
      put-19 l q = rw (sym same ∙ t, ← slot_is, le-ltb s h.slots l, q)

      module _ (l : s < h.slots) {map : ℕ} (em : map ≡ freed h.map i) {n : ℕ} (en : n ≡ live m h map) where
        settles : Settles m h map
        settles = rw (em, p.opens.header) (settles-without m p.opens.store i)

        pub live-within : n ≤ h.size
        live-within = omega (arith, en, live-most m h map settles)

        sum_is : n + bytes ≡ live m h (freed h.map (seek m h x)) + length (block_given g)
        sum_is = rw (← ei, ← em, ← en, bytes-are) refl

        pub put-20 : h.size - n < bytes → {a : Answer} → a ≡ refusal 20 → left a m ≡ put_fit m h x g (block_given g)
        unfolding put_fit
        put-20 k q =
            let z : h.size < live m h (freed h.map (seek m h x)) + length (block_given g) = omega (arith, live-within, sum_is) in
            rw (sym same ∙ t, ← slot_is, lt-ltb s h.slots l, lt-leb _ h.size z, q)

        module _ (k : bytes ≤ h.size - n) where
          pub addable : Addable m h map g records
          addable =
              record {
                settles = settles;
                before = λ j f u. slot-before m h is_whole j (slot-within h.map h.slots j is_whole.past (freed-fewer h.map i j (rw em at u)));
                fits = omega (arith, live-within, en, bytes-are);
                answer = p.answer ∙ ap (λ (n : ℕ). accepted (n ∷ records ∷ [])) (bytes-are);
              }

          pub enterable : h.size < 4294967296 → Enterable (length m) h s x.nmi x.suffix g.head.length (live m h map) bytes
          enterable small =
              let w = is_whole in
              let y = good x p.good in
              record {
                few = omega (arith, w.few);
                within = omega (arith, slot-before m h w s l, w.inside);
                nmi-long = long-nmi x.nmi y.nmi;
                suffix-long = long-suffix x.suffix y.suffix;
                short = length-small g.head.length (written-length g (length (block_given g)) (bytes ∷ records ∷ []) p.answer);
                small = omega (arith, live-within, en);
              }

          pub put-done : {r : Left} → r ≡ left (accepted (held (taken map s) ∷ [])) (put_into m h map s x g (block_given g)) → r ≡ put_fit m h x g (block_given g)
          unfolding put_fit
          put-done q =
              let z : live m h (freed h.map (seek m h x)) + length (block_given g) ≤ h.size = omega (arith, live-within, sum_is) in
              q ∙ rw (sym same ∙ t, ← slot_is, lt-ltb s h.slots l, le-leb _ h.size z, ← ei, ← em) refl

-- ---- any day in a store

module _ {m : List ℕ} {h : Header} (o : Opens m h) (nmi suffix : List ℕ) (g : Given) where
  module _ {b : Bool} (eb : b ≡ good_key (key_given nmi suffix g)) where
    pub put-16 : not b ≡ true → {a : Answer} → a ≡ refusal 16 → left a m ≡ put_of m nmi suffix g
    unfolding put_of
    put-16 t q = rw (o.store, ← eb, not-true b t, q)

    module _ (t : not b ≡ false) {w : Result Written Refusal} (ew : written_as w ≡ write_answer g) where
      pub put-unfit : {y : Refusal} → w ≡ Err y → left (refused_as y) m ≡ put_of m nmi suffix g
      unfolding put_of
      put-unfit q = rw (o.store, ← eb, not-false b t, ← ew, q)

      module _ {d : Written} (q : w ≡ Ok d) where
        is : write_answer g ≡ accepted (d.bytes ∷ d.records ∷ [])
        is = sym ew ∙ ap written_as q

        pub puttable : {x : Key} → x ≡ key_given nmi suffix g → Puttable m h x g d.bytes d.records
        puttable ex = record { opens = o; good = rw ex (sym eb ∙ not-false b t); answer = is }

        pub put_fit_lem : {x : Key} {r : Left} → x ≡ key_given nmi suffix g → r ≡ put_fit m h x g (block_given g) → r ≡ put_of m nmi suffix g
        unfolding put_of
        put_fit_lem ex e = e ∙ rw (ex, o.store, ← eb, not-false b t, is, ← o.header) refl

-- ---- any memory

module _ (m nmi suffix : List ℕ) (g : Given) {o : Option Header} (e : o ≡ opened_of m) where
  pub put-21 : o ≡ None → {a : Answer} → a ≡ refusal 21 → left a m ≡ put_of m nmi suffix g
  unfolding put_of
  put-21 q p = rw (opened-not m e q, p)

pub opens : (m : List ℕ) {o : Option Header} → o ≡ opened_of m → {h : Header} → o ≡ Some h → Opens m h
opens m e q = record { store = opened-store m e q; header = opened-header m e q }

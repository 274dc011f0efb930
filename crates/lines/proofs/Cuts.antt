-- A field cut off the record, and the fields behind it, as places of the file. Assumes nothing.
use Prim.Native.Nat.{ℕ, zero, suc, ◌+◌, ◌-◌, ◌≤◌, ◌<◌}
use mathlib.Core.Path.{◌≡◌, refl, sym, ◌∙◌, ap}
use mathlib.Core.List.{List, [], ◌∷◌}
use native.Mathlib.Nat.{add-zero, zero-add, sub_self}
use native.Mathlib.Omega.{arith}
use native.Mathlib.Decide.{dec_lt}
use lib.ListN.{length, take, drop, get_or-eq_default}
use lib.Seq.{get_or-drop}
use borrow.Author.Tests.{lt-ltb, le-ltb}
use Rattle.ground.specs.Lists.{span_of, other, part}
use Rattle.ground.proofs.Spans.{span-le, part_length, part-drop, part-take}
use Rattle.format.specs.Cut.{fields, field, start_of}
use Rattle.format.proofs.Cut.{field-here, field-later, field_past, start-later, fields-from, start-add}
use Rattle.lines.specs.Places.{Cut, Rest}

-- ---- a field cut off: n is what `field_end` answers of the record from a on

one_field : (j : ℕ) → field j ([] ∷ []) ≡ []
one_field zero = refl
one_field (suc j) = refl

nothing : (file : List ℕ) (e j : ℕ) → field j (fields (part file e e)) ≡ []
unfolding fields
nothing file e j = rw sub_self (one_field j)

module _ (file : List ℕ) (a e n : ℕ) (le : a ≤ e) (within : e ≤ length file) (en : n ≡ span_of (other 44) (take (e - a) (drop a file))) where
  short : n ≤ e - a
  short = omega (arith, span-le (other 44) (part file a e), part_length file a e within)

  pub first-is : part file a (a + n) ≡ field 0 (fields (part file a e))
  first-is = rw (field-here (part file a e), ← en, part-take file a e n short)

  pub cut-more : a + n < e → Cut file a e (a + n) (a + n + 1)
  cut-more h =
      let lt : span_of (other 44) (part file a e) < length (part file a e) = omega (arith, part_length file a e within) in
      let d : drop (n + 1) (part file a e) ≡ part file (a + n + 1) e =
      (let m : a + (n + 1) ≡ a + n + 1 = omega arith in rw (part-drop file a e (n + 1) (omega arith), m)) in
      record {
        to = ap (λ (z : ℕ). a + z) en;
        next = rw (lt-ltb _ _ h);
        order = omega arith;
        on = omega arith;
        ends = omega arith;
        within = within;
        here = sym first-is;
        later = λ j. rw (field-later (part file a e) j lt, ← en, d);
        place = λ j g.
            (let s : start_of (suc j) (fields (part file a e)) ≡ n + 1 + start_of j (fields (part file (a + n + 1) e)) =
            rw (start-later (part file a e) j lt, ← en, d) in
            omega arith);
      }

  pub cut-last : e ≤ a + n → Cut file a e (a + n) e
  cut-last h =
      let eq : span_of (other 44) (part file a e) ≡ length (part file a e) = omega (arith, part_length file a e within, short) in
      record {
        to = ap (λ (z : ℕ). a + z) en;
        next = rw (le-ltb _ _ h);
        order = omega arith;
        on = omega (arith, short);
        ends = omega arith;
        within = within;
        here = sym first-is;
        later = λ j. field_past (part file a e) j eq ∙ sym (nothing file e j);
        place = λ j g. absurd (let z : 0 < 0 = rw (field_past (part file a e) j eq) at g in let y : ⊥ = omega arith in y);
      }

-- ---- the rest of a record

pub rest-whole : (file : List ℕ) (a e : ℕ) → a ≤ e → e ≤ length file → Rest file (fields (part file a e)) a 0 a e
rest-whole file a e h g = record { ends = h; within = g; same = λ j. rw zero-add; place = λ j k. rw zero-add }

module _ {file : List ℕ} {fs : List (List ℕ)} {p i a e b x : ℕ} (s : Rest file fs p i a e) (k : Cut file a e b x) where
  -- the field that was cut off
  pub rest-here : part file a b ≡ field i fs
  rest-here = sym k.here ∙ sym (s.same 0) ∙ ap (λ (z : ℕ). field z fs) (add-zero i)

  pub rest-next : Rest file fs p (i + 1) x e
  rest-next =
      record {
        ends = k.ends;
        within = k.within;
        same = λ j. (let m : i + 1 + j ≡ i + suc j = omega arith in rw m (s.same (suc j) ∙ k.later j));
        place = λ j g.
            (let m : i + 1 + j ≡ i + suc j = omega arith in
            let g₁ : 0 < length (field (i + suc j) fs) = rw m at g in
            let g₂ : 0 < length (field (suc j) (fields (part file a e))) = rw (s.same (suc j)) at g₁ in
            rw m (s.place (suc j) g₁ ∙ k.place j g₂));
      }

-- m fields further on
pub rest-on : {file : List ℕ} {fs : List (List ℕ)} {p i a e m x : ℕ} → Rest file fs p i a e → Rest file (fields (part file a e)) a m x e → Rest file fs p (i + m) x e
rest-on {file} {fs} {p} {i} {a} {e} {m} s t =
    record {
      ends = t.ends;
      within = t.within;
      same = λ j. (let k : i + m + j ≡ i + (m + j) = omega arith in rw k (s.same (m + j) ∙ t.same j));
      place = λ j g.
          (let k : i + m + j ≡ i + (m + j) = omega arith in
          let g₁ : 0 < length (field (i + (m + j)) fs) = rw k at g in
          let g₂ : 0 < length (field (m + j) (fields (part file a e))) = rw (s.same (m + j)) at g₁ in
          rw k (s.place (m + j) g₁ ∙ t.place j g₂));
    }

-- what stands at the place where a field starts
pub rest-first : {file : List ℕ} {fs : List (List ℕ)} {p i a e : ℕ} → Rest file fs p i a e → field 0 (fields (part file a e)) ≡ field i fs
rest-first {file} {fs} {p} {i} s = sym (s.same 0) ∙ ap (λ (z : ℕ). field z fs) (add-zero i)

-- at the place where a field that is there starts
pub rest_at : (file : List ℕ) (at e i : ℕ) → at ≤ e → e ≤ length file → i < length (fields (part file at e))
    → Rest file (fields (part file at e)) at i (at + start_of i (fields (part file at e))) e
rest_at file at e i h g k =
    let r = part file at e in
    let fs = fields r in
    let f = fields-from i r k in
    let w : at + start_of i fs ≤ e = omega (arith, f.within, part_length file at e g) in
    let d : drop i fs ≡ fields (part file (at + start_of i fs) e) = f.same ∙ ap fields (part-drop file at e (start_of i fs) w) in
    record {
      ends = w;
      within = g;
      same = λ j. rw (← get_or-drop i fs j [], d);
      place = λ j z. rw (start-add i j fs, d) (omega arith);
    }

-- a field that has a byte, as a part of the file
pub record Lies (file : List ℕ) (fs : List (List ℕ)) (at e i : ℕ) : Type 0 where
  pub is : field i fs ≡ part file (at + start_of i fs) (at + start_of i fs + length (field i fs))
  pub within : at + start_of i fs + length (field i fs) ≤ e

pub field-lies : (file : List ℕ) (at e i : ℕ) → at ≤ e → e ≤ length file → 0 < length (field i (fields (part file at e)))
    → Lies file (fields (part file at e)) at e i
field-lies file at e i h g k = by (dec_lt i (length fs))
  where
    fs : List (List ℕ)
    fs = fields (part file at e)

    by : Dec (i < length fs) → Lies file fs at e i
    by (yes p) =
        let a = at + start_of i fs in
        let r = rest_at file at e i h g p in
        let m = span_of (other 44) (part file a e) in
        let z : m ≤ e - a = omega (arith, span-le (other 44) (part file a e), part_length file a e g) in
        let q : part file a (a + m) ≡ field i fs = first-is file a e m r.ends g refl ∙ rest-first r in
        let n : length (field i fs) ≡ m = ap length (sym q) ∙ part_length file a (a + m) (omega (arith, r.ends)) ∙ (let y : a + m - a ≡ m = omega arith in y) in
        record { is = rw n (sym q); within = omega (arith, r.ends) }
    by (no p) = absurd (let z : 0 < 0 = rw (get_or-eq_default fs [] {n = i} (omega arith)) at k in let y : ⊥ = omega arith in y)

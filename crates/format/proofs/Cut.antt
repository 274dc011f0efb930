-- The fields of a record: the first and those behind it, how many there are, and where one starts; and the lines of bytes, put together again. Assumes
-- nothing.
use Prim.Native.Nat.{ℕ, zero, suc, ◌+◌, ◌≤◌, ◌<◌}
use mathlib.Core.Path.{◌≡◌, refl}
use mathlib.Core.List.{List, [], ◌∷◌, ◌++◌}
use mathlib.Core.Bool.{Bool, true, false, cond}
use native.Mathlib.Nat.{zero-add, suc-add}
use native.Mathlib.Numerals.{add-one}
use native.Mathlib.Omega.{arith}
use native.Mathlib.Decide.{dec_lt}
use lib.ListN.{length, get_or, take, drop, length-drop, drop_of_length-le}
use lib.Seq.{drop-cons, drop-drop, length-take-le}
use lib.Dec.{eqb}
use borrow.Author.Tests.{eqb-true}
use Rattle.ground.specs.Lists.{span_of, other}
use Rattle.ground.proofs.Tests.{and-true}
use Rattle.ground.proofs.Cases.{by}
use Rattle.ground.proofs.Spans.{span-le}
use Rattle.format.specs.Cut.{is_crlf, Lines, line, rest, on_first, lines, on_field, fields, field, start_of}

-- ---- how many

on-length : (b : ℕ) (fs : List (List ℕ)) → 0 < length fs → length (on_field b fs) ≡ length fs
on-length b [] h = omega arith
on-length b (f ∷ fs) h = refl

pub fields-some : (s : List ℕ) → 0 < length (fields s)
unfolding fields
fields-some [] = omega arith
fields-some (b ∷ s) = go (other 44 b) (fields-some s)
  where
    go : (t : Bool) → 0 < length (fields s) → 0 < length (cond t (on_field b (fields s)) ([] ∷ fields s))
    go true h = rw (on-length b (fields s) h) h
    go false h = omega arith

module _ (s : List ℕ) (i : ℕ) where
  pub count-on : i < length s → other 44 (get_or s i 0) ≡ true → length (fields (drop i s)) ≡ length (fields (drop (i + 1) s))
  unfolding fields
  count-on h t = rw (drop-cons s i 0 h, t, on-length _ _ (fields-some (drop (suc i) s)), add-one)

  pub count-more : i < length s → other 44 (get_or s i 0) ≡ false → length (fields (drop i s)) ≡ suc (length (fields (drop (i + 1) s)))
  unfolding fields
  count-more h t = rw (drop-cons s i 0 h, t, add-one)

  pub count-end : length s ≤ i → length (fields (drop i s)) ≡ 1
  unfolding fields
  count-end h = rw (drop_of_length-le s h)

-- a comma parts each two of them
pub count_most : (s : List ℕ) → length (fields s) ≤ length s + 1
unfolding fields
count_most [] = omega arith
count_most (b ∷ s) = go (other 44 b) (count_most s) (fields-some s)
  where
    go : (t : Bool) → length (fields s) ≤ length s + 1 → 0 < length (fields s) → length (cond t (on_field b (fields s)) ([] ∷ fields s)) ≤ suc (length s) + 1
    go true h k = rw (on-length b (fields s) k) (omega arith)
    go false h k = omega arith

-- two lists one behind the other: the last field of the first and the first of the second are one
pub count-append : (a b : List ℕ) → length (fields (a ++ b)) + 1 ≡ length (fields a) + length (fields b)
unfolding fields
count-append [] b = omega arith
count-append (x ∷ a) b = go (other 44 x) (count-append a b) (fields-some (a ++ b)) (fields-some a)
  where
    go : (t : Bool) → length (fields (a ++ b)) + 1 ≡ length (fields a) + length (fields b) → 0 < length (fields (a ++ b)) → 0 < length (fields a)
        → length (cond t (on_field x (fields (a ++ b))) ([] ∷ fields (a ++ b))) + 1 ≡ length (cond t (on_field x (fields a)) ([] ∷ fields a)) + length (fields b)
    go true e h k = rw (on-length x (fields (a ++ b)) h, on-length x (fields a) k) e
    go false e h k = omega arith

-- ---- the first field, and those behind it

-- a comma follows it
pub fields_at : (s : List ℕ) → span_of (other 44) s < length s
    → fields s ≡ take (span_of (other 44) s) s ∷ fields (drop (suc (span_of (other 44) s)) s)
unfolding fields span_of
fields_at [] h = absurd (let z : ⊥ = omega arith in z)
fields_at (b ∷ s) h = go (other 44 b) refl (λ k. fields_at s k)
  where
    go : (t : Bool) → other 44 b ≡ t
        → (span_of (other 44) s < length s → fields s ≡ take (span_of (other 44) s) s ∷ fields (drop (suc (span_of (other 44) s)) s))
        → fields (b ∷ s) ≡ take (span_of (other 44) (b ∷ s)) (b ∷ s) ∷ fields (drop (suc (span_of (other 44) (b ∷ s))) (b ∷ s))
    go true e ih =
        let k : span_of (other 44) s < length s = (let j : suc (span_of (other 44) s) < suc (length s) = (rw e at h) in omega arith) in
        rw (e, ih k)
    go false e ih = rw e

-- it is the last
pub fields-last : (s : List ℕ) → span_of (other 44) s ≡ length s → fields s ≡ s ∷ []
unfolding fields span_of
fields-last [] h = refl
fields-last (b ∷ s) h = go (other 44 b) refl (λ k. fields-last s k)
  where
    go : (t : Bool) → other 44 b ≡ t → (span_of (other 44) s ≡ length s → fields s ≡ s ∷ []) → fields (b ∷ s) ≡ (b ∷ s) ∷ []
    go true e ih =
        let k : span_of (other 44) s ≡ length s = (let j : suc (span_of (other 44) s) ≡ suc (length s) = (rw e at h) in omega arith) in
        rw (e, ih k)
    go false e ih = let j : 0 ≡ suc (length s) = (rw e at h) in absurd (let z : ⊥ = omega arith in z)

on-first : (b : ℕ) (fs : List (List ℕ)) → field 0 (on_field b fs) ≡ b ∷ field 0 fs
on-first b [] = refl
on-first b (f ∷ fs) = refl

pub field-here : (s : List ℕ) → field 0 (fields s) ≡ take (span_of (other 44) s) s
unfolding fields span_of
field-here [] = refl
field-here (b ∷ s) = go (other 44 b) refl (field-here s)
  where
    go : (t : Bool) → other 44 b ≡ t → field 0 (fields s) ≡ take (span_of (other 44) s) s
        → field 0 (fields (b ∷ s)) ≡ take (span_of (other 44) (b ∷ s)) (b ∷ s)
    go true e ih = rw (e, on-first b (fields s), ih)
    go false e ih = rw e

module _ (s : List ℕ) (i : ℕ) where
  pub field-later : span_of (other 44) s < length s → field (suc i) (fields s) ≡ field i (fields (drop (span_of (other 44) s + 1) s))
  field-later h = rw (fields_at s h, add-one)

  pub field_past : span_of (other 44) s ≡ length s → field (suc i) (fields s) ≡ []
  field_past h = rw (fields-last s h)

  -- where a later field starts
  pub start-later : span_of (other 44) s < length s
      → start_of (suc i) (fields s) ≡ span_of (other 44) s + 1 + start_of i (fields (drop (span_of (other 44) s + 1) s))
  unfolding start_of
  start-later h = rw (fields_at s h, length-take-le (span_of (other 44) s) s (span-le (other 44) s), add-one)

  pub count-later : span_of (other 44) s < length s → length (fields s) ≡ suc (length (fields (drop (span_of (other 44) s + 1) s)))
  count-later h = rw (fields_at s h, add-one)

-- from a field that is there, the fields are those of what is left of the record where it starts
pub record At (i : ℕ) (s : List ℕ) : Type 0 where
  pub within : start_of i (fields s) ≤ length s
  pub same : drop i (fields s) ≡ fields (drop (start_of i (fields s)) s)

pub fields-from : (i : ℕ) (s : List ℕ) → i < length (fields s) → At i s
unfolding start_of
fields-from zero s h = record { within = omega arith; same = refl }
fields-from (suc i) s h = by (dec_lt (span_of (other 44) s) (length s)) (λ t k. fields-from i t k)
  where
    m : ℕ
    m = span_of (other 44) s

    by : Dec (m < length s) → ((t : List ℕ) → i < length (fields t) → At i t) → At (suc i) s
    by (yes p) ih =
        let r = ih (drop (m + 1) s) (omega (arith, count-later s i p)) in
        record {
          within = rw (start-later s i p) (omega (arith, r.within, length-drop (m + 1) s));
          same = rw (start-later s i p, ← drop-drop (start_of i (fields (drop (m + 1) s))) (m + 1) s, ← r.same, fields_at s p, add-one);
        }
    by (no p) ih = absurd (let e : length (fields s) ≡ 1 = rw (fields-last s (omega (arith, span-le (other 44) s))) in let z : ⊥ = omega arith in z)

pub start-zero : (fs : List (List ℕ)) → start_of 0 fs ≡ 0
unfolding start_of
start-zero fs = refl

start-nil : (i : ℕ) → start_of i [] ≡ 0
unfolding start_of
start-nil zero = refl
start-nil (suc i) = refl

-- where a field behind another starts
pub start-add : (i j : ℕ) (fs : List (List ℕ)) → start_of (i + j) fs ≡ start_of i fs + start_of j (drop i fs)
unfolding start_of
start-add zero j fs = rw (zero-add, zero-add)
start-add (suc i) j [] = rw (start-nil (suc i + j), start-nil j)
start-add (suc i) j (f ∷ fs) = rw suc-add (omega (arith, start-add i j fs))

-- a field that is there, and those behind it
pub field-cons : (i : ℕ) (fs : List (List ℕ)) → i < length fs → drop i fs ≡ field i fs ∷ drop (i + 1) fs
field-cons i fs h = rw (add-one, drop-cons fs i [])

pub start-next : (i : ℕ) (fs : List (List ℕ)) → i < length fs → start_of (i + 1) fs ≡ start_of i fs + length (field i fs) + 1
unfolding start_of
start-next i fs h = rw (start-add i 1 fs, field-cons i fs h) (omega arith)

-- past the last field
pub start-end : (s : List ℕ) → start_of (length (fields s)) (fields s) ≡ length s + 1
unfolding fields start_of
start-end [] = refl
start-end (b ∷ s) = go (other 44 b) (fields s) (start-end s) (fields-some s)
  where
    go : (t : Bool) (fs : List (List ℕ)) → start_of (length fs) fs ≡ length s + 1 → 0 < length fs
        → start_of (length (cond t (on_field b fs) ([] ∷ fs))) (cond t (on_field b fs) ([] ∷ fs)) ≡ suc (length s) + 1
    go true [] e h = absurd (let z : ⊥ = omega arith in z)
    go true (f ∷ fs) e h = omega arith
    go false fs e h = omega arith

-- ---- lines, put together again

-- the bytes that were cut
abbrev pub bytes_of : Lines → List ℕ
bytes_of (rest t) = t
bytes_of (line r ls) = r ++ 13 ∷ 10 ∷ bytes_of ls

crlf : (b d : ℕ) → is_crlf b d ≡ true → (b ≡ 13) × (d ≡ 10)
crlf b d e = let w = and-true (eqb b 13) (eqb d 10) e in (eqb-true b 13 w.0, eqb-true d 10 w.1)

pub bytes-lines : (l : List ℕ) → bytes_of (lines l) ≡ l
unfolding lines
bytes-lines [] = refl
bytes-lines (b ∷ []) = refl
bytes-lines (b ∷ d ∷ bs) = go (bytes-lines bs) (bytes-lines (d ∷ bs))
  where
    on : (ls : Lines) → bytes_of (on_first b ls) ≡ b ∷ bytes_of ls
    on (rest t) = refl
    on (line r ls) = refl

    go : bytes_of (lines bs) ≡ bs → bytes_of (lines (d ∷ bs)) ≡ d ∷ bs → bytes_of (lines (b ∷ d ∷ bs)) ≡ b ∷ d ∷ bs
    go i j =
        by (is_crlf b d)
        (λ e. let w = crlf b d e in rw (e, i, w.0, w.1))
        (λ e. rw (e, on (lines (d ∷ bs)), j))

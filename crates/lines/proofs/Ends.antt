-- Where a record ends: the loop that looks for it, the file's first record and the rest of them, and a record as a place of the file. Assumes nothing.
use Prim.Native.Nat.{ℕ, zero, suc, ◌+◌, ◌-◌, ◌≤◌, ◌<◌}
use mathlib.Core.Path.{◌≡◌, refl, sym, ◌∙◌, ap}
use mathlib.Core.List.{List, [], ◌∷◌}
use mathlib.Core.Bool.{Bool, true, false, cond, not, false≢true}
use native.Mathlib.Numerals.{add-one}
use native.Mathlib.Omega.{arith}
use lib.ListN.{length, get_or, take, drop, length-drop}
use lib.Seq.{drop-cons, drop-drop}
use lib.Dec.{eqb}
use borrow.Author.Tests.{eqb-true, not-false}
use Rattle.ground.specs.Lists.{all, span_of, other, part}
use Rattle.ground.proofs.Lists.{to_end}
use Rattle.ground.proofs.Spans.{span-block, part_cut, part_length}
use Rattle.format.specs.Bytes.{plain}
use Rattle.format.specs.Cut.{is_crlf, line, rest, lines}
use Rattle.lines.specs.Places.{line_len, LineEnd, Unended, Scanned, Looked}

-- ---- the loop, at byte i

module _ (s : List ℕ) (i : ℕ) where
  pub line_on : i + 1 < length s → is_crlf (get_or s i 0) (get_or s (i + 1) 0) ≡ false → line_len s ≡ i + line_len (drop i s)
      → line_len s ≡ i + 1 + line_len (drop (i + 1) s)
  unfolding line_len
  line_on h t e =
      let h₀ : i < length s = omega arith in
      let k : line_len (drop i s) ≡ suc (line_len (drop (i + 1) s)) = rw (drop-cons s i 0 h₀, ← add-one i, drop-cons s (i + 1) 0 h, t) in
      omega arith

  pub line-stop : i + 1 < length s → get_or s i 0 ≡ 13 → get_or s (i + 1) 0 ≡ 10 → line_len s ≡ i + line_len (drop i s) → i ≡ line_len s
  unfolding line_len
  line-stop h cr lf e =
      let h₀ : i < length s = omega arith in
      let k : line_len (drop i s) ≡ 0 = rw (drop-cons s i 0 h₀, ← add-one i, drop-cons s (i + 1) 0 h, cr, lf) in
      omega arith

  -- no CR LF is left
  pub line-out : i ≤ length s → length s ≤ i + 1 → line_len s ≡ i + line_len (drop i s) → length s ≡ line_len s
  unfolding line_len
  line-out h h₁ e = go (drop i s) refl
    where
      go : (m : List ℕ) → drop i s ≡ m → length s ≡ line_len s
      go [] q =
          let k : line_len (drop i s) ≡ 0 = rw q in
          let t : length (drop i s) ≡ 0 = rw q in
          omega (arith, length-drop i s)
      go (b ∷ []) q =
          let k : line_len (drop i s) ≡ 1 = rw q in
          let t : length (drop i s) ≡ 1 = rw q in
          omega (arith, length-drop i s)
      go (b ∷ d ∷ m) q =
          let t : length (drop i s) ≡ suc (suc (length m)) = rw q in
          omega (arith, length-drop i s)

-- ---- the first record, and the rest of them

-- a CR LF is within the list, or none is there
line_len-le : (s : List ℕ) → (line_len s < length s → line_len s + 2 ≤ length s) × (line_len s ≤ length s)
unfolding line_len
line_len-le [] = omega arith
line_len-le (b ∷ []) = omega arith
line_len-le (b ∷ d ∷ s) = go (is_crlf b d) (line_len-le (d ∷ s))
  where
    go : (t : Bool) → (line_len (d ∷ s) < suc (length s) → line_len (d ∷ s) + 2 ≤ suc (length s)) × (line_len (d ∷ s) ≤ suc (length s))
        → (cond t 0 (suc (line_len (d ∷ s))) < suc (suc (length s)) → cond t 0 (suc (line_len (d ∷ s))) + 2 ≤ suc (suc (length s)))
        × (cond t 0 (suc (line_len (d ∷ s))) ≤ suc (suc (length s)))
    go true h = (λ k. omega arith, omega arith)
    go false h = (λ k. let j = h.0 (omega arith) in omega arith, omega arith)

lines_at : (s : List ℕ) → line_len s < length s → lines s ≡ line (take (line_len s) s) (lines (drop (suc (suc (line_len s))) s))
unfolding lines line_len
lines_at [] h = absurd (let z : ⊥ = omega arith in z)
lines_at (b ∷ []) h = absurd (let z : ⊥ = omega arith in z)
lines_at (b ∷ d ∷ s) h = go (is_crlf b d) refl (λ k. lines_at (d ∷ s) k)
  where
    go : (t : Bool) → is_crlf b d ≡ t
        → (line_len (d ∷ s) < length (d ∷ s) → lines (d ∷ s) ≡ line (take (line_len (d ∷ s)) (d ∷ s)) (lines (drop (suc (suc (line_len (d ∷ s)))) (d ∷ s))))
        → lines (b ∷ d ∷ s) ≡ line (take (line_len (b ∷ d ∷ s)) (b ∷ d ∷ s)) (lines (drop (suc (suc (line_len (b ∷ d ∷ s)))) (b ∷ d ∷ s)))
    go true e ih = rw e
    go false e ih =
        let k : line_len (d ∷ s) < length (d ∷ s) = (let j : suc (line_len (d ∷ s)) < suc (suc (length s)) = (rw e at h) in omega arith) in
        rw (e, ih k)

lines_none : (s : List ℕ) → line_len s ≡ length s → lines s ≡ rest s
unfolding lines line_len
lines_none [] h = refl
lines_none (b ∷ []) h = refl
lines_none (b ∷ d ∷ s) h = go (is_crlf b d) refl (λ k. lines_none (d ∷ s) k)
  where
    go : (t : Bool) → is_crlf b d ≡ t → (line_len (d ∷ s) ≡ length (d ∷ s) → lines (d ∷ s) ≡ rest (d ∷ s)) → lines (b ∷ d ∷ s) ≡ rest (b ∷ d ∷ s)
    go true e ih = let j : 0 ≡ suc (suc (length s)) = (rw e at h) in absurd (let z : ⊥ = omega arith in z)
    go false e ih =
        let k : line_len (d ∷ s) ≡ length (d ∷ s) = (let j : suc (line_len (d ∷ s)) ≡ suc (suc (length s)) = (rw e at h) in omega arith) in
        rw (e, ih k)

-- ---- a record as a place of the file

-- no CR LF begins in the first i bytes of `&file[at..]`, and n is what `line_len` answers of the rest
pub line-ends : (file : List ℕ) (at i n : ℕ) → at ≤ length file → Unended (take (length file - at) (drop at file)) i
    → n ≡ line_len (take (length file - (at + i)) (drop (at + i) file)) → n ≤ length (take (length file - (at + i)) (drop (at + i) file))
    → LineEnd file at (at + i + n)
line-ends file at i n h r e g =
    let u : Unended (drop at file) i = rw (to_end at file) at r in
    let m : n ≡ line_len (drop (at + i) file) = rw (to_end (at + i) file) at e in
    let w : n ≤ length (drop (at + i) file) = rw (to_end (at + i) file) at g in
    let l : line_len (drop at file) ≡ i + line_len (drop (at + i) file) = rw (← drop-drop i at file) u.same in
    record { order = omega arith; within = omega (arith, length-drop at file, length-drop (at + i) file); is = omega arith }

-- every place has such an end
pub line_at : (file : List ℕ) (at : ℕ) → at ≤ length file → LineEnd file at (at + line_len (drop at file))
line_at file at h = record { order = omega arith; within = omega (arith, (line_len-le (drop at file)).1, length-drop at file); is = refl }

module _ (file : List ℕ) (at e : ℕ) (s : LineEnd file at e) where
  len : line_len (drop at file) ≡ e - at
  len = omega (arith, s.is)

  -- no CR LF from here to the end
  pub line-none : e ≡ length file → lines (drop at file) ≡ rest (drop at file)
  line-none h = lines_none (drop at file) (omega (arith, len, length-drop at file))

  module _ (h : e ≡ length file → ⊥) where
    inside : line_len (drop at file) < length (drop at file)
    inside = omega (arith, len, length-drop at file, s.within, s.order)

    -- a record, and the records from `e + 2` on
    pub line-more : lines (drop at file) ≡ line (part file at e) (lines (drop (e + 2) file))
    line-more =
        let m : at + suc (suc (e - at)) ≡ e + 2 = omega (arith, s.order) in
        rw (lines_at (drop at file) inside, len, drop-drop (suc (suc (e - at))) at file, m)

    pub line-room : e + 2 ≤ length file
    line-room = omega (arith, (line_len-le (drop at file)).0 inside, len, length-drop at file, s.order)

  pub line-long : length (part file at e) ≡ e - at
  line-long = part_length file at e s.within

-- ---- a record by a pass over it

-- p is a test that no CR passes
module _ (p : ℕ → Bool) (cr : p 13 ≡ false) where
  -- a byte that passes begins no CR LF
  pass-crlf : (b d : ℕ) → p b ≡ true → is_crlf b d ≡ false
  pass-crlf b d t = by (eqb b 13) refl
    where
      by : (u : Bool) → eqb b 13 ≡ u → is_crlf b d ≡ false
      by false e = rw e
      by true e = let q : b ≡ 13 = eqb-true b 13 e in absurd (false≢true (sym cr ∙ rw q at t))

  -- a record's end, from the end of the bytes that pass on
  line-span : (s : List ℕ) → line_len s ≡ span_of p s + line_len (drop (span_of p s) s)
  unfolding line_len span_of
  line-span [] = refl
  line-span (b ∷ []) = go (p b)
    where
      go : (t : Bool) → line_len (b ∷ []) ≡ cond t 1 0 + line_len (drop (cond t 1 0) (b ∷ []))
      go true = refl
      go false = refl
  line-span (b ∷ d ∷ s) = go (p b) refl (line-span (d ∷ s))
    where
      go : (t : Bool) → p b ≡ t → line_len (d ∷ s) ≡ span_of p (d ∷ s) + line_len (drop (span_of p (d ∷ s)) (d ∷ s))
          → line_len (b ∷ d ∷ s) ≡ cond t (suc (span_of p (d ∷ s))) 0 + line_len (drop (cond t (suc (span_of p (d ∷ s))) 0) (b ∷ d ∷ s))
      go true e ih = rw (pass-crlf b d e) (omega (arith, ih))
      go false e ih = omega arith

  -- and from any place among them: they may be passed m at a time
  line-chunk : (m : ℕ) (s : List ℕ) → m ≤ length s → all p (take m s) ≡ true → line_len s ≡ m + line_len (drop m s)
  line-chunk m s h t =
      let v = span-block p m s h t in
      let w : drop (span_of p s) s ≡ drop (span_of p (drop m s)) (drop m s) = rw (drop-drop (span_of p (drop m s)) m s, v) in
      omega (arith, line-span s, line-span (drop m s), ap line_len w)

-- a chunk from i to e: b is what `no_cr` answers of it
pub unended-chunk : (s : List ℕ) (i e m : ℕ) (b : Bool) → Unended s i → e ≡ i + m → m ≤ length s - i → b ≡ all (other 13) (take (e - i) (drop i s))
    → not b ≡ false → Unended s e
unended-chunk s i e m b r q h f t =
    let d : e - i ≡ m = omega arith in
    let l : m ≤ length (drop i s) = omega (arith, length-drop i s) in
    let u : all (other 13) (take m (drop i s)) ≡ true = rw (← d) (sym f ∙ not-false b t) in
    let v = line-chunk (other 13) refl m (drop i s) l u in
    rw q record { within = omega arith; same = omega (arith, r.same, rw (drop-drop m i s) at v) }

-- a span that ends inside the first m ends there in the whole
span-take : (p : ℕ → Bool) (m : ℕ) (s : List ℕ) → span_of p s ≤ m → span_of p (take m s) ≡ span_of p s
unfolding span_of
span-take p zero s h = omega (arith, zero-span)
  where
    zero-span : span_of p (take 0 s) ≡ 0
    zero-span = refl
span-take p (suc m) [] h = refl
span-take p (suc m) (b ∷ s) h = go (p b) h (λ g. span-take p m s g)
  where
    go : (t : Bool) → cond t (suc (span_of p s)) 0 ≤ suc m → (span_of p s ≤ m → span_of p (take m s) ≡ span_of p s)
        → cond t (suc (span_of p (take m s))) 0 ≡ cond t (suc (span_of p s)) 0
    go true g ih = ap suc (ih (omega arith))
    go false g ih = refl

-- a pass over `&file[at..]` stopped after `stop` bytes, and n is what `line_len` answers of the rest
pub looked : (file : List ℕ) (at stop commas n : ℕ) → at ≤ length file → Scanned (take (length file - at) (drop at file)) stop commas
    → stop ≡ span_of plain (take (length file - at) (drop at file)) → n ≡ line_len (take (length file - (at + stop)) (drop (at + stop) file))
    → n ≤ length (take (length file - (at + stop)) (drop (at + stop) file)) → Looked file at (at + stop + n) (at + stop) commas
looked file at stop commas n within r e q g =
    let k : stop ≡ span_of plain (drop at file) = rw (to_end at file) at e in
    let l = rw (← e) at (line-span plain refl (take (length file - at) (drop at file))) in
    let j : at + stop + n - at ≡ stop + n = omega arith in
    record {
      ends = line-ends file at stop n within (record { within = r.within; same = l }) q g;
      order = omega arith;
      within = omega arith;
      few = omega (arith, r.few);
      first = rw (j, span-take plain (stop + n) (drop at file) (omega arith), ← k);
      count = rw (part_cut at stop (drop at file), ← to_end at file) r.count;
    }

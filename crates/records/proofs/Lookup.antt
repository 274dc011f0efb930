-- The record in which a place stands, the 200 before a place and a field of a record, as they are looked for. Assumes nothing.
use Prim.Native.Nat.{ℕ, zero, suc, ◌+◌, ◌-◌, ◌≤◌, ◌<◌}
use mathlib.Core.Path.{◌≡◌, refl, sym, ap, ◌∙◌}
use mathlib.Core.List.{List, []}
use mathlib.Core.Bool.{Bool, true, false}
use native.Mathlib.Omega.{arith}
use borrow.Author.Tests.{le-leb, lt-leb, lt-ltb, le-ltb, ne_eqb}
use lib.ListN.{length, get_or, take, drop, get_or-eq_default}
use lib.Dec.{eqb, ltb}
use Rattle.ground.specs.Lists.{span_of, part}
use Rattle.ground.proofs.Cases.{split, same_or}
use Rattle.ground.proofs.Lists.{to_end}
use Rattle.ground.proofs.Spans.{span-le, part-take}
use Rattle.ground.proofs.Tests.{and-false, nowhere}
use Rattle.format.specs.Bytes.{plain}
use Rattle.format.specs.Numbers.{number_in}
use Rattle.format.specs.Units.{unit_of}
use Rattle.format.specs.Cut.{Lines, line, rest, lines, fields, field}
use Rattle.format.specs.Records.{kind_in, intervals_in}
use Rattle.format.proofs.Numbers.{intervals-most}
use Rattle.lines.specs.Places.{LineEnd, Looked, Rest}
use Rattle.lines.proofs.Cuts.{rest-first}
use Rattle.lines.proofs.Ends.{line-none, line-more, line-long}
use Rattle.records.specs.Records.{crlf_before, record_start, first_of, record_as, record_of, channel_behind, channel_from, channel_before, n_before, unit_named, text_at}
use Rattle.records.specs.declared.Record.{Record}

-- ---- where a record starts

-- no CR LF stands before a place behind the file's end
pub past-file : (file : List ℕ) (at : ℕ) → length file < at → false ≡ crlf_before file at
unfolding crlf_before
past-file file at h =
    let z : get_or file (at - 1) 0 ≡ 0 = get_or-eq_default file 0 {n = at - 1} (omega arith) in
    rw (z, and-false (eqb (get_or file (at - 2) 0) 13), and-false (ltb 1 at))

-- b is what `crlf_before` answers
pub start-within : (file : List ℕ) (at : ℕ) {b : Bool} → b ≡ crlf_before file at → b ≡ true → at ≤ length file
start-within file at e t = split at (length file) (λ h. h) (λ h. nowhere (past-file file at h ∙ sym e ∙ t))

pub start-here : (file : List ℕ) (place at : ℕ) {b : Bool} → b ≡ crlf_before file (at - 1 + 1) → b ≡ true → 0 < at → record_start file place ≡ record_start file at
    → at - 1 + 1 ≡ record_start file place
unfolding record_start
start-here file place zero e t h inv = absurd (let z : ⊥ = omega arith in z)
start-here file place (suc p) e t h inv =
    let m : suc p - 1 + 1 ≡ suc p = omega arith in
    let f = rw m at e in
    rw (inv, ← f, t, m)

pub start-down : (file : List ℕ) (place at : ℕ) {b : Bool} → b ≡ crlf_before file (at - 1 + 1) → b ≡ false → 0 < at → record_start file place ≡ record_start file at
    → record_start file place ≡ record_start file (at - 1)
unfolding record_start
start-down file place zero e t h inv = absurd (let z : ⊥ = omega arith in z)
start-down file place (suc p) e t h inv =
    let l : suc p - 1 + 1 ≡ suc p = omega arith in
    let f = rw l at e in
    let m : suc p - 1 ≡ p = omega arith in
    rw (inv, ← f, t, m)

pub start_none : (file : List ℕ) (place at : ℕ) → at ≤ 0 → record_start file place ≡ record_start file at → 0 ≡ record_start file place
unfolding record_start
start_none file place at h inv = let z : at ≡ 0 = omega arith in rw (inv, z)

-- ---- the record

first-is : (file : List ℕ) (at e : ℕ) → LineEnd file at e → first_of (lines (drop at file)) ≡ part file at e
first-is file at e s =
    same_or e (length file)
    (λ h. ap first_of (line-none file at e s h) ∙ sym (to_end at file) ∙ ap (part file at) (sym h))
    (λ h. ap first_of (line-more file at e s h))

pub record_is : (file : List ℕ) (place a e bad commas k : ℕ) → a ≡ record_start file place → Looked file a e bad commas → k ≡ kind_in (fields (part file a e))
    → ◌≡◌ {A = Record} (record { start = a; end = e; kind = k; count = commas + 1 }) (record_of file place)
unfolding record_of record_as
record_is file place a e bad commas k q l h =
    let r : List ℕ = part file a e in
    let s = l.ends in
    let n : a + length r ≡ e = omega (arith, line-long file a e s, s.order) in
    let t : take (span_of plain r) r ≡ part file a bad =
    part-take file a e (span_of plain r) (omega (arith, span-le plain r, line-long file a e s)) ∙ ap (part file a) (sym l.first) in
    rw (← q, first-is file a e s, n, ← h, t, ← l.count)

-- ---- the 200 before a place

pub channel-begins : (file : List ℕ) (place : ℕ) → channel_before file place ≡ channel_from place 0 (part file 0 0) (lines (drop 0 file))
unfolding channel_before
channel-begins file place = refl

-- a record on, with what is left
on-by : (file : List ℕ) (at e : ℕ) → LineEnd file at e → at + length (part file at e) + 2 ≡ e + 2
on-by file at e s = omega (arith, line-long file at e s, s.order)

-- the 200 from a to z holds before the record at `at`
module _ (file : List ℕ) (place at a z : ℕ) (inv : channel_before file place ≡ channel_from place at (part file a z) (lines (drop at file))) where
  pub channel-there : {t : List ℕ} → place ≤ at → t ≡ part file a z → t ≡ channel_before file place
  unfolding channel_from
  channel-there h q = q ∙ sym (inv ∙ go (lines (drop at file)))
    where
      go : (ls : Lines) → channel_from place at (part file a z) ls ≡ part file a z
      go (rest t) = refl
      go (line r ls) = rw (le-ltb _ _ h)

  module _ (e : ℕ) (s : LineEnd file at e) where
    pub channel-ends : {t : List ℕ} → e ≡ length file → t ≡ part file a z → t ≡ channel_before file place
    unfolding channel_from
    channel-ends h q = q ∙ sym (rw (inv, line-none file at e s h))

    module _ (h : e ≡ length file → ⊥) (g : at < place) {k : ℕ} (ek : k ≡ kind_in (fields (part file at e))) where
      pub channel-own : k ≡ 200 → channel_before file place ≡ channel_from place (e + 2) (part file at e) (lines (drop (e + 2) file))
      unfolding channel_from channel_behind
      channel-own o = rw (inv, line-more file at e s h, lt-ltb _ _ g, on-by file at e s, ← ek, o)

      pub channel-kept : (k ≡ 200 → ⊥) → channel_before file place ≡ channel_from place (e + 2) (part file a z) (lines (drop (e + 2) file))
      unfolding channel_from channel_behind
      channel-kept o = rw (inv, line-more file at e s h, lt-ltb _ _ g, on-by file at e s, ← ek, ne_eqb _ _ o)

-- its n
module _ (file : List ℕ) (place n : ℕ) {c : List ℕ} (e : c ≡ channel_before file place) (q : n ≡ intervals_in (fields (part c 0 (length c)))) where
  pub n-is : n ≡ n_before file place
  unfolding n_before
  n-is = let w : part c 0 (length c) ≡ c = to_end 0 c in rw (q, w, e)

  pub n-most : n ≤ 288
  unfolding intervals_in
  n-most = rw q (intervals-most _)

-- ---- a field

pub field_is : (s : List ℕ) (number n x : ℕ) {f : List ℕ} → n ≡ number - 1 → Rest s (fields (part s 0 (length s))) 0 n x (length s)
    → f ≡ field 0 (fields (part s x (length s))) → f ≡ field (number - 1) (fields s)
field_is s number n x e r h =
    let w : part s 0 (length s) ≡ s = to_end 0 s in
    h ∙ rest-first r ∙ ap (λ (t : List ℕ). field n (fields t)) w ∙ ap (λ (i : ℕ). field i (fields s)) e

-- the unit that it names
pub unit-named : (s : List ℕ) (number n x u : ℕ) → n ≡ number - 1 → Rest s (fields (part s 0 (length s))) 0 n x (length s)
    → u ≡ number_in (unit_of (field 0 (fields (part s x (length s))))) → u ≡ unit_named (number - 1) s
unfolding unit_named
unit-named s number n x u e r h = h ∙ ap (λ (f : List ℕ). number_in (unit_of f)) (field_is s number n x e r refl)

-- ---- descriptions

module _ (file : List ℕ) (from n : ℕ) where
  pub text-past : length file < from → [] ≡ text_at file from n
  unfolding text_at
  text-past h = let k : length file < from + n = omega arith in rw (lt-leb _ _ k)

  pub text-short : from ≤ length file → length file - from < n → [] ≡ text_at file from n
  unfolding text_at
  text-short h g = let k : length file < from + n = omega arith in rw (lt-leb _ _ k)

  pub text-there : {t : List ℕ} → from ≤ length file → n ≤ length file - from → t ≡ part file from (from + n) → t ≡ text_at file from n
  unfolding text_at
  text-there h g e = let k : from + n ≤ length file = omega arith in rw (le-leb _ _ k, e)

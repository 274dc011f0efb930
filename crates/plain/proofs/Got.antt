-- What a get leaves in the lists is the day: its values, and of each interval the mark whose description stands at its place in memory. Assumes nothing.
use Prim.Native.Nat.{ℕ, suc, ◌+◌, ◌-◌, ◌<◌}
use mathlib.Core.Path.{◌≡◌, refl, sym, ap, ap₂, ◌∙◌}
use mathlib.Core.Bool.{cond}
use mathlib.Core.List.{List, [], ◌∷◌, map}
use native.Mathlib.Omega.{arith}
use lib.ListN.{length, take, drop, get_or, length-take, length-drop, length-map, get_or-append, get_or-map}
use lib.Seq.{take_at, take-take}
use Rattle.ground.specs.Lists.{from}
use Rattle.ground.proofs.Cases.{by, split}
use Rattle.ground.proofs.Spans.{drop-take}
use Rattle.format.specs.Quality.{Mark}
use Rattle.format.specs.Numbers.{intervals_of}
use Rattle.format.specs.Cut.{lines}
use Rattle.format.specs.Answers.{accepted, refusal}
use Rattle.format.specs.File.{block_check_of}
use Rattle.format.specs.Day.{BlockRows, tag_at, tags_of, values_of, marks_of, day_of, Five, over, over_five, room_for, read_into}
use Rattle.format.specs.declared.Tag.{Tag}
use Rattle.format.proofs.Cut.{bytes_of, bytes-lines}
use Rattle.entries.specs.Little.{piece}
use Rattle.store.specs.Calls.{rows_at, get_from}
use Rattle.passing.proofs.Sound.{sound-each, sound-values}
use Rattle.passing.proofs.Rows.{tags-lengths}
use Rattle.shortest.specs.Blocks.{mark_of}
use Rattle.shortest.proofs.Tags.{tags-marks}
use Rattle.plain.specs.Plain.{said, saw, mark_left, day_left, seen_of, got_by}
use Rattle.stored.proofs.Blocks.{block, rows_are, rows-sound}

-- ---- descriptions in memory

-- n bytes from place a on that the first k hold
text-within : (m : List ℕ) (a n k : ℕ) → length (take n (drop a (take k m))) ≡ n → take n (drop a (take k m)) ≡ take n (drop a m)
text-within m a n k e =
    let l = length-take n (drop a (take k m)) in
    let g = length-drop a (take k m) in
    let h = length-take k m in
    split a k
    (λ c. ap (take n) (drop-take a k m c) ∙ take-take n (k - a) (drop a m) (omega arith))
    (λ c. let z : n ≡ 0 = omega arith in rw z)

mark-within : (m : List ℕ) (k : ℕ) (t : Tag) (x : Mark) → mark_of (take k m) t ≡ x → t.length ≡ length x.text → mark_of m t ≡ x
mark-within m k t x a b =
    let c : take t.length (drop t.start (take k m)) ≡ x.text = ap (λ (y : Mark). y.text) a in
    ap (λ (s : List ℕ). record { flag = t.flag; method = t.method; reason = t.reason; text = s }) (sym (text-within m t.start t.length k (ap length c ∙ sym b))) ∙ a

tags-within : (m : List ℕ) (k : ℕ) (ts : List Tag) (ms : List Mark) → map (mark_of (take k m)) ts ≡ ms → map (λ (t : Tag). t.length) ts ≡ map (λ (x : Mark). length x.text) ms
    → map (mark_of m) ts ≡ ms
tags-within m k [] ms e f = e
tags-within m k (t ∷ ts) [] e f = let z : ◌≡◌ {A = ℕ} 0 1 = cc in absurd (let w : ⊥ = omega arith in w)
tags-within m k (t ∷ ts) (x ∷ ms) e f =
    ap₂ (λ (y : Mark) (ys : List Mark). y ∷ ys) (mark-within m k t x (cc) (cc)) (tags-within m k ts ms (ap (drop 1) e) (ap (drop 1) f))

-- ---- the lists

no_tag : Tag
no_tag = record { flag = 0; method = 0; reason = 0; start = 0; length = 0 }

-- what a list holds at i behind a reading of the tags ts
tag-at : (f : Tag → ℕ) (ts : List Tag) (ws : List ℕ) (i : ℕ) → f no_tag ≡ 0 → i < length ts → get_or (over (map f ts) ws) i 0 ≡ f (get_or ts i no_tag)
tag-at f ts ws i z l =
    get_or-append (map f ts) (drop (length (map f ts)) ws) 0 i (omega (arith, length-map ts f))
    ∙ ap (get_or (map f ts) i) (sym z)
    ∙ get_or-map f ts i no_tag

mark-left : (m : List ℕ) (ts : List Tag) (ms : Five) (i : ℕ) → i < length ts → mark_left m (over_five ts ms) i ≡ mark_of m (get_or ts i no_tag)
unfolding mark_left over_five no_tag
mark-left m ts ms i l =
    rw (
      tag-at (λ (t : Tag). t.flag) ts ms.flags i refl l,
      tag-at (λ (t : Tag). t.method) ts ms.methods i refl l,
      tag-at (λ (t : Tag). t.reason) ts ms.reasons i refl l,
      tag-at (λ (t : Tag). t.start) ts ms.starts i refl l,
      tag-at (λ (t : Tag). t.length) ts ms.lengths i refl l,
    )

-- a list by what stands at each place
from_list : {X : Type 0} (d : X) (f : ℕ → X) (l : List X) (k : ℕ) → ((i : ℕ) → i < length l → f (k + i) ≡ get_or l i d) → from f k (length l) ≡ l
unfolding from
from_list d f [] k h = refl
from_list {X} d f (x ∷ l) k h =
    let z : k + 0 ≡ k = omega arith in
    ap₂ (λ (y : X) (ys : List X). y ∷ ys) (ap f (sym z) ∙ h 0 (omega arith))
    (from_list d f l (suc k) (λ i g. let s : suc k + i ≡ k + suc i = omega arith in ap f s ∙ h (suc i) (omega arith)))

marks-left : (m : List ℕ) (ts : List Tag) (ms : Five) → from (mark_left m (over_five ts ms)) 0 (length ts) ≡ map (mark_of m) ts
marks-left m ts ms =
    let l = length-map ts (mark_of m) in
    ap (from (mark_left m (over_five ts ms)) 0) (sym l)
    ∙ from_list (mark_of m no_tag) (mark_left m (over_five ts ms)) (map (mark_of m) ts) 0
    (λ i g. let z : 0 + i ≡ i = omega arith in ap (mark_left m (over_five ts ms)) z ∙ mark-left m ts ms i (omega arith) ∙ sym (get_or-map (mark_of m) ts i no_tag))

-- ---- a block in memory

module _ (m : List ℕ) (minutes y p : ℕ) (b xs : List ℕ) (e : block_check_of minutes y b ≡ accepted xs) (h : piece m p (length b) ≡ b) where
  abbrev rows : BlockRows
  rows = rows_at (intervals_of minutes) y p (lines b)

  there : drop p (take (p + length b) m) ≡ b
  there = drop-take p (p + length b) m (omega arith) ∙ ap (λ (k : ℕ). take k (drop p m)) (let z : p + length b - p ≡ length b = omega arith in z) ∙ h

  marks-there : map (mark_of m) (tags_of rows) ≡ marks_of rows
  marks-there =
      let w = block minutes y b xs e in
      let q : map (mark_of (take (p + length b) m)) (tags_of rows) ≡ marks_of rows =
      rw (rows_are minutes y b xs e p)
      (tags-marks (take (p + length b) m) p (intervals_of minutes) y w.first w.others (there ∙ sym (bytes-lines b) ∙ ap bytes_of w.is)) in
      tags-within m (p + length b) (tags_of rows) (marks_of rows) q (tags-lengths rows)

  day-left : (vs : List ℕ) (ms : Five) → (got_by m (read_into rows vs ms)).seen ≡ saw (day_of rows)
  unfolding read_into seen_of day_left day_of tags_of
  day-left vs ms =
      let s = rows-sound minutes y b xs e p in
      let l : length (tags_of rows) ≡ rows.n = sound-each rows s tag_at in
      let v : take rows.n (over (values_of rows) vs) ≡ values_of rows = take_at (values_of rows) (drop (length (values_of rows)) vs) rows.n (sound-values rows s) in
      let k : from (mark_left m (over_five (tags_of rows) ms)) 0 rows.n ≡ marks_of rows =
      ap (from (mark_left m (over_five (tags_of rows) ms)) 0) (sym l) ∙ marks-left m (tags_of rows) ms ∙ marks-there in
      rw (v, k)

  -- what is seen of a get, where the lists are long enough and where one is short
  pub got : (vs : List ℕ) (ms : Five) → (got_by m (get_from rows vs ms)).seen ≡ cond (room_for rows.n vs ms) (saw (day_of rows)) (said (refusal 15))
  unfolding get_from seen_of
  got vs ms = by (room_for rows.n vs ms) (λ t. rw t (day-left vs ms)) (λ t. rw t)

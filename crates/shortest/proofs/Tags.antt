-- What a reading leaves of an interval, its flag, method, reason and its description's start and length, is the interval's mark: the file's bytes there
-- are the description's. Of every day of every file. Assumes nothing.
use Prim.Native.Nat.{ℕ, zero, suc, ◌+◌, ◌-◌}
use mathlib.Core.Path.{◌≡◌, refl, sym, ap, ap₂, ◌∙◌}
use mathlib.Core.Bool.{true, cond}
use mathlib.Core.List.{List, [], ◌∷◌, ◌++◌, map, append_assoc, map-append}
use native.Mathlib.Omega.{arith}
use lib.ListN.{length, take, drop, replicate}
use lib.Seq.{take-append_seam, drop-append-add, drop-drop}
use lib.Dec.{eqb}
use borrow.Author.Tests.{ne_eqb}
use Rattle.ground.proofs.Lists.{map-replicate}
use Rattle.ground.proofs.Cases.{by}
use Rattle.format.specs.Quality.{Mark}
use Rattle.format.specs.Cut.{Lines, line, rest, fields, field, start_of}
use Rattle.format.specs.Records.{kind_in, first_in, last_in, mark_at}
use Rattle.format.specs.Order.{is_varied}
use Rattle.format.specs.Answers.{Answer, accepted}
use Rattle.format.specs.File.{check_of}
use Rattle.format.specs.Day.{row_at, DayRows, runs_from, days_of, cover_of, each_of, tag_at, tags_of, Day, marks_of, day_of, Outcome, outcome, over, over_five, room_for, read_into, read_first, after_check, read_of}
use Rattle.format.proofs.Cut.{bytes_of}
use Rattle.passing.proofs.Steps.{block_found}
use Rattle.theorems.specs.Grammar.{Record, join}
use Rattle.theorems.specs.Days.{meant}
use Rattle.theorems.proofs.Bytes.{join-fields}
use Rattle.shortest.specs.Blocks.{mark_of, Read}

-- ---- a field in its record

field_in : (j : ℕ) (fs : Record) (tail : List ℕ) → take (length (field j fs)) (drop (start_of j fs) (join fs ++ tail)) ≡ field j fs
unfolding start_of join
field_in zero [] tail = refl
field_in zero (f ∷ []) tail = take-append_seam f tail
field_in zero (f ∷ g ∷ fs) tail = ap (take (length f)) (append_assoc f (44 ∷ join (g ∷ fs)) tail) ∙ take-append_seam f (44 ∷ join (g ∷ fs) ++ tail)
field_in (suc j) [] tail = refl
field_in (suc j) (f ∷ []) tail = refl
field_in (suc j) (f ∷ g ∷ fs) tail =
    let s : ℕ = start_of j (g ∷ fs) in
    let e : length f + 1 + s ≡ length f + suc s = omega arith in
    ap (take (length (field j (g ∷ fs))))
    (ap (λ (i : ℕ). drop i ((f ++ 44 ∷ join (g ∷ fs)) ++ tail)) e
    ∙ ap (drop (length f + suc s)) (append_assoc f (44 ∷ join (g ∷ fs)) tail)
    ∙ drop-append-add f (44 ∷ join (g ∷ fs) ++ tail) (suc s))
    ∙ field_in j (g ∷ fs) tail

-- ---- a record in the file

-- the file's bytes from the place p on
module _ (file : List ℕ) where
  field_at : (p j : ℕ) (r tail : List ℕ) → drop p file ≡ r ++ tail → take (length (field j (fields r))) (drop (p + start_of j (fields r)) file) ≡ field j (fields r)
  field_at p j r tail h =
      ap (take (length (field j (fields r))))
      (sym (drop-drop (start_of j (fields r)) p file) ∙ ap (drop (start_of j (fields r))) (h ∙ ap (λ (x : List ℕ). x ++ tail) (sym (join-fields r))))
      ∙ field_in j (fields r) tail

  -- the start is 0 where the length is
  text_at_lem : (f : List ℕ) (a : ℕ) → take (length f) (drop a file) ≡ f → take (length f) (drop (cond (eqb (length f) 0) 0 a) file) ≡ f
  text_at_lem [] a h = refl
  text_at_lem (b ∷ f) a h = rw (ne_eqb (length (b ∷ f)) 0 (λ z. omega arith)) h

  tag-mark : (k p i : ℕ) (r tail : List ℕ) → drop p file ≡ r ++ tail → mark_of file (tag_at k (row_at p r) i) ≡ mark_at k i (fields r)
  unfolding tag_at mark_at
  tag-mark k p i r tail h =
      ap (λ (x : List ℕ). record { flag = (tag_at k (row_at p r) i).flag; method = (tag_at k (row_at p r) i).method; reason = (tag_at k (row_at p r) i).reason; text = x })
      (text_at_lem (field (i + 2) (fields r)) (p + start_of (i + 2) (fields r)) (field_at p (i + 2) r tail h))

  -- ---- a day

  -- the next record starts behind this one's CR LF
  pub next-at : (p : ℕ) (r : List ℕ) (ls : Lines) → drop p file ≡ bytes_of (line r ls) → drop (p + length r + 2) file ≡ bytes_of ls
  next-at p r ls h =
      let e : p + length r + 2 ≡ p + (length r + 2) = omega arith in
      ap (λ (i : ℕ). drop i file) e ∙ sym (drop-drop (length r + 2) p file) ∙ ap (drop (length r + 2)) h ∙ drop-append-add r (13 ∷ 10 ∷ bytes_of ls) 2

  cover-tags : (p : ℕ) (ls : Lines) → drop p file ≡ bytes_of ls
      → map (mark_of file) (cover_of (λ x. tag_at 400 x 3) (runs_from p ls)) ≡ cover_of (λ x. mark_at 400 3 x.cells) (runs_from p ls)
  unfolding runs_from cover_of
  cover-tags p (rest t) h = refl
  cover-tags p (line r ls) h =
      let k : ℕ = last_in (fields r) + 1 - first_in (fields r) in
      by (eqb (kind_in (fields r)) 400)
      (λ t. rw t
      (map-append (mark_of file) (replicate k (tag_at 400 (row_at p r) 3)) (cover_of (λ x. tag_at 400 x 3) (runs_from (p + length r + 2) ls))
      ∙ ap₂ (λ (x y : List Mark). x ++ y) (map-replicate (mark_of file) k (tag_at 400 (row_at p r) 3) ∙ ap (replicate k) (tag-mark 400 p 3 r (13 ∷ 10 ∷ bytes_of ls) h)) (cover-tags (p + length r + 2) ls (next-at p r ls h))))
      (λ t. rw t)

  pub tags-marks : (p n u : ℕ) (r : List ℕ) (ls : Lines) → drop p file ≡ bytes_of (line r ls)
      → map (mark_of file) (tags_of (block_found p r ls n u)) ≡ marks_of (block_found p r ls n u)
  unfolding tags_of marks_of each_of
  tags-marks p n u r ls h =
      by (is_varied n (fields r))
      (λ t. rw t (cover-tags (p + length r + 2) ls (next-at p r ls h)))
      (λ t. rw t (map-replicate (mark_of file) n (tag_at 300 (row_at p r) (n + 2)) ∙ ap (replicate n) (tag-mark 300 p (n + 2) r (13 ∷ 10 ∷ bytes_of ls) h)))

-- ---- what a reading answers and leaves

pub read_is : (file : List ℕ) (number : ℕ) (xs : List ℕ) (rows : DayRows) (others : List DayRows) (d : Day) → check_of file ≡ accepted xs
    → drop number (days_of file) ≡ rows ∷ others → meant rows ≡ d → map (mark_of file) (tags_of rows.block) ≡ marks_of rows.block → Read file number d
unfolding read_of read_into day_of
read_is file number xs rows others d e f q t =
    record {
      tags = tags_of rows.block;
      marks = t ∙ ap (λ (x : Day). x.marks) q;
      answers = λ vs ms r.
          (let told : Day → Outcome = λ x. outcome (accepted (x.date ∷ x.n ∷ x.update ∷ x.load ∷ x.unit ∷ [])) (over x.values vs) (over_five (tags_of rows.block) ms) in
          let n : room_for rows.block.n vs ms ≡ true = ap (λ (x : Day). room_for x.n vs ms) q ∙ r in
          let g : read_first (rows ∷ others) vs ms ≡ told (meant rows) = rw n in
          ap (λ (x : Answer). after_check x (read_first (drop number (days_of file)) vs ms) vs ms) e ∙ ap (λ (l : List DayRows). read_first l vs ms) f ∙ g ∙ ap told q);
    }

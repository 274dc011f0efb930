-- What comes of a try, by what was found of the day and what the check of the block answers. Assumes nothing.
use Prim.Native.Nat.{ℕ, ◌≤◌, ◌<◌}
use mathlib.Core.Path.{◌≡◌, refl, sym, ap, ◌∙◌}
use mathlib.Core.Bool.{true, false, true≢false}
use mathlib.Core.List.{List, [], ◌∷◌}
use Rattle.std.proofs.Common.{Result, Ok, Err}
use native.Mathlib.Omega.{arith}
use lib.ListN.{length, take, drop}
use lib.Seq.{length-take-le}
use borrow.Author.Tests.{ne_eqb, eq-eqb, lt-ltb, le-ltb}
use Rattle.ground.specs.Lists.{part}
use Rattle.format.specs.Cut.{Lines, line, rest, lines, fields}
use Rattle.format.specs.Records.{date_in}
use Rattle.format.specs.Answers.{Answer, accepted, refused, refusal, refused_as, block_checked_as}
use Rattle.format.specs.File.{most, check_of, block_check_of, top_says}
use Rattle.format.specs.Day.{DayRows, days_of}
use Rattle.format.specs.Total.{total_after}
use Rattle.format.specs.declared.Refusal.{Refusal}
use Rattle.format.specs.declared.BlockChecked.{BlockChecked}
use Rattle.passing.specs.Passes.{top_date}
use Rattle.passing.proofs.Alone.{alone}
use Rattle.passing.proofs.Walk.{not-accepted, file-short}
use Rattle.passing.proofs.Parts.{parts}
use Rattle.lines.specs.Places.{LineEnd}
use Rattle.moving.specs.Moving.{spliced}
use Rattle.whose.specs.Whose.{whose_is, day_found_as, find_first, find_of}
use Rattle.whose.specs.declared.DayFound.{DayFound}
use Rattle.whose.proofs.Ends.{block-end, block_within, top-date}
use Rattle.replacing.specs.Replace.{Left, left, or_refused, put_of, same_date, replace_first, replace_in, replace_of}
use Rattle.replacing.specs.Tries.{Found, Fits, Answers}
use Rattle.replacing.specs.declared.OldBlock.{OldBlock}

-- ---- the day that was found

record Owned (file : List ℕ) (day u m a e : ℕ) : Type 0 where
  xs : List ℕ
  ok : check_of file ≡ accepted xs
  d : DayRows
  ds : List DayRows
  is : drop day (days_of file) ≡ d ∷ ds
  unit : (whose_is file d).unit ≡ u
  minutes : (whose_is file d).minutes ≡ m
  start : (whose_is file d).start ≡ a
  end : (whose_is file d).end ≡ e

owned : (file : List ℕ) (day u m a e : ℕ) → Found file day u m a e → Owned file day u m a e
unfolding find_of
owned file day u m a e f = go (check_of file) refl (drop day (days_of file)) refl f.3
  where
    go : (c : Answer) → check_of file ≡ c → (ds : List DayRows) → drop day (days_of file) ≡ ds
        → total_after c (find_first file ds) ≡ accepted (f.0 ∷ f.1 ∷ f.2 ∷ u ∷ m ∷ a ∷ e ∷ []) → Owned file day u m a e
    go (refused x p k i) ec ds ed h = not-accepted x p k i _ h
    go (accepted xs) ec [] ed h = not-accepted 14 0 0 0 _ h
    go (accepted xs) ec (d ∷ ds) ed h =
        record { xs = xs; ok = ec; d = d; ds = ds; is = ed; unit = cc; minutes = cc; start = cc; end = cc }

pub start-within : (file : List ℕ) (day u m a e : ℕ) → Found file day u m a e → a ≤ length file
unfolding whose_is
start-within file day u m a e f =
    let o = owned file day u m a e f in
    let w = parts file o.xs day o.d o.ds o.ok o.is in
    omega (arith, o.start, w.place, block_within file day o.d w)

-- ---- the block

-- the date that its check answers is that of its 300
date-is : (m y : ℕ) (s : List ℕ) (t n u l k : ℕ) → block_check_of m y s ≡ accepted (t ∷ n ∷ u ∷ l ∷ k ∷ []) → top_date (lines s) ≡ t
date-is m y s t n u l k e =
    let w = (alone m y s t n u l k).0 e in
    go (lines s) w.says
  where
    go : (ls : Lines) → top_says n ls ≡ t ∷ n ∷ u ∷ l ∷ [] → top_date ls ≡ t
    go (rest x) h = absurd (let z : true ≡ false = cc in true≢false z)
    go (line r ls) h = cc

module _ (file : List ℕ) (day u m a e : ℕ) (f : Found file day u m a e) (block : List ℕ) (c : Result BlockChecked Refusal) (ec : block_checked_as c ≡ block_check_of m u block) where
  -- the answer for this day
  first : (room : List ℕ) (o : Owned file day u m a e)
      → replace_in file day block room ≡ or_refused (block_checked_as c) room (or_refused (same_date o.d block) room (put_of (spliced file a e block) room))
  unfolding replace_in
  first room o = rw (o.ok, o.is, o.unit, o.minutes, o.start, o.end, ec)

  pub try-refused : (x : Refusal) → c ≡ Err x → Answers file day block (Err x)
  try-refused x h room = first room (owned file day u m a e f) ∙ rw h

  module _ (b : BlockChecked) (h : c ≡ Ok b) (z date : ℕ) (lz : LineEnd file a z) (ed : date ≡ date_in (fields (part file a z))) where
    abbrev t : ℕ
    t = b.date

    dates : (o : Owned file day u m a e) → (top_date (lines block) ≡ t) × (date_in o.d.block.top.cells ≡ date)
    unfolding whose_is
    dates o =
        let w = parts file o.xs day o.d o.ds o.ok o.is in
        let p : o.d.block.top.place ≡ a = o.start in
        let q = top-date file day o.d w z (rw p lz) in
        (date-is m u block t b.n b.update b.load b.records (sym ec ∙ ap block_checked_as h), sym q ∙ rw p (sym ed))

    pub try-another : (t ≡ date → ⊥) → (x : Refusal) → refused_as x ≡ refused 8 4 0 2 → Answers file day block (Err x)
    unfolding same_date
    try-another g x ex room =
        let o = owned file day u m a e f in
        let w = dates o in
        first room o ∙ rw (h, w.0, w.1, ne_eqb t date g, ex)

    pub try-fits : t ≡ date → Answers file day block (Ok (record { start = a; end = e }))
    unfolding same_date whose_is
    try-fits g =
        let o = owned file day u m a e f in
        let w = dates o in
        let y = parts file o.xs day o.d o.ds o.ok o.is in
        let b = block-end file day o.d y in
        record {
          order = omega (arith, o.start, o.end, b, y.place);
          within = omega (arith, o.end, b, block_within file day o.d y);
          short = file-short file (o.xs, o.ok);
          put = λ room. first room o ∙ rw (h, w.0, w.1, eq-eqb t date g);
        }

-- ---- what was found

module _ (file : List ℕ) (day : ℕ) (r : Result DayFound Refusal) (er : day_found_as r ≡ find_of file day) where
  pub try-none : (block : List ℕ) (x : Refusal) → r ≡ Err x → Answers file day block (Err x)
  unfolding replace_in find_of
  try-none block x h room = go (check_of file) (drop day (days_of file)) (sym (rw h at er))
    where
      go : (c : Answer) (ds : List DayRows) → total_after c (find_first file ds) ≡ refused_as x
          → or_refused c room (replace_first file ds block room) ≡ left (refused_as x) room
      go (refused y p k i) ds e = ap (λ (z : Answer). left z room) e
      go (accepted xs) [] e = ap (λ (z : Answer). left z room) e
      go (accepted xs) (d ∷ ds) e = not-accepted x.number x.place x.«record» x.field _ (sym e)

  pub found-there : (d : DayFound) → r ≡ Ok d → Found file day d.unit d.length d.start d.end
  found-there d h = (d.channel, d.nmi, d.suffix, sym (rw h at er))

-- ---- the room

module _ (room : List ℕ) (n day : ℕ) (block : List ℕ) where
  pub replaced-15 : length room < n → (x : Refusal) → refused_as x ≡ refusal 15 → left (refused_as x) room ≡ replace_of room n day block
  unfolding replace_of
  replaced-15 h x ex = rw (ex, lt-ltb _ _ h)

  module _ (h : n ≤ length room) (t : Result OldBlock Refusal) (et : Answers (take n room) day block t) where
    pub replaced-not : (x : Refusal) → t ≡ Err x → left (refused_as x) room ≡ replace_of room n day block
    unfolding replace_of
    replaced-not x ht =
        let w : Answers (take n room) day block (Err x) = rw ht at et in
        rw (le-ltb (length room) n h) (sym (w room))

    module _ (b : OldBlock) (ht : t ≡ Ok b) where
      abbrev a : ℕ
      a = b.start

      abbrev e : ℕ
      e = b.end

      fits : Fits (take n room) day block a e
      fits = rw ht at et

      pub fits-order : a ≤ e
      fits-order = fits.order

      pub fits-within : e ≤ n
      fits-within = omega (arith, fits.within, length-take-le n room h)

      pub fits-short : n ≤ most
      fits-short = omega (arith, fits.short, length-take-le n room h)

      pub replaced-put : (l : Left) → l ≡ put_of (spliced (take n room) a e block) room → l ≡ replace_of room n day block
      unfolding replace_of
      replaced-put l q = rw (le-ltb (length room) n h) (q ∙ sym (fits.put room))

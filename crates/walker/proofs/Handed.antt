-- What the walker hands out at a place: made of what the pass over the record found, and read back by a caller. Assumes nothing.
use Rattle.std.proofs.Common.{Option, Some, None}
use Prim.Native.Nat.{ℕ, ◌+◌, ◌-◌, ◌≤◌, ◌<◌}
use mathlib.Core.Path.{◌≡◌, refl, sym, ◌∙◌, subst}
use mathlib.Core.List.{List}
use mathlib.Core.Bool.{Bool, true, false}
use native.Mathlib.Omega.{arith}
use lib.ListN.{length, take, drop, drop_of_length-le}
use lib.Dec.{ltb, eqb}
use borrow.Author.Tests.{ltb-true, ltb-false, eqb-true, eqb-false}
use Rattle.ground.specs.Lists.{span_of, part}
use Rattle.ground.proofs.Spans.{part-take, part_length, span-le}
use Rattle.format.specs.Bytes.{plain}
use Rattle.format.specs.Cut.{rest, lines, fields}
use Rattle.format.proofs.Cut.{fields-some, count_most}
use Rattle.lines.specs.Places.{line_len, LineEnd, Looked}
use Rattle.lines.proofs.Ends.{line_at, line-none, line-more, line-room, line-long}
use Rattle.lines.specs.declared.Found.{Found}
use Rattle.walker.specs.Handed.{record_at}

module _ (file : List ℕ) (at : ℕ) where
  -- ---- made: a place behind the file's end, no CR LF, a record

  behind : length file < at → lines (drop at file) ≡ rest (drop at file)
  unfolding lines
  behind h = rw (drop_of_length-le file {i = at} (omega arith))

  pub none-behind : length file < at → None ≡ record_at file at
  unfolding record_at
  none-behind h = rw (behind h)

  module _ (f : Found) (l : Looked file at f.end f.bad f.commas) where
    pub none_here : f.end ≡ length file → None ≡ record_at file at
    unfolding record_at
    none_here h = rw (line-none file at f.end l.ends h)

    pub one-here : (f.end ≡ length file → ⊥) → Some (at, f) ≡ record_at file at
    unfolding record_at
    one-here h =
        let s : span_of plain (part file at f.end) ≡ f.bad - at = omega (arith, l.first) in
        let t : take (f.bad - at) (part file at f.end) ≡ part file at (at + (f.bad - at)) = part-take file at f.end (f.bad - at) (omega (arith, l.within)) in
        let b : at + (f.bad - at) ≡ f.bad = omega (arith, l.order) in
        let n : at + (f.end - at) ≡ f.end = omega (arith, l.ends.order) in
        let c : length (fields (part file at f.bad)) - 1 ≡ f.commas = omega (arith, l.count) in
        rw (line-more file at f.end l.ends h, line-long file at f.end l.ends, n, s, t, b, c)

  -- ---- read back: what a caller knows of each case

  abbrev Told : Option (ℕ × Found) → Type 0
  Told (Some (s, f)) = Looked file at f.end f.bad f.commas × (f.end ≡ length file → ⊥)
  Told None = lines (drop at file) ≡ rest (drop at file)

  abbrev end : ℕ
  end = at + line_len (drop at file)

  abbrev stop : ℕ
  stop = at + span_of plain (part file at end)

  -- what a pass finds, wherever it starts in the file
  abbrev found : Found
  found = record { end = end; bad = stop; commas = length (fields (part file at stop)) - 1 }

  looks : at ≤ length file → Looked file at found.end found.bad found.commas
  looks h =
      let l : LineEnd file at end = line_at file at h in
      let w : span_of plain (part file at end) ≤ end - at = rw (part_length file at end l.within) at (span-le plain (part file at end)) in
      record {
        ends = l;
        order = omega arith;
        within = omega (arith, w);
        few = omega (arith, count_most (part file at stop), part_length file at stop (omega (arith, w, l.within)));
        first = refl;
        count = omega (arith, fields-some (part file at stop));
      }

  told : Told (record_at file at)
  told = by (ltb (length file) at) refl
    where
      here : at ≤ length file → (t : Bool) → eqb found.end (length file) ≡ t → Told (record_at file at)
      here h true q = let e : found.end ≡ length file = eqb-true _ _ q in subst Told (none_here found (looks h) e) (line-none file at _ (looks h).ends e)
      here h false q = subst Told (one-here found (looks h) (eqb-false _ _ q)) (looks h, eqb-false _ _ q)

      by : (t : Bool) → ltb (length file) at ≡ t → Told (record_at file at)
      by true q = let h : length file < at = ltb-true _ _ q in subst Told (none-behind h) (behind h)
      by false q = here (ltb-false _ _ q) (eqb found.end (length file)) refl

  module _ (r : Option (ℕ × Found)) (is : r ≡ record_at file at) where
    pub handed-none : r ≡ None → lines (drop at file) ≡ rest (drop at file)
    handed-none q = subst Told (sym is ∙ q) told

    module _ (s : ℕ) (f : Found) (q : r ≡ Some (s, f)) where
      pub handed-looked : Looked file at f.end f.bad f.commas
      handed-looked = (subst Told (sym is ∙ q) told).0

      pub handed-inside : f.end ≡ length file → ⊥
      handed-inside = (subst Told (sym is ∙ q) told).1

      -- the next record starts behind this one, in the file
      pub handed-order : at ≤ f.end
      handed-order = handed-looked.ends.order

      pub handed-room : f.end + 2 ≤ length file
      handed-room = line-room file at f.end handed-looked.ends handed-inside

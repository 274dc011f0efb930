-- A replacing is accepted exactly when the block could stand in the old one's place: bytes that the check takes there are accepted on their own, by the numbers
-- of the day's own 200, and the other way round. Assumes nothing.
use Prim.Native.Nat.{ℕ, ◌≤◌}
use mathlib.Core.Path.{◌≡◌, refl, sym, ap, ◌∙◌, subst}
use mathlib.Core.Logic.{◌↔◌}
use mathlib.Core.List.{List, [], ◌∷◌}
use lib.ListN.{length, take}
use Rattle.format.specs.Cut.{Lines, line, rest, lines}
use Rattle.format.specs.Order.{Due, begun}
use Rattle.format.specs.File.{after}
use Rattle.format.specs.Day.{DayRows, day_of, over}
use Rattle.passing.specs.Passes.{Passes, Leads, Accepted, kinds_of}
use Rattle.passing.proofs.Alone.{alone, accepted-alone, anywhere-alone}
use Rattle.passing.proofs.Parts.{Parts, parts}
use Rattle.whose.specs.Whose.{whose_is}
use Rattle.edited.specs.Edited.{Replaces, Replaceable}
use Rattle.replacing.specs.Replace.{edited_at}
use Rattle.edited.proofs.Whose.{take-before, start_is, minutes-is, unit-known, length-known, decimals-are}
use Rattle.edited.proofs.Asked.{asked, asked-replaces}
use Rattle.edited.proofs.Theorems.{taken}

-- the check comes to one state
one_state : (a s t : Due) (ls : Lines) → Passes a ls s → Passes a ls t → s ≡ t
one_state a s t (rest r) h k = sym h.1 ∙ k.1
one_state a s t (line r ls) h k = one_state (after a r) s t ls h.1 k.1

-- what stands before the day's block
before-is : (file : List ℕ) (day : ℕ) (d : DayRows) (p : Parts file day d) → take (whose_is file d).start file ≡ p.before
before-is file day d p = ap (λ (i : ℕ). take i file) (start_is file day d p) ∙ take-before file day d p

module _ (room : List ℕ) (n day : ℕ) (block : List ℕ) where
  may-replace : n ≤ length room → (r : Replaceable (take n room) day block room)
      → Replaces room n day block (length (edited_at (take n room) r.rows block)) (over (edited_at (take n room) r.rows block) room)
  unfolding day_of
  may-replace o r =
      let file : List ℕ = take n room in
      let d : DayRows = r.rows in
      let p : Parts file day d = parts file r.was.0 day d r.others r.was.1 r.at in
      let l : Leads p.before r.st = subst (λ (x : List ℕ). Leads x r.st) (before-is file day d p) r.leads in
      let a : Accepted p.st block = subst (λ (s : Due). Accepted s block) (one_state begun r.st p.st (lines p.before) l p.leads) r.taken in
      let w = anywhere-alone (whose_is file d).minutes (whose_is file d).unit block p.st (length-known file day d p) (unit-known file day d p) (sym (minutes-is file day d p)) (sym (decimals-are file day d p)) a in
      asked-replaces room n day block (length (edited_at file d block)) (over (edited_at file d block) room) o
      (record {
        answer = r.was.0;
        check = r.was.1;
        rows = d;
        others = r.others;
        at = r.at;
        numbers = w.0 ∷ p.st.n ∷ w.1 ∷ w.2 ∷ length (kinds_of (lines block)) ∷ [];
        block-check = (alone (whose_is file d).minutes (whose_is file d).unit block w.0 p.st.n w.1 w.2 (length (kinds_of (lines block)))).1 w.3;
        date = r.date;
        short = r.short;
        fits = r.fits;
        size = refl;
        leaves = refl;
      })

  could-stand : (m : ℕ) (room' : List ℕ) → Replaces room n day block m room' → (n ≤ length room) × Replaceable (take n room) day block room
  unfolding day_of
  could-stand m room' h =
      let file : List ℕ = take n room in
      let v = asked room n day block m room' h in
      let w = v.1 in
      let d : DayRows = w.rows in
      let p : Parts file day d = parts file w.answer day d w.others w.check w.at in
      let a = accepted-alone (whose_is file d).minutes (whose_is file d).unit block w.numbers w.block-check in (
        v.0,
        record {
          was = (w.answer, w.check);
          rows = d;
          others = w.others;
          at = w.at;
          st = p.st;
          leads = subst (λ (x : List ℕ). Leads x p.st) (sym (before-is file day d p)) p.leads;
          taken = taken file day d p block a.0 a.1 a.2 a.3 a.4 a.5 w.date;
          date = w.date;
          short = w.short;
          fits = w.fits;
        },
      )

  pub replaces-exactly : ((m : ℕ) × (room' : List ℕ) × Replaces room n day block m room') ↔ ((n ≤ length room) × Replaceable (take n room) day block room)
  replaces-exactly = (
    λ x. could-stand x.0 x.1 x.2,
    λ r. (length (edited_at (take n room) r.1.rows block), over (edited_at (take n room) r.1.rows block) room, may-replace r.0 r.1),
  )

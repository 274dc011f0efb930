-- A replacing that is accepted: its block, accepted on its own, is accepted where the old one stood, so the file is edited as `Swap` says of two blocks of one
-- date. Assumes nothing.
use Prim.Native.Nat.{ℕ, ◌≤◌, ◌<◌}
use mathlib.Core.Path.{◌≡◌, sym, ap, ap₂, ◌∙◌, subst}
use mathlib.Core.List.{List, [], ◌∷◌, ◌++◌}
use lib.ListN.{length, take, drop}
use Rattle.format.specs.Cut.{line, lines, fields}
use Rattle.format.specs.Units.{decimals_of}
use Rattle.format.specs.Records.{intervals_in, date_in, update_in, load_in}
use Rattle.format.specs.Answers.{Answer, accepted}
use Rattle.format.specs.File.{most, check_of, top_says, block_check_of}
use Rattle.format.specs.Day.{DayRows, days_of, day_of}
use Rattle.format.specs.Total.{total_after}
use Rattle.passing.specs.Passes.{Accepted, top_date, Awaits, Alone}
use Rattle.passing.proofs.Blocks.{headed, accepted-later}
use Rattle.passing.proofs.Alone.{alone, accepted-alone, alone-anywhere}
use Rattle.passing.proofs.Parts.{Parts, parts}
use Rattle.whose.specs.Whose.{whose_is, whose_as, find_first, find_of}
use Rattle.moving.specs.Moving.{spliced}
use Rattle.edited.specs.Edited.{Replaces, Edited}
use Rattle.replacing.specs.Replace.{edited_at}
use Rattle.edited.proofs.Whose.{take-before, drop_block, day-is, start_is, end_is, channel-is, minutes-is, unit-is, decimals-are}
use Rattle.edited.proofs.Asked.{Asked, asked, edited-is, behind-is}
use Rattle.edited.proofs.Swap.{Other, same_check, bytes-before, bytes_inside, bytes-behind, new, reads-new, read-new, same-days, earlier-day, later-day, totals-there}

found-day : (file xs : List ℕ) (day : ℕ) (d : DayRows) (ds : List DayRows) → check_of file ≡ accepted xs → drop day (days_of file) ≡ d ∷ ds → find_of file day ≡ whose_as (whose_is file d)
unfolding find_of
found-day file xs day d ds e f = ap (λ (a : Answer). total_after a (find_first file (drop day (days_of file)))) e ∙ ap (find_first file) f

-- ---- the block in its place

-- the block's date, as its check answers it
alone-date : (m y : ℕ) (b : List ℕ) (t n u l k : ℕ) → Alone m y b t n u l k → top_date (lines b) ≡ t
alone-date m y b t n u l k w =
    let h = headed _ b w.accepted in
    let q : top_says n (line h.first h.others) ≡ t ∷ n ∷ u ∷ l ∷ [] = rw h.is at w.says in
    let z : date_in (fields h.first) ≡ t = cc in
    ap top_date h.is ∙ z

module _ (file : List ℕ) (day : ℕ) (d : DayRows) (p : Parts file day d) where
  old-date : top_date (lines p.block) ≡ date_in d.block.top.cells
  old-date = ap top_date (headed p.st p.block p.accepted).is ∙ ap (λ (x : DayRows). date_in x.block.top.cells) (sym (day-is file day d p))

  -- the edited file, by the parts of the old one
  edited-parts : (block : List ℕ) → edited_at file d block ≡ p.before ++ (block ++ p.behind)
  edited-parts block =
      ap₂ (λ (a e : ℕ). spliced file a e block) (start_is file day d p) (end_is file day d p)
      ∙ ap₂ (λ (x y : List ℕ). x ++ (block ++ y)) (take-before file day d p) (drop_block file day d p)

  module _ (block : List ℕ) (t n u l k : ℕ) (w : Alone (whose_is file d).minutes (whose_is file d).unit block t n u l k) (same : top_date (lines block) ≡ date_in d.block.top.cells) where
    -- where the old block stood, one of the new one's numbers may stand
    awaits : Awaits p.st n (decimals_of (whose_is file d).unit) t
    awaits =
        let h = headed p.st p.block p.accepted in
        let e : top_date (lines p.block) ≡ t = old-date ∙ sym same ∙ alone-date (whose_is file d).minutes (whose_is file d).unit block t n u l k w in
        record {
          free = (rw h.kind at h.fit.may, rw h.kind at h.fit.free);
          intervals = sym (minutes-is file day d p) ∙ w.intervals;
          decimals = sym (decimals-are file day d p);
          earlier = subst (λ (i : ℕ). p.st.date < i) e (accepted-later p.st p.block p.accepted);
        }

    pub taken : Accepted p.st block
    taken = alone-anywhere (whose_is file d).minutes (whose_is file d).unit block t n u l k w p.st awaits

    -- what the new day says is what the block's check answers
    says-new : (a : Accepted p.st block) (i : ℕ) → i ≡ n
        → block_check_of (whose_is file d).minutes (whose_is file d).unit block
        ≡ accepted (date_in (fields (headed p.st block a).first) ∷ i ∷ update_in i (fields (headed p.st block a).first) ∷ load_in i (fields (headed p.st block a).first) ∷ k ∷ [])
    says-new a i z =
        let h = headed p.st block a in
        let q : top_says n (line h.first h.others) ≡ t ∷ n ∷ u ∷ l ∷ [] = rw h.is at w.says in
        (alone (whose_is file d).minutes (whose_is file d).unit block t n u l k).1 w ∙ rw z (ap (λ (ys : List ℕ). accepted (ys ++ k ∷ [])) (sym q))

-- ---- the theorems

module _ (file room : List ℕ) (day : ℕ) (block : List ℕ) (m : ℕ) (room' : List ℕ) (w : Asked file room day block m room') where
  parts-there : Parts file day w.rows
  parts-there = parts file w.answer day w.rows w.others w.check w.at

  edited-there : Edited file day block (parts-there.before ++ (block ++ parts-there.behind))
  unfolding day_of
  edited-there =
      let d : DayRows = w.rows in
      let p : Parts file day d = parts-there in
      let a = accepted-alone (whose_is file d).minutes (whose_is file d).unit block w.numbers w.block-check in
      let b : Accepted p.st block = taken file day d p block a.0 a.1 a.2 a.3 a.4 a.5 w.date in
      let o : Other file day block =
      record {
        answer = w.answer;
        check = w.check;
        rows = d;
        others = w.others;
        at = w.at;
        parts = p;
        taken = b;
        date = w.date ∙ sym (old-date file day d p);
        short = subst (λ (x : List ℕ). length x ≤ most) (edited-parts file day d p block) w.short;
      } in
      let v = totals-there file day block o (whose_is file d).channel (channel-is file day d p) in
      let s = start_is file day d p in
      let i : intervals_in d.channel.cells ≡ a.1 = p.intervals ∙ sym (minutes-is file day d p) ∙ a.5.intervals in
      record {
        rows = d;
        others = w.others;
        at = w.at;
        whose = whose_is file d;
        found = found-day file w.answer day d w.others w.check w.at;
        was = (w.answer, w.check);
        check = same_check file day block o;
        before = rw s (bytes-before file day block o ∙ sym (take-before file day d p));
        inside = rw s (bytes_inside file day block o);
        behind = rw (s, end_is file day d p) (bytes-behind file day block o ∙ sym (drop_block file day d p));
        new = new file day block o;
        reads = rw s (reads-new file day block o);
        read = read-new file day block o;
        records = a.4;
        says = says-new file day d p block a.0 a.1 a.2 a.3 a.4 a.5 w.date b (intervals_in d.channel.cells) i;
        date = sym (ap top_date (headed p.st block b).is) ∙ w.date;
        unit = sym (unit-is file day d p);
        same = same-days file day block o;
        earlier = earlier-day file day block o;
        later = rw (s, end_is file day d p) (later-day file day block o);
        old-total = v.old-total;
        was-total = v.was-total;
        new-total = v.new-total;
        total = v.total;
        moved = v.moved_by;
        totals = v.others;
      }

-- What a replacing that is accepted leaves at the room's start is the file, edited.
pub replaced : (room : List ℕ) (n day : ℕ) (block : List ℕ) (m : ℕ) (room' : List ℕ) → Replaces room n day block m room' → Edited (take n room) day block (take m room')
replaced room n day block m room' h =
    let file : List ℕ = take n room in
    let w = (asked room n day block m room' h).1 in
    let q = edited-is file room day block m room' w ∙ edited-parts file day w.rows (parts-there file room day block m room' w) block in
    subst (Edited file day block) (sym q) (edited-there file room day block m room' w)

-- "lent bytes past the new end stay"
pub past_end : (room : List ℕ) (n day : ℕ) (block : List ℕ) (m : ℕ) (room' : List ℕ) → Replaces room n day block m room' → drop m room' ≡ drop m room
past_end room n day block m room' h = behind-is (take n room) room day block m room' (asked room n day block m room' h).1

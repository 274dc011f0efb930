-- A file with another block of the same date in the place of one of its days': accepted with the same numbers, the other days as they were but for their
-- places, the block's day in its place, and one total moved. By the parts of the file, which the two share. Assumes nothing.
use Prim.Native.Nat.{ℕ, suc, ◌+◌, ◌-◌, ◌≤◌, ◌<◌}
use mathlib.Core.Path.{◌≡◌, refl, sym, ap, ap₂, ◌∙◌, subst}
use mathlib.Core.Logic.{◌≢◌}
use mathlib.Core.Bool.{true}
use mathlib.Core.List.{List, [], ◌∷◌, ◌++◌, map, map-append, append_assoc}
use native.Mathlib.Omega.{arith}
use lib.ListN.{length, take, drop, length-map}
use lib.Seq.{take_at, drop_at, take-append_seam, drop-append_seam, drop-append-add}
use Rattle.ground.specs.Lists.{sum}
use Rattle.format.specs.Cut.{lines, fields}
use Rattle.format.specs.Records.{unit_in, intervals_in, values_in}
use Rattle.format.specs.Order.{may_come, begun}
use Rattle.format.specs.Answers.{accepted}
use Rattle.format.specs.File.{most, check_of}
use Rattle.format.specs.Day.{Row, DayRows, days_from, no_channel, days_of, values_of, Day, day_of, Five, read_first, read_of}
use Rattle.format.specs.Total.{totals_from, total_first, total_of}
use Rattle.passing.specs.Passes.{Passes, head_in, Accepted, top_date}
use Rattle.passing.specs.Sound.{is_sound}
use Rattle.passing.proofs.Walk.{passes-file, file-short}
use Rattle.passing.proofs.Days.{checked-days}
use Rattle.passing.proofs.Sound.{all_drop}
use Rattle.passing.proofs.Files.{passes_append}
use Rattle.passing.proofs.Blocks.{headed, one-day}
use Rattle.passing.proofs.Parts.{Parts}
use Rattle.theorems.specs.Days.{meant}
use Rattle.shortest.specs.Blocks.{Reads, Read}
use Rattle.shortest.proofs.Inside.{stands}
use Rattle.edited.specs.Edited.{shifted, with_starts}
use Rattle.edited.proofs.Alike.{passes-alike, ends-alike}
use Rattle.edited.proofs.Moved.{last_head, block_day, block-length, days-before, days-by, EachMoved, days-moved, same-moved, drop-moved, first-moved, first-before, read-first}
use Rattle.edited.proofs.Totals.{Swapped, totals-swapped, total_first_lem, other-first}
use Rattle.edited.proofs.Whose.{day-is}

-- another block of the same date, which is accepted where the day's block stands and leaves the file short enough
pub record Other (file : List ℕ) (day : ℕ) (block : List ℕ) : Type 0 where
  pub answer : List ℕ
  pub check : check_of file ≡ accepted answer
  pub rows : DayRows
  pub others : List DayRows
  pub at : drop day (days_of file) ≡ rows ∷ others
  pub parts : Parts file day rows
  pub taken : Accepted parts.st block
  pub date : top_date (lines block) ≡ top_date (lines parts.block)
  pub short : length (parts.before ++ (block ++ parts.behind)) ≤ most

module _ (file : List ℕ) (day : ℕ) (block : List ℕ) (o : Other file day block) where
  abbrev p : Parts file day o.rows
  p = o.parts

  -- the edited file
  abbrev pub there : List ℕ
  there = p.before ++ (block ++ p.behind)

  -- where both blocks start, where the old one ended, and where the new one ends
  abbrev start : ℕ
  start = length p.before

  abbrev end : ℕ
  end = start + length p.block

  abbrev end' : ℕ
  end' = start + length block

  -- ---- accepted

  abbrev answer : List ℕ
  answer = p.end.version ∷ p.end.channels ∷ p.end.days ∷ []

  passes-there : Passes begun (lines there) p.end
  passes-there =
      passes_append begun p.st p.end p.before (block ++ p.behind) p.leads
      (passes_append p.st o.taken.end p.end block p.behind o.taken.passes
      (passes-alike p.accepted.end o.taken.end p.end (lines p.behind) (ends-alike p.st p.block block p.accepted o.taken o.date) p.apart p.on))

  check-there : check_of there ≡ accepted answer
  check-there = passes-file there p.end o.short passes-there p.ended

  check-here : check_of file ≡ accepted answer
  check-here =
      let h : Passes begun (lines (p.before ++ (p.block ++ p.behind))) p.end =
      passes_append begun p.st p.end p.before (p.block ++ p.behind) p.leads (passes_append p.st p.accepted.end p.end p.block p.behind p.accepted.passes p.on) in
      passes-file file p.end (file-short file (o.answer, o.check)) (subst (λ (s : List ℕ). Passes begun (lines s) p.end) (sym p.is) h) p.ended

  pub same_check : check_of there ≡ check_of file
  same_check = check-there ∙ sym check-here

  -- ---- bytes

  pub bytes-before : take start there ≡ p.before
  bytes-before = take-append_seam p.before (block ++ p.behind)

  pub bytes_inside : take (length block) (drop start there) ≡ block
  bytes_inside = ap (take (length block)) (drop-append_seam p.before (block ++ p.behind)) ∙ take-append_seam block p.behind

  pub bytes-behind : drop end' there ≡ p.behind
  bytes-behind = drop-append-add p.before (block ++ p.behind) (length block) ∙ drop-append_seam block p.behind

  -- ---- days

  -- the 200 of both blocks, the days before them, and those behind the one and the other
  abbrev own : Row
  own = last_head 0 no_channel (lines p.before)

  abbrev firsts : List DayRows
  firsts = days_of p.before

  abbrev lasts : List DayRows
  lasts = days_from end own (lines p.behind)

  abbrev lasts' : List DayRows
  lasts' = days_from end' own (lines p.behind)

  abbrev first-day : DayRows
  first-day = block_day p.st p.block p.accepted start own

  abbrev new-day : DayRows
  new-day = block_day p.st block o.taken start own

  count : length firsts ≡ day
  count = days-before p.before p.behind p.st p.leads p.apart ∙ p.number

  days-here : days_of file ≡ firsts ++ (first-day ∷ lasts)
  days-here = ap days_of p.is ∙ days-by p.before p.behind p.st p.leads p.apart p.block p.accepted

  days-there : days_of there ≡ firsts ++ (new-day ∷ lasts')
  days-there = days-by p.before p.behind p.st p.leads p.apart block o.taken

  own_is : own ≡ o.rows.channel
  own_is =
      let q : first-day ∷ lasts ≡ o.rows ∷ o.others = sym (drop_at firsts (first-day ∷ lasts) day count) ∙ ap (drop day) (sym days-here) ∙ o.at in
      let z : first-day ≡ o.rows = cc in
      ap (λ (x : DayRows). x.channel) z

  some : 0 < end
  some = let i = block-length p.st p.block p.accepted in omega arith

  moved : EachMoved end end' lasts lasts'
  moved =
      let u : end + 0 ≡ end = omega arith in
      let v : end' + 0 ≡ end' = omega arith in
      let w : EachMoved end end' (days_from (end + 0) own (lines p.behind)) (days_from (end' + 0) own (lines p.behind)) = days-moved end end' some 0 own own (lines p.behind) refl in
      subst (λ (i : ℕ). EachMoved end end' (days_from end own (lines p.behind)) (days_from i own (lines p.behind))) v
      (subst (λ (i : ℕ). EachMoved end end' (days_from i own (lines p.behind)) (days_from (end' + 0) own (lines p.behind))) u w)

  -- the block's day
  abbrev pub new : Day
  new = meant (block_day p.st block o.taken start o.rows.channel)

  pub reads-new : Reads start o.rows.channel block new
  reads-new = ap (map meant) (one-day p.st block o.taken start o.rows.channel)

  pub read-new : Read there day new
  unfolding day_of
  read-new =
      let a : (p.before ++ block) ++ p.behind ≡ there = append_assoc p.before block p.behind in
      let w = stands p.before block p.behind p.st new p.leads o.taken o.rows.channel p.intervals reads-new (ap unit_in (sym p.cells)) in
      subst (λ (s : List ℕ). Read s day new) a (subst (λ (k : ℕ). Read ((p.before ++ block) ++ p.behind) k new) p.number (w.reads answer (ap check_of a ∙ check-there)))

  -- the others
  pub same-days : map meant (days_of there) ≡ take day (map meant (days_of file)) ++ (new ∷ drop (day + 1) (map meant (days_of file)))
  same-days =
      let g : List Day = map meant firsts in
      let i : length g ≡ day = length-map firsts meant ∙ count in
      let j : day + 1 ≡ length g + 1 = omega arith in
      let here : map meant (days_of file) ≡ g ++ (meant first-day ∷ map meant lasts) = ap (map meant) days-here ∙ map-append meant firsts (first-day ∷ lasts) in
      let x : take day (map meant (days_of file)) ≡ g = ap (take day) here ∙ take_at g (meant first-day ∷ map meant lasts) day i in
      let y : drop (day + 1) (map meant (days_of file)) ≡ map meant lasts =
      ap (drop (day + 1)) here ∙ ap (λ (k : ℕ). drop k (g ++ (meant first-day ∷ map meant lasts))) j ∙ drop-append-add g (meant first-day ∷ map meant lasts) 1 in
      let z : meant new-day ≡ new = ap (λ (c : Row). meant (block_day p.st block o.taken start c)) own_is in
      ap (map meant) days-there
      ∙ map-append meant firsts (new-day ∷ lasts')
      ∙ ap₂ (λ (k : Day) (ks : List Day). g ++ (k ∷ ks)) z (same-moved end end' some lasts lasts' moved)
      ∙ sym (ap₂ (λ (k ks : List Day). k ++ (new ∷ ks)) x y)

  pub earlier-day : (k : ℕ) → k < day → (vs : List ℕ) (ms : Five) → read_of there k vs ms ≡ read_of file k vs ms
  earlier-day k h vs ms =
      let n : k < length firsts = omega (arith, count) in
      read-first there answer k vs ms check-there
      ∙ ap (λ (x : List DayRows). read_first (drop k x) vs ms) days-there
      ∙ first-before k firsts (new-day ∷ lasts') (first-day ∷ lasts) n vs ms
      ∙ sym (ap (λ (x : List DayRows). read_first (drop k x) vs ms) days-here)
      ∙ sym (read-first file o.answer k vs ms o.check)

  -- what is left of the days behind the one that was replaced
  drop-later : (k : ℕ) (x : DayRows) (ys : List DayRows) → day < k → drop k (firsts ++ (x ∷ ys)) ≡ drop (k - day - 1) ys
  drop-later k x ys h =
      let i : k ≡ length firsts + suc (k - day - 1) = omega (arith, count) in
      ap (λ (j : ℕ). drop j (firsts ++ (x ∷ ys))) i ∙ drop-append-add firsts (x ∷ ys) (suc (k - day - 1))

  pub later-day : (k : ℕ) → day < k → (vs : List ℕ) (ms : Five) → read_of there k vs ms ≡ with_starts (shifted end end') (read_of file k vs ms)
  later-day k h vs ms =
      let j : ℕ = k - day - 1 in
      let here : drop k (days_of file) ≡ drop j lasts = ap (drop k) days-here ∙ drop-later k first-day lasts h in
      read-first there answer k vs ms check-there
      ∙ ap (λ (x : List DayRows). read_first x vs ms) (ap (drop k) days-there ∙ drop-later k new-day lasts' h)
      ∙ first-moved end end' some (drop j lasts) (drop j lasts') (drop-moved end end' some j lasts lasts' moved)
      (λ x others q. all_drop (λ (y : DayRows). is_sound y.block) k (days_of file) x others (checked-days file o.answer o.check) (here ∙ q)) vs ms
      ∙ sym (ap (λ (x : List DayRows). with_starts (shifted end end') (read_first x vs ms)) here)
      ∙ sym (ap (with_starts (shifted end end')) (read-first file o.answer k vs ms o.check))

  -- ---- totals

  swapped-there : Swapped (sum (meant o.rows).values) (sum new.values) (length (totals_from (lines p.before))) (totals_from (lines file)) (totals_from (lines there))
  unfolding day_of values_of
  swapped-there =
      let m : may_come p.st.expect 300 ≡ true = (let w = headed p.st p.block p.accepted in rw w.kind at w.fit.may) in
      let s : 1 ≤ length (totals_from (lines p.before)) = omega (arith, p.counted, p.some) in
      let w = totals-swapped p.before p.block block p.behind p.st p.leads m s p.accepted o.taken in
      let n : intervals_in (head_in no_channel.cells (lines p.before)) ≡ intervals_in o.rows.channel.cells = ap intervals_in (sym p.cells) in
      let x : sum (values_in (intervals_in (head_in no_channel.cells (lines p.before))) (fields (headed p.st p.block p.accepted).first)) ≡ sum (meant o.rows).values =
      ap (λ (i : ℕ). sum (values_in i (fields (headed p.st p.block p.accepted).first))) n ∙ sym (ap (λ (y : DayRows). sum (meant y).values) (day-is file day o.rows p)) in
      let y : sum (values_in (intervals_in (head_in no_channel.cells (lines p.before))) (fields (headed p.st block o.taken).first)) ≡ sum new.values =
      ap (λ (i : ℕ). sum (values_in i (fields (headed p.st block o.taken).first))) n in
      record {
        front = w.front;
        old = w.old;
        new = w.new;
        back = w.back;
        was = ap (λ (s : List ℕ). totals_from (lines s)) p.is ∙ w.was;
        is = w.is;
        at = w.at;
        moved = ap (λ (i : ℕ). w.new + i) (sym x) ∙ w.moved ∙ ap (λ (i : ℕ). w.old + i) y;
      }

  -- of the channel c, which is the last before the block
  pub record Totals (c : ℕ) : Type 0 where
    pub old-total : ℕ
    pub was-total : total_of file c ≡ accepted (old-total ∷ [])
    pub new-total : ℕ
    pub total : total_of there c ≡ accepted (new-total ∷ [])
    pub moved_by : new-total + sum (meant o.rows).values ≡ old-total + sum new.values
    pub others : (j : ℕ) → j ≢ c → total_of there j ≡ total_of file j

  pub totals-there : (c : ℕ) → c + 1 ≡ length (totals_from (lines p.before)) → Totals c
  totals-there c h =
      let w = swapped-there in
      let i : length w.front ≡ c = omega (arith, w.at) in
      record {
        old-total = w.old;
        was-total = total_first_lem file o.answer c o.check ∙ ap (λ (ts : List ℕ). total_first (drop c ts)) w.was ∙ ap total_first (drop_at w.front (w.old ∷ w.back) c i);
        new-total = w.new;
        total = total_first_lem there answer c check-there ∙ ap (λ (ts : List ℕ). total_first (drop c ts)) w.is ∙ ap total_first (drop_at w.front (w.new ∷ w.back) c i);
        moved_by = w.moved;
        others = λ j n.
            (total_first_lem there answer j check-there
            ∙ ap (λ (ts : List ℕ). total_first (drop j ts)) w.is
            ∙ other-first j w.front w.new w.old w.back (λ z. n (z ∙ i))
            ∙ sym (ap (λ (ts : List ℕ). total_first (drop j ts)) w.was)
            ∙ sym (total_first_lem file o.answer j o.check));
      }

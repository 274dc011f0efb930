-- The theorems of the block that is written for what was handed in: it reads back, and none is shorter, also in files. Assumes nothing.
use Prim.Native.Nat.{ℕ, ◌+◌, ◌/◌, ◌%◌, ◌≤◌}
use mathlib.Core.Path.{◌≡◌, refl, sym, ap, ap₂, ◌∙◌, subst}
use mathlib.Core.Logic.{◌≢◌}
use mathlib.Core.Bool.{true}
use mathlib.Core.List.{List, [], ◌∷◌, ◌++◌, map}
use native.Mathlib.Omega.{arith}
use lib.ListN.{length, length-append}
use Rattle.ground.specs.Text.{bytes}
use Rattle.format.specs.Numbers.{intervals_of}
use Rattle.format.specs.Units.{is_unit, decimals_of}
use Rattle.format.specs.Dates.{is_date}
use Rattle.format.specs.Records.{unit_in, decimals_in, intervals_in}
use Rattle.format.specs.Order.{first300, Due, due}
use Rattle.format.specs.Answers.{accepted}
use Rattle.format.specs.Faults.{is_open}
use Rattle.format.specs.File.{most, check_of, behind200}
use Rattle.format.specs.Day.{Row, days_of, Day, day_of}
use Rattle.format.specs.Block.{Given, intervals_given, day_given, block_of}
use Rattle.format.proofs.Numbers.{intervals-some, intervals-most}
use Rattle.format.proofs.Dates.{day-is}
use Rattle.passing.specs.Passes.{Leads, unit_before}
use Rattle.theorems.specs.Grammar.{Record, text, IsRecord}
use Rattle.theorems.specs.Days.{record_at, rows_of, day_in, meant, ReadsAs, around}
use Rattle.theorems.proofs.Says as says
use Rattle.theorems.proofs.Blocks.{block-found}
use Rattle.shortest.specs.Blocks.{HeadOf, Says, Stands}
use Rattle.shortest.specs.Writer.{Writable, AwaitsGiven, ReadsBack, NoLonger, most_bytes, AcceptedWith}
use Rattle.shortest.proofs.Bounds.{block-most}
use Rattle.shortest.proofs.Handed.{whole}
use Rattle.shortest.proofs.Back.{parts, written, back}
use Rattle.shortest.proofs.Pass.{block-says}
use Rattle.shortest.proofs.Inside.{stands, closes}
use Rattle.shortest.proofs.Least.{no_longer}
use Rattle.shortest.proofs.Place.{head_written, is-head, head-intervals, head-unit, place}

-- what is a day by the grammar says that day: so no block of the grammar is left out below
pub grammar-says : (head : Record) (b : List ℕ) (d : Day) → ReadsAs head b d → Says b d
grammar-says head b d r =
    let u : HeadOf (behind200 (intervals_in head) (decimals_in head)) (record_at 0 head) = record { intervals = refl; unit = says.unit-named head r.is-head; decimals = refl } in
    subst (λ (x : List ℕ). Says x d) (sym r.bytes) (subst (Says (text (rows_of r.block))) (sym r.is) (block-says r.block (intervals_in head) (decimals_in head) r.good (record_at 0 head) u))

-- in files: where a 100, a 200, the bytes s and a 900 are accepted, and d is their one day, the block that is written for d has no more records than s, and no
-- more bytes
pub shortest-in-files : (header head last : Record) → IsRecord 100 0 0 header → IsRecord 200 0 0 head → IsRecord 900 0 0 last → (s : List ℕ) (d : Day) (xs : List ℕ)
    → check_of (around header head s last) ≡ accepted xs → map meant (days_of (around header head s last)) ≡ d ∷ [] → NoLonger d s
unfolding day_in day_of
shortest-in-files header head last h₁ h₂ h₉ s d xs e f =
    let r = block-found header head last h₁ h₂ h₉ s xs e d f in
    let n : d.n ≡ intervals_in head = ap (λ (x : Day). x.n) r.is in
    no_longer d (λ z. omega (arith, says.intervals-some head h₂)) s (grammar-says head s d r)

-- a date is not 0
some-date : (t : ℕ) → is_date t ≡ true → 1 ≤ t
unfolding is_date
some-date t h = omega (arith, (day-is (t / 10000) (t / 100 % 100) (t % 100) h).from)

module _ (g : Given) (w : Writable g) where
  known : intervals_of g.head.length ≢ 0
  known = intervals-some g.head.length w.length-known

  pub unit-known : is_unit g.head.unit ≡ true
  unfolding day_given
  unit-known = (parts (day_given g) (whole g w).fit).unit

  -- a 200 of its interval length and unit
  head : Record
  head = head_written g.head.length g.head.unit

  of_length : intervals_in head ≡ intervals_given g
  unfolding head intervals_given
  of_length = head-intervals g.head.length g.head.unit known unit-known

  of-unit : unit_in head ≡ g.head.unit
  unfolding head
  of-unit = head-unit g.head.length g.head.unit known unit-known

  pub reads-back : (st : Due) → AwaitsGiven g st → ReadsBack (day_given g) st
  unfolding day_given
  reads-back st a = back (day_given g) (whole g w) st a

  -- behind a 200 of its unit
  pub in-any-file : (before behind : List ℕ) (st : Due) → Leads before st → AwaitsGiven g st → unit_before before ≡ g.head.unit
      → Stands before (block_of (day_given g)) behind st (day_given g)
  unfolding day_given
  in-any-file before behind st h a u =
      let r = reads-back st a in
      let c : Row = record_at 0 head in
      let n : intervals_in head ≡ st.n = of_length ∙ sym a.intervals in
      stands before (block_of (day_given g)) behind st (day_given g) h r.accepted c n (r.same (length before) c n of-unit) u

  pub closed-by-900 : (before : List ℕ) (st : Due) → Leads before st → AwaitsGiven g st
      → length (before ++ block_of (day_given g) ++ bytes "900\r\n") ≤ most
      → check_of (before ++ block_of (day_given g) ++ bytes "900\r\n") ≡ accepted (st.version ∷ st.channels ∷ (st.days + 1) ∷ [])
  unfolding day_given
  closed-by-900 before st h a l =
      let r = reads-back st a in
      let c : Row = record_at 0 head in
      let n : intervals_in head ≡ st.n = of_length ∙ sym a.intervals in
      closes before (block_of (day_given g)) st (day_given g) h r.accepted c n (r.same (length before) c n of-unit) l

  -- its block is not longer than this
  pub at_most : length (block_of (day_given g)) ≤ most_bytes (intervals_given g)
  unfolding day_given intervals_given
  at_most = block-most (day_given g) (whole g w) (intervals-most g.head.length)

  -- so there is a file with it that is accepted, and of which `read_day` gives the day back
  pub written-accepted : AcceptedWith (day_given g)
  unfolding day_given intervals_given is_open
  written-accepted =
      let p = place g.head.length g.head.unit known unit-known in
      let st : Due = due first300 12 (intervals_given g) (decimals_of g.head.unit) 0 1 0 in
      let i : intervals_given g ≤ 288 = intervals-most g.head.length in
      let a : AwaitsGiven g st = record { free = (refl, refl); intervals = refl; decimals = refl; earlier = some-date g.head.date (parts (day_given g) (whole g w).fit).date } in
      let end : List ℕ = bytes "900\r\n" in
      let block : List ℕ = block_of (day_given g) in
      let l : length (p.before ++ block ++ end) ≤ most = omega (arith, length-append (p.before ++ block) end, length-append p.before block, p.short, at_most) in
      let e = closed-by-900 p.before st p.leads a l in
      record {
        file = p.before ++ block ++ end;
        before = p.before;
        after = end;
        bytes = refl;
        short = l;
        check = e;
        reads = (in-any-file p.before end st p.leads a p.unit).reads (12 ∷ 1 ∷ 1 ∷ []) e;
      }

  -- by the grammar: behind any 200 of that interval length and unit, the written block is the day
  pub by-the-grammar : (c : Record) → IsRecord 200 0 0 c → intervals_in c ≡ intervals_given g → unit_in c ≡ g.head.unit → ReadsAs c (block_of (day_given g)) (day_given g)
  unfolding day_given
  by-the-grammar c h e u =
      let r = written (day_given g) (whole g w) in
      let m : decimals_in c ≡ decimals_of g.head.unit = says.decimals-of c h ∙ ap decimals_of u in
      record {
        is-head = h;
        block = r.block;
        good = rw (e, m) r.good;
        bytes = sym r.bytes-are;
        is = sym (ap₂ (λ (n v : ℕ). day_in n v r.block) e u ∙ r.day);
      }

  -- the written block says the day
  pub says-it : Says (block_of (day_given g)) (day_given g)
  unfolding head
  says-it =
      grammar-says head (block_of (day_given g)) (day_given g)
      (by-the-grammar head (is-head g.head.length g.head.unit known unit-known) of_length of-unit)

  -- and no bytes that say it, with 500s or without, have fewer records, or are fewer
  pub shortest : (b : List ℕ) → Says b (day_given g) → NoLonger (day_given g) b
  unfolding day_given intervals_given
  shortest b h = no_longer (day_given g) known b h

-- The refusals that stand behind 6, and the state behind a record that has none: what each return of a record's method answers. Assumes nothing.
use Prim.Native.Nat.{ℕ, ◌+◌, ◌-◌, ◌≤◌, ◌<◌}
use mathlib.Core.Path.{◌≡◌, refl, sym, ◌∙◌, ap}
use mathlib.Core.List.{List}
use mathlib.Core.Bool.{Bool, true, false, cond, not, ◌&&◌}
use native.Mathlib.Omega.{arith}
use lib.ListN.{length}
use lib.Dec.{eqb, leb}
use borrow.Author.Tests.{eqb-true, leb-true, eq-eqb, ne_eqb, le-leb, lt-leb, not-true, not-false}
use Rattle.ground.specs.Lists.{part}
use Rattle.ground.proofs.Tests.{and-true}
use Rattle.format.specs.Numbers.{number_in, length_of, intervals_of}
use Rattle.format.specs.Texts.{version_of}
use Rattle.format.specs.Units.{decimals_named}
use Rattle.format.specs.Dates.{date_of, read_time_of}
use Rattle.format.specs.Quality.{across}
use Rattle.format.specs.Cut.{fields, field, start_of}
use Rattle.format.specs.Records.{version_in, intervals_in, decimals_in, date_in, last_in, read_time_in, qualities_of}
use Rattle.format.specs.Order.{none_yet, Due, is_varied, alike_with, on100, on200, after_of}
use Rattle.format.specs.Faults.{scale_of, broken_in, f7, is_not_later, covers, is_off, is_alike, on_day, is_elsewhere, Fine, Stop}
use Rattle.format.specs.Day.{row_at, tag_at}
use Rattle.format.specs.declared.Tag.{Tag}
use Rattle.runs.specs.Ran.{Ran}
use Rattle.lines.proofs.Cuts.{rest-first}
use Rattle.format.proofs.Numbers.{intervals-most}
use Rattle.says.proofs.Fields.{says_of, tag-moves}
use Rattle.order.specs.declared.State.{State}
use Rattle.follows.specs.Tests.{mark_of, expected_as, goes_on}
use Rattle.order.specs.State.{shared_as, seen, no_tag, closed, Kept, cells, Here, After, goes, stops, late_of, last_of, alike_to}
use Rattle.order.proofs.Cases.{shared-on}
use Rattle.follows.proofs.Expected.{under-as}
use Rattle.order.proofs.Marks.{flag-of, mark-of, agrees-of, tag-within}

-- ---- the chain from 7 on

module _ (st : Due) (k : ℕ) (fs : List (List ℕ)) where
  late-7 : (i : ℕ) → f7 k (scale_of st k fs).n fs ≡ Stop 7 (start_of i fs) (i + 1) → stops 7 (start_of i fs) (i + 1) ≡ last_of st k fs
  unfolding last_of late_of
  late-7 i e = rw e

  module _ (e₇ : f7 k (scale_of st k fs).n fs ≡ Fine) where
    late-8 : is_not_later st k fs ≡ true → stops 8 (start_of 1 fs) 2 ≡ last_of st k fs
    unfolding last_of late_of
    late-8 e = rw (e₇, e)

    module _ (e₈ : is_not_later st k fs ≡ false) where
      late-9 : is_off st k fs ≡ true → stops 9 (start_of 1 fs) 2 ≡ last_of st k fs
      unfolding last_of late_of
      late-9 e = rw (e₇, e₈, e)

      module _ (e₉ : is_off st k fs ≡ false) where
        late-11 : is_alike st k fs ≡ true → stops 11 0 0 ≡ last_of st k fs
        unfolding last_of late_of
        late-11 e = rw (e₇, e₈, e₉, e)

        module _ (e₁₁ : is_alike st k fs ≡ false) where
          late-12 : is_elsewhere st k fs ≡ true → stops 12 (start_of 3 fs) 4 ≡ last_of st k fs
          unfolding last_of late_of
          late-12 e = rw (e₇, e₈, e₉, e₁₁, e)

          pub late-none : is_elsewhere st k fs ≡ false → goes (after_of st k fs) ≡ last_of st k fs
          unfolding last_of late_of
          late-none e = rw (e₇, e₈, e₉, e₁₁, e)

-- ---- a 300

module _ (file : List ℕ) (at e p : ℕ) (st : State) (t : Tag) {b : Bool} (h : Here file at e 1 (at + 4)) (g : Here file at e (st.n + 2) p)
    (et : t ≡ tag_at 300 (row_at p (part file p e)) 0) (eb : b ≡ across t.flag t.reason t.length) where
  broken-300 : f7 300 st.n (cells file at e) ≡ cond b Fine (Stop 7 (start_of (st.n + 2) (cells file at e)) (st.n + 2 + 1))
  unfolding broken_in qualities_of
  broken-300 = rw (← agrees-of file at e 300 (st.n + 2) p t g et eb)

  pub on300-7 : not b ≡ true → stops 7 (p - at) (st.n + 3) ≡ last_of (seen file st) 300 (cells file at e)
  on300-7 n =
      let w : f7 300 st.n (cells file at e) ≡ Stop 7 (start_of (st.n + 2) (cells file at e)) (st.n + 2 + 1) = rw (not-true b n) at broken-300 in
      let q : p - at ≡ start_of (st.n + 2) (cells file at e) = omega (arith, g.place) in
      let z : st.n + 3 ≡ st.n + 2 + 1 = omega arith in
      rw (q, z) (late-7 (seen file st) 300 (cells file at e) (st.n + 2) w)

  module _ (d : ℕ) (ok : not b ≡ false) (ed : d ≡ number_in (date_of (field 0 (fields (part file (at + 4) e))))) where
    fine-300 : f7 300 st.n (cells file at e) ≡ Fine
    fine-300 = rw (not-false b ok) at broken-300

    date : d ≡ date_in (cells file at e)
    unfolding date_in
    date = says_of date_of ed h

    four : 4 ≡ start_of 1 (cells file at e)
    four = omega (arith, h.place)

    pub on300-8 : d ≤ st.date → stops 8 4 2 ≡ last_of (seen file st) 300 (cells file at e)
    unfolding is_not_later
    on300-8 l = rw four (late-8 (seen file st) 300 (cells file at e) fine-300 (rw (← date, le-leb _ _ l)))

    pub on300-on : (x : ℕ) (s : Due) → st.date < d → x ≡ cond (eqb t.flag 86) 4 3
        → s ≡ record { expect = expected_as x; version = st.version; n = st.n; decimals = st.decimals; date = d; next = 1; shared = none_yet; channels = st.channels; days = st.days + 1 }
        → goes s ≡ last_of (seen file st) 300 (cells file at e)
    unfolding is_not_later is_off is_alike is_elsewhere after_of is_varied
    on300-on x s l ex es =
        rw (es, ex, under-as (eqb t.flag 86), date, flag-of file at e 300 (st.n + 2) p t g et)
        (late-none (seen file st) 300 (cells file at e) fine-300 (rw (← date, lt-leb _ _ l)) refl refl refl)

-- ---- a 400

-- its mark, by the place of its quality
ran-tag : (file : List ℕ) (at e from to q : ℕ) (t : Tag) → Ran file at e from to q t → t ≡ tag_at 400 (row_at q (part file q e)) 0
ran-tag file at e from to q t r = r.tag ∙ sym (tag-moves file 400 (row_at at (part file at e)) 3 q e r.quality.rest)

pub ran-within : (file : List ℕ) (at e from to q : ℕ) (t : Tag) → Ran file at e from to q t → t.start + t.length ≤ length file
ran-within file at e from to q t r = tag-within file at e 400 3 q t r.quality (ran-tag file at e from to q t r)

module _ (file : List ℕ) (at e from to q : ℕ) (st : State) (t : Tag) {b : Bool} (h : Here file at e 1 (at + 4)) (r : Ran file at e from to q t)
    (eb : b ≡ across t.flag t.reason t.length) where
  et : t ≡ tag_at 400 (row_at q (part file q e)) 0
  et = ran-tag file at e from to q t r

  broken-400 : f7 400 0 (cells file at e) ≡ cond b Fine (Stop 7 (start_of 3 (cells file at e)) 4)
  unfolding broken_in qualities_of
  broken-400 = rw (← agrees-of file at e 400 3 q t r.quality et eb)

  pub on400-7 : not b ≡ true → stops 7 (q - at) 4 ≡ last_of (seen file st) 400 (cells file at e)
  on400-7 n =
      let w : f7 400 0 (cells file at e) ≡ Stop 7 (start_of 3 (cells file at e)) (3 + 1) = rw (not-true b n) at broken-400 in
      let z : q - at ≡ start_of 3 (cells file at e) = omega (arith, r.quality.place) in
      rw z (late-7 (seen file st) 400 (cells file at e) 3 w)

  module _ {o : Bool} (ok : not b ≡ false) (eo : o ≡ goes_on st.next st.n from to) where
    fine-400 : f7 400 0 (cells file at e) ≡ Fine
    fine-400 = rw (not-false b ok) at broken-400

    last : to ≡ last_in (cells file at e)
    last = r.spans.last

    off : is_off (seen file st) 400 (cells file at e) ≡ not o
    unfolding is_off covers goes_on
    off = rw (← r.spans.first, ← last, ← eo)

    pub goes_small : not o ≡ false → to ≤ st.n
    unfolding goes_on
    goes_small n =
        let a = and-true (eqb from st.next) (leb from to && leb to st.n) (sym eo ∙ not-false o n) in
        leb-true to st.n (and-true (leb from to) (leb to st.n) a.1).1

    goes_some : not o ≡ false → 1 ≤ st.next → 1 ≤ to
    unfolding goes_on
    goes_some n h =
        let a = and-true (eqb from st.next) (leb from to && leb to st.n) (sym eo ∙ not-false o n) in
        omega (arith, eqb-true from st.next a.0, leb-true from to (and-true (leb from to) (leb to st.n) a.1).0)

    pub on400-9 : not o ≡ true → stops 9 4 2 ≡ last_of (seen file st) 400 (cells file at e)
    unfolding is_not_later
    on400-9 n =
        let z : 4 ≡ start_of 1 (cells file at e) = omega (arith, h.place) in
        rw z (late-9 (seen file st) 400 (cells file at e) fine-400 refl (off ∙ n))

    module _ {a w : Bool} (on : not o ≡ false) (ea : a ≡ alike_to (seen file st) (mark_of file t)) (ew : w ≡ eqb to st.n && a) where
      alike : a ≡ alike_with (seen file st) (cells file at e)
      unfolding alike_with alike_to
      alike = rw (← mark-of file at e 400 3 q t r.quality et) ea

      whole : w ≡ is_alike (seen file st) 400 (cells file at e)
      unfolding is_alike
      whole = rw (← last, ← alike) ew

      pub on400-11 : w ≡ true → stops 11 0 0 ≡ last_of (seen file st) 400 (cells file at e)
      unfolding is_not_later
      on400-11 v = late-11 (seen file st) 400 (cells file at e) fine-400 refl (off ∙ on) (sym whole ∙ v)

      pub on400-on : (m : Tag) (s : Due) → 1 ≤ st.next → w ≡ false → m ≡ cond (eqb st.next 1) t st.mark
          → s ≡ record { expect = expected_as 4; version = st.version; n = st.n; decimals = st.decimals; date = st.date; next = to + 1; shared = shared_as file (to + 1) m a; channels = st.channels; days = st.days }
          → goes s ≡ last_of (seen file st) 400 (cells file at e)
      unfolding is_not_later is_elsewhere after_of expected_as alike_to
      on400-on m s l v em es =
          rw (es, shared-on file st.next to t st.mark m st.alike a l (goes_some on l) em ea, mark-of file at e 400 3 q t r.quality et, last)
          (late-none (seen file st) 400 (cells file at e) fine-400 refl (off ∙ on) (sym whole ∙ v) refl)

-- ---- a 500

module _ (file : List ℕ) (at e p x : ℕ) (st : State) {o : Bool} (h : Here file at e 3 p) (ex : x ≡ number_in (read_time_of (field 0 (fields (part file p e)))))
    (eo : o ≡ on_day st.date x) where
  elsewhere : is_elsewhere (seen file st) 500 (cells file at e) ≡ not o
  unfolding is_elsewhere read_time_in
  elsewhere = rw (← says_of read_time_of ex h, ← eo)

  pub on500-12 : not o ≡ true → stops 12 (p - at) 4 ≡ last_of (seen file st) 500 (cells file at e)
  unfolding broken_in qualities_of is_not_later is_off is_alike
  on500-12 n =
      let z : p - at ≡ start_of 3 (cells file at e) = omega (arith, h.place) in
      rw z (late-12 (seen file st) 500 (cells file at e) refl refl refl refl (elsewhere ∙ n))

  pub on500-on : (s : State) → not o ≡ false → s ≡ closed 5 st.version st.n st.decimals st.date st.channels st.days
      → goes (seen file s) ≡ last_of (seen file st) 500 (cells file at e)
  unfolding broken_in qualities_of is_not_later is_off is_alike after_of expected_as
  on500-on s n es = rw es (late-none (seen file st) 500 (cells file at e) refl refl refl refl (elsewhere ∙ n))

-- ---- a 250

module _ (file : List ℕ) (at e p q : ℕ) (st : State) (s : Tag) {b : Bool} (h : Here file at e 10 p) (g : Here file at e 15 q)
    (es : s ≡ tag_at 250 (row_at p (part file p e)) 0) (eb : b ≡ across s.flag s.reason s.length) where
  pub on250-7 : not b ≡ true → stops 7 (p - at) 11 ≡ last_of (seen file st) 250 (cells file at e)
  unfolding broken_in qualities_of
  on250-7 n =
      let w : f7 250 0 (cells file at e) ≡ Stop 7 (start_of 10 (cells file at e)) (10 + 1) = rw (← agrees-of file at e 250 10 p s h es eb, not-true b n) in
      let z : p - at ≡ start_of 10 (cells file at e) = omega (arith, h.place) in
      rw z (late-7 (seen file st) 250 (cells file at e) 10 w)

  module _ (t : Tag) {c : Bool} (ok : not b ≡ false) (et : t ≡ tag_at 250 (row_at q (part file q e)) 0) (ec : c ≡ across t.flag t.reason t.length) where
    broken-250 : f7 250 0 (cells file at e) ≡ cond c Fine (Stop 7 (start_of 15 (cells file at e)) 16)
    unfolding broken_in qualities_of
    broken-250 = rw (← agrees-of file at e 250 10 p s h es eb, not-false b ok, ← agrees-of file at e 250 15 q t g et ec)

    pub on250-7-current : not c ≡ true → stops 7 (q - at) 16 ≡ last_of (seen file st) 250 (cells file at e)
    on250-7-current n =
        let w : f7 250 0 (cells file at e) ≡ Stop 7 (start_of 15 (cells file at e)) (15 + 1) = rw (not-true c n) at broken-250 in
        let z : q - at ≡ start_of 15 (cells file at e) = omega (arith, g.place) in
        rw z (late-7 (seen file st) 250 (cells file at e) 15 w)

    pub on250-on : (s : State) → not c ≡ false → s ≡ closed 7 st.version 0 0 0 (st.channels + 1) st.days
        → goes (seen file s) ≡ last_of (seen file st) 250 (cells file at e)
    unfolding is_not_later is_off is_alike is_elsewhere after_of expected_as
    on250-on s n es = rw es (late-none (seen file st) 250 (cells file at e) (rw (not-false c n) at broken-250) refl refl refl refl)

-- ---- the state is kept

pub no-tag-within : (file : List ℕ) {m : Tag} → m ≡ no_tag → m.start + m.length ≤ length file
no-tag-within file e = rw e (omega arith)

pub kept-closed : (file : List ℕ) (e : ℕ) {s : State} {x v n m t c d : ℕ} → s ≡ closed x v n m t c d → x ≤ 9 → (x ≡ 4 → ⊥) → n ≤ 288 → m ≤ 6 → c ≤ e + 1 → d ≤ e + 1 → Kept file (e + 1) s
kept-closed file e q hx ho hn hm hc hd = rw q record { known = hx; begun = λ z. absurd (ho z); within = omega arith; small = hn; few = hm; channels = hc; days = hd }

pub picked-within : (file : List ℕ) (b : Bool) (t u : Tag) {m : Tag} → m ≡ cond b t u → t.start + t.length ≤ length file → u.start + u.length ≤ length file
    → m.start + m.length ≤ length file
picked-within file true t u e h k = rw e h
picked-within file false t u e h k = rw e k

-- ---- a 100 and a 200

module _ (file : List ℕ) (at e : ℕ) (st : State) {v : ℕ} (h : Here file at e 1 (at + 4))
    (ev : v ≡ number_in (version_of (field 0 (fields (part file (at + 4) e))))) where
  version : v ≡ version_in (cells file at e)
  unfolding version_in
  version = says_of version_of ev h

  pub on100-12 : {s : State} → v ≡ 12 → s ≡ closed 1 v 0 0 0 0 0 → After file e (on100 (seen file st) (cells file at e)) s
  unfolding expected_as
  on100-12 k q = record { is = rw (q, version, eq-eqb _ _ (sym version ∙ k)); kept = kept-closed file e q (omega arith) (λ z. omega arith) (omega arith) (omega arith) (omega arith) (omega arith) }

  pub on100-13 : {s : State} → (v ≡ 12 → ⊥) → s ≡ closed 6 v 0 0 0 0 0 → After file e (on100 (seen file st) (cells file at e)) s
  unfolding expected_as
  on100-13 k q =
      record {
        is = rw (q, version, ne_eqb (version_in (cells file at e)) 12 (λ z. k (version ∙ z)));
        kept = kept-closed file e q (omega arith) (λ z. omega arith) (omega arith) (omega arith) (omega arith) (omega arith);
      }

pub on200-on : (file : List ℕ) (at e p u : ℕ) (st : State) {n d : ℕ} {s : State} → Kept file at st → Here file at e 8 p → Here file at e 7 u
    → n ≡ intervals_of (number_in (length_of (field 0 (fields (part file p e))))) → d ≡ decimals_named (field 0 (fields (part file u e))) → d ≤ 6
    → s ≡ closed 2 st.version n d 0 (st.channels + 1) st.days → After file e (on200 (seen file st) (cells file at e)) s
unfolding intervals_in decimals_in expected_as
on200-on file at e p u st {n} {d} {s} k h g en ed few q =
    let w : n ≡ intervals_of (number_in (length_of (field 8 (cells file at e)))) = en ∙ ap intervals_of (says_of length_of refl h) in
    let v : d ≡ decimals_named (field 7 (cells file at e)) = ed ∙ ap decimals_named (rest-first g.rest) in
    record {
      is = rw (q, w, v);
      kept = kept-closed file e q (omega arith) (λ z. omega arith) (omega (arith, intervals-most (number_in (length_of (field 0 (fields (part file p e))))))) few (omega (arith, k.channels, h.place, h.rest.ends)) (omega (arith, k.days, h.place, h.rest.ends));
    }

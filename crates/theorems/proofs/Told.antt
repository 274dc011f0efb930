-- What is accepted is written by the grammar: by induction on the records, with a claim for each state. Assumes nothing.
use Prim.Native.Nat.{ℕ, ◌+◌, ◌≤◌, ◌<◌}
use mathlib.Core.Path.{◌≡◌, refl, sym, ap, ◌∙◌, subst}
use mathlib.Core.Bool.{true, false, true≢false, ◌&&◌}
use mathlib.Core.List.{List, [], ◌∷◌, ◌++◌}
use native.Mathlib.Omega.{arith}
use lib.ListN.{length}
use lib.Dec.{eqb}
use borrow.Author.Tests.{eqb-true, eqb-false, eq-eqb, not-false}
use Rattle.ground.proofs.Cases.{by}
use Rattle.format.specs.Cut.{Lines, line, rest, lines, fields}
use Rattle.format.specs.Records.{Scale, kind_in, version_in, date_in, first_in, last_in, read_time_in, mark_in}
use Rattle.format.specs.Order.{the100, first200, first300, first250, kinds_at, may_come, in_day, in_varied, is_end, share_with, Due, begun, is_varied, alike_with, on100, on200, on300, on400, on500, on250, on550, on900}
use Rattle.format.specs.Faults.{scale_of, covers, is_alike, on_day, is_elsewhere}
use Rattle.format.specs.Answers.{accepted}
use Rattle.format.specs.File.{after, walk_of}
use Rattle.format.proofs.Cut.{bytes_of, bytes-lines, fields-some}
use Rattle.format.proofs.States.{implied, excluded, only, not-ended}
use Rattle.passing.proofs.Fit.{Ok, Fit, fit-later, fit-cover, Head, h100, h200, h300, h400, h500, h250, h550, h900, head, free_of}
use Rattle.passing.proofs.Steps.{after-100, after-200, after-300, after-400, after-500, after-250, after-550, after-900}
use Rattle.passing.proofs.Walk.{goes, ends}
use Rattle.theorems.specs.Grammar.{Each, Rising, Record, text, IsRecord, Block, Covers, Extra, IsBlock, dates_of, Channel, IsChannel, Reading, IsReading, nem12, nem13, blocks_then, channels_then, readings_then, blocks_in, InFormatUpTo}
use Rattle.theorems.proofs.Bytes.{join-fields, fields-bytes}
use Rattle.theorems.proofs.Rows.{Fields, scale-other, is-record}
use Rattle.theorems.proofs.Says.{intervals-some, version-13, on-day}
use Rattle.theorems.proofs.Apart.{Apart, apart-back, apart-end}

-- ---- one record on

module _ (st : Due) (p k v c d : ℕ) where
  told-open : (t : List ℕ) → is_end st.expect ≡ false → walk_of st p k (rest t) ≡ accepted (v ∷ c ∷ d ∷ []) → ⊥
  told-open t x e = true≢false (sym (ends st p k t (v ∷ c ∷ d ∷ []) e).expected ∙ x)

  told-end : (ls : Lines) → is_end st.expect ≡ true → walk_of st p k ls ≡ accepted (v ∷ c ∷ d ∷ []) → (bytes_of ls ≡ []) × (v ≡ st.version) × (c ≡ st.channels) × (d ≡ st.days)
  told-end (line r ls) x e = absurd (true≢false (sym x ∙ not-ended st.expect (kind_in (fields r)) (goes st p k r ls (v ∷ c ∷ d ∷ []) e).fit.may))
  told-end (rest t) x e =
      let w = ends st p k t (v ∷ c ∷ d ∷ []) e in
      let z : v ∷ c ∷ d ∷ [] ≡ st.version ∷ st.channels ∷ st.days ∷ [] = w.answer in
      (w.none_left, cc, cc, cc)

-- ---- the fields of a fit record: one law for all kinds

fit-fields : (st : Due) (r : List ℕ) → Fit st r → Fields (fields r)
fit-fields st r f = (fields-some r, fields-bytes r f.bytes)

pub fit-rec : (st : Due) (r : List ℕ) (k : ℕ) → Fit st r → kind_in (fields r) ≡ k → (k ≡ 0 → ⊥) → (k ≡ 300 → ⊥) → IsRecord k 0 0 (fields r)
fit-rec st r k f e z n =
    let o : Ok k (scale_of st k (fields r)) (fields r) = subst (λ (x : ℕ). Ok x (scale_of st x (fields r)) (fields r)) e f.ok in
    is-record k 0 0 (fields r) z (fit-fields st r f) e (subst (λ (y : Scale). Ok k y (fields r)) (scale-other k st.n st.decimals (fields r) n) o)

pub fit-300 : (st : Due) (r : List ℕ) → Fit st r → kind_in (fields r) ≡ 300 → IsRecord 300 st.n st.decimals (fields r) × (st.date < date_in (fields r))
fit-300 st r f e = (
  is-record 300 st.n st.decimals (fields r) (λ z. omega arith) (fit-fields st r f) e (subst (λ (x : ℕ). Ok x (scale_of st x (fields r)) (fields r)) e f.ok),
  fit-later st r f e,
)

row-bytes : (r : List ℕ) (ls : Lines) (rows : List Record) → bytes_of ls ≡ text rows → bytes_of (line r ls) ≡ text (fields r ∷ rows)
unfolding text
row-bytes r ls rows h = rw (h, join-fields r)

-- ---- the claims

rising-tail : (t : ℕ) (ts : List ℕ) → Rising (t ∷ ts) → Rising ts
rising-tail t [] h = tt
rising-tail t (a ∷ ts) h = h.1

-- days of a channel, channels, the end
pub record Rest (n m t w a b v c d : ℕ) (rows : List Record) : Type 0 where
  pub blocks : List Block
  pub good : Each (IsBlock n m) blocks
  pub rising : Rising (t ∷ dates_of blocks)
  pub channels : List Channel
  pub each : Each IsChannel channels
  pub last : Record
  pub last_ok : IsRecord 900 0 0 last
  pub is : rows ≡ blocks_then blocks (channels_then channels (last ∷ []))
  pub version : v ≡ w
  pub channel-count : c ≡ a + length channels
  pub day-count : d ≡ b + (length blocks + blocks_in channels)

pub record Extras (st : Due) (ls : Lines) (v c d : ℕ) : Type 0 where
  pub extra : List Record
  pub fit : Each (Extra st.date) extra
  pub rows : List Record
  pub more : Rest st.n st.decimals st.date st.version st.channels st.days v c d rows
  pub bytes : bytes_of ls ≡ text (extra ++ rows)

pub record Under (st : Due) (ls : Lines) (v c d : ℕ) : Type 0 where
  pub runs : List Record
  pub each : Each (IsRecord 400 0 0) runs
  pub covers : Covers st.n st.next runs
  pub apart : Apart st.shared runs
  pub extra : List Record
  pub fit : Each (Extra st.date) extra
  pub rows : List Record
  pub more : Rest st.n st.decimals st.date st.version st.channels st.days v c d rows
  pub bytes : bytes_of ls ≡ text (runs ++ (extra ++ rows))

pub record Firsts (st : Due) (ls : Lines) (v c d : ℕ) : Type 0 where
  pub rows : List Record
  pub more : Rest st.n st.decimals st.date st.version st.channels st.days v c d rows
  pub some : 1 ≤ length more.blocks
  pub bytes : bytes_of ls ≡ text rows

pub record Chans (st : Due) (ls : Lines) (v c d : ℕ) : Type 0 where
  pub channels : List Channel
  pub each : Each IsChannel channels
  pub some : 1 ≤ length channels
  pub last : Record
  pub last_ok : IsRecord 900 0 0 last
  pub bytes : bytes_of ls ≡ text (channels_then channels (last ∷ []))
  pub version : v ≡ st.version
  pub channel-count : c ≡ st.channels + length channels
  pub day-count : d ≡ st.days + blocks_in channels

-- readings and the end
pub record Basics (w a b v c d : ℕ) (rows : List Record) : Type 0 where
  pub readings : List Reading
  pub each : Each IsReading readings
  pub last : Record
  pub last_ok : IsRecord 900 0 0 last
  pub is : rows ≡ readings_then readings (last ∷ [])
  pub version : v ≡ w
  pub count : c ≡ a + length readings
  pub no-days : d ≡ b

pub data Seven (st : Due) (ls : Lines) (v c d : ℕ) : Type 0 where
  none : (rows : List Record) → Basics st.version st.channels st.days v c d rows → bytes_of ls ≡ text rows → Seven st ls v c d
  one : (e : Record) (rows : List Record) → IsRecord 550 0 0 e → Basics st.version st.channels st.days v c d rows → bytes_of ls ≡ text (e ∷ rows) → Seven st ls v c d

pub record Inner (st : Due) : Type 0 where
  pub in-v : in_varied st.expect ≡ true
  pub some : 1 ≤ st.n
  pub low : 1 ≤ st.next
  pub high : st.next ≤ st.n + 1
  pub apart : st.n < st.next → Apart st.shared []

pub record Told (ls : Lines) (v c d : ℕ) : Type 0 where
  pub ext : (st : Due) (p k : ℕ) → 1 ≤ st.n → in_day st.expect ≡ true → in_varied st.expect ≡ false → walk_of st p k ls ≡ accepted (v ∷ c ∷ d ∷ []) → Extras st ls v c d
  pub under : (st : Due) (p k : ℕ) → Inner st → walk_of st p k ls ≡ accepted (v ∷ c ∷ d ∷ []) → Under st ls v c d
  pub first : (st : Due) (p k : ℕ) → 1 ≤ st.n → st.expect ≡ first300 → walk_of st p k ls ≡ accepted (v ∷ c ∷ d ∷ []) → Firsts st ls v c d
  pub seven : (st : Due) (p k : ℕ) → may_come st.expect 250 ≡ true → walk_of st p k ls ≡ accepted (v ∷ c ∷ d ∷ []) → Seven st ls v c d
  pub eight : (st : Due) (p k : ℕ) → may_come st.expect 250 ≡ true → may_come st.expect 550 ≡ false → walk_of st p k ls ≡ accepted (v ∷ c ∷ d ∷ []) → (rows : List Record) × Basics st.version st.channels st.days v c d rows × (bytes_of ls ≡ text rows)

-- ---- a record of each kind

module _ (st : Due) (p k v c d : ℕ) (r : List ℕ) (ls : Lines) (ih : Told ls v c d) (fit : Fit st r)
    (e : walk_of (after st r) p k ls ≡ accepted (v ∷ c ∷ d ∷ [])) where
  by-500 : 1 ≤ st.n → kind_in (fields r) ≡ 500 → Extras st (line r ls) v c d
  unfolding is_elsewhere
  by-500 s q =
      let u = ih.ext (on500 st (fields r)) p k s refl refl (rw (after-500 st r q) at e) in
      let t : on_day st.date (read_time_in (fields r)) ≡ true = not-false _ (rw q at fit.day) in
      let g = fit-rec st r 500 fit q (λ z. omega arith) (λ z. omega arith) in
      record {
        extra = fields r ∷ u.extra;
        fit = (on-day st.date (fields r) g t, u.fit);
        rows = u.rows;
        more = u.more;
        bytes = row-bytes r ls (u.extra ++ u.rows) u.bytes;
      }

  by-900 : kind_in (fields r) ≡ 900 → (rows : List Record) × Rest st.n st.decimals st.date st.version st.channels st.days v c d rows × (bytes_of (line r ls) ≡ text rows)
  unfolding text
  by-900 q =
      let w = told-end (on900 st (fields r)) p k v c d ls refl (rw (after-900 st r q) at e) in (
        fields r ∷ [],
        record {
          blocks = [];
          good = tt;
          rising = tt;
          channels = [];
          each = tt;
          last = fields r;
          last_ok = fit-rec st r 900 fit q (λ z. omega arith) (λ z. omega arith);
          is = refl;
          version = w.1;
          channel-count = omega (arith, w.2);
          day-count = omega (arith, w.3);
        },
        row-bytes r ls [] w.0,
      )

  by-200 : kind_in (fields r) ≡ 200 → Chans st (line r ls) v c d
  by-200 q =
      let g = fit-rec st r 200 fit q (λ z. omega arith) (λ z. omega arith) in
      let u = ih.first (on200 st (fields r)) p k (intervals-some (fields r) g) refl (rw (after-200 st r q) at e) in
      let m = u.more in
      record {
        channels = record { head = fields r; blocks = m.blocks } ∷ m.channels;
        each = (record { head = g; some = u.some; blocks = m.good; rising = rising-tail 0 (dates_of m.blocks) m.rising }, m.each);
        some = omega arith;
        last = m.last;
        last_ok = m.last_ok;
        bytes = row-bytes r ls (blocks_then m.blocks (channels_then m.channels (m.last ∷ []))) (u.bytes ∙ ap text m.is);
        version = m.version;
        channel-count = omega (arith, m.channel-count);
        day-count = omega (arith, m.day-count);
      }

  -- a day with what was found behind its 300
  a-day : (b : Block) (rows : List Record) → kind_in (fields r) ≡ 300 → b.top ≡ fields r → IsBlock st.n st.decimals b
      → Rest st.n st.decimals (date_in (fields r)) st.version st.channels (st.days + 1) v c d rows → bytes_of ls ≡ text (b.runs ++ (b.extra ++ rows)) → Firsts st (line r ls) v c d
  a-day b rows q t g m h =
      record {
        rows = fields r ∷ (b.runs ++ (b.extra ++ rows));
        more = record {
          blocks = b ∷ m.blocks;
          good = (g, m.good);
          rising = (rw t ((fit-300 st r fit q).1), subst (λ (x : Record). Rising (date_in x ∷ dates_of m.blocks)) (sym t) m.rising);
          channels = m.channels;
          each = m.each;
          last = m.last;
          last_ok = m.last_ok;
          is = rw t (ap (λ (y : List Record). fields r ∷ (b.runs ++ (b.extra ++ y))) m.is);
          version = m.version;
          channel-count = m.channel-count;
          day-count = omega (arith, m.day-count);
        };
        some = omega arith;
        bytes = row-bytes r ls (b.runs ++ (b.extra ++ rows)) h;
      }

  by-300 : 1 ≤ st.n → kind_in (fields r) ≡ 300 → Firsts st (line r ls) v c d
  by-300 s q =
      let h : walk_of (on300 st (fields r)) p k ls ≡ accepted (v ∷ c ∷ d ∷ []) = rw (after-300 st r q) at e in
      let g = (fit-300 st r fit q).0 in
      by (is_varied st.n (fields r))
      (λ t.
      let u = ih.under (on300 st (fields r)) p k (record { in-v = rw t; some = s; low = omega arith; high = omega arith; apart = λ z. absurd (let y : ⊥ = omega arith in y) }) h in
      a-day (record { top = fields r; runs = u.runs; extra = u.extra }) u.rows q refl
      (record {
        top = g;
        runs = u.each;
        extra = u.fit;
        only-v = λ z. absurd (true≢false (sym t ∙ z));
        covers = λ z. u.covers;
        unlike = λ z. u.apart;
      })
      u.more u.bytes)
      (λ t.
      let u = ih.ext (on300 st (fields r)) p k s (rw t) (rw t) h in
      a-day (record { top = fields r; runs = []; extra = u.extra }) u.rows q refl
      (record {
        top = g;
        runs = tt;
        extra = u.fit;
        only-v = λ z. refl;
        covers = λ z. absurd (true≢false (sym z ∙ t));
        unlike = λ z. absurd (true≢false (sym z ∙ t));
      })
      u.more u.bytes)

  by-400 : Inner st → kind_in (fields r) ≡ 400 → Under st (line r ls) v c d
  unfolding is_alike alike_with
  by-400 i q =
      let fs : Record = fields r in
      let x = fit-cover st r fit q in
      let a : first_in fs ≡ st.next = x.0 in
      let o : first_in fs ≤ last_in fs = x.1 in
      let w : last_in fs ≤ st.n = x.2 in
      let t : (eqb (last_in fs) st.n && alike_with st fs) ≡ false = rw q at fit.apart in
      let no : st.n < last_in fs + 1 → Apart (share_with st.shared (mark_in fs)) [] =
      λ z. (let b : last_in fs ≡ st.n = omega arith in apart-end st.shared (mark_in fs) (rw (eq-eqb _ _ b) at t)) in
      let u = ih.under (on400 st fs) p k (record { in-v = refl; some = i.some; low = omega arith; high = omega arith; apart = no }) (rw (after-400 st r q) at e) in
      record {
        runs = fs ∷ u.runs;
        each = (fit-rec st r 400 fit q (λ z. omega arith) (λ z. omega arith), u.each);
        covers = (a, o, w, u.covers);
        apart = apart-back fs u.runs st.shared u.apart;
        extra = u.extra;
        fit = u.fit;
        rows = u.rows;
        more = u.more;
        bytes = row-bytes r ls (u.runs ++ (u.extra ++ u.rows)) u.bytes;
      }

  last-13 : kind_in (fields r) ≡ 900 → (rows : List Record) × Basics st.version st.channels st.days v c d rows × (bytes_of (line r ls) ≡ text rows)
  unfolding text
  last-13 q =
      let w = told-end (on900 st (fields r)) p k v c d ls refl (rw (after-900 st r q) at e) in (
        fields r ∷ [],
        record { readings = []; each = tt; last = fields r; last_ok = fit-rec st r 900 fit q (λ z. omega arith) (λ z. omega arith); is = refl; version = w.1; count = omega (arith, w.2); no-days = w.3 },
        row-bytes r ls [] w.0,
      )

  by-550 : kind_in (fields r) ≡ 550 → Seven st (line r ls) v c d
  by-550 q =
      let u = ih.eight (on550 st (fields r)) p k refl refl (rw (after-550 st r q) at e) in
      one (fields r) u.0 (fit-rec st r 550 fit q (λ z. omega arith) (λ z. omega arith)) u.1 (row-bytes r ls u.0 u.2)

  by-250 : kind_in (fields r) ≡ 250
      → (rows : List Record) × (b : Basics st.version st.channels st.days v c d rows) × (bytes_of (line r ls) ≡ text rows) × (1 ≤ length b.readings)
  by-250 q = go (ih.seven (on250 st (fields r)) p k refl (rw (after-250 st r q) at e))
    where
      g : IsRecord 250 0 0 (fields r)
      g = fit-rec st r 250 fit q (λ z. omega arith) (λ z. omega arith)

      go : Seven (on250 st (fields r)) ls v c d
          → (rows : List Record) × (b : Basics st.version st.channels st.days v c d rows) × (bytes_of (line r ls) ≡ text rows) × (1 ≤ length b.readings)
      go (none rows b h) = (
        fields r ∷ rows,
        record {
          readings = record { head = fields r; codes = [] } ∷ b.readings;
          each = (record { head = g; few = omega arith; codes = tt }, b.each);
          last = b.last;
          last_ok = b.last_ok;
          is = ap (λ (x : List Record). fields r ∷ x) b.is;
          version = b.version;
          count = omega (arith, b.count);
          no-days = b.no-days;
        },
        row-bytes r ls rows h,
        omega arith,
      )
      go (one f rows o b h) = (
        fields r ∷ f ∷ rows,
        record {
          readings = record { head = fields r; codes = f ∷ [] } ∷ b.readings;
          each = (record { head = g; few = omega arith; codes = (o, tt) }, b.each);
          last = b.last;
          last_ok = b.last_ok;
          is = ap (λ (x : List Record). fields r ∷ f ∷ x) b.is;
          version = b.version;
          count = omega (arith, b.count);
          no-days = b.no-days;
        },
        row-bytes r ls (f ∷ rows) h,
        omega arith,
      )

-- ---- the induction

-- days, channels or the end, with no 500 before them
no_extra : (st : Due) (ls : Lines) (v c d : ℕ) (rows : List Record)
    → Rest st.n st.decimals st.date st.version st.channels st.days v c d rows → bytes_of ls ≡ text rows → Extras st ls v c d
no_extra st ls v c d rows m h = record { extra = []; fit = tt; rows = rows; more = m; bytes = h }

no_blocks : (st : Due) (ls : Lines) (v c d : ℕ) → Chans st ls v c d → Extras st ls v c d
no_blocks st ls v c d u =
    no_extra st ls v c d (channels_then u.channels (u.last ∷ []))
    (record {
      blocks = [];
      good = tt;
      rising = tt;
      channels = u.channels;
      each = u.each;
      last = u.last;
      last_ok = u.last_ok;
      is = refl;
      version = u.version;
      channel-count = u.channel-count;
      day-count = omega (arith, u.day-count);
    })
    u.bytes

-- and with no 400, where the cover is complete
no-runs : (st : Due) (ls : Lines) (v c d : ℕ) → Inner st → st.n < st.next → Extras st ls v c d → Under st ls v c d
no-runs st ls v c d i x u =
    record {
      runs = [];
      each = tt;
      covers = (let y = i.high in omega arith);
      apart = i.apart x;
      extra = u.extra;
      fit = u.fit;
      rows = u.rows;
      more = u.more;
      bytes = u.bytes;
    }

module _ (st : Due) (p k v c d : ℕ) (r : List ℕ) (ls : Lines) (ih : Told ls v c d) (f : Fit st r)
    (e : walk_of (after st r) p k ls ≡ accepted (v ∷ c ∷ d ∷ [])) where
  ext-on : 1 ≤ st.n → in_day st.expect ≡ true → (kind_in (fields r) ≡ 400 → ⊥) → Head st.expect (kind_in (fields r)) → Extras st (line r ls) v c d
  ext-on s a x (h100 q z) = excluded in_day (λ y. may_come y 100) refl st.expect a z
  ext-on s a x (h200 q z) = no_blocks st (line r ls) v c d (by-200 st p k v c d r ls ih f e q)
  ext-on s a x (h300 q z) = let u = by-300 st p k v c d r ls ih f e s q in no_extra st (line r ls) v c d u.rows u.more u.bytes
  ext-on s a x (h400 q z) = absurd (x q)
  ext-on s a x (h500 q z) = by-500 st p k v c d r ls ih f e s q
  ext-on s a x (h250 q z) = excluded in_day (λ y. may_come y 250) refl st.expect a z
  ext-on s a x (h550 q z) = excluded in_day (λ y. may_come y 550) refl st.expect a z
  ext-on s a x (h900 q z) = let u = by-900 st p k v c d r ls ih f e q in no_extra st (line r ls) v c d u.0 u.1 u.2

  under-on : Inner st → Head st.expect (kind_in (fields r)) → Under st (line r ls) v c d
  under-on i h =
      by (eqb (kind_in (fields r)) 400)
      (λ t. by-400 st p k v c d r ls ih f e i (eqb-true _ _ t))
      (λ t. no-runs st (line r ls) v c d i (free_of st (kind_in (fields r)) f.free (eqb-false _ _ t) i.in-v)
      (ext-on i.some (implied in_varied in_day refl st.expect i.in-v) (eqb-false _ _ t) h))

  seven-on : may_come st.expect 250 ≡ true → (kind_in (fields r) ≡ 550 → ⊥) → Head st.expect (kind_in (fields r))
      → (rows : List Record) × Basics st.version st.channels st.days v c d rows × (bytes_of (line r ls) ≡ text rows)
  seven-on a n (h100 q z) = excluded (λ y. may_come y 250) (λ y. may_come y 100) refl st.expect a z
  seven-on a n (h200 q z) = excluded (λ y. may_come y 250) (λ y. may_come y 200) refl st.expect a z
  seven-on a n (h300 q z) = excluded (λ y. may_come y 250) (λ y. may_come y 300) refl st.expect a z
  seven-on a n (h400 q z) = excluded (λ y. may_come y 250) (λ y. may_come y 400) refl st.expect a z
  seven-on a n (h500 q z) = excluded (λ y. may_come y 250) (λ y. may_come y 500) refl st.expect a z
  seven-on a n (h250 q z) = let u = by-250 st p k v c d r ls ih f e q in (u.0, u.1, u.2)
  seven-on a n (h550 q z) = absurd (n q)
  seven-on a n (h900 q z) = last-13 st p k v c d r ls ih f e q

pub all_told : (ls : Lines) (v c d : ℕ) → Told ls v c d
all_told (rest t) v c d =
    record {
      ext = λ st p k s a x e. absurd (told-open st p k v c d t (not-ended st.expect 500 a) e);
      under = λ st p k i e. absurd (told-open st p k v c d t (not-ended st.expect 400 i.in-v) e);
      first = λ st p k s x e. absurd (told-open st p k v c d t (rw x) e);
      seven = λ st p k x e. absurd (told-open st p k v c d t (not-ended st.expect 250 x) e);
      eight = λ st p k x n e. absurd (told-open st p k v c d t (not-ended st.expect 250 x) e);
    }
all_told (line r ls) v c d =
    let ih = all_told ls v c d in
    record {
      ext = λ st p k s a x e. (let w = goes st p k r ls (v ∷ c ∷ d ∷ []) e in ext-on st (p + length r + 2) (k + 1) v c d r ls ih w.fit w.on s a (λ z. true≢false (sym (rw z at w.fit.may) ∙ x)) (head _ _ w.fit.may));
      under = λ st p k i e. (let w = goes st p k r ls (v ∷ c ∷ d ∷ []) e in under-on st (p + length r + 2) (k + 1) v c d r ls ih w.fit w.on i (head _ _ w.fit.may));
      first = λ st p k s x e. (let w = goes st p k r ls (v ∷ c ∷ d ∷ []) e in by-300 st (p + length r + 2) (k + 1) v c d r ls ih w.fit w.on s (only st.expect 300 _ (ap kinds_at x) w.fit.may));
      seven = λ st p k x e. (let w = goes st p k r ls (v ∷ c ∷ d ∷ []) e in
          by (eqb (kind_in (fields r)) 550)
          (λ t. by-550 st (p + length r + 2) (k + 1) v c d r ls ih w.fit w.on (eqb-true _ _ t))
          (λ t. let u = seven-on st (p + length r + 2) (k + 1) v c d r ls ih w.fit w.on x (eqb-false _ _ t) (head _ _ w.fit.may) in none u.0 u.1 u.2));
      eight = λ st p k x n e. (let w = goes st p k r ls (v ∷ c ∷ d ∷ []) e in seven-on st (p + length r + 2) (k + 1) v c d r ls ih w.fit w.on x (λ z. true≢false (sym (rw z at w.fit.may) ∙ n)) (head _ _ w.fit.may));
    }

-- ---- the header, and the file

channels-on : (st : Due) (p k v c d : ℕ) (ls : Lines) → st.expect ≡ first200 → walk_of st p k ls ≡ accepted (v ∷ c ∷ d ∷ []) → Chans st ls v c d
channels-on st p k v c d (rest t) x e = absurd (told-open st p k v c d t (rw x) e)
channels-on st p k v c d (line r ls) x e =
    let w = goes st p k r ls (v ∷ c ∷ d ∷ []) e in
    by-200 st (p + length r + 2) (k + 1) v c d r ls (all_told ls v c d) w.fit w.on (only st.expect 200 _ (ap kinds_at x) w.fit.may)

readings-on : (st : Due) (p k v c d : ℕ) (ls : Lines) → st.expect ≡ first250 → walk_of st p k ls ≡ accepted (v ∷ c ∷ d ∷ [])
    → (rows : List Record) × (b : Basics st.version st.channels st.days v c d rows) × (bytes_of ls ≡ text rows) × (1 ≤ length b.readings)
readings-on st p k v c d (rest t) x e = absurd (told-open st p k v c d t (rw x) e)
readings-on st p k v c d (line r ls) x e =
    let w = goes st p k r ls (v ∷ c ∷ d ∷ []) e in
    by-250 st (p + length r + 2) (k + 1) v c d r ls (all_told ls v c d) w.fit w.on (only st.expect 250 _ (ap kinds_at x) w.fit.may)

whole : (most v c d : ℕ) (ls : Lines) → length (bytes_of ls) ≤ most → walk_of begun 0 0 ls ≡ accepted (v ∷ c ∷ d ∷ []) → InFormatUpTo most (bytes_of ls) v c d
whole most v c d (rest t) m e = absurd (told-open begun 0 0 v c d t refl e)
whole most v c d (line r ls) m e =
    let t = goes begun 0 0 r ls (v ∷ c ∷ d ∷ []) e in
    let q : kind_in (fields r) ≡ 100 = only the100 100 _ refl t.fit.may in
    let h : walk_of (on100 begun (fields r)) (0 + length r + 2) (0 + 1) ls ≡ accepted (v ∷ c ∷ d ∷ []) = rw (after-100 begun r q) at t.on in
    let g = fit-rec begun r 100 t.fit q (λ z. omega arith) (λ z. omega arith) in
    by (eqb (version_in (fields r)) 12)
    (λ x.
    let u = channels-on (on100 begun (fields r)) (0 + length r + 2) (0 + 1) v c d ls (rw x) h in
    record {
      header = fields r;
      content = nem12 u.channels;
      last = u.last;
      is-header = g;
      is-content = (u.version ∙ eqb-true _ _ x, u.some, u.each);
      is_last = u.last_ok;
      bytes = row-bytes r ls (channels_then u.channels (u.last ∷ [])) u.bytes;
      short = m;
      version = u.version;
      channels = omega (arith, u.channel-count);
      days = omega (arith, u.day-count);
    })
    (λ x.
    let w = readings-on (on100 begun (fields r)) (0 + length r + 2) (0 + 1) v c d ls (rw x) h in
    let u = w.1 in
    record {
      header = fields r;
      content = nem13 u.readings;
      last = u.last;
      is-header = g;
      is-content = (u.version ∙ version-13 (fields r) g (eqb-false _ _ x), w.3, u.each);
      is_last = u.last_ok;
      bytes = row-bytes r ls (readings_then u.readings (u.last ∷ [])) (w.2 ∙ ap text u.is);
      short = m;
      version = u.version;
      channels = omega (arith, u.count);
      days = u.no-days;
    })

-- within any limit of its length
pub told-file : (most : ℕ) (file : List ℕ) (v c d : ℕ) → length file ≤ most → walk_of begun 0 0 (lines file) ≡ accepted (v ∷ c ∷ d ∷ []) → InFormatUpTo most file v c d
told-file most file v c d m e =
    subst (λ (x : List ℕ). InFormatUpTo most x v c d) (bytes-lines file) (whole most v c d (lines file) (rw (bytes-lines file) m) e)

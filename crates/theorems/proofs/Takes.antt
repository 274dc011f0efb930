-- What the grammar writes is taken: by induction on each list of the grammar, with what follows it as a function of the state. Assumes nothing.
use Prim.Native.Nat.{ℕ, ◌+◌, ◌≤◌, ◌<◌}
use mathlib.Core.Path.{◌≡◌, refl, sym, ◌∙◌, subst}
use mathlib.Core.Bool.{Bool, true, false, false≢true, ◌&&◌}
use mathlib.Core.List.{List, [], ◌∷◌, ◌++◌}
use native.Mathlib.Omega.{arith}
use lib.ListN.{length}
use lib.Dec.{eqb}
use borrow.Author.Tests.{eqb-true, eq-eqb, ne_eqb, le-leb, lt-leb}
use Rattle.ground.specs.Lists.{all}
use Rattle.ground.proofs.Cases.{by}
use Rattle.format.specs.Bytes.{plain}
use Rattle.format.specs.Cut.{lines, fields}
use Rattle.format.specs.Records.{Scale, kind_in, version_in, decimals_in, intervals_in, date_in, first_in, last_in, mark_in}
use Rattle.format.specs.Order.{Expected, may_come, in_day, in_varied, share_with, Due, begun, is_varied, alike_with, on100, on200, on300, on400, on500, on250, on550, after_of}
use Rattle.format.specs.Faults.{is_open, scale_of, is_not_later, covers, is_off, is_alike, is_elsewhere}
use Rattle.format.specs.Answers.{accepted}
use Rattle.format.specs.File.{walk_of}
use Rattle.format.proofs.States.{implied, excluded, not-ended}
use Rattle.passing.proofs.Fit.{Ok, Fit, fit-fine, free-if, free-400}
use Rattle.passing.proofs.Files.{lines-row}
use Rattle.theorems.specs.Grammar.{Each, Rising, Record, join, text, IsRecord, Block, Covers, Extra, IsBlock, dates_of, Channel, IsChannel, Reading, IsReading, Content, nem12, nem13, IsContent, blocks_then, channels_then, readings_then, content_then, channels_in, blocks_in, days_in, InFormatUpTo}
use Rattle.theorems.proofs.Bytes.{fields_join, plain-join}
use Rattle.theorems.proofs.Rows.{Fields, scale-other, record-fields, record-ok}
use Rattle.theorems.proofs.Says.{date-some, day-on}
use Rattle.theorems.proofs.Apart.{Apart, apart-on, end-apart, marked-end}

-- ---- one record on

pub fields-of : (fs : Record) → Fields fs → (fields (join fs) ≡ fs) × (all plain (join fs) ≡ true)
fields-of [] h = absurd (let x : 1 ≤ 0 = h.0 in let y : ⊥ = omega arith in y)
fields-of (f ∷ fs) h = (fields_join f fs h.1, plain-join f fs h.1)

-- from the state st on, these records are accepted with v, c and d
abbrev pub Takes : Due → List Record → ℕ → ℕ → ℕ → Type 0
Takes st rows v c d = (p k : ℕ) → walk_of st p k (lines (text rows)) ≡ accepted (v ∷ c ∷ d ∷ [])

-- the tests, on the fields
pub record Tests (st : Due) (fs : Record) : Type 0 where
  pub free : is_open st (kind_in fs) ≡ false
  pub may : may_come st.expect (kind_in fs) ≡ true
  pub ok : Ok (kind_in fs) (scale_of st (kind_in fs) fs) fs
  pub rises : is_not_later st (kind_in fs) fs ≡ false
  pub cover : is_off st (kind_in fs) fs ≡ false
  pub apart : is_alike st (kind_in fs) fs ≡ false
  pub day : is_elsewhere st (kind_in fs) fs ≡ false

module _ (st : Due) (fs : Record) (rows : List Record) (v c d : ℕ) where
  pub takes-row : Fields fs → Tests st fs → Takes (after_of st (kind_in fs) fs) rows v c d → Takes st (fs ∷ rows) v c d
  unfolding text walk_of
  takes-row h ps t p k =
      let w = fields-of fs h in
      let g : Tests st (fields (join fs)) = subst (Tests st) (sym w.0) ps in
      let f : Fit st (join fs) =
      record { bytes = w.1; free = g.free; may = g.may; ok = g.ok; rises = g.rises; cover = g.cover; apart = g.apart; day = g.day } in
      rw (lines-row (join fs) (text rows) w.1, not-ended st.expect (kind_in fs) ps.may, fit-fine st (join fs) f, w.0) (t (p + length (join fs) + 2) (k + 1))

-- ---- a record of each kind passes

ok_of : (st : Due) (fs : Record) (k : ℕ) → kind_in fs ≡ k → Ok k (scale_of st k fs) fs → Ok (kind_in fs) (scale_of st (kind_in fs) fs) fs
ok_of st fs k e h = subst (λ (x : ℕ). Ok x (scale_of st x fs) fs) (sym e) h

pub pass : (st : Due) (fs : Record) (k : ℕ) → IsRecord k 0 0 fs → (k ≡ 300 → ⊥) → (k ≡ 400 → ⊥) → (k ≡ 500 → ⊥)
    → may_come st.expect k ≡ true → (in_varied st.expect ≡ true → st.n < st.next) → Tests st fs
unfolding is_not_later is_off is_alike is_elsewhere
pass st fs k h n₃ n₄ n₅ m f =
    record {
      free = free-if st (kind_in fs) f;
      may = rw h.indicator m;
      ok = ok_of st fs k h.indicator (subst (λ (y : Scale). Ok k y fs) (sym (scale-other k st.n st.decimals fs n₃)) (record-ok k 0 0 fs h));
      rises = rw (h.indicator, ne_eqb k 300 n₃);
      cover = rw (h.indicator, ne_eqb k 400 n₄);
      apart = rw (h.indicator, ne_eqb k 400 n₄);
      day = rw (h.indicator, ne_eqb k 500 n₅);
    }

module _ (st : Due) (fs : Record) where
  pub pass-300 : IsRecord 300 st.n st.decimals fs → st.date < date_in fs → may_come st.expect 300 ≡ true → (in_varied st.expect ≡ true → st.n < st.next) → Tests st fs
  unfolding is_not_later is_off is_alike is_elsewhere
  pass-300 h r m f =
      record {
        free = free-if st (kind_in fs) f;
        may = rw h.indicator m;
        ok = ok_of st fs 300 h.indicator (record-ok 300 st.n st.decimals fs h);
        rises = rw (h.indicator, lt-leb _ _ r);
        cover = rw h.indicator;
        apart = rw h.indicator;
        day = rw h.indicator;
      }

  pub pass-500 : Extra st.date fs → in_day st.expect ≡ true → (in_varied st.expect ≡ true → st.n < st.next) → Tests st fs
  unfolding is_not_later is_off is_alike is_elsewhere
  pass-500 h m f =
      record {
        free = free-if st (kind_in fs) f;
        may = rw h.0.indicator m;
        ok = ok_of st fs 500 h.0.indicator (record-ok 500 0 0 fs h.0);
        rises = rw h.0.indicator;
        cover = rw h.0.indicator;
        apart = rw h.0.indicator;
        day = rw (h.0.indicator, day-on st.date fs h);
      }

  pass-400 : IsRecord 400 0 0 fs → in_varied st.expect ≡ true → first_in fs ≡ st.next → first_in fs ≤ last_in fs → last_in fs ≤ st.n
      → (last_in fs ≡ st.n → alike_with st fs ≡ false) → Tests st fs
  unfolding is_not_later is_off covers is_alike is_elsewhere
  pass-400 h x s o w al =
      record {
        free = rw h.indicator (free-400 st);
        may = rw h.indicator x;
        ok = ok_of st fs 400 h.indicator (record-ok 400 0 0 fs h);
        rises = rw h.indicator;
        cover = rw (h.indicator, eq-eqb _ _ s, le-leb _ _ o, le-leb _ _ w);
        apart = rw h.indicator (by (eqb (last_in fs) st.n) (λ t. rw (t, al (eqb-true _ _ t))) (λ t. rw t));
        day = rw h.indicator;
      }

-- ---- the lists

pub record Kin (st after : Due) : Type 0 where
  pub n : after.n ≡ st.n
  pub decimals : after.decimals ≡ st.decimals
  pub date : after.date ≡ st.date
  pub version : after.version ≡ st.version
  pub channels : after.channels ≡ st.channels
  pub days : after.days ≡ st.days

kin-on : (a b c : Due) → Kin a b → Kin b c → Kin a c
kin-on a b c x y =
    record {
      n = y.n ∙ x.n;
      decimals = y.decimals ∙ x.decimals;
      date = y.date ∙ x.date;
      version = y.version ∙ x.version;
      channels = y.channels ∙ x.channels;
      days = y.days ∙ x.days;
    }

-- where a day may end
pub record Full (st : Due) : Type 0 where
  pub inside : in_day st.expect ≡ true
  pub full : in_varied st.expect ≡ true → st.n < st.next

takes-extras : (xs rows : List Record) (v c d : ℕ) (st : Due) → Full st → Each (Extra st.date) xs
    → ((after : Due) → Kin st after → Full after → Takes after rows v c d) → Takes st (xs ++ rows) v c d
unfolding after_of
takes-extras [] rows v c d st f h g = g st (record { n = refl; decimals = refl; date = refl; version = refl; channels = refl; days = refl }) f
takes-extras (x ∷ xs) rows v c d st f h g =
    let kin : Kin st (on500 st x) = record { n = refl; decimals = refl; date = refl; version = refl; channels = refl; days = refl } in
    takes-row st x (xs ++ rows) v c d (record-fields 500 0 0 x h.0.0) (pass-500 st x h.0 f.inside f.full)
    (rw h.0.0.indicator
    (takes-extras xs rows v c d (on500 st x) (record { inside = refl; full = λ z. absurd (false≢true z) }) h.1
    (λ after q. g after (kin-on st (on500 st x) after kin q))))

pub takes-runs : (rs rows : List Record) (v c d : ℕ) (st : Due) → in_varied st.expect ≡ true → 1 ≤ st.next → Each (IsRecord 400 0 0) rs → Covers st.n st.next rs
    → Apart st.shared rs → ((after : Due) → Kin st after → Full after → Takes after rows v c d) → Takes st (rs ++ rows) v c d
unfolding after_of alike_with
takes-runs [] rows v c d st x o h cv a g =
    g st (record { n = refl; decimals = refl; date = refl; version = refl; channels = refl; days = refl }) (record { inside = implied in_varied in_day refl st.expect x; full = λ z. omega arith })
takes-runs (r ∷ rs) rows v c d st x o h cv a g =
    let kin : Kin st (on400 st r) = record { n = refl; decimals = refl; date = refl; version = refl; channels = refl; days = refl } in
    let on : Apart (share_with st.shared (mark_in r)) rs = apart-on r rs st.shared a in
    let no : last_in r ≡ st.n → alike_with st r ≡ false =
    λ z. end-apart (share_with st.shared (mark_in r)) rs (λ m. marked-end st.n (last_in r + 1) rs m (omega arith) cv.3) on in
    let le : first_in r ≤ last_in r = cv.1 in
    let eq : first_in r ≡ st.next = cv.0 in
    takes-row st r (rs ++ rows) v c d (record-fields 400 0 0 r h.0) (pass-400 st r h.0 x cv.0 cv.1 cv.2 no)
    (rw h.0.indicator
    (takes-runs rs rows v c d (on400 st r) refl (omega arith) h.1 cv.3
    on
    (λ after q. g after (kin-on st (on400 st r) after kin q))))

-- a day: its 300, its 400s where it has V, its 500s
a-day : (b : Block) (rows : List Record) (v c d : ℕ) (st : Due) → may_come st.expect 300 ≡ true → (in_varied st.expect ≡ true → st.n < st.next)
    → IsBlock st.n st.decimals b → st.date < date_in b.top → ((after : Due) → Kin (on300 st b.top) after → Full after → Takes after rows v c d)
    → Takes st (b.top ∷ (b.runs ++ (b.extra ++ rows))) v c d
unfolding after_of
a-day b rows v c d st m f h t g =
    takes-row st b.top (b.runs ++ (b.extra ++ rows)) v c d (record-fields 300 st.n st.decimals b.top h.top) (pass-300 st b.top h.top t m f)
    (rw h.top.indicator (by (is_varied st.n b.top) varied uniform))
  where
    varied : is_varied st.n b.top ≡ true → Takes (on300 st b.top) (b.runs ++ (b.extra ++ rows)) v c d
    varied e =
        takes-runs b.runs (b.extra ++ rows) v c d (on300 st b.top) (rw e) (omega arith) h.runs (h.covers e) (h.unlike e)
        (λ after k x. takes-extras b.extra rows v c d after x (rw k.date h.extra) (λ last q. g last (kin-on (on300 st b.top) after last k q)))

    uniform : is_varied st.n b.top ≡ false → Takes (on300 st b.top) (b.runs ++ (b.extra ++ rows)) v c d
    uniform e =
        rw (h.only-v e)
        (takes-extras b.extra rows v c d (on300 st b.top)
        (record { inside = rw e; full = λ z. absurd (false≢true (rw e at z)) }) h.extra g)

takes-blocks : (bs : List Block) (rows : List Record) (v c d : ℕ) (st : Due) → may_come st.expect 300 ≡ true → (in_varied st.expect ≡ true → st.n < st.next)
    → (length bs ≡ 0 → in_day st.expect ≡ true) → Each (IsBlock st.n st.decimals) bs → Rising (st.date ∷ dates_of bs)
    → ((after : Due) → after.version ≡ st.version → after.channels ≡ st.channels → after.days ≡ st.days + length bs → Full after → Takes after rows v c d)
    → Takes st (blocks_then bs rows) v c d
takes-blocks [] rows v c d st m f s h t g = g st refl refl (omega arith) (record { inside = s refl; full = f })
takes-blocks (b ∷ bs) rows v c d st m f s h t g =
    a-day b (blocks_then bs rows) v c d st m f h.0 t.0
    (λ after k x. takes-blocks bs rows v c d after (implied in_day (λ y. may_come y 300) refl after.expect x.inside) x.full (λ z. x.inside) (rw (k.n, k.decimals) h.1) (rw k.date t.1)
    (λ last a o e. g last (a ∙ k.version) (o ∙ k.channels) (omega (arith, k.days))))

-- the first date is later than none
rising-first : (n d : ℕ) (bs : List Block) → Each (IsBlock n d) bs → Rising (dates_of bs) → Rising (0 ∷ dates_of bs)
rising-first n d [] h t = tt
rising-first n d (b ∷ bs) h t = (date-some n d b.top h.0.top, t)

takes-channels : (cs : List Channel) (rows : List Record) (v c d : ℕ) (st : Due) → may_come st.expect 200 ≡ true
    → (in_varied st.expect ≡ true → st.n < st.next) → (length cs ≡ 0 → Full st) → Each IsChannel cs
    → ((after : Due) → after.version ≡ st.version → after.channels ≡ st.channels + length cs → after.days ≡ st.days + blocks_in cs → Full after → Takes after rows v c d)
    → Takes st (channels_then cs rows) v c d
unfolding after_of
takes-channels [] rows v c d st m f s h g = g st refl (omega arith) (omega arith) (s refl)
takes-channels (x ∷ cs) rows v c d st m f s h g =
    let w = h.0 in
    takes-row st x.head (blocks_then x.blocks (channels_then cs rows)) v c d (record-fields 200 0 0 x.head w.head)
    (pass st x.head 200 w.head (λ z. omega arith) (λ z. omega arith) (λ z. omega arith) m f)
    (rw w.head.indicator
    (takes-blocks x.blocks (channels_then cs rows) v c d (on200 st x.head) refl (λ z. absurd (false≢true z)) (λ z. absurd (let y = w.some in let u : ⊥ = omega arith in u)) w.blocks
    (rising-first (intervals_in x.head) (decimals_in x.head) x.blocks w.blocks w.rising)
    (λ after a o e u. takes-channels cs rows v c d after (implied in_day (λ y. may_come y 200) refl after.expect u.inside) u.full (λ z. u) h.1
    (λ last b q r. g last (b ∙ a) (omega arith) (omega arith)))))

-- behind a 250 or its 550
abbrev is_read : Expected → Bool
is_read x = may_come x 250 && may_come x 900

-- the 550 of a 250, if it has one
takes-codes : (es rows : List Record) (v c d : ℕ) (st : Due) → may_come st.expect 550 ≡ true → length es ≤ 1 → Each (IsRecord 550 0 0) es
    → ((after : Due) → after.version ≡ st.version → after.channels ≡ st.channels → after.days ≡ st.days → is_read after.expect ≡ true → Takes after rows v c d)
    → Takes st (es ++ rows) v c d
unfolding after_of
takes-codes [] rows v c d st x few h g = g st refl refl refl (implied (λ y. may_come y 550) is_read refl st.expect x)
takes-codes (e ∷ []) rows v c d st x few h g =
    takes-row st e rows v c d (record-fields 550 0 0 e h.0)
    (pass st e 550 h.0 (λ z. omega arith) (λ z. omega arith) (λ z. omega arith) x (λ z. excluded (λ y. may_come y 550) in_varied refl st.expect x z))
    (rw h.0.indicator (g (on550 st e) refl refl refl refl))
takes-codes (e ∷ f ∷ es) rows v c d st x few h g = absurd (let y : ⊥ = omega arith in y)

takes-readings : (rs : List Reading) (rows : List Record) (v c d : ℕ) (st : Due) → may_come st.expect 250 ≡ true → (length rs ≡ 0 → is_read st.expect ≡ true)
    → Each IsReading rs
    → ((after : Due) → after.version ≡ st.version → after.channels ≡ st.channels + length rs → after.days ≡ st.days → is_read after.expect ≡ true → Takes after rows v c d)
    → Takes st (readings_then rs rows) v c d
unfolding after_of
takes-readings [] rows v c d st m s h g = g st refl (omega arith) refl (s refl)
takes-readings (r ∷ rs) rows v c d st m s h g =
    takes-row st r.head (r.codes ++ readings_then rs rows) v c d (record-fields 250 0 0 r.head h.0.head)
    (pass st r.head 250 h.0.head (λ z. omega arith) (λ z. omega arith) (λ z. omega arith) m (λ z. excluded (λ y. may_come y 250) in_varied refl st.expect m z))
    (rw h.0.head.indicator
    (takes-codes r.codes (readings_then rs rows) v c d (on250 st r.head) refl h.0.few h.0.codes
    (λ after a b o u. takes-readings rs rows v c d after (implied is_read (λ y. may_come y 250) refl after.expect u) (λ z. u) h.1
    (λ last e q n. g last (e ∙ a) (omega arith) (omega arith)))))

pub takes-end : (l : Record) (v c d : ℕ) (st : Due) → IsRecord 900 0 0 l → may_come st.expect 900 ≡ true → (in_varied st.expect ≡ true → st.n < st.next)
    → v ≡ st.version → c ≡ st.channels → d ≡ st.days → Takes st (l ∷ []) v c d
unfolding after_of walk_of lines text
takes-end l v c d st h m f ev ec ed =
    takes-row st l [] v c d (record-fields 900 0 0 l h) (pass st l 900 h (λ z. omega arith) (λ z. omega arith) (λ z. omega arith) m f)
    (rw (h.indicator, ev, ec, ed) (λ p k. refl))

-- ---- the file

takes-content : (x : Content) (hd l : Record) (v c d : ℕ) → v ≡ version_in hd → IsContent v x → IsRecord 900 0 0 l → c ≡ channels_in x → d ≡ days_in x
    → Takes (on100 begun hd) (content_then x (l ∷ [])) v c d
takes-content (nem12 cs) hd l v c d ev g h ec ed =
    let e : version_in hd ≡ 12 = sym ev ∙ g.0 in
    takes-channels cs (l ∷ []) v c d (on100 begun hd) (rw e) (λ z. absurd (false≢true (rw e at z)))
    (λ z. absurd (let y : 1 ≤ length cs = g.1 in let u : ⊥ = omega arith in u)) g.2
    (λ after a b o f. takes-end l v c d after h (implied in_day (λ y. may_come y 900) refl after.expect f.inside) f.full (ev ∙ sym a) (omega arith) (omega arith))
takes-content (nem13 rs) hd l v c d ev g h ec ed =
    let e : version_in hd ≡ 13 = sym ev ∙ g.0 in
    takes-readings rs (l ∷ []) v c d (on100 begun hd) (rw e) (λ z. absurd (let y : 1 ≤ length rs = g.1 in let u : ⊥ = omega arith in u)) g.2
    (λ after a b o u. takes-end l v c d after h (implied is_read (λ y. may_come y 900) refl after.expect u) (λ z. excluded is_read in_varied refl after.expect u z) (ev ∙ sym a) (omega arith) (omega arith))

-- whatever the limit of its length
pub takes-file : (most : ℕ) (file : List ℕ) (v c d : ℕ) → InFormatUpTo most file v c d → walk_of begun 0 0 (lines file) ≡ accepted (v ∷ c ∷ d ∷ [])
unfolding after_of
takes-file most file v c d h =
    let t : Takes begun (h.header ∷ content_then h.content (h.last ∷ [])) v c d =
    takes-row begun h.header (content_then h.content (h.last ∷ [])) v c d (record-fields 100 0 0 h.header h.is-header)
    (pass begun h.header 100 h.is-header (λ z. omega arith) (λ z. omega arith) (λ z. omega arith) refl (λ z. absurd (false≢true z)))
    (rw h.is-header.indicator (takes-content h.content h.header h.last v c d h.version h.is-content h.is_last h.channels h.days)) in
    rw h.bytes (t 0 0)

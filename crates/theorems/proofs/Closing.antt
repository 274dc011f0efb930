-- In every such state a record of each kind that may come, and some records behind it, close the file; but for a 300 behind a day of the last date that there is, and a
-- 400 behind a complete cover. Assumes nothing.
use Prim.Native.Nat.{ℕ, ◌≤◌, ◌<◌}
use mathlib.Core.Path.{◌≡◌, refl, sym, ◌∙◌}
use mathlib.Core.Logic.{◌≢◌}
use mathlib.Core.Bool.{true, false, true≢false, false≢true}
use mathlib.Core.List.{List, [], ◌∷◌, ◌++◌}
use native.Mathlib.Omega.{arith}
use lib.Dec.{leb}
use borrow.Author.Tests.{leb-true, leb-false}
use Rattle.ground.proofs.Cases.{by}
use Rattle.format.specs.Records.{kind_in}
use Rattle.format.specs.Order.{Expected, the100, first200, first300, under_day, under_varied, behind500, first250, behind250, behind550, the_end, may_come, in_day, in_varied, is_end, Due, on100, on200, on300, on500, on250, on550, after_of}
use Rattle.format.proofs.States.{implied, excluded}
use Rattle.theorems.specs.Grammar.{Each, Record, IsRecord, Covers, Extra}
use Rattle.theorems.proofs.Rows.{Fields, record-fields}
use Rattle.theorems.proofs.Apart.{Apart}
use Rattle.theorems.proofs.Takes.{Takes, Tests, takes-row, pass, pass-300, pass-500, takes-runs, takes-end}
use Rattle.theorems.proofs.Samples.{sample100, is-100, version-100, sample200, is-200, sample500, is-500, untimed-500, sample250, is-250, sample550, is-550, sample900, is-900, sample300, is-300, date-300, plain-300, complete-cover}
use Rattle.theorems.proofs.Sane.{Sane}

-- a record of the kind k, and then others, are accepted from the state on, to the file's end
pub record Comes (st : Due) (k : ℕ) : Type 0 where
  pub first : Record
  pub rows : List Record
  pub version : ℕ
  pub channels : ℕ
  pub days : ℕ
  pub kind : kind_in first ≡ k
  pub clean : Fields first
  pub takes : Takes st (first ∷ rows) version channels days

-- no V day is open
abbrev pub NoneOpen : Due → Type 0
NoneOpen st = in_varied st.expect ≡ true → st.n < st.next

-- a record before others
ahead : (st : Due) (fs : Record) (k n d j : ℕ) → IsRecord k n d fs → Tests st fs → Comes (after_of st k fs) j → Comes st k
ahead st fs k n d j h t c =
    record {
      first = fs;
      rows = c.first ∷ c.rows;
      version = c.version;
      channels = c.channels;
      days = c.days;
      kind = h.indicator;
      clean = record-fields k n d fs h;
      takes = takes-row st fs (c.first ∷ c.rows) c.version c.channels c.days (record-fields k n d fs h) t (rw h.indicator c.takes);
    }

-- ---- of each kind

pub with-900 : (st : Due) → may_come st.expect 900 ≡ true → NoneOpen st → Comes st 900
with-900 st m f =
    record {
      first = sample900;
      rows = [];
      version = st.version;
      channels = st.channels;
      days = st.days;
      kind = is-900.indicator;
      clean = record-fields 900 0 0 sample900 is-900;
      takes = takes-end sample900 st.version st.channels st.days st is-900 m f refl refl refl;
    }

pub with-500 : (st : Due) → in_day st.expect ≡ true → NoneOpen st → Comes st 500
unfolding after_of
with-500 st m f =
    let e : Extra st.date sample500 = (is-500, λ l. absurd (let z : ⊥ = omega (arith, untimed-500) in z)) in
    ahead st sample500 500 0 0 900 is-500 (pass-500 st sample500 e m f) (with-900 (on500 st sample500) refl (λ z. absurd (false≢true z)))

pub with-300 : (st : Due) → may_come st.expect 300 ≡ true → NoneOpen st → st.date < 21991231 → Comes st 300
unfolding after_of
with-300 st m f l =
    let fs : Record = sample300 st.n in
    let e = plain-300 st.n in
    let i = is-300 st.n st.decimals in
    ahead st fs 300 st.n st.decimals 900 i (pass-300 st fs i (rw (date-300 st.n) l) m f)
    (with-900 (on300 st fs) (rw e) (λ z. absurd (false≢true (rw e at z))))

-- where the cover is not complete
pub with-400 : (st : Due) → Sane st → in_varied st.expect ≡ true → st.next ≤ st.n → Comes st 400
with-400 st s x l =
    let w = s.many (implied in_varied (λ y. may_come y 300) refl st.expect x) in
    let c = complete-cover st.n st.next l w.1 st.shared (s.several x) in
    go c.runs c.each c.covers c.apart
  where
    go : (rs : List Record) → Each (IsRecord 400 0 0) rs → Covers st.n st.next rs → Apart st.shared rs → Comes st 400
    go [] h cv a = absurd (let z : ⊥ = omega arith in z)
    go (r ∷ rs) h cv a =
        record {
          first = r;
          rows = rs ++ (sample900 ∷ []);
          version = st.version;
          channels = st.channels;
          days = st.days;
          kind = h.0.indicator;
          clean = record-fields 400 0 0 r h.0;
          takes =
              takes-runs (r ∷ rs) (sample900 ∷ []) st.version st.channels st.days st x (s.counted x) h cv a
              (λ after k f. takes-end sample900 st.version st.channels st.days after is-900 (implied in_day (λ y. may_come y 900) refl after.expect f.inside) f.full
              (sym k.version) (sym k.channels) (sym k.days));
        }

pub with-550 : (st : Due) → may_come st.expect 550 ≡ true → Comes st 550
unfolding after_of
with-550 st m =
    ahead st sample550 550 0 0 900 is-550
    (pass st sample550 550 is-550 (λ z. omega arith) (λ z. omega arith) (λ z. omega arith) m (λ z. excluded (λ y. may_come y 550) in_varied refl st.expect m z))
    (with-900 (on550 st sample550) refl (λ z. absurd (false≢true z)))

pub with-250 : (st : Due) → may_come st.expect 250 ≡ true → Comes st 250
unfolding after_of
with-250 st m =
    ahead st sample250 250 0 0 900 is-250
    (pass st sample250 250 is-250 (λ z. omega arith) (λ z. omega arith) (λ z. omega arith) m (λ z. excluded (λ y. may_come y 250) in_varied refl st.expect m z))
    (with-900 (on250 st sample250) refl (λ z. absurd (false≢true z)))

pub with-200 : (st : Due) → may_come st.expect 200 ≡ true → NoneOpen st → Comes st 200
unfolding after_of
with-200 st m f =
    ahead st sample200 200 0 0 300 is-200 (pass st sample200 200 is-200 (λ z. omega arith) (λ z. omega arith) (λ z. omega arith) m f)
    (with-300 (on200 st sample200) refl (λ z. absurd (false≢true z)) (omega arith))

pub with-100 : (st : Due) → may_come st.expect 100 ≡ true → Comes st 100
unfolding after_of
with-100 st m =
    let e = version-100 in
    ahead st sample100 100 0 0 200 is-100
    (pass st sample100 100 is-100 (λ z. omega arith) (λ z. omega arith) (λ z. omega arith) m (λ z. excluded (λ y. may_come y 100) in_varied refl st.expect m z))
    (with-200 (on100 st sample100) (rw e) (λ z. absurd (false≢true (rw e at z))))

-- ---- of some kind

-- where no V day is open
pub other-comes : (st : Due) → Sane st → is_end st.expect ≡ false → NoneOpen st → (k : ℕ) × (k ≢ 400) × Comes st k
other-comes st s n f = go st.expect refl
  where
    go : (x : Expected) → st.expect ≡ x → (k : ℕ) × (k ≢ 400) × Comes st k
    go the100 e = (100, λ z. omega arith, with-100 st (rw e))
    go first200 e = (200, λ z. omega arith, with-200 st (rw e) f)
    go first300 e = (300, λ z. omega arith, with-300 st (rw e) f (let d : st.date ≡ 0 = s.dateless (rw e) in omega arith))
    go under_day e = (900, λ z. omega arith, with-900 st (rw e) f)
    go under_varied e = (900, λ z. omega arith, with-900 st (rw e) f)
    go behind500 e = (900, λ z. omega arith, with-900 st (rw e) f)
    go first250 e = (250, λ z. omega arith, with-250 st (rw e))
    go behind250 e = (900, λ z. omega arith, with-900 st (rw e) f)
    go behind550 e = (900, λ z. omega arith, with-900 st (rw e) f)
    go the_end e = absurd (true≢false (rw e at n))

pub some-comes : (st : Due) → Sane st → is_end st.expect ≡ false → (k : ℕ) × Comes st k
some-comes st s n =
    by (in_varied st.expect)
    (λ x. by (leb st.next st.n) (λ t. (400, with-400 st s x (leb-true _ _ t))) (λ t. other (λ z. leb-false _ _ t)))
    (λ x. other (λ z. absurd (true≢false (sym z ∙ x))))
  where
    other : NoneOpen st → (k : ℕ) × Comes st k
    other f = let w = other-comes st s n f in (w.0, w.2)

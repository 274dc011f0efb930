-- A block that is accepted: its 300 and the records under it, what they keep of the state, the one day in it, and that it is accepted wherever a day of its
-- date may stand. Assumes nothing.
use Prim.Native.Nat.{ℕ, ◌+◌, ◌<◌}
use mathlib.Core.Path.{◌≡◌, refl, sym, ap, ◌∙◌, subst}
use mathlib.Core.Bool.{true, ◌||◌, false≢true}
use mathlib.Core.List.{List, [], ◌∷◌}
use lib.ListN.{length}
use lib.Dec.{eqb}
use borrow.Author.Tests.{eqb-true, lt-leb}
use Rattle.ground.proofs.Tests.{and-true, or-other}
use Rattle.ground.proofs.Cases.{by}
use Rattle.format.specs.Cut.{Lines, line, rest, lines, fields}
use Rattle.format.specs.Records.{scale, kind_in, date_in}
use Rattle.format.specs.Order.{in_day, Due, alike_with, on300}
use Rattle.format.specs.Faults.{scale_of, is_open, is_not_later, covers, is_off, is_alike, is_elsewhere, fault_at, fault_of}
use Rattle.format.specs.File.{after}
use Rattle.format.specs.Day.{Row, DayRows, day_from, days_from}
use Rattle.passing.specs.Passes.{Passes, kinds_of, are_under, is_block, Free, Accepted, top_date, Awaits}
use Rattle.passing.proofs.Fit.{Ok, Fit, fine-fit, fit-fine, fit-later}
use Rattle.passing.proofs.Steps.{after-300, after-400, after-500, days-more}

-- ---- its 300, and what is under it

pub record Headed (st end : Due) (ls : Lines) : Type 0 where
  pub first : List ℕ
  pub others : Lines
  pub is : ls ≡ line first others
  pub kind : kind_in (fields first) ≡ 300
  pub fit : Fit st first
  pub passes : Passes (after st first) others end
  pub under : are_under (kinds_of others) ≡ true

pub headed : (st : Due) (b : List ℕ) (a : Accepted st b) → Headed st a.end (lines b)
headed st b a = go (lines b) a.kinds a.passes
  where
    go : (ls : Lines) → is_block (kinds_of ls) ≡ true → Passes st ls a.end → Headed st a.end ls
    go (rest t) b h = absurd (false≢true b)
    go (line r ls) b h =
        let w = and-true (eqb (kind_in (fields r)) 300) (are_under (kinds_of ls)) b in
        record { first = r; others = ls; is = refl; kind = eqb-true _ _ w.0; fit = fine-fit st r h.0; passes = h.1; under = w.1 }

-- the records under a 300, one after another
pub under_one : {A : Type 0} (k : ℕ) → (eqb k 400 || eqb k 500) ≡ true → (k ≡ 400 → A) → (k ≡ 500 → A) → A
under_one k t f g = by (eqb k 400) (λ u. f (eqb-true _ _ u)) (λ u. g (eqb-true _ _ (or-other (eqb k 400) (eqb k 500) t u)))

-- ---- what the records under a 300 keep of the state

pub record Kept (st end : Due) : Type 0 where
  pub n : end.n ≡ st.n
  pub decimals : end.decimals ≡ st.decimals
  pub date : end.date ≡ st.date
  pub version : end.version ≡ st.version
  pub channels : end.channels ≡ st.channels
  pub days : end.days ≡ st.days
  pub under : in_day st.expect ≡ true → in_day end.expect ≡ true

kept_on : (a b c : Due) → Kept a b → Kept b c → Kept a c
kept_on a b c x y =
    record {
      n = y.n ∙ x.n;
      decimals = y.decimals ∙ x.decimals;
      date = y.date ∙ x.date;
      version = y.version ∙ x.version;
      channels = y.channels ∙ x.channels;
      days = y.days ∙ x.days;
      under = λ z. y.under (x.under z);
    }

pub under-kept : (st end : Due) (ls : Lines) → are_under (kinds_of ls) ≡ true → Passes st ls end → Kept st end
under-kept st end (rest t) b h = subst (Kept st) h.1 (record { n = refl; decimals = refl; date = refl; version = refl; channels = refl; days = refl; under = λ z. z })
under-kept st end (line r ls) b h =
    let w = and-true (eqb (kind_in (fields r)) 400 || eqb (kind_in (fields r)) 500) (are_under (kinds_of ls)) b in
    kept_on st (after st r) end (one w.0) (under-kept (after st r) end ls w.1 h.1)
  where
    one : (eqb (kind_in (fields r)) 400 || eqb (kind_in (fields r)) 500) ≡ true → Kept st (after st r)
    one t =
        under_one (kind_in (fields r)) t
        (λ k. subst (Kept st) (sym (after-400 st r k)) (record { n = refl; decimals = refl; date = refl; version = refl; channels = refl; days = refl; under = λ z. refl }))
        (λ k. subst (Kept st) (sym (after-500 st r k)) (record { n = refl; decimals = refl; date = refl; version = refl; channels = refl; days = refl; under = λ z. refl }))

-- ---- what a reading finds

-- no other day under the 300
pub under_none : (p : ℕ) (c : Row) (ls : Lines) → are_under (kinds_of ls) ≡ true → days_from p c ls ≡ []
unfolding days_from
under_none p c (rest t) b = refl
under_none p c (line r ls) b =
    let w = and-true (eqb (kind_in (fields r)) 400 || eqb (kind_in (fields r)) 500) (are_under (kinds_of ls)) b in
    let i = under_none (p + length r + 2) c ls w.1 in
    under_one (kind_in (fields r)) w.0 (λ k. rw k i) (λ k. rw k i)

pub one-day : (st : Due) (b : List ℕ) (a : Accepted st b) (p : ℕ) (c : Row) → days_from p c (lines b) ≡ day_from p c (headed st b a).first (headed st b a).others ∷ []
one-day st b a p c =
    let w = headed st b a in
    ap (days_from p c) w.is
    ∙ days-more p w.first w.others c w.kind
    ∙ ap (λ (ds : List DayRows). day_from p c w.first w.others ∷ ds) (under_none (p + length w.first + 2) c w.others w.under)

-- ---- another place

-- the state with other counts
unfoldable pub counting : ℕ → ℕ → ℕ → Due → Due
counting v c d st =
    record { expect = st.expect; version = v; n = st.n; decimals = st.decimals; date = st.date; next = st.next; shared = st.shared; channels = c; days = d }

-- no fault goes by the counts
module _ (v c d : ℕ) where
  pub fault-counting : (st : Due) (r : List ℕ) → fault_of (counting v c d st) r ≡ fault_of st r
  unfolding counting fault_of fault_at is_open is_not_later is_off covers is_alike alike_with is_elsewhere
  fault-counting st r = refl

  pub after-counting : (st : Due) (r : List ℕ) → (eqb (kind_in (fields r)) 400 || eqb (kind_in (fields r)) 500) ≡ true → after (counting v c d st) r ≡ counting v c d (after st r)
  unfolding counting alike_with
  after-counting st r h =
      under_one (kind_in (fields r)) h
      (λ k. after-400 (counting v c d st) r k ∙ ap (counting v c d) (sym (after-400 st r k)))
      (λ k. after-500 (counting v c d st) r k ∙ ap (counting v c d) (sym (after-500 st r k)))

  under-counting : (st end : Due) (ls : Lines) → are_under (kinds_of ls) ≡ true → Passes st ls end → Passes (counting v c d st) ls (counting v c d end)
  under-counting st end (rest t) b h = (h.0, ap (counting v c d) h.1)
  under-counting st end (line r ls) b h =
      let w = and-true (eqb (kind_in (fields r)) 400 || eqb (kind_in (fields r)) 500) (are_under (kinds_of ls)) b in
      (fault-counting st r ∙ h.0, subst (λ (s : Due). Passes s ls (counting v c d end)) (sym (after-counting st r w.0)) (under-counting (after st r) end ls w.1 h.1))

  free-counting : (st : Due) → Free st → Free (counting v c d st)
  unfolding counting is_open
  free-counting st f = f

-- a 300 is fit in each state of its n and decimals that has an earlier date
module _ (a st : Due) (r : List ℕ) (k : kind_in (fields r) ≡ 300) (f : Fit a r) (w : Awaits st a.n a.decimals (date_in (fields r))) where
  fit-there : Fit st r
  unfolding is_not_later is_off is_alike is_elsewhere
  fit-there =
      let o : Ok 300 (scale a.n a.decimals) (fields r) = subst (λ (x : ℕ). Ok x (scale_of a x (fields r)) (fields r)) k f.ok in
      let o₁ : Ok 300 (scale st.n st.decimals) (fields r) = rw (w.intervals, w.decimals) o in
      record {
        bytes = f.bytes;
        free = rw k w.free.1;
        may = rw k w.free.0;
        ok = subst (λ (x : ℕ). Ok x (scale_of st x (fields r)) (fields r)) (sym k) o₁;
        rises = rw (k, lt-leb _ _ w.earlier);
        cover = rw k;
        apart = rw k;
        day = rw k;
      }

  after-there : after st r ≡ counting st.version st.channels (st.days + 1) (after a r)
  unfolding counting
  after-there =
      let e : on300 st (fields r) ≡ counting st.version st.channels (st.days + 1) (on300 a (fields r)) = rw (w.intervals, w.decimals) in
      after-300 st r k ∙ e ∙ ap (counting st.version st.channels (st.days + 1)) (sym (after-300 a r k))

-- what is accepted as a block in one state is in every state that awaits a block of its n, decimals and date
pub accepted-there : (a st : Due) (b : List ℕ) → Accepted a b → Awaits st a.n a.decimals (top_date (lines b)) → Accepted st b
accepted-there a st b h w =
    let d = headed a b h in
    let e = d.is in
    let x : Awaits st a.n a.decimals (date_in (fields d.first)) = subst (λ (ls : Lines). Awaits st a.n a.decimals (top_date ls)) e w in
    let c : Due → Due = counting st.version st.channels (st.days + 1) in
    let p : Passes (after st d.first) d.others (c h.end) =
    subst (λ (s : Due). Passes s d.others (c h.end)) (sym (after-there a st d.first d.kind d.fit x))
    (under-counting st.version st.channels (st.days + 1) (after a d.first) h.end d.others d.under d.passes) in
    record {
      kinds = h.kinds;
      end = c h.end;
      passes = subst (λ (ls : Lines). Passes st ls (c h.end)) (sym e) (fit-fine st d.first (fit-there a st d.first d.kind d.fit x), p);
      free = free-counting st.version st.channels (st.days + 1) h.end h.free;
    }

-- and its date is later than that of the state
pub accepted-later : (st : Due) (b : List ℕ) → Accepted st b → st.date < top_date (lines b)
accepted-later st b h = let d = headed st b h in rw d.is (fit-later st d.first d.fit d.kind)

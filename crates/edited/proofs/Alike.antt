-- The check goes on behind the new block as it did behind the old one: the two states behind them differ in nothing that a record behind a block is asked for,
-- and that record leaves one state. Assumes nothing.
use Prim.Native.Nat.{ℕ}
use mathlib.Core.Path.{◌≡◌, refl, sym, ap, ◌∙◌, subst}
use mathlib.Core.Bool.{true, false, false≢true, ◌||◌}
use mathlib.Core.List.{List}
use native.Mathlib.Omega.{arith}
use lib.Dec.{eqb}
use Rattle.format.specs.Cut.{Lines, line, rest, lines, fields}
use Rattle.format.specs.Records.{kind_in}
use Rattle.format.specs.Order.{may_come, in_day, Due, on200, on300, on900}
use Rattle.format.specs.Faults.{scale_of, is_not_later, is_off, is_alike, is_elsewhere, fault_of, Fine}
use Rattle.format.specs.File.{after}
use Rattle.format.proofs.States.{implied, excluded}
use Rattle.passing.specs.Passes.{Passes, Free, Accepted, top_date}
use Rattle.passing.proofs.Fit.{Ok, Fit, fine-fit, fit-fine, Head, h100, h200, h300, h400, h500, h250, h550, h900, head, free_of, free-if}
use Rattle.passing.proofs.Steps.{after-200, after-300, after-900}
use Rattle.passing.proofs.Blocks.{headed, Kept, under-kept}
use Rattle.passing.proofs.Alone.{Inside, inside-300}
use Rattle.passing.proofs.Parts.{Apart}

-- where a day may end in a and in b, with the same channel, date and counts
pub record Alike (a b : Due) : Type 0 where
  pub n : b.n ≡ a.n
  pub decimals : b.decimals ≡ a.decimals
  pub date : b.date ≡ a.date
  pub version : b.version ≡ a.version
  pub channels : b.channels ≡ a.channels
  pub days : b.days ≡ a.days
  pub may : may_come a.expect 300 ≡ true
  pub inside : Inside b
  pub free : Free b

-- ---- one record

module _ (a b : Due) (w : Alike a b) (r : List ℕ) (f : Fit a r) where
  -- a 200, a 300 or a 900, which may come wherever a day may end
  same-fit : (k : ℕ) → kind_in (fields r) ≡ k → may_come b.expect k ≡ true → is_not_later a k (fields r) ≡ is_not_later b k (fields r)
      → is_off b k (fields r) ≡ false → is_alike b k (fields r) ≡ false → is_elsewhere b k (fields r) ≡ false → Fit b r
  same-fit k e m later off alike elsewhere =
      let o : Ok k (scale_of a k (fields r)) (fields r) = subst (λ (x : ℕ). Ok x (scale_of a x (fields r)) (fields r)) e f.ok in
      let p : Ok k (scale_of b k (fields r)) (fields r) = rw (w.n, w.decimals) o in
      record {
        bytes = f.bytes;
        free = free-if b (kind_in (fields r)) (free_of b 300 w.free.1 (λ z. omega arith));
        may = rw e m;
        ok = subst (λ (x : ℕ). Ok x (scale_of b x (fields r)) (fields r)) (sym e) p;
        rises = rw e (sym later ∙ (let z : is_not_later a k (fields r) ≡ false = (rw e at f.rises) in z));
        cover = rw e off;
        apart = rw e alike;
        day = rw e elsewhere;
      }

  record Goes_on : Type 0 where
    fine : fault_of b r ≡ Fine
    state : after b r ≡ after a r

  goes_on_lem : (eqb (kind_in (fields r)) 400 || eqb (kind_in (fields r)) 500) ≡ false → Head a.expect (kind_in (fields r)) → Goes_on
  unfolding is_not_later is_off is_alike is_elsewhere
  goes_on_lem h (h100 e m) = excluded (λ x. may_come x 300) (λ x. may_come x 100) refl a.expect w.may m
  goes_on_lem h (h200 e m) =
      record {
        fine = fit-fine b r (same-fit 200 e (implied in_day (λ x. may_come x 200) refl b.expect w.inside) refl refl refl refl);
        state = after-200 b r e ∙ (let z : on200 b (fields r) ≡ on200 a (fields r) = rw (w.version, w.channels, w.days) in z) ∙ sym (after-200 a r e);
      }
  goes_on_lem h (h300 e m) =
      record {
        fine = fit-fine b r (same-fit 300 e w.free.0 (rw w.date) refl refl refl);
        state =
            after-300 b r e
            ∙ (let z : on300 b (fields r) ≡ on300 a (fields r) = rw (w.version, w.n, w.decimals, w.channels, w.days) in z)
            ∙ sym (after-300 a r e);
      }
  goes_on_lem h (h400 e m) = absurd (false≢true (sym h ∙ rw e))
  goes_on_lem h (h500 e m) = absurd (false≢true (sym h ∙ rw e))
  goes_on_lem h (h250 e m) = excluded (λ x. may_come x 300) (λ x. may_come x 250) refl a.expect w.may m
  goes_on_lem h (h550 e m) = excluded (λ x. may_come x 300) (λ x. may_come x 550) refl a.expect w.may m
  goes_on_lem h (h900 e m) =
      record {
        fine = fit-fine b r (same-fit 900 e (implied in_day (λ x. may_come x 900) refl b.expect w.inside) refl refl refl refl);
        state = after-900 b r e ∙ (let z : on900 b (fields r) ≡ on900 a (fields r) = rw (w.version, w.channels, w.days) in z) ∙ sym (after-900 a r e);
      }

-- ---- all that is behind a block

pub passes-alike : (a b e : Due) (ls : Lines) → Alike a b → Apart ls → Passes a ls e → Passes b ls e
passes-alike a b e (rest t) w h p = absurd h
passes-alike a b e (line r ls) w h p =
    let f = fine-fit a r p.0 in
    let g = goes_on_lem a b w r f h (head a.expect (kind_in (fields r)) f.may) in
    (g.fine, subst (λ (s : Due). Passes s ls e) (sym g.state) p.1)

-- ---- the states behind two blocks

kept_there : (st : Due) (b : List ℕ) (a : Accepted st b) → Kept (on300 st (fields (headed st b a).first)) a.end
kept_there st b a =
    let w = headed st b a in
    subst (λ (x : Due). Kept x a.end) (after-300 st w.first w.kind) (under-kept (after st w.first) a.end w.others w.under w.passes)

ends-inside : (st : Due) (b : List ℕ) (a : Accepted st b) → Inside a.end
ends-inside st b a = let w = headed st b a in (under-kept (after st w.first) a.end w.others w.under w.passes).under (inside-300 st w.first w.kind)

-- of one date
pub ends-alike : (st : Due) (old new : List ℕ) (a : Accepted st old) (b : Accepted st new) → top_date (lines new) ≡ top_date (lines old) → Alike a.end b.end
ends-alike st old new a b e =
    let x = kept_there st old a in
    let y = kept_there st new b in
    record {
      n = y.n ∙ sym x.n;
      decimals = y.decimals ∙ sym x.decimals;
      date = y.date ∙ sym (ap top_date (headed st new b).is) ∙ e ∙ ap top_date (headed st old a).is ∙ sym x.date;
      version = y.version ∙ sym x.version;
      channels = y.channels ∙ sym x.channels;
      days = y.days ∙ sym x.days;
      may = a.free.0;
      inside = ends-inside st new b;
      free = b.free;
    }

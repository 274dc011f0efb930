-- Bytes one behind the other: where the first are passed without a fault, the check of the whole, and the reading of its days, go on with what is
-- behind them. Assumes nothing.
use Prim.Native.Nat.{ℕ, suc, ◌+◌, ◌≤◌}
use mathlib.Core.Path.{◌≡◌, refl, sym, ap, ap₂, ◌∙◌, subst}
use mathlib.Core.Bool.{true, false, cond, ◌&&◌}
use mathlib.Core.List.{List, [], ◌∷◌, ◌++◌, append_assoc}
use native.Mathlib.Omega.{arith}
use lib.ListN.{length, drop, length-append}
use lib.Seq.{drop_at}
use lib.Dec.{eqb, leb}
use borrow.Author.Tests.{eqb-true, eqb-false, ne_eqb, leb-true}
use Rattle.ground.specs.Lists.{all}
use Rattle.ground.proofs.Tests.{and-true}
use Rattle.ground.proofs.Cases.{by}
use Rattle.format.specs.Bytes.{plain}
use Rattle.format.specs.Cut.{is_crlf, Lines, line, rest, on_first, lines, fields}
use Rattle.format.specs.Records.{kind_in, intervals_in}
use Rattle.format.specs.Order.{may_come, is_end, Due, begun}
use Rattle.format.specs.File.{after, walk_of}
use Rattle.format.specs.Day.{Row, DayRows, row_at, runs_from, day_from, days_from, no_channel, days_of}
use Rattle.format.proofs.Cut.{bytes_of, bytes-lines}
use Rattle.format.proofs.States.{not-ended}
use Rattle.passing.specs.Passes.{Passes, kinds_of, head_in}
use Rattle.passing.proofs.Fit.{Fit, fine-fit, head}
use Rattle.passing.proofs.Steps.{days-more, days-skip, cells-on, channel-on}
use Rattle.passing.proofs.Counts.{Holds, counts-begun, holds-begun, counted}
use Rattle.passing.specs.Passes.{Counts}

-- ---- lines

-- the lines, and others behind them
abbrev pub onto : Lines → Lines → Lines
onto (rest t) m = m
onto (line r ls) m = line r (onto ls m)

-- nothing is left behind the last CR LF
abbrev Closed : Lines → Type 0
Closed (rest t) = t ≡ []
Closed (line r ls) = Closed ls

lines-append : (x y : List ℕ) → Closed (lines x) → lines (x ++ y) ≡ onto (lines x) (lines y)
unfolding lines
lines-append [] y h = refl
lines-append (b ∷ []) y h = absurd (let z : ◌≡◌ {A = List ℕ} (b ∷ []) [] = h in let e : 1 ≡ 0 = ap length z in let o : ⊥ = omega arith in o)
lines-append (b ∷ c ∷ x) y h =
    by (is_crlf b c)
    (λ e. rw e (ap (line []) (lines-append x y (let z : Closed (lines x) = (rw e at h) in z))))
    (λ e. rw e (ap (on_first b) (lines-append (c ∷ x) y (closed-first (lines (c ∷ x)) (rw e at h))) ∙ onto-first (lines (c ∷ x)) (rw e at h)))
  where
    closed-first : (ls : Lines) → Closed (on_first b ls) → Closed ls
    closed-first (rest t) k = absurd (let e : length (b ∷ t) ≡ 0 = ap length k in let o : ⊥ = omega arith in o)
    closed-first (line r ls) k = k

    onto-first : (ls : Lines) → Closed (on_first b ls) → on_first b (onto ls (lines y)) ≡ onto (on_first b ls) (lines y)
    onto-first (rest t) k = absurd (let e : length (b ∷ t) ≡ 0 = ap length k in let o : ⊥ = omega arith in o)
    onto-first (line r ls) k = refl

closed : (a e : Due) (ls : Lines) → Passes a ls e → Closed ls
closed a e (rest t) h = h.0
closed a e (line r ls) h = closed (after a r) e ls h.1

pub lines-behind : (a e : Due) (x y : List ℕ) → Passes a (lines x) e → lines (x ++ y) ≡ onto (lines x) (lines y)
lines-behind a e x y h = lines-append x y (closed a e (lines x) h)

pub passes_append : (a e f : Due) (x y : List ℕ) → Passes a (lines x) e → Passes e (lines y) f → Passes a (lines (x ++ y)) f
passes_append a e f x y h k = subst (λ (ls : Lines). Passes a ls f) (sym (lines-behind a e x y h)) (go a (lines x) h)
  where
    go : (a : Due) (ls : Lines) → Passes a ls e → Passes a (onto ls (lines y)) f
    go a (rest t) h = subst (λ (s : Due). Passes s (lines y) f) (sym h.1) k
    go a (line r ls) h = (h.0, go (after a r) ls h.1)

-- ---- records

cr-free : (b d : ℕ) → plain b ≡ true → is_crlf b d ≡ false
cr-free b d h =
    let k : 32 ≤ b = leb-true 32 b (and-true (leb 32 b) (leb b 126) h).0 in
    rw (ne_eqb b 13 (λ e. omega arith))

-- a record of plain bytes, and CR LF
pub lines-row : (r t : List ℕ) → all plain r ≡ true → lines (r ++ 13 ∷ 10 ∷ t) ≡ line r (lines t)
unfolding lines
lines-row [] t h = refl
lines-row (b ∷ []) t h = rw (cr-free b 13 (and-true (plain b) true h).0)
lines-row (b ∷ d ∷ r) t h =
    let w = and-true (plain b) (plain d && all plain r) h in
    rw (cr-free b d w.0, lines-row (d ∷ r) t w.1)

-- what is passed, put together, is cut again
pub lines-passed : (a e : Due) (ls : Lines) → Passes a ls e → lines (bytes_of ls) ≡ ls
unfolding lines
lines-passed a e (rest t) h = rw h.0
lines-passed a e (line r ls) h = lines-row r (bytes_of ls) (fine-fit a r h.0).bytes ∙ ap (line r) (lines-passed (after a r) e ls h.1)

-- the bytes of what is passed, and of what is behind it
pub bytes-onto : (a e : Due) (ls m : Lines) → Passes a ls e → bytes_of (onto ls m) ≡ bytes_of ls ++ bytes_of m
bytes-onto a e (rest t) m h = rw h.0
bytes-onto a e (line r ls) m h =
    ap (λ (l : List ℕ). r ++ 13 ∷ 10 ∷ l) (bytes-onto (after a r) e ls m h.1) ∙ sym (append_assoc r (13 ∷ 10 ∷ bytes_of ls) (bytes_of m))

-- ---- the check

walk-lines : (a e : Due) (p k : ℕ) (ls m : Lines) → Passes a ls e → walk_of a p k (onto ls m) ≡ walk_of e (p + length (bytes_of ls)) (k + length (kinds_of ls)) m
unfolding walk_of
walk-lines a e p k (rest t) m h =
    let u : p ≡ p + length t = omega (arith, ap length h.0) in
    let v : k ≡ k + 0 = omega arith in
    ap (λ (s : Due). walk_of s p k m) h.1 ∙ ap₂ (λ (i j : ℕ). walk_of e i j m) u v
walk-lines a e p k (line r ls) m h =
    let n : is_end a.expect ≡ false = not-ended a.expect (kind_in (fields r)) (fine-fit a r h.0).may in
    let u : p + length r + 2 + length (bytes_of ls) ≡ p + length (r ++ 13 ∷ 10 ∷ bytes_of ls) = omega (arith, length-append r (13 ∷ 10 ∷ bytes_of ls)) in
    let v : k + 1 + length (kinds_of ls) ≡ k + suc (length (kinds_of ls)) = omega arith in
    rw (n, h.0) (walk-lines (after a r) e (p + length r + 2) (k + 1) ls m h.1 ∙ ap₂ (λ (i j : ℕ). walk_of e i j m) u v)

pub walk-append : (a e : Due) (p k : ℕ) (x y : List ℕ) → Passes a (lines x) e → walk_of a p k (lines (x ++ y)) ≡ walk_of e (p + length x) (k + length (kinds_of (lines x))) (lines y)
walk-append a e p k x y h =
    ap (walk_of a p k) (lines-behind a e x y h)
    ∙ walk-lines a e p k (lines x) (lines y) h
    ∙ ap (λ (l : List ℕ). walk_of e (p + length l) (k + length (kinds_of (lines x))) (lines y)) (bytes-lines x)

-- ---- the days

-- the days of these lines, and then those of others behind them
record Split (a e : Due) (p : ℕ) (c : Row) (ls m : Lines) : Type 0 where
  before : List DayRows
  behind : Row
  is : days_from p c (onto ls m) ≡ before ++ days_from (p + length (bytes_of ls)) behind m
  count : a.days + length before ≡ e.days
  holds : Holds e (intervals_in behind.cells)
  cells : behind.cells ≡ head_in c.cells ls

module _ (a e : Due) (p : ℕ) (c : Row) (r : List ℕ) (ls m : Lines) (f : Fit a r) (n : Counts a) (h : Holds a (intervals_in c.cells)) where
  split-line : ((c' : Row) → Counts (after a r) → Holds (after a r) (intervals_in c'.cells) → Split (after a r) e (p + length r + 2) c' ls m) → Split a e p c (line r ls) m
  split-line g =
      let s = counted a (kind_in (fields r)) (fields r) n (head _ _ f.may) in
      let o = s.holds (intervals_in c.cells) h in
      let u : p + length r + 2 + length (bytes_of ls) ≡ p + length (r ++ 13 ∷ 10 ∷ bytes_of ls) = omega (arith, length-append r (13 ∷ 10 ∷ bytes_of ls)) in
      by (eqb (kind_in (fields r)) 300)
      (λ t.
      let k : kind_in (fields r) ≡ 300 = eqb-true _ _ t in
      let w = g c s.counts (subst (λ (x : ℕ). Holds (after a r) (cond (eqb x 200) (intervals_in (fields r)) (intervals_in c.cells))) k o) in
      record {
        before = day_from p c r (onto ls m) ∷ w.before;
        behind = w.behind;
        is =
            days-more p r (onto ls m) c k
            ∙ ap (λ (x : List DayRows). day_from p c r (onto ls m) ∷ x) (w.is ∙ ap (λ (i : ℕ). w.before ++ days_from i w.behind m) u);
        count = (let n : (after a r).days ≡ a.days + 1 = (rw t at s.days) in omega (arith, w.count));
        holds = w.holds;
        cells = w.cells ∙ ap (λ (x : ℕ). head_in (cond (eqb x 200) (fields r) c.cells) ls) (sym k);
      })
      (λ t.
      let w = g (cond (eqb (kind_in (fields r)) 200) (row_at p r) c) s.counts (rw (channel-on (kind_in (fields r)) p c r) o) in
      record {
        before = w.before;
        behind = w.behind;
        is = days-skip p r (onto ls m) c (eqb-false _ _ t) ∙ w.is ∙ ap (λ (i : ℕ). w.before ++ days_from i w.behind m) u;
        count = (let n : (after a r).days ≡ a.days = (rw t at s.days) in omega (arith, w.count));
        holds = w.holds;
        cells = w.cells ∙ ap (λ (fs : List (List ℕ)). head_in fs ls) (cells-on (kind_in (fields r)) p c r);
      })

days-lines : (a e : Due) (p : ℕ) (c : Row) (ls m : Lines) → Passes a ls e → Counts a → Holds a (intervals_in c.cells) → Split a e p c ls m
days-lines a e p c (rest t) m h n g =
    let u : p ≡ p + length t = omega (arith, ap length h.0) in
    record {
      before = [];
      behind = c;
      is = ap (λ (i : ℕ). days_from i c m) u;
      count = omega (arith, ap (λ (s : Due). s.days) h.1);
      holds = subst (λ (s : Due). Holds s (intervals_in c.cells)) h.1 g;
      cells = refl;
    }
days-lines a e p c (line r ls) m h n g = split-line a e p c r ls m (fine-fit a r h.0) n g (λ c'. days-lines (after a r) e (p + length r + 2) c' ls m h.1)

-- ---- the days of a file whose first bytes are passed

-- what a reading goes on with behind the bytes x: the days from there on, under the 200 before
pub record Onward (e : Due) (x y : List ℕ) : Type 0 where
  pub channel : Row
  pub intervals : intervals_in channel.cells ≡ e.n
  pub cells : channel.cells ≡ head_in no_channel.cells (lines x)
  pub is : drop e.days (days_of (x ++ y)) ≡ days_from (length x) channel (lines y)

pub days-append : (e : Due) (x y : List ℕ) → Passes begun (lines x) e → may_come e.expect 300 ≡ true → Onward e x y
unfolding days_of
days-append e x y h u =
    let w = days-lines begun e 0 no_channel (lines x) (lines y) h counts-begun (holds-begun _) in
    let c : length w.before ≡ e.days = omega (arith, w.count) in
    let q : 0 + length (bytes_of (lines x)) ≡ length x = omega (arith, ap length (bytes-lines x)) in
    record {
      channel = w.behind;
      intervals = sym (w.holds u);
      cells = w.cells;
      is =
          ap (λ (ls : Lines). drop e.days (days_from 0 no_channel ls)) (lines-behind begun e x y h)
          ∙ ap (drop e.days) w.is
          ∙ drop_at w.before (days_from (0 + length (bytes_of (lines x))) w.behind (lines y)) e.days c
          ∙ ap (λ (i : ℕ). days_from i w.behind (lines y)) q;
    }

-- the 400s at the head of these lines, where no 400 follows behind them
pub runs-lines : (p : ℕ) (ls m : Lines) → ((q : ℕ) → runs_from q m ≡ []) → runs_from p (onto ls m) ≡ runs_from p ls
unfolding runs_from
runs-lines p (rest t) m h = h p
runs-lines p (line r ls) m h = ap (λ (x : List Row). cond (eqb (kind_in (fields r)) 400) (row_at p r ∷ x) []) (runs-lines (p + length r + 2) ls m h)

-- What the state before a record says of the records before it. Assumes nothing.
use Prim.Native.Nat.{ℕ, zero, suc, ◌+◌, ◌≤◌, ◌<◌}
use mathlib.Core.Path.{◌≡◌, refl, sym, ◌∙◌, subst}
use mathlib.Core.Logic.{◌≢◌, ◌⊎◌, inl, inr}
use mathlib.Core.Bool.{true, false, true≢false, false≢true}
use mathlib.Core.List.{List}
use native.Mathlib.Omega.{arith}
use lib.Dec.{eqb}
use Rattle.ground.proofs.Cases.{by, same_or}
use Rattle.format.specs.Cut.{Lines, line, rest, fields}
use Rattle.format.specs.Records.{kind_in, version_in, date_in}
use Rattle.format.specs.Order.{in_varied, may_come, Due, begun, on100, on200, on300, on400, on500, on250, on550, on900}
use Rattle.format.specs.File.{after}
use Rattle.format.proofs.States.{implied}
use Rattle.passing.proofs.Fit.{Fit, fine-fit, Head, h100, h200, h300, h400, h500, h250, h550, h900, head}
use Rattle.passing.proofs.Steps.{after-100, after-200, after-300, after-400, after-500, after-250, after-550, after-900}
use Rattle.theorems.specs.Places.{past, state_in}
use Rattle.theorems.specs.First.{Clear}
use Rattle.theorems.proofs.Says.{date-most}
use Rattle.theorems.proofs.Told.{fit-300}
use Rattle.theorems.proofs.Links.{none-fine}
use Rattle.theorems.proofs.Sane.{Sane}

-- the last of k + 1 records without a fault, and the state behind it
record LastOf (k : ℕ) (st : Due) (ls : Lines) : Type 0 where
  clear : Clear k st ls
  last : List ℕ
  more : Lines
  is : past k ls ≡ line last more
  fit : Fit (state_in k st ls) last
  state : state_in (suc k) st ls ≡ after (state_in k st ls) last

last_of : (k : ℕ) (st : Due) (ls : Lines) → Clear (suc k) st ls → LastOf k st ls
last_of zero st (line r ls) h = record { clear = tt; last = r; more = ls; is = refl; fit = fine-fit st r (none-fine st r h.1); state = refl }
last_of zero st (rest t) h = absurd h
last_of (suc k) st (line r ls) h =
    let w = last_of k (after st r) ls h.2 in
    record { clear = (h.0, h.1, w.clear); last = w.last; more = w.more; is = w.is; fit = w.fit; state = w.state }
last_of (suc k) st (rest t) h = absurd h

-- ---- a date is that of a 300, with no 200 behind it

pub record TopBefore (k : ℕ) (ls : Lines) (t : ℕ) : Type 0 where
  pub j : ℕ
  pub earlier : j < k
  pub top : List ℕ
  pub more : Lines
  pub is : past j ls ≡ line top more
  pub kind : kind_in (fields top) ≡ 300
  pub date : date_in (fields top) ≡ t
  pub most : t ≤ 21991231
  pub no-200 : (l : ℕ) (r : List ℕ) (m : Lines) → j < l → l < k → past l ls ≡ line r m → kind_in (fields r) ≢ 200

-- one record more, which is no 200
date-on : (k : ℕ) (ls : Lines) (t : ℕ) (r : List ℕ) (more : Lines) → past k ls ≡ line r more → kind_in (fields r) ≢ 200 → TopBefore k ls t → TopBefore (suc k) ls t
date-on k ls t r more e n d =
    let lt : d.j < k = d.earlier in
    record {
      j = d.j;
      earlier = omega arith;
      top = d.top;
      more = d.more;
      is = d.is;
      kind = d.kind;
      date = d.date;
      most = d.most;
      no-200 = λ l s m a b h.
          same_or l k
          (λ z.
          let u : past k ls ≡ line s m = subst (λ (y : ℕ). past y ls ≡ line s m) z h in
          let v : line r more ≡ line s m = sym e ∙ u in
          let w : r ≡ s = cc in
          subst (λ (y : List ℕ). kind_in (fields y) ≢ 200) w n)
          (λ z. d.no-200 l s m a (omega arith) h);
    }

pub top-before : (k : ℕ) (ls : Lines) → Clear k begun ls → ((state_in k begun ls).date ≡ 0) ⊎ TopBefore k ls (state_in k begun ls).date
top-before zero ls h = inl refl
top-before (suc k) ls h = let w = last_of k begun ls h in go w (top-before k ls w.clear) (head (state_in k begun ls).expect (kind_in (fields w.last)) w.fit.may)
  where
    Is : ℕ → Type 0
    Is t = (t ≡ 0) ⊎ TopBefore (suc k) ls t

    st : Due
    st = state_in k begun ls

    to : (a b : Due) → state_in (suc k) begun ls ≡ a → a ≡ b → Is b.date → Is (state_in (suc k) begun ls).date
    to a b e f g = subst (λ (x : Due). Is x.date) (sym (e ∙ f)) g

    same : (w : LastOf k begun ls) → kind_in (fields w.last) ≢ 200 → (st.date ≡ 0) ⊎ TopBefore k ls st.date → Is st.date
    same w n (inl e) = inl e
    same w n (inr d) = inr (date-on k ls st.date w.last w.more w.is n d)

    go : (w : LastOf k begun ls) → (st.date ≡ 0) ⊎ TopBefore k ls st.date → Head st.expect (kind_in (fields w.last)) → Is (state_in (suc k) begun ls).date
    go w d (h100 q z) = to _ (on100 st (fields w.last)) w.state (after-100 st w.last q) (inl refl)
    go w d (h200 q z) = to _ (on200 st (fields w.last)) w.state (after-200 st w.last q) (inl refl)
    go w d (h300 q z) =
        to _ (on300 st (fields w.last)) w.state (after-300 st w.last q)
        (inr (record {
          j = k;
          earlier = omega arith;
          top = w.last;
          more = w.more;
          is = w.is;
          kind = q;
          date = refl;
          most = date-most st.n st.decimals (fields w.last) (fit-300 st w.last w.fit q).0;
          no-200 = λ l r m a b e. absurd (let y : ⊥ = omega arith in y);
        }))
    go w d (h400 q z) = to _ (on400 st (fields w.last)) w.state (after-400 st w.last q) (same w (λ y. omega arith) d)
    go w d (h500 q z) = to _ (on500 st (fields w.last)) w.state (after-500 st w.last q) (same w (λ y. omega arith) d)
    go w d (h250 q z) = to _ (on250 st (fields w.last)) w.state (after-250 st w.last q) (inl refl)
    go w d (h550 q z) = to _ (on550 st (fields w.last)) w.state (after-550 st w.last q) (inl refl)
    go w d (h900 q z) = to _ (on900 st (fields w.last)) w.state (after-900 st w.last q) (inl refl)

-- ---- a cover is completed by a 400

pub record RunBefore (k : ℕ) (ls : Lines) : Type 0 where
  pub j : ℕ
  pub before : k ≡ j + 1
  pub run : List ℕ
  pub more : Lines
  pub is : past j ls ≡ line run more
  pub kind : kind_in (fields run) ≡ 400

-- under a V day whose cover is complete
abbrev FullCover : Due → Type 0
FullCover st = (in_varied st.expect ≡ true) × (st.n < st.next)

pub run-before : (k : ℕ) (ls : Lines) → Clear k begun ls → Sane (state_in k begun ls) → FullCover (state_in k begun ls) → RunBefore k ls
run-before zero ls h s c = absurd (false≢true c.0)
run-before (suc k) ls h s c = let w = last_of k begun ls h in go w (head (state_in k begun ls).expect (kind_in (fields w.last)) w.fit.may)
  where
    st : Due
    st = state_in k begun ls

    -- the state behind the record is whole and sane
    both : (w : LastOf k begun ls) (b : Due) → after st w.last ≡ b → FullCover b × Sane b
    both w b e = let f : state_in (suc k) begun ls ≡ b = w.state ∙ e in (subst FullCover f c, subst Sane f s)

    go : (w : LastOf k begun ls) → Head st.expect (kind_in (fields w.last)) → RunBefore (suc k) ls
    go w (h100 q z) = absurd (true≢false (sym (both w (on100 st (fields w.last)) (after-100 st w.last q)).0.0 ∙ by (eqb (version_in (fields w.last)) 12) (λ t. rw t) (λ t. rw t)))
    go w (h200 q z) = absurd (false≢true (both w (on200 st (fields w.last)) (after-200 st w.last q)).0.0)
    go w (h300 q z) =
        let b : Due = on300 st (fields w.last) in
        let u = both w b (after-300 st w.last q) in
        let m = (u.1.many (implied in_varied (λ y. may_come y 300) refl b.expect u.0.0)).0 in
        let l = u.0.1 in
        absurd (let y : ⊥ = omega arith in y)
    go w (h400 q z) = record { j = k; before = omega arith; run = w.last; more = w.more; is = w.is; kind = q }
    go w (h500 q z) = absurd (false≢true (both w (on500 st (fields w.last)) (after-500 st w.last q)).0.0)
    go w (h250 q z) = absurd (false≢true (both w (on250 st (fields w.last)) (after-250 st w.last q)).0.0)
    go w (h550 q z) = absurd (false≢true (both w (on550 st (fields w.last)) (after-550 st w.last q)).0.0)
    go w (h900 q z) = absurd (false≢true (both w (on900 st (fields w.last)) (after-900 st w.last q)).0.0)

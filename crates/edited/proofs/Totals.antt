-- The totals of a file by the block of one of its days: the total of the last channel before it has the sum of the block's values in it, and no other has
-- anything of it. No 250 stands before a day, so that channel is a 200. Assumes nothing.
use Prim.Native.Nat.{ℕ, zero, suc, ◌+◌, ◌-◌, ◌≤◌}
use mathlib.Core.Path.{◌≡◌, refl, sym, ap, ap₂, ◌∙◌, subst}
use mathlib.Core.Logic.{◌≢◌}
use mathlib.Core.Bool.{Bool, true, false, not, ◌||◌}
use mathlib.Core.List.{List, [], ◌∷◌, ◌++◌}
use native.Mathlib.Omega.{arith}
use lib.ListN.{length, drop}
use lib.Dec.{eqb}
use borrow.Author.Tests.{eqb-true, eqb-false, not-true}
use Rattle.ground.specs.Lists.{all, sum}
use Rattle.ground.proofs.Tests.{and-true}
use Rattle.ground.proofs.Cases.{by, both}
use Rattle.format.specs.Cut.{Lines, line, rest, lines, fields}
use Rattle.format.specs.Records.{kind_in, intervals_in, values_in}
use Rattle.format.specs.Order.{Expected, may_come, Due, begun, after_of}
use Rattle.format.specs.Answers.{Answer, accepted}
use Rattle.format.specs.File.{after, check_of}
use Rattle.format.specs.Day.{no_channel}
use Rattle.format.specs.Total.{sum_from, totals_from, total_first, total_after, total_of}
use Rattle.format.proofs.States.{excluded}
use Rattle.passing.specs.Passes.{Passes, Leads, kinds_of, head_in, are_under, Accepted}
use Rattle.passing.proofs.Fit.{fine-fit, Head, h100, h200, h300, h400, h500, h250, h550, h900, head}
use Rattle.passing.proofs.Files.{onto, lines-behind}
use Rattle.passing.proofs.Blocks.{headed, under_one}

-- ---- no 250 before a day

-- no day may come any more: from a 250 on, and behind the 900
abbrev no_more : Expected → Bool
no_more x = not (may_come x 100 || (may_come x 200 || may_come x 300))

no-more-on : (st : Due) (k : ℕ) (fs : List (List ℕ)) → Head st.expect k → no_more st.expect ≡ true → no_more (after_of st k fs).expect ≡ true
unfolding after_of
no-more-on st k fs (h100 e m) h = excluded no_more (λ x. may_come x 100) refl st.expect h m
no-more-on st k fs (h200 e m) h = excluded no_more (λ x. may_come x 200) refl st.expect h m
no-more-on st k fs (h300 e m) h = excluded no_more (λ x. may_come x 300) refl st.expect h m
no-more-on st k fs (h400 e m) h = excluded no_more (λ x. may_come x 400) refl st.expect h m
no-more-on st k fs (h500 e m) h = excluded no_more (λ x. may_come x 500) refl st.expect h m
no-more-on st k fs (h250 e m) h = rw e
no-more-on st k fs (h550 e m) h = rw e
no-more-on st k fs (h900 e m) h = rw e

no-more : (a e : Due) (ls : Lines) → Passes a ls e → no_more a.expect ≡ true → no_more e.expect ≡ true
no-more a e (rest t) h n = subst (λ (s : Due). no_more s.expect ≡ true) h.1 n
no-more a e (line r ls) h n =
    no-more (after a r) e ls h.1 (no-more-on a (kind_in (fields r)) (fields r) (head _ _ (fine-fit a r h.0).may) n)

-- none of these is a 250
abbrev No250 : Lines → Type 0
No250 ls = all (λ k. not (eqb k 250)) (kinds_of ls) ≡ true

behind-250 : (st : Due) (k : ℕ) (fs : List (List ℕ)) → k ≡ 250 → no_more (after_of st k fs).expect ≡ true
unfolding after_of
behind-250 st k fs e = rw e

no-250 : (a e : Due) (ls : Lines) → Passes a ls e → may_come e.expect 300 ≡ true → No250 ls
no-250 a e (rest t) h m = refl
no-250 a e (line r ls) h m =
    by (eqb (kind_in (fields r)) 250)
    (λ t.
    excluded no_more (λ x. may_come x 300) refl e.expect
    (no-more (after a r) e ls h.1 (behind-250 a (kind_in (fields r)) (fields r) (eqb-true _ _ t))) m)
    (λ t. both (not (eqb (kind_in (fields r)) 250)) (all (λ k. not (eqb k 250)) (kinds_of ls)) (rw t) (no-250 (after a r) e ls h.1 m))

-- ---- lines behind others

-- where no channel stands among the first
record Added (ls m : Lines) : Type 0 where
  totals : totals_from (onto ls m) ≡ totals_from m
  sums : (n : ℕ) → sum_from n (onto ls m) ≡ sum_from n ls + sum_from n m
  head : (fs : List (List ℕ)) → head_in fs ls ≡ fs

added : (ls m : Lines) → length (totals_from ls) ≡ 0 → Added ls m
unfolding totals_from sum_from
added (rest t) m h = record { totals = refl; sums = λ n. omega arith; head = λ fs. refl }
added (line r ls) m h =
    by (eqb (kind_in (fields r)) 200)
    (λ t. absurd (let z : suc (length (totals_from ls)) ≡ 0 = (rw t at h) in let o : ⊥ = omega arith in o))
    (λ t. by (eqb (kind_in (fields r)) 250)
    (λ s. absurd (let z : suc (length (totals_from ls)) ≡ 0 = (rw (t, s) at h) in let o : ⊥ = omega arith in o))
    (λ s.
    let w = added ls m (rw (t, s) at h) in
    record {
      totals = rw (t, s) w.totals;
      sums = λ n.
          by (eqb (kind_in (fields r)) 300)
          (λ u. let i = w.sums n in rw (t, u) (omega arith))
          (λ u. rw (t, u) (w.sums n));
      head = λ fs. rw t (w.head fs);
    }))

-- where one does, what is behind is not of the channel before
sums_kept : (ls m : Lines) → No250 ls → 1 ≤ length (totals_from ls) → (n : ℕ) → sum_from n (onto ls m) ≡ sum_from n ls
unfolding totals_from sum_from
sums_kept (rest t) m k h n = absurd (let z : ⊥ = omega arith in z)
sums_kept (line r ls) m k h n =
    let w = and-true (not (eqb (kind_in (fields r)) 250)) (all (λ k. not (eqb k 250)) (kinds_of ls)) k in
    let s : eqb (kind_in (fields r)) 250 ≡ false = not-true _ w.0 in
    by (eqb (kind_in (fields r)) 200)
    (λ t. rw t)
    (λ t.
    let i = sums_kept ls m w.1 (rw (t, s) at h) n in
    by (eqb (kind_in (fields r)) 300) (λ u. rw (t, u) (ap (λ (x : ℕ). sum (values_in n (fields r)) + x) i)) (λ u. rw (t, u) i))

-- ---- one total for another

-- ts and us are the same but for one total, the last of the first c: x is taken off it and y put on
pub record Swapped (x y c : ℕ) (ts us : List ℕ) : Type 0 where
  pub front : List ℕ
  pub old : ℕ
  pub new : ℕ
  pub back : List ℕ
  pub was : ts ≡ front ++ (old ∷ back)
  pub is : us ≡ front ++ (new ∷ back)
  pub at : length front + 1 ≡ c
  pub moved : new + x ≡ old + y

-- the same total in front of both
swapped-on : (x y c s t t' : ℕ) (ts us : List ℕ) → t ≡ s → t' ≡ s → Swapped x y c ts us → Swapped x y (suc c) (t ∷ ts) (t' ∷ us)
swapped-on x y c s t t' ts us e e' g =
    record {
      front = s ∷ g.front;
      old = g.old;
      new = g.new;
      back = g.back;
      was = ap₂ (λ (i : ℕ) (is : List ℕ). i ∷ is) e g.was;
      is = ap₂ (λ (i : ℕ) (is : List ℕ). i ∷ is) e' g.is;
      at = (let i = g.at in omega arith);
      moved = g.moved;
    }

module _ (x y : ℕ) (m m' : Lines) (e : totals_from m' ≡ totals_from m) where
  -- what x and y are to the sum of the last channel in these lines, fs its 200 where there is none
  abbrev Weighs : List (List ℕ) → Lines → Type 0
  Weighs fs ls = sum_from (intervals_in (head_in fs ls)) m' + x ≡ sum_from (intervals_in (head_in fs ls)) m + y

  abbrev SwappedIn : Lines → Type 0
  SwappedIn ls = Swapped x y (length (totals_from ls)) (totals_from (onto ls m)) (totals_from (onto ls m'))

  -- behind the 200 that is the last channel, of n intervals
  swapped-last : (n : ℕ) (ls : Lines) → length (totals_from ls) ≡ 0 → sum_from n m' + x ≡ sum_from n m + y
      → Swapped x y (suc (length (totals_from ls))) (sum_from n (onto ls m) ∷ totals_from (onto ls m)) (sum_from n (onto ls m') ∷ totals_from (onto ls m'))
  swapped-last n ls l q =
      let a = added ls m l in
      let b = added ls m' l in
      record {
        front = [];
        old = sum_from n (onto ls m);
        new = sum_from n (onto ls m');
        back = totals_from m;
        was = ap (λ (ts : List ℕ). sum_from n (onto ls m) ∷ ts) a.totals;
        is = ap (λ (ts : List ℕ). sum_from n (onto ls m') ∷ ts) (b.totals ∙ e);
        at = omega arith;
        moved = omega (arith, a.sums n, b.sums n, q);
      }

  swapped : (fs : List (List ℕ)) (ls : Lines) → No250 ls → 1 ≤ length (totals_from ls) → Weighs fs ls → SwappedIn ls
  unfolding totals_from
  swapped fs (rest t) k h q = absurd (let z : ⊥ = omega arith in z)
  swapped fs (line r ls) k h q =
      let w = and-true (not (eqb (kind_in (fields r)) 250)) (all (λ k. not (eqb k 250)) (kinds_of ls)) k in
      on (not-true _ w.0) w.1 (λ gs. swapped gs ls w.1)
    where
      n : ℕ
      n = intervals_in (fields r)

      on-200 : No250 ls → Weighs (fields r) ls → (1 ≤ length (totals_from ls) → Weighs (fields r) ls → SwappedIn ls)
          → Swapped x y (suc (length (totals_from ls))) (sum_from n (onto ls m) ∷ totals_from (onto ls m)) (sum_from n (onto ls m') ∷ totals_from (onto ls m'))
      on-200 j z g =
          by (eqb (length (totals_from ls)) 0)
          (λ i.
          let l : length (totals_from ls) ≡ 0 = eqb-true _ _ i in
          swapped-last n ls l (subst (λ (gs : List (List ℕ)). sum_from (intervals_in gs) m' + x ≡ sum_from (intervals_in gs) m + y) ((added ls m l).head (fields r)) z))
          (λ i.
          let l : 1 ≤ length (totals_from ls) = (let o : length (totals_from ls) ≡ 0 → ⊥ = eqb-false _ _ i in omega arith) in
          swapped-on x y (length (totals_from ls)) (sum_from n ls) (sum_from n (onto ls m)) (sum_from n (onto ls m')) (totals_from (onto ls m)) (totals_from (onto ls m'))
          (sums_kept ls m j l n) (sums_kept ls m' j l n) (g l z))

      on : eqb (kind_in (fields r)) 250 ≡ false → No250 ls → ((gs : List (List ℕ)) → 1 ≤ length (totals_from ls) → Weighs gs ls → SwappedIn ls) → SwappedIn (line r ls)
      on s j g =
          by (eqb (kind_in (fields r)) 200)
          (λ t. rw t (on-200 j (rw t at q) (g (fields r))))
          (λ t. rw (t, s) (g fs (rw (t, s) at h) (rw t at q)))

-- ---- a block

under-sums : (ls : Lines) → are_under (kinds_of ls) ≡ true → (length (totals_from ls) ≡ 0) × ((n : ℕ) → sum_from n ls ≡ 0)
unfolding totals_from sum_from
under-sums (rest t) b = (refl, λ n. refl)
under-sums (line r ls) b =
    let w = and-true (eqb (kind_in (fields r)) 400 || eqb (kind_in (fields r)) 500) (are_under (kinds_of ls)) b in
    let i = under-sums ls w.1 in
    under_one (kind_in (fields r)) w.0 (λ k. rw k i) (λ k. rw k i)

module _ (st : Due) (b : List ℕ) (a : Accepted st b) (m : Lines) where
  block-added : Added (lines b) m
  unfolding totals_from
  block-added =
      let w = headed st b a in
      added (lines b) m (ap (λ (ls : Lines). length (totals_from ls)) w.is ∙ rw w.kind (under-sums w.others w.under).0)

  -- what the block has in the sum of a channel of n intervals
  block-sum : (n : ℕ) → sum_from n (onto (lines b) m) ≡ sum (values_in n (fields (headed st b a).first)) + sum_from n m
  unfolding sum_from
  block-sum n =
      let w = headed st b a in
      let i = (under-sums w.others w.under).1 n in
      let s : sum_from n (line w.first w.others) ≡ sum (values_in n (fields w.first)) = rw w.kind (omega arith) in
      block-added.sums n ∙ ap (λ (x : ℕ). x + sum_from n m) (ap (sum_from n) w.is ∙ s)

-- ---- two files

module _ (before old new behind : List ℕ) (st : Due) (h : Leads before st) (m : may_come st.expect 300 ≡ true) (some : 1 ≤ length (totals_from (lines before)))
    (a : Accepted st old) (b : Accepted st new) where
  abbrev last_n : ℕ
  last_n = intervals_in (head_in no_channel.cells (lines before))

  cut-there : (x : List ℕ) (e : Due) → Passes st (lines x) e → lines (before ++ (x ++ behind)) ≡ onto (lines before) (onto (lines x) (lines behind))
  cut-there x e p = lines-behind begun st before (x ++ behind) h ∙ ap (onto (lines before)) (lines-behind st e x behind p)

  pub totals-swapped : Swapped (sum (values_in last_n (fields (headed st old a).first))) (sum (values_in last_n (fields (headed st new b).first))) (length (totals_from (lines before)))
      (totals_from (lines (before ++ (old ++ behind)))) (totals_from (lines (before ++ (new ++ behind))))
  totals-swapped =
      let x : ℕ = sum (values_in last_n (fields (headed st old a).first)) in
      let y : ℕ = sum (values_in last_n (fields (headed st new b).first)) in
      let i = block-sum st old a (lines behind) last_n in
      let j = block-sum st new b (lines behind) last_n in
      rw (cut-there old a.end a.passes, cut-there new b.end b.passes)
      (swapped x y (onto (lines old) (lines behind)) (onto (lines new) (lines behind)) ((block-added st new b (lines behind)).totals ∙ sym (block-added st old a (lines behind)).totals)
      no_channel.cells (lines before) (no-250 begun st (lines before) h m) some (omega arith))

-- ---- what a call for a total answers

pub total_first_lem : (file xs : List ℕ) (c : ℕ) → check_of file ≡ accepted xs → total_of file c ≡ total_first (drop c (totals_from (lines file)))
unfolding total_of
total_first_lem file xs c e = ap (λ (x : Answer). total_after x (total_first (drop c (totals_from (lines file))))) e

-- a total of others
pub other-first : (j : ℕ) (front : List ℕ) (x y : ℕ) (back : List ℕ) → j ≢ length front → total_first (drop j (front ++ (x ∷ back))) ≡ total_first (drop j (front ++ (y ∷ back)))
other-first zero [] x y back n = absurd (n refl)
other-first (suc j) [] x y back n = refl
other-first zero (t ∷ front) x y back n = refl
other-first (suc j) (t ∷ front) x y back n = other-first j front x y back (λ z. n (ap suc z))

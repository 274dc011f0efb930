-- Which kinds of records may stand where a record is refused, in a file that is in the format. Assumes nothing.
use Prim.Native.Nat.{ℕ, ◌+◌, ◌≤◌, ◌<◌}
use mathlib.Core.Path.{◌≡◌, refl, sym, ap, ◌∙◌, subst}
use mathlib.Core.Logic.{◌≢◌, ◌⊎◌, inl, inr}
use mathlib.Core.Bool.{Bool, true, false, true≢false, not, ◌&&◌}
use mathlib.Core.List.{List, [], ◌∷◌, ◌++◌, append_assoc}
use native.Mathlib.Omega.{arith}
use lib.ListN.{length}
use lib.Dec.{eqb, leb, ltb}
use borrow.Author.Tests.{eqb-true, eqb-false, leb-true, leb-false, ltb-true, ltb-false, not-true}
use Rattle.ground.proofs.Tests.{and-true}
use Rattle.ground.proofs.Cases.{by, same_or}
use Rattle.format.specs.Cut.{line, rest, lines, fields}
use Rattle.format.specs.Records.{kind_in}
use Rattle.format.specs.Order.{may_come, in_varied, Due, begun}
use Rattle.format.specs.Faults.{scale_of, fault_of, Stop}
use Rattle.format.specs.Answers.{refused}
use Rattle.format.specs.File.{walk_of, check_of}
use Rattle.format.proofs.States.{implied}
use Rattle.passing.proofs.Fit.{Fit, fit-cover, free_of, Head, h100, h200, h300, h400, h500, h250, h550, h900, head}
use Rattle.passing.proofs.Walk.{goes}
use Rattle.passing.proofs.Files.{lines-row}
use Rattle.theorems.specs.Grammar.{join, text, InFormatUpTo}
use Rattle.theorems.specs.Places.{place_of, past, state_in, state_at}
use Rattle.theorems.specs.First.{Entry, entry3, entry10, entry4, entry5, entry6, entry7, entry8, entry9, entry11, entry12, in_order, Never, First}
use Rattle.theorems.specs.Beginnings.{MayFollow, KindMayFollow, bytes_before, HasRecord, LastDate, CoverDone, NoneLeft}
use Rattle.theorems.proofs.Cuts.{AllUncut, all-uncut, lines-again, lines_cut}
use Rattle.theorems.proofs.Says.{date-most}
use Rattle.theorems.proofs.Takes.{fields-of, takes-file}
use Rattle.theorems.proofs.Told.{fit-300}
use Rattle.theorems.proofs.Links.{fault-first}
use Rattle.theorems.proofs.Reach.{Why, unfinished, faulty, trailing, Refusal, refusal-of}
use Rattle.theorems.proofs.Sane.{sane-at}
use Rattle.theorems.proofs.Traces.{TopBefore, top-before, run-before}
use Rattle.theorems.proofs.Closing.{Comes, NoneOpen, with-900, with-500, with-300, with-400, with-550, with-250, with-200, with-100, other-comes}
use Rattle.theorems.proofs.Viable.{format-there}

-- a record that may follow there is fit
fit-there : (file : List ℕ) (x q k i : ℕ) → Refusal file x q k i → (r : List ℕ) → MayFollow (bytes_before k file) r → Fit (state_at k file) r
fit-there file x q k i w r m =
    let more : List ℕ = m.1.0 in
    let u : AllUncut (line r (rest [])) = subst AllUncut m.0 (all-uncut (r ++ 13 ∷ 10 ∷ [])) in
    let t = takes-file _ _ _ _ _ m.1.5 in
    let a : (bytes_before k file ++ (r ++ 13 ∷ 10 ∷ [])) ++ more ≡ bytes_before k file ++ (r ++ 13 ∷ 10 ∷ more) =
    append_assoc (bytes_before k file) (r ++ 13 ∷ 10 ∷ []) more ∙ ap (λ (l : List ℕ). bytes_before k file ++ l) (append_assoc r (13 ∷ 10 ∷ []) more) in
    let e : walk_of begun 0 0 (lines ((bytes_before k file ++ (r ++ 13 ∷ 10 ∷ [])) ++ more)) ≡ walk_of (state_at k file) (place_of k file) k (line r (lines more)) =
    ap (λ (l : List ℕ). walk_of begun 0 0 (lines l)) a
    ∙ ap (walk_of begun 0 0) (lines_cut k file (r ++ 13 ∷ 10 ∷ more) w.has)
    ∙ w.same (lines (r ++ 13 ∷ 10 ∷ more))
    ∙ ap (walk_of (state_at k file) (place_of k file) k) (lines-again r more u.0) in
    (goes (state_at k file) (place_of k file) k r (lines more) _ (sym e ∙ t)).fit

-- ---- the entry that is given

-- an entry with another number was asked before, and is not given
asked : (x o i : ℕ) (c : Entry) (cs : List Entry) → (x ≡ c.number → ⊥) → First x o i (c ∷ cs) → Never c × First x o i cs
asked x o i c cs n (inl w) = absurd (n w.0)
asked x o i c cs n (inr w) = w

-- none of the entries has the number
abbrev lacks : ℕ → List Entry → Bool
lacks x [] = true
lacks x (c ∷ cs) = not (eqb x c.number) && lacks x cs

lacks-none : (x o i : ℕ) (cs : List Entry) → lacks x cs ≡ true → First x o i cs → ⊥
lacks-none x o i [] l f = f
lacks-none x o i (c ∷ cs) l (inl w) = eqb-false x c.number (not-true _ (and-true (not (eqb x c.number)) (lacks x cs) l).0) w.0
lacks-none x o i (c ∷ cs) l (inr w) = lacks-none x o i cs (and-true (not (eqb x c.number)) (lacks x cs) l).1 w.1

given-here : (x o i : ℕ) (c : Entry) (cs : List Entry) → lacks x cs ≡ true → First x o i (c ∷ cs) → c.given o i
given-here x o i c cs l (inl w) = w.1
given-here x o i c cs l (inr w) = absurd (lacks-none x o i cs l w.1)

-- the entries 10 and 4 of a record, and those from 5 on
module _ (st : Due) (r : List ℕ) where
  abbrev entries5 : List Entry
  entries5 =
      let fs = fields r in
      let k = kind_in fs in
      let z = scale_of st k fs in
      entry5 st k z fs ∷ entry6 st k z fs ∷ entry7 st k z fs ∷ entry8 st k z fs ∷ entry9 st k z fs ∷ entry11 st k z fs ∷ entry12 st k z fs ∷ []

  abbrev asks4 : Entry
  asks4 = entry4 st (kind_in (fields r)) (scale_of st (kind_in (fields r)) (fields r)) (fields r)

  abbrev asks10 : Entry
  asks10 = entry10 st (kind_in (fields r)) (scale_of st (kind_in (fields r)) (fields r)) (fields r)

  later-10 : (x o i : ℕ) → x ≢ 3 → x ≢ 10 → First x o i (in_order st r) → Never asks10 × First x o i (asks4 ∷ entries5)
  later-10 x o i n₃ n f = asked x o i asks10 (asks4 ∷ entries5) n (asked x o i (entry3 r) (asks10 ∷ asks4 ∷ entries5) n₃ f).1

  first-4 : (o i : ℕ) → First 4 o i (in_order st r) → may_come st.expect (kind_in (fields r)) ≡ false
  first-4 o i f =
      (given-here 4 o i asks4 entries5 refl (later-10 4 o i (λ z. omega arith) (λ z. omega arith) f).1).0

  first-10 : (o i : ℕ) → First 10 o i (in_order st r) → (in_varied st.expect ≡ true) × (st.next ≤ st.n) × (kind_in (fields r) ≢ 400)
  first-10 o i f =
      let g = (asked 10 o i (entry3 r) (asks10 ∷ asks4 ∷ entries5) (λ (z : 10 ≡ 3). omega arith) f).1 in
      let h = given-here 10 o i asks10 (asks4 ∷ entries5) refl g in
      (h.0, h.1, h.2)

  -- where neither 10 nor 4 is given
  never-4 : Never asks4 → may_come st.expect (kind_in (fields r)) ≡ true
  never-4 g = by (may_come st.expect (kind_in (fields r))) (λ t. t) (λ t. absurd (g 0 0 (t, refl, refl)))

  never-10 : Never asks10 → kind_in (fields r) ≢ 400 → NoneOpen st
  never-10 g n x = by (leb st.next st.n) (λ t. absurd (g 0 0 (x, leb-true _ _ t, n, refl, refl))) (λ t. leb-false _ _ t)

-- the record that is refused, with the entry that is given first
first-there : (file : List ℕ) (x q k i : ℕ) → 3 ≤ x → x ≤ 12 → Refusal file x q k i → (r : List ℕ) → HasRecord k file r → (o : ℕ) × First x o i (in_order (state_at k file) r)
first-there file x q k i lo hi w r h = go w.why
  where
    go : Why (state_at k file) (place_of k file) (past k (lines file)) x q i → (o : ℕ) × First x o i (in_order (state_at k file) r)
    go (unfinished t a o b d f) = absurd (let y : ⊥ = omega arith in y)
    go (faulty s more o a n b d) =
        let z : line s more ≡ line r h.0 = sym a ∙ h.1 in
        let y : s ≡ r = cc in
        (o, fault-first (state_at k file) r x o i (subst (λ (l : List ℕ). fault_of (state_at k file) l ≡ Stop x o i) y b))
    go (trailing a b d f g) = absurd (let y : ⊥ = omega arith in y)

-- a record that comes there, and others behind it
kind-there : (file : List ℕ) (x q k i : ℕ) → Refusal file x q k i → (n : ℕ) → Comes (state_at k file) n → KindMayFollow (bytes_before k file) n
unfolding lines text
kind-there file x q k i w n c =
    let s : List ℕ = bytes_before k file in
    let r : List ℕ = join c.first in
    let f = fields-of c.first c.clean in
    let m : ℕ = length (s ++ text (c.first ∷ c.rows)) in
    let a : s ++ text (c.first ∷ c.rows) ≡ (s ++ (r ++ 13 ∷ 10 ∷ [])) ++ text c.rows =
    sym (append_assoc s (r ++ 13 ∷ 10 ∷ []) (text c.rows) ∙ ap (λ (l : List ℕ). s ++ l) (append_assoc r (13 ∷ 10 ∷ []) (text c.rows))) in (
      r,
      ap kind_in f.0 ∙ c.kind,
      (
        lines-row r [] f.1,
        (
          text c.rows,
          m,
          c.version,
          c.channels,
          c.days,
          subst (λ (l : List ℕ). InFormatUpTo m l c.version c.channels c.days) a
              (format-there file x q k i w (c.first ∷ c.rows) c.version c.channels c.days c.takes),
        ),
      ),
    )

-- ---- the theorems

module _ (file : List ℕ) (q k i : ℕ) where
  -- where record k is refused with 4, no record of its kind may follow the bytes before it in any file that is in the format
  pub none-of-that-kind : check_of file ≡ refused 4 q k i → (r : List ℕ) → HasRecord k file r → KindMayFollow (bytes_before k file) (kind_in (fields r)) → ⊥
  none-of-that-kind e r h m =
      let w = (refusal-of file 4 q k i e (λ (z : 4 ≡ 1). omega arith)).1 in
      let f = first-there file 4 q k i (omega arith) (omega arith) w r h in
      let n : may_come (state_at k file).expect (kind_in (fields r)) ≡ false = first-4 (state_at k file) r f.0 i f.1 in
      let y : may_come (state_at k file).expect (kind_in (fields r)) ≡ true = rw m.1 at (fit-there file 4 q k i w m.0 m.2).may in
      true≢false (sym y ∙ n)

  -- where it is refused with 10, it is no 400, and only a 400 may follow
  pub only-a-400 : check_of file ≡ refused 10 q k i → (r : List ℕ) → HasRecord k file r
      → (kind_in (fields r) ≢ 400) × ((n : ℕ) → KindMayFollow (bytes_before k file) n → n ≡ 400)
  only-a-400 e r h =
      let st : Due = state_at k file in
      let w = (refusal-of file 10 q k i e (λ (z : 10 ≡ 1). omega arith)).1 in
      let f = first-there file 10 q k i (omega arith) (omega arith) w r h in
      let g = first-10 st r f.0 i f.1 in (
        g.2,
        λ n m.
            (let t = fit-there file 10 q k i w m.0 m.2 in
            by (eqb (kind_in (fields m.0)) 400)
            (λ z. sym m.1 ∙ eqb-true _ _ z)
            (λ z. absurd (let y : st.n < st.next = free_of st (kind_in (fields m.0)) t.free (eqb-false _ _ z) g.0 in let u = g.1 in let v : ⊥ = omega arith in v))),
      )

-- where no record of the kind is left
module _ (file : List ℕ) (x q k i : ℕ) (w : Refusal file x q k i) where
  none-later : 21991231 ≤ (state_at k file).date → KindMayFollow (bytes_before k file) 300 → ⊥
  none-later l m =
      let st : Due = state_at k file in
      let f = fit-there file x q k i w m.0 m.2 in
      let a = fit-300 st m.0 f m.1 in
      omega (arith, a.1, date-most st.n st.decimals (fields m.0) a.0)

  none-covers : (state_at k file).n < (state_at k file).next → KindMayFollow (bytes_before k file) 400 → ⊥
  none-covers l m =
      let c = fit-cover (state_at k file) m.0 (fit-there file x q k i w m.0 m.2) m.1 in
      omega (arith, c.0, c.1, c.2)

  last-date : ((state_at k file).date < 21991231 → ⊥) → LastDate k file
  unfolding state_at
  last-date n = go (top-before k (lines file) w.clear)
    where
      go : ((state_in k begun (lines file)).date ≡ 0) ⊎ TopBefore k (lines file) (state_in k begun (lines file)).date → LastDate k file
      go (inl e) = absurd (n (omega arith))
      go (inr d) =
          record {
            j = d.j;
            earlier = d.earlier;
            top = d.top;
            is = (d.more, d.is);
            kind = d.kind;
            date =
                same_or (state_in k begun (lines file)).date 21991231
                (λ z. d.date ∙ z)
                (λ z. absurd (n (let y = d.most in omega arith)));
            no-200 = λ l r a b h. d.no-200 l r h.0 a b h.1;
          }

  cover-done : in_varied (state_at k file).expect ≡ true → (state_at k file).n < (state_at k file).next → CoverDone k file
  unfolding state_at
  cover-done v l =
      let st : Due = state_at k file in
      let b = run-before k (lines file) w.clear (sane-at k file w.clear) (v, l) in
      record {
        j = b.j;
        before = b.before;
        run = b.run;
        is = (b.more, b.is);
        kind = b.kind;
        ends = kind-there file x q k i w 900 (with-900 st (implied in_varied (λ y. may_come y 900) refl st.expect v) (λ z. l));
      }

module _ (file : List ℕ) (x q k i : ℕ) (e : check_of file ≡ refused x q k i) where
  -- where record k is refused with another number from 5 on, some record of its kind may follow; but for a 300 behind a day of the last date that there is, and for a
  -- 400 behind a complete cover
  pub some-of-that-kind : 5 ≤ x → x ≤ 12 → x ≢ 10 → (r : List ℕ) → HasRecord k file r
      → KindMayFollow (bytes_before k file) (kind_in (fields r)) ⊎ NoneLeft (kind_in (fields r)) k file
  some-of-that-kind lo hi ne r h =
      let w = (refusal-of file x q k i e (λ z. omega arith)).1 in
      let f = first-there file x q k i (omega arith) hi w r h in
      let g = later-10 (state_at k file) r x f.0 i (λ z. omega arith) ne f.1 in
      let m = asked x f.0 i (asks4 (state_at k file) r) (entries5 (state_at k file) r) (λ (z : x ≡ 4). omega arith) g.1 in
      go w (never-10 (state_at k file) r g.0) (head (state_at k file).expect (kind_in (fields r)) (never-4 (state_at k file) r m.0))
    where
      st : Due
      st = state_at k file

      Found : ℕ → Type 0
      Found n = KindMayFollow (bytes_before k file) n ⊎ NoneLeft n k file

      shown : Refusal file x q k i → (n : ℕ) → kind_in (fields r) ≡ n → Comes st n → Found (kind_in (fields r))
      shown w n u c = subst Found (sym u) (inl (kind-there file x q k i w n c))

      go : Refusal file x q k i → (kind_in (fields r) ≢ 400 → NoneOpen st) → Head st.expect (kind_in (fields r)) → Found (kind_in (fields r))
      go w c (h100 u z) = shown w 100 u (with-100 st z)
      go w c (h200 u z) = shown w 200 u (with-200 st z (c (λ y. omega arith)))
      go w c (h300 u z) =
          by (ltb st.date 21991231)
          (λ t. shown w 300 u (with-300 st z (c (λ y. omega arith)) (ltb-true _ _ t)))
          (λ t.
          let v : 21991231 ≤ st.date = ltb-false _ _ t in
          subst Found (sym u) (inr (none-later file x q k i w v, inl (refl, last-date file x q k i w (λ y. omega arith)))))
      go w c (h400 u z) =
          by (leb st.next st.n)
          (λ t. shown w 400 u (with-400 st (sane-at k file w.clear) z (leb-true _ _ t)))
          (λ t.
          let v : st.n < st.next = leb-false _ _ t in
          subst Found (sym u) (inr (none-covers file x q k i w v, inr (refl, cover-done file x q k i w z v))))
      go w c (h500 u z) = shown w 500 u (with-500 st z (c (λ y. omega arith)))
      go w c (h250 u z) = shown w 250 u (with-250 st z)
      go w c (h550 u z) = shown w 550 u (with-550 st z)
      go w c (h900 u z) = shown w 900 u (with-900 st z (c (λ y. omega arith)))

-- and where it is refused with 4, some other record than a 400 may follow
pub not-only-a-400 : (file : List ℕ) (q k i : ℕ) → check_of file ≡ refused 4 q k i → (n : ℕ) × (n ≢ 400) × KindMayFollow (bytes_before k file) n
not-only-a-400 file q k i e =
    let w = (refusal-of file 4 q k i e (λ (z : 4 ≡ 1). omega arith)).1 in
    go w w.why
  where
    go : Refusal file 4 q k i → Why (state_at k file) (place_of k file) (past k (lines file)) 4 q i → (n : ℕ) × (n ≢ 400) × KindMayFollow (bytes_before k file) n
    go w (unfinished t a o b d f) = absurd (let y : ⊥ = omega arith in y)
    go w (faulty r more o a n b d) =
        let st : Due = state_at k file in
        let f = fault-first st r 4 o i b in
        let m : may_come st.expect (kind_in (fields r)) ≡ false = first-4 st r o i f in
        let g = later-10 st r 4 o i (λ z. omega arith) (λ z. omega arith) f in
        let c : NoneOpen st = λ v. never-10 st r g.0 (λ z. true≢false (let y : may_come st.expect 400 ≡ false = (rw z at m) in sym v ∙ y)) v in
        let u = other-comes st (sane-at k file w.clear) n c in
        (u.0, u.1, kind-there file 4 q k i w u.0 u.2)
    go w (trailing a b d f g) = absurd (let y : ⊥ = omega arith in y)

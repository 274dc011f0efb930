-- A refusal other than 1 is that of one record, which the walk reaches through the records before it: where it starts, in which state, and why it is refused there.
-- From that the first-fault theorems follow: what stands before the record is only not finished, and what stands behind it plays no part. Assumes nothing.
use Prim.Native.Nat.{ℕ, suc, ◌+◌, ◌≤◌}
use mathlib.Core.Path.{◌≡◌, refl, sym, ap, ◌∙◌, subst}
use mathlib.Core.Bool.{true, false, true≢false}
use mathlib.Core.List.{List, [], ◌∷◌, ◌++◌, append-nil}
use native.Mathlib.Omega.{arith}
use native.Mathlib.Numerals.{add-one}
use lib.ListN.{length, take, drop, length-append, length-take, take-append-drop}
use lib.Dec.{eqb}
use borrow.Author.Tests.{eqb-false}
use Rattle.ground.proofs.Cases.{same_or, by}
use Rattle.format.specs.Cut.{Lines, line, rest, lines}
use Rattle.format.specs.Order.{is_end, Due, begun}
use Rattle.format.specs.Faults.{fault_of, Fault, Fine, Stop}
use Rattle.format.specs.Answers.{Answer, accepted, refused}
use Rattle.format.specs.File.{after, or_go_on, walk_of, check_of}
use Rattle.format.proofs.Cut.{bytes_of}
use Rattle.passing.proofs.Walk.{walk-of, of-walk}
use Rattle.theorems.specs.First.{Clear}
use Rattle.theorems.specs.Places.{place_in, place_of, past, state_in, state_at}
use Rattle.theorems.proofs.Cuts.{Has, keep, lines_cut, has-next, keep-next}
use Rattle.theorems.proofs.Links.{fine-none, fault-number}

-- why a record is refused with x at q and field i, where it would start at p in the state st, and ls are the lines from there on
pub data Why (st : Due) (p : ℕ) (ls : Lines) (x q i : ℕ) : Type 0 where
  unfinished : (t : List ℕ) → ls ≡ rest t → is_end st.expect ≡ false → x ≡ 2 → q ≡ p → i ≡ 0 → Why st p ls x q i
  faulty : (r : List ℕ) (more : Lines) (o : ℕ) → ls ≡ line r more → is_end st.expect ≡ false → fault_of st r ≡ Stop x o i → q ≡ p + o → Why st p ls x q i
  trailing : is_end st.expect ≡ true → 1 ≤ length (bytes_of ls) → x ≡ 13 → q ≡ p → i ≡ 0 → Why st p ls x q i

-- record k, the j-th from here, is reached, and the answer comes from there, whatever its lines are
record Reached (st : Due) (p a : ℕ) (ls : Lines) (x q k i : ℕ) : Type 0 where
  j : ℕ
  number : k ≡ a + j
  has : Has j ls
  clear : Clear j st ls
  same : (m : Lines) → walk_of st p a (keep j ls m) ≡ walk_of (state_in j st ls) (p + place_in j ls) k m
  why : Why (state_in j st ls) (p + place_in j ls) (past j ls) x q i

-- the record that is next is the refused one
here : (ls : Lines) (st : Due) (p a x q k i : ℕ) → k ≡ a → Why st p ls x q i → Reached st p a ls x q k i
here ls st p a x q k i e w =
    let z : p ≡ p + 0 = omega arith in
    record {
      j = 0;
      number = omega arith;
      has = tt;
      clear = tt;
      same = λ m. rw (← z, e);
      why = subst (λ (y : ℕ). Why st y ls x q i) z w;
    }

-- one record on
further : (r : List ℕ) (ls : Lines) (st : Due) (p a x q k i : ℕ) → is_end st.expect ≡ false → fault_of st r ≡ Fine
    → Reached (after st r) (p + length r + 2) (a + 1) ls x q k i → Reached st p a (line r ls) x q k i
unfolding walk_of
further r ls st p a x q k i o e w =
    let z : p + length r + 2 + place_in w.j ls ≡ p + (length r + (2 + place_in w.j ls)) = omega arith in
    record {
      j = suc w.j;
      number = omega (arith, w.number);
      has = w.has;
      clear = (o, fine-none st r e, w.clear);
      same = λ m. rw (o, e, ← z) (w.same m);
      why = subst (λ (y : ℕ). Why (state_in w.j (after st r) ls) y (past w.j ls) x q i) z w.why;
    }

reached : (ls : Lines) (st : Due) (p a x q k i : ℕ) → walk_of st p a ls ≡ refused x q k i → Reached st p a ls x q k i
unfolding walk_of
reached (rest t) st p a x q k i e =
    by (is_end st.expect)
    (λ s. by (eqb (length t) 0)
    (λ b. absurd (let y : accepted (st.version ∷ st.channels ∷ st.days ∷ []) ≡ refused x q k i = (rw (s, b) at e) in let z : true ≡ false = cc in true≢false z))
    (λ b.
    let y : refused 13 p a 0 ≡ refused x q k i = rw (s, b) at e in
    let n : length t ≡ 0 → ⊥ = eqb-false _ _ b in
    here (rest t) st p a x q k i (let z : k ≡ a = cc in z) (trailing s (omega arith) (let z : x ≡ 13 = cc in z) (let z : q ≡ p = cc in z) (let z : i ≡ 0 = cc in z))))
    (λ s.
    let y : refused 2 p a 0 ≡ refused x q k i = rw s at e in
    here (rest t) st p a x q k i (let z : k ≡ a = cc in z) (unfinished t refl s (let z : x ≡ 2 = cc in z) (let z : q ≡ p = cc in z) (let z : i ≡ 0 = cc in z)))
reached (line r ls) st p a x q k i e =
    by (is_end st.expect)
    (λ s.
    let y : refused 13 p a 0 ≡ refused x q k i = rw s at e in
    here (line r ls) st p a x q k i (let z : k ≡ a = cc in z)
    (trailing s (omega (arith, length-append r (13 ∷ 10 ∷ bytes_of ls))) (let z : x ≡ 13 = cc in z) (let z : q ≡ p = cc in z) (let z : i ≡ 0 = cc in z)))
    (λ s. go s (fault_of st r) refl (rw s at e) (λ h. reached ls (after st r) (p + length r + 2) (a + 1) x q k i h))
  where
    go : is_end st.expect ≡ false → (g : Fault) → fault_of st r ≡ g
        → or_go_on p a (fault_of st r) (walk_of (after st r) (p + length r + 2) (a + 1) ls) ≡ refused x q k i
        → (walk_of (after st r) (p + length r + 2) (a + 1) ls ≡ refused x q k i → Reached (after st r) (p + length r + 2) (a + 1) ls x q k i)
        → Reached st p a (line r ls) x q k i
    go s Fine w h ih = further r ls st p a x q k i s w (ih (rw w at h))
    go s (Stop y o f) w h ih =
        let z : refused y (p + o) a f ≡ refused x q k i = rw w at h in
        let ex : y ≡ x = cc in
        let ef : f ≡ i = cc in
        here (line r ls) st p a x q k i (let u : k ≡ a = cc in u)
        (faulty r ls o refl s (w ∙ rw (ex, ef)) (let u : q ≡ p + o = cc in u))

-- ---- the same of a whole file, by the record's number

pub record Refusal (file : List ℕ) (x q k i : ℕ) : Type 0 where
  pub has : Has k (lines file)
  pub clear : Clear k begun (lines file)
  pub same : (m : Lines) → walk_of begun 0 0 (keep k (lines file) m) ≡ walk_of (state_at k file) (place_of k file) k m
  pub why : Why (state_at k file) (place_of k file) (past k (lines file)) x q i

of_number : (file : List ℕ) (x q k i j : ℕ) → j ≡ k → Has j (lines file) → Clear j begun (lines file)
    → ((m : Lines) → walk_of begun 0 0 (keep j (lines file) m) ≡ walk_of (state_in j begun (lines file)) (0 + place_in j (lines file)) k m)
    → Why (state_in j begun (lines file)) (0 + place_in j (lines file)) (past j (lines file)) x q i → Refusal file x q k i
unfolding place_of state_at
of_number file x q k i j e h c s w =
    let z : 0 + place_in k (lines file) ≡ place_in k (lines file) = omega arith in
    record {
      has = subst (λ (y : ℕ). Has y (lines file)) e h;
      clear = subst (λ (y : ℕ). Clear y begun (lines file)) e c;
      same = λ m. (let t : walk_of begun 0 0 (keep k (lines file) m) ≡ walk_of (state_in k begun (lines file)) (0 + place_in k (lines file)) k m = (rw e at (s m)) in rw z at t);
      why = (let t : Why (state_in k begun (lines file)) (0 + place_in k (lines file)) (past k (lines file)) x q i = (rw e at w) in rw z at t);
    }

pub refusal-in : (file : List ℕ) (x q k i : ℕ) → walk_of begun 0 0 (lines file) ≡ refused x q k i → Refusal file x q k i
refusal-in file x q k i e =
    let w = reached (lines file) begun 0 0 x q k i e in
    of_number file x q k i w.j (let z : w.j ≡ k = omega (arith, w.number) in z) w.has w.clear w.same w.why

-- what a refusal of the check other than 1 says
pub refusal-of : (file : List ℕ) (x q k i : ℕ) → check_of file ≡ refused x q k i → (x ≡ 1 → ⊥) → (length file ≤ 1048576) × Refusal file x q k i
refusal-of file x q k i e n =
    let c = walk-of file (refused x q k i) e (λ z. n (let y : x ≡ 1 = cc in y)) in
    (c.0, refusal-in file x q k i c.1)

why-number : (st : Due) (p : ℕ) (ls : Lines) (x q i : ℕ) → Why st p ls x q i → x ≤ 13
why-number st p ls x q i (unfinished t l s e f g) = omega arith
why-number st p ls x q i (faulty r more o l s e f) = omega (arith, fault-number st r x o i e)
why-number st p ls x q i (trailing s b e f g) = omega arith

-- a check refuses with no number above 13
pub check-number : (file : List ℕ) (x q k i : ℕ) → check_of file ≡ refused x q k i → x ≤ 13
check-number file x q k i e =
    same_or x 1 (λ z. omega arith)
    (λ z. why-number (state_at k file) (place_of k file) (past k (lines file)) x q i (refusal-of file x q k i e z).1.why)

-- ---- prefix

-- the file that ends where record k starts
module _ (file : List ℕ) (k : ℕ) (h : Has k (lines file)) (s : (m : Lines) → walk_of begun 0 0 (keep k (lines file) m) ≡ walk_of (state_at k file) (place_of k file) k m)
    (l : length file ≤ 1048576) where
  cut-there : (a : Answer) → walk_of (state_at k file) (place_of k file) k (rest []) ≡ a → check_of (take (place_of k file) file) ≡ a
  unfolding lines
  cut-there a e =
      let c : lines (take (place_of k file) file ++ []) ≡ keep k (lines file) (rest []) = lines_cut k file [] h in
      let d : lines (take (place_of k file) file) ≡ keep k (lines file) (rest []) = rw (append-nil (take (place_of k file) file)) at c in
      of-walk (take (place_of k file) file) a (omega (arith, length-take (place_of k file) file)) (rw (d, s (rest [])) e)

module _ (file : List ℕ) (x q k i : ℕ) (e : check_of file ≡ refused x q k i) where
  there : (x ≡ 1 → ⊥) → (length file ≤ 1048576) × Refusal file x q k i
  there n = refusal-of file x q k i e n

  -- where the check refuses at record k, the bytes before it alone are refused with 2 at its start
  pub prefix : 2 ≤ x → x ≤ 12 → check_of (take (place_of k file) file) ≡ refused 2 (place_of k file) k 0
  unfolding walk_of
  prefix lo hi = let c = there (λ z. omega arith) in cut-there file k c.1.has c.1.same c.0 (refused 2 (place_of k file) k 0) (go c.1.why)
    where
      go : Why (state_at k file) (place_of k file) (past k (lines file)) x q i → walk_of (state_at k file) (place_of k file) k (rest []) ≡ refused 2 (place_of k file) k 0
      go (unfinished t a o b d f) = rw o
      go (faulty r more o a n b d) = rw n
      go (trailing a b d f g) = absurd (let y : ⊥ = omega arith in y)

  -- and for 13 they are accepted
  pub prefix-13 : x ≡ 13 → (v c d : ℕ) × (check_of (take (place_of k file) file) ≡ accepted (v ∷ c ∷ d ∷ []))
  unfolding walk_of
  prefix-13 y = (
    (state_at k file).version,
    (state_at k file).channels,
    (state_at k file).days,
    let c = there (λ z. omega arith) in
        cut-there file k c.1.has c.1.same c.0 (accepted ((state_at k file).version ∷ (state_at k file).channels ∷ (state_at k file).days ∷ [])) (go c.1.why),
  )
    where
      go : Why (state_at k file) (place_of k file) (past k (lines file)) x q i
          → walk_of (state_at k file) (place_of k file) k (rest []) ≡ accepted ((state_at k file).version ∷ (state_at k file).channels ∷ (state_at k file).days ∷ [])
      go (unfinished t a o b d f) = absurd (let z : ⊥ = omega arith in z)
      go (faulty r more o a n b d) = absurd (let z : ⊥ = omega (arith, fault-number (state_at k file) r x o i b) in z)
      go (trailing a b d f g) = rw a

  -- ---- locality

  -- what stands behind record k's CR LF plays no part, however long it is
  pub stays : 3 ≤ x → x ≤ 12 → (t : List ℕ) → walk_of begun 0 0 (lines (take (place_of (k + 1) file) file ++ t)) ≡ refused x q k i
  unfolding walk_of
  stays lo hi t = let w = (there (λ z. omega arith)).1 in go w w.why
    where
      go : Refusal file x q k i → Why (state_at k file) (place_of k file) (past k (lines file)) x q i
          → walk_of begun 0 0 (lines (take (place_of (k + 1) file) file ++ t)) ≡ refused x q k i
      go w (unfinished y a o b d f) = absurd (let z : ⊥ = omega arith in z)
      go w (faulty r more o a n b d) =
          rw (
            add-one k,
            lines_cut (suc k) file t (has-next r more k (lines file) w.has a),
            keep-next r more k (lines file) (lines t) w.has a,
            w.same (line r (lines t)),
            n,
            b,
            d,
          )
      go w (trailing a b d f g) = absurd (let y : ⊥ = omega arith in y)

  pub locality : 3 ≤ x → x ≤ 12 → (t : List ℕ) → length (take (place_of (k + 1) file) file ++ t) ≤ 1048576 → check_of (take (place_of (k + 1) file) file ++ t) ≡ refused x q k i
  locality lo hi t l = of-walk (take (place_of (k + 1) file) file ++ t) (refused x q k i) l (stays lo hi t)

  -- and so every file that agrees with this one up to there is refused alike
  pub locality-of : 3 ≤ x → x ≤ 12 → (other : List ℕ) → length other ≤ 1048576 → take (place_of (k + 1) file) other ≡ take (place_of (k + 1) file) file → check_of other ≡ refused x q k i
  locality-of lo hi other l h =
      let p : ℕ = place_of (k + 1) file in
      let a : take p file ++ drop p other ≡ other = ap (λ (y : List ℕ). y ++ drop p other) (sym h) ∙ take-append-drop p other in
      sym (ap check_of a) ∙ locality lo hi (drop p other) (rw a l)

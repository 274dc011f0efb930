-- The check refuses a file with a number, place, record and field exactly when 01's table gives them to it. Assumes nothing.
use Prim.Native.Nat.{ℕ, zero, suc, ◌+◌, ◌≤◌}
use mathlib.Core.Path.{◌≡◌, refl, sym, ap, ◌∙◌}
use mathlib.Core.Bool.{true, false, true≢false}
use mathlib.Core.Logic.{◌↔◌, ◌⊎◌, inl, inr}
use mathlib.Core.List.{List, [], ◌∷◌}
use native.Mathlib.Omega.{arith}
use lib.ListN.{length, length-append}
use lib.Dec.{ltb}
use borrow.Author.Tests.{ne_eqb, lt-ltb, ltb-true, ltb-false}
use Rattle.ground.proofs.Cases.{by}
use Rattle.format.specs.Cut.{Lines, line, rest, lines}
use Rattle.format.specs.Order.{is_end, Due, begun}
use Rattle.format.specs.Answers.{Answer, accepted, refused}
use Rattle.format.specs.File.{after, walk_of, check_of}
use Rattle.format.proofs.Cut.{bytes_of, bytes-lines}
use Rattle.passing.proofs.Walk.{file-passes, of-walk}
use Rattle.theorems.specs.Grammar.{InFormat}
use Rattle.theorems.specs.Places.{place_in, place_of, past, state_in, state_at}
use Rattle.theorems.specs.First.{Clear, GivenTo, too_long, no_end, at-fault, behind-end}
use Rattle.theorems.proofs.Cuts.{Has}
use Rattle.theorems.proofs.Format.{format}
use Rattle.theorems.proofs.Links.{fault-first, none-fine, first-fault}
use Rattle.theorems.proofs.Reach.{Why, unfinished, faulty, trailing, Refusal, refusal-in}

-- ---- what is left behind k records

bytes_past : (k : ℕ) (ls : Lines) → Has k ls → place_in k ls + length (bytes_of (past k ls)) ≡ length (bytes_of ls)
bytes_past zero ls h = omega arith
bytes_past (suc k) (line r ls) h = omega (arith, bytes_past k ls h, length-append r (13 ∷ 10 ∷ bytes_of ls))
bytes_past (suc k) (rest t) h = absurd h

clear-has : (k : ℕ) (st : Due) (ls : Lines) → Clear k st ls → Has k ls
clear-has zero st ls h = tt
clear-has (suc k) st (line r ls) h = clear-has k (after st r) ls h.2
clear-has (suc k) st (rest t) h = h

module _ (k : ℕ) (file : List ℕ) (h : Has k (lines file)) where
  left : place_of k file + length (bytes_of (past k (lines file))) ≡ length file
  unfolding place_of
  left = bytes_past k (lines file) h ∙ ap length (bytes-lines file)

-- ---- a refusal is given

given-walk : (file : List ℕ) (x q k i : ℕ) → length file ≤ 1048576 → Refusal file x q k i → GivenTo file x q k i
given-walk file x q k i l w = go w.why
  where
    go : Why (state_at k file) (place_of k file) (past k (lines file)) x q i → GivenTo file x q k i
    go (unfinished t a o b d f) = no_end l w.clear t a o b d f
    go (faulty r more o a n b d) = at-fault l w.clear r more a n o (fault-first (state_at k file) r x o i b) d
    go (trailing a b d f g) = behind-end l w.clear (let z = left k file w.has in omega arith) a d f g

refused-given : (file : List ℕ) (x q k i : ℕ) → check_of file ≡ refused x q k i → GivenTo file x q k i
unfolding check_of
refused-given file x q k i e =
    by (ltb 1048576 (length file))
    (λ t. let y : refused 1 0 0 0 ≡ refused x q k i = (rw t at e) in
    too_long (ltb-true _ _ t) (let z : x ≡ 1 = cc in z) (let z : q ≡ 0 = cc in z) (let z : k ≡ 0 = cc in z) (let z : i ≡ 0 = cc in z))
    (λ t. given-walk file x q k i (ltb-false _ _ t) (refusal-in file x q k i (rw t at e)))

-- ---- what is given is the refusal

through : (k : ℕ) (ls : Lines) (st : Due) (p a : ℕ) → Clear k st ls → walk_of st p a ls ≡ walk_of (state_in k st ls) (p + place_in k ls) (a + k) (past k ls)
unfolding walk_of
through zero ls st p a h = let z : p ≡ p + 0 = omega arith in let y : a ≡ a + 0 = omega arith in rw (← z, ← y)
through (suc k) (rest t) st p a h = absurd h
through (suc k) (line r ls) st p a h =
    let z : p + length r + 2 + place_in k ls ≡ p + (length r + (2 + place_in k ls)) = omega arith in
    let y : a + 1 + k ≡ a + suc k = omega arith in
    rw (h.0, none-fine st r h.1, ← z, ← y) (through k ls (after st r) (p + length r + 2) (a + 1) h.2)

module _ (file : List ℕ) (x q k i : ℕ) (l : length file ≤ 1048576) (c : Clear k begun (lines file)) where
  from-there : walk_of (state_at k file) (place_of k file) k (past k (lines file)) ≡ refused x q k i → check_of file ≡ refused x q k i
  unfolding place_of state_at
  from-there e =
      let z : 0 + place_in k (lines file) ≡ place_in k (lines file) = omega arith in
      let y : 0 + k ≡ k = omega arith in
      let t : walk_of begun 0 0 (lines file) ≡ walk_of (state_in k begun (lines file)) (place_in k (lines file)) k (past k (lines file)) = rw (z, y) at (through k (lines file) begun 0 0 c) in
      of-walk file (refused x q k i) l (t ∙ e)

-- bytes behind the 900
rest-behind : (ls : Lines) (st : Due) (p k : ℕ) → is_end st.expect ≡ true → 1 ≤ length (bytes_of ls) → walk_of st p k ls ≡ refused 13 p k 0
unfolding walk_of
rest-behind (rest t) st p k e h = rw (e, ne_eqb (length t) 0 (λ z. omega arith))
rest-behind (line r ls) st p k e h = rw e

given-refused : (file : List ℕ) (x q k i : ℕ) → GivenTo file x q k i → check_of file ≡ refused x q k i
unfolding check_of walk_of
given-refused file x q k i (too_long l a b c d) = rw (lt-ltb _ _ l, a, b, c, d)
given-refused file x q k i (no_end l c t e o a b d) = from-there file x q k i l c (rw (e, o, a, b, d))
given-refused file x q k i (at-fault l c r more e n o f b) = from-there file x q k i l c (rw (e, n, first-fault (state_at k file) r x o i f, b))
given-refused file x q k i (behind-end l c h e a b d) =
    from-there file x q k i l c
    (rw (a, b, d) (rest-behind (past k (lines file)) (state_at k file) (place_of k file) k e (let z = left k file (clear-has k begun (lines file) c) in omega arith)))

pub first : (file : List ℕ) (x q k i : ℕ) → (check_of file ≡ refused x q k i) ↔ GivenTo file x q k i
first file x q k i = (refused-given file x q k i, given-refused file x q k i)

-- ---- every file is one or the other

-- a file is in the format, or a refusal is given to it
pub either : (file : List ℕ) → ((v c d : ℕ) × InFormat file v c d) ⊎ ((x q k i : ℕ) × GivenTo file x q k i)
either file = go (check_of file) refl
  where
    go : (a : Answer) → check_of file ≡ a → ((v c d : ℕ) × InFormat file v c d) ⊎ ((x q k i : ℕ) × GivenTo file x q k i)
    go (accepted xs) e =
        let w = file-passes file xs e in
        let u = w.end in
        inl (u.version, u.channels, u.days, (format file u.version u.channels u.days).0 (e ∙ ap accepted w.answer))
    go (refused x q k i) e = inr (x, q, k, i, refused-given file x q k i e)

-- and not both
pub not-both : (file : List ℕ) (v c d x q k i : ℕ) → InFormat file v c d → GivenTo file x q k i → ⊥
not-both file v c d x q k i h g =
    let e : accepted (v ∷ c ∷ d ∷ []) ≡ refused x q k i = sym ((format file v c d).1 h) ∙ given-refused file x q k i g in
    let y : true ≡ false = cc in
    true≢false y

-- The packed bytes in other words: the blocks listed by rising place, one behind the other. Assumes nothing.
use Prim.Native.Nat.{ℕ, ◌+◌, ◌-◌, ◌≤◌, ◌<◌}
use mathlib.Core.Path.{◌≡◌, refl, sym, ap, ap₂, ◌∙◌}
use mathlib.Core.List.{List, [], ◌∷◌, ◌++◌}
use mathlib.Core.Bool.{Bool, false}
use native.Mathlib.Omega.{arith}
use lib.ListN.{length, take, drop, take-append-drop}
use lib.Seq.{drop-drop}
use lib.Dec.{leb}
use borrow.Author.Tests.{le-leb, lt-leb, lt-ltb, le-ltb}
use Rattle.ground.proofs.Tests.{and-false}
use Rattle.moving.proofs.Moves.{length-stretch}
use Rattle.store.specs.Moves.{covered, keep}
use Rattle.packing.proofs.Keeps.{keep_append, keep-none, keep_all, keep_same}

-- the blocks, one behind the other
unfoldable pub joined : List ℕ → List ℕ → List ℕ → List ℕ
joined room [] ns = []
joined room (o ∷ os) [] = []
joined room (o ∷ os) (n ∷ ns) = take n (drop o room) ++ joined room os ns

-- each begins at the end of the one before it or behind it, the first at p or behind it, and the last ends within m
pub data Rising (m : ℕ) : ℕ → List ℕ → List ℕ → Type 0 where
  none : {p : ℕ} → p ≤ m → Rising m p [] []
  then : {p o n : ℕ} {os ns : List ℕ} → p ≤ o → Rising m (o + n) os ns → Rising m p (o ∷ os) (n ∷ ns)

top : {m p : ℕ} {os ns : List ℕ} → Rising m p os ns → p ≤ m
top (none h) = h
top (then {n = n} h r) = let g = top r in omega arith

-- nothing before p is covered
below : {m p : ℕ} {os ns : List ℕ} → Rising m p os ns → (x : ℕ) → x < p → covered os ns x ≡ false
unfolding covered
below (none h) x l = refl
below (then {p} {o} {n} {os} {ns} h r) x l = rw (lt-leb o x (omega arith)) (below r x (omega arith))

-- the room from p on: j bytes, and the room behind them
keep_at : (c : ℕ → Bool) (p j : ℕ) (room : List ℕ) → p + j ≤ length room
    → keep c p (drop p room) ≡ keep c p (take j (drop p room)) ++ keep c (p + j) (drop (p + j) room)
keep_at c p j room h =
    ap (keep c p) (sym (take-append-drop j (drop p room)))
    ∙ keep_append c p (take j (drop p room)) (drop j (drop p room))
    ∙ ap₂ (λ (i : ℕ) (z : List ℕ). keep c p (take j (drop p room)) ++ keep c (p + i) z) (length-stretch room p j h) (drop-drop j p room)

rising-from : (room : List ℕ) {p : ℕ} {os ns : List ℕ} → Rising (length room) p os ns → keep (covered os ns) p (drop p room) ≡ joined room os ns
unfolding joined covered
rising-from room (none {p} h) = keep-none (covered [] []) p (drop p room) (λ x a b. refl)
rising-from room (then {p} {o} {n} {os} {ns} h r) =
    let c = covered (o ∷ os) (n ∷ ns) in
    let g : o + n ≤ length room = top r in
    let e : p + (o - p) ≡ o = omega arith in
    let gap : keep c p (take (o - p) (drop p room)) ≡ [] =
    keep-none c p (take (o - p) (drop p room)) (λ x a b.
    rw (lt-leb o x (omega (arith, length-stretch room p (o - p) (omega arith)))) (below r x (omega (arith, length-stretch room p (o - p) (omega arith))))) in
    let block : keep c o (take n (drop o room)) ≡ take n (drop o room) =
    keep_all c o (take n (drop o room)) (λ x a b. rw (le-leb o x a, lt-ltb x (o + n) (omega (arith, length-stretch room o n g)))) in
    let more : keep c (o + n) (drop (o + n) room) ≡ keep (covered os ns) (o + n) (drop (o + n) room) =
    keep_same c (covered os ns) (o + n) (drop (o + n) room) (λ x a. rw (le-ltb x (o + n) a, and-false (leb o x))) in
    keep_at c p (o - p) room (omega arith)
    ∙ ap₂ (λ (y : List ℕ) (i : ℕ). y ++ keep c i (drop i room)) gap e
    ∙ keep_at c o n room g
    ∙ ap₂ ◌++◌ block (more ∙ rising-from room r)

-- where the ranges ps, qs rise and cover the same places as os, ns, the packed bytes are theirs
pub in_order_lem : (room os ns ps qs : List ℕ) → Rising (length room) 0 ps qs → ((x : ℕ) → covered os ns x ≡ covered ps qs x)
    → keep (covered os ns) 0 room ≡ joined room ps qs
in_order_lem room os ns ps qs r h = keep_same (covered os ns) (covered ps qs) 0 room (λ x g. h x) ∙ rising-from room r

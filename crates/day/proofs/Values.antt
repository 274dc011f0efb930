-- The values of a day, stored one after the other. Assumes nothing.
use Prim.Native.Nat.{ℕ, zero, suc, ◌+◌, ◌-◌, ◌≤◌, ◌<◌}
use mathlib.Core.Path.{◌≡◌, refl, sym, ap, ◌∙◌}
use mathlib.Core.List.{List, [], ◌++◌, append-nil, map}
use native.Mathlib.Numerals.{add-one}
use native.Mathlib.Omega.{arith}
use lib.ListN.{length, take, drop, set, drop_of_length-le}
use lib.Seq.{sets, drop-cons, length-take-le}
use Rattle.ground.proofs.Room.{sets-front}
use Rattle.ground.specs.Lists.{part}
use Rattle.format.specs.Cut.{fields, field}
use Rattle.format.specs.Records.{millionths, values_in}
use Rattle.lines.specs.Places.{Rest}
use Rattle.lines.proofs.Cuts.{rest-first}
use Rattle.day.specs.Places.{values_from}

-- a turn: the value of field i stored
pub value_on : (file : List ℕ) (fs : List (List ℕ)) (l whole : List ℕ) (p n i a e v : ℕ) → i < n → Rest file fs p i a e
    → v ≡ millionths (field 0 (fields (part file a e))) → sets l i (values_from (n - i) i fs) ≡ whole → sets (set l i v) (i + 1) (values_from (n - (i + 1)) (i + 1) fs) ≡ whole
unfolding values_from
value_on file fs l whole p n i a e v h s ev inv =
    let m : n - i ≡ suc (n - (i + 1)) = omega arith in
    let w : millionths (field i fs) ≡ v = sym (ev ∙ ap millionths (rest-first s)) in
    let t : sets l i (values_from (n - i) i fs) ≡ sets (set l i v) (i + 1) (values_from (n - (i + 1)) (i + 1) fs) = rw (m, w, add-one) in
    sym t ∙ inv

length-values : (n i : ℕ) (fs : List (List ℕ)) → length (values_from n i fs) ≡ n
unfolding values_from
length-values zero i fs = refl
length-values (suc n) i fs = ap suc (length-values n (suc i) fs)

-- all are stored in the first n elements of l, which are lent as a list of their own
pub values_all : (items l : List ℕ) (n i : ℕ) (fs : List (List ℕ)) → n ≤ i → n ≤ length l
    → sets items i (values_from (n - i) i fs) ≡ sets (take n l) 0 (values_from n 0 fs) → items ++ drop n l ≡ sets l 0 (values_from n 0 fs)
unfolding values_from
values_all items l n i fs h g inv =
    let vs = values_from n 0 fs in
    let len : length vs ≡ n = length-values n 0 fs in
    let long : length (take n l) ≡ n = length-take-le n l g in
    let m : n - i ≡ 0 = omega arith in
    let stored : sets items i (values_from (n - i) i fs) ≡ items = rw m in
    let none : drop (length vs) (take n l) ≡ [] = drop_of_length-le (take n l) (omega arith) in
    let front : sets (take n l) 0 vs ≡ vs ++ drop (length vs) (take n l) = sets-front (take n l) vs (omega arith) in
    let are : items ≡ vs = sym stored ∙ inv ∙ front ∙ ap (λ (z : List ℕ). vs ++ z) none ∙ append-nil vs in
    ap (λ (z : List ℕ). z ++ drop n l) are
    ∙ ap (λ (k : ℕ). vs ++ drop k l) (sym len)
    ∙ sym (sets-front l vs (omega arith))

-- the values of what is left of a record are values of the record
pub values-move : {file : List ℕ} {fs : List (List ℕ)} {p i a e : ℕ} → Rest file fs p i a e → (n j : ℕ)
    → values_from n j (fields (part file a e)) ≡ values_from n (i + j) fs
unfolding values_from
values-move s zero j = refl
values-move {file} {fs} {p} {i} {a} {e} s (suc n) j =
    let m : i + suc j ≡ suc (i + j) = omega arith in
    let q : values_from n (suc j) (fields (part file a e)) ≡ values_from n (suc (i + j)) fs = rw m at (values-move s n (suc j)) in
    let w : millionths (field j (fields (part file a e))) ≡ millionths (field (i + j) fs) = ap millionths (sym (s.same j)) in
    rw (q, w)

-- where the record has the fields, they are the day's values
from-take : (n i : ℕ) (fs : List (List ℕ)) → n + i ≤ length fs → values_from n i fs ≡ map millionths (take n (drop i fs))
unfolding values_from
from-take zero i fs h = refl
from-take (suc n) i fs h =
    let g : i < length fs = omega arith in
    rw (drop-cons fs i [] g, from-take n (suc i) fs (omega arith))

pub values-are : (n : ℕ) (fs : List (List ℕ)) → length fs ≡ n + 7 → values_from n 2 fs ≡ values_in n fs
unfolding values_in
values-are n fs h = from-take n 2 fs (omega arith)

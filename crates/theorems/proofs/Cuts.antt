-- A file that is cut behind some of its records, with other bytes behind them. Assumes nothing.
use Prim.Native.Nat.{ℕ, zero, suc, ◌+◌}
use mathlib.Core.Path.{◌≡◌, refl, ap, ◌∙◌, subst}
use mathlib.Core.Bool.{false}
use mathlib.Core.List.{List, [], ◌∷◌, ◌++◌, append_assoc}
use native.Mathlib.Omega.{arith}
use lib.ListN.{length, take}
use lib.Seq.{take-append-add}
use lib.Dec.{eqb}
use Rattle.ground.proofs.Cases.{by}
use Rattle.format.specs.Cut.{is_crlf, Lines, line, rest, on_first, lines}
use Rattle.format.proofs.Cut.{bytes_of, bytes-lines}
use Rattle.theorems.specs.Places.{place_in, place_of, past}

-- there are j records
abbrev pub Has : ℕ → Lines → Type 0
Has zero ls = Unit {0}
Has (suc j) (line r ls) = Has j ls
Has (suc j) (rest t) = ⊥

-- the first j records, and then others
abbrev pub keep : ℕ → Lines → Lines → Lines
keep zero ls m = m
keep (suc j) (line r ls) m = line r (keep j ls m)
keep (suc j) (rest t) m = m

-- a record has no CR LF
abbrev pub Uncut : List ℕ → Type 0
Uncut [] = Unit {0}
Uncut (b ∷ []) = Unit {0}
Uncut (b ∷ d ∷ bs) = (is_crlf b d ≡ false) × Uncut (d ∷ bs)

abbrev pub AllUncut : Lines → Type 0
AllUncut (rest t) = Unit {0}
AllUncut (line r ls) = Uncut r × AllUncut ls

-- a first record that has a byte begins as the file does
abbrev Starts : ℕ → Lines → Type 0
Starts d (rest t) = Unit {0}
Starts d (line [] ls) = Unit {0}
Starts d (line (x ∷ r) ls) = x ≡ d

starts_first : (d : ℕ) (ls : Lines) → Starts d (on_first d ls)
starts_first d (rest t) = tt
starts_first d (line r ls) = refl

starts : (d : ℕ) (bs : List ℕ) → Starts d (lines (d ∷ bs))
unfolding lines
starts d [] = tt
starts d (e ∷ bs) = by (is_crlf d e) (λ t. rw t tt) (λ t. rw t (starts_first d (lines (e ∷ bs))))

uncut-first : (b d : ℕ) (ls : Lines) → is_crlf b d ≡ false → Starts d ls → AllUncut ls → AllUncut (on_first b ls)
uncut-first b d (rest t) e s u = tt
uncut-first b d (line [] ls) e s u = (tt, u.1)
uncut-first b d (line (x ∷ r) ls) e s u = ((rw s e, u.0), u.1)

pub all-uncut : (l : List ℕ) → AllUncut (lines l)
unfolding lines
all-uncut [] = tt
all-uncut (b ∷ []) = tt
all-uncut (b ∷ d ∷ bs) =
    let i = all-uncut bs in
    let j = all-uncut (d ∷ bs) in
    by (is_crlf b d) (λ t. rw t (tt, i)) (λ t. rw t (uncut-first b d (lines (d ∷ bs)) t (starts d bs) j))

-- such a record, CR LF, and anything
pub lines-again : (r t : List ℕ) → Uncut r → lines (r ++ 13 ∷ 10 ∷ t) ≡ line r (lines t)
unfolding lines
lines-again [] t u = refl
lines-again (b ∷ []) t u = by (eqb b 13) (λ e. rw e) (λ e. rw e)
lines-again (b ∷ d ∷ r) t u = rw (u.0, lines-again (d ∷ r) t u.1)

-- the bytes of the first j records, and others behind them
pub lines_keep : (j : ℕ) (ls : Lines) (t : List ℕ) → Has j ls → AllUncut ls → lines (take (place_in j ls) (bytes_of ls) ++ t) ≡ keep j ls (lines t)
lines_keep zero ls t h u = refl
lines_keep (suc j) (rest x) t h u = absurd h
lines_keep (suc j) (line r ls) t h u = cut (lines_keep j ls t h u.1)
  where
    n : ℕ
    n = place_in j ls

    b : List ℕ
    b = bytes_of ls

    two : take (2 + n) (13 ∷ 10 ∷ b) ≡ 13 ∷ 10 ∷ take n b
    two = let e : 2 + n ≡ suc (suc n) = omega arith in rw e

    cut : lines (take n b ++ t) ≡ keep j ls (lines t)
        → lines (take (length r + (2 + n)) (r ++ 13 ∷ 10 ∷ b) ++ t) ≡ line r (keep j ls (lines t))
    cut ih =
        rw (take-append-add r (13 ∷ 10 ∷ b) (2 + n), two, append_assoc r (13 ∷ 10 ∷ take n b) t)
        (lines-again r (take n b ++ t) u.0 ∙ ap (line r) ih)

pub lines_cut : (j : ℕ) (file t : List ℕ) → Has j (lines file) → lines (take (place_of j file) file ++ t) ≡ keep j (lines file) (lines t)
unfolding place_of
lines_cut j file t h =
    subst (λ (x : List ℕ). lines (take (place_in j (lines file)) x ++ t) ≡ keep j (lines file) (lines t)) (bytes-lines file)
    (lines_keep j (lines file) t h (all-uncut file))

-- where record k is there, it is one record more
module _ (r : List ℕ) (more : Lines) where
  pub has-next : (k : ℕ) (ls : Lines) → Has k ls → past k ls ≡ line r more → Has (suc k) ls
  has-next zero (line s ls) h e = tt
  has-next zero (rest t) h e = absurd (let z : ◌≡◌ {A = ℕ} 0 1 = cc in let y : ⊥ = omega arith in y)
  has-next (suc k) (line s ls) h e = has-next k ls h e
  has-next (suc k) (rest t) h e = absurd h

  pub keep-next : (k : ℕ) (ls m : Lines) → Has k ls → past k ls ≡ line r more → keep (suc k) ls m ≡ keep k ls (line r m)
  keep-next zero (line s ls) m h e = ap (λ (y : List ℕ). line y m) (let z : s ≡ r = cc in z)
  keep-next zero (rest t) m h e = absurd (let z : ◌≡◌ {A = ℕ} 0 1 = cc in let y : ⊥ = omega arith in y)
  keep-next (suc k) (line s ls) m h e = ap (line s) (keep-next k ls m h e)
  keep-next (suc k) (rest t) m h e = absurd h

-- Laws of `sets l i vs`, l with vs stored from place i on, and of writes one behind the other. None but `sets-after` has a side condition.
-- Assumes nothing.
use Prim.Native.Nat.{ℕ, suc, ◌+◌, ◌≤◌, ◌<◌}
use mathlib.Core.Path.{◌≡◌, refl, sym, ap, ◌∙◌, subst}
use mathlib.Core.List.{List, [], ◌∷◌, ◌++◌}
use native.Mathlib.Nat.{add-suc}
use native.Mathlib.Numerals.{add-one}
use native.Mathlib.Omega.{arith}
use lib.ListN.{length, set, drop, get_or, length-append}
use lib.Seq.{sets, set_comm, length-sets, drop-cons, sets-eq}
use Rattle.ground.specs.Room.{Put}

-- two runs of stores, one behind the other
pub sets-append : (l : List ℕ) (i : ℕ) (xs ys : List ℕ) → sets l i (xs ++ ys) ≡ sets (sets l i xs) (i + length xs) ys
sets-append l i [] ys = ap (λ (k : ℕ). sets l k ys) (omega arith)
sets-append l i (x ∷ xs) ys = sets-append (set l i x) (suc i) xs ys ∙ ap (λ (k : ℕ). sets (sets (set l i x) (suc i) xs) k ys) (omega arith)

-- a store behind the run may come first
pub sets-after : (l : List ℕ) (i j d : ℕ) (xs : List ℕ) → i + length xs ≤ j → sets (set l j d) i xs ≡ set (sets l i xs) j d
sets-after l i j d [] h = refl
sets-after l i j d (x ∷ xs) h =
    ap (λ (m : List ℕ). sets m (suc i) xs) (set_comm l j i d x (omega arith))
    ∙ sets-after (set l i x) (suc i) j d xs (omega arith)

-- digits are written the last first: the last one's store may come before the others
pub sets-snoc : (l : List ℕ) (i j d : ℕ) (xs : List ℕ) → i + length xs ≡ j → sets (set l j d) i xs ≡ sets l i (xs ++ d ∷ [])
sets-snoc l i j d xs e = sets-after l i j d xs (omega arith) ∙ ap (λ (k : ℕ). set (sets l i xs) k d) (sym e) ∙ sym (sets-append l i xs (d ∷ []))

-- a turn of a loop that copies: the next byte, and what is left behind it
pub sets-next : (l : List ℕ) (at i : ℕ) (src : List ℕ) → i < length src
    → sets (set l (at + i) (get_or src i 0)) (at + (i + 1)) (drop (i + 1) src) ≡ sets l (at + i) (drop i src)
sets-next l at i src h = rw (drop-cons src i 0 h, add-one i, add-suc at i)

-- at the room's start: the text, and the room behind it
pub sets-front : (l text : List ℕ) → length text ≤ length l → sets l 0 text ≡ text ++ drop (length text) l
sets-front l text h = let z : 0 + length text ≡ length text = omega arith in sets-eq text l 0 (omega arith) ∙ ap (λ (k : ℕ). text ++ drop k l) z

-- ---- writes one behind the other

pub put-nothing : (l : List ℕ) (at : ℕ) → Put l at [] at l
put-nothing l at = record { behind = omega arith; room = refl }

pub put_then : {l m n xs ys : List ℕ} {at i j : ℕ} → Put l at xs i m → Put m i ys j n → Put l at (xs ++ ys) j n
put_then {l} {m} {n} {xs} {ys} {at} {i} {j} p q =
    record {
      behind = omega (arith, p.behind, q.behind, length-append xs ys);
      room =
          q.room
          ∙ ap (λ (k : ℕ). sets m k ys) p.behind
          ∙ ap (λ (z : List ℕ). sets z (at + length xs) ys) p.room
          ∙ sym (sets-append l at xs ys);
    }

-- the text under another name
pub put_as : {l m xs ys : List ℕ} {at i : ℕ} → Put l at xs i m → xs ≡ ys → Put l at ys i m
put_as {l} {m} {at = at} {i = i} p e = subst (λ (z : List ℕ). Put l at z i m) e p

pub put-kept : {l m xs : List ℕ} {at i : ℕ} → Put l at xs i m → length m ≡ length l
put-kept {l} {xs = xs} {at = at} p = ap length p.room ∙ length-sets l at xs

-- ---- a loop that writes: what is left to write

-- `rest` written into the room `l` from place p on gives what `whole` gives in the room `l₀` from place `at` on, and ends at the same place
pub record Left (l₀ : List ℕ) (at : ℕ) (whole l : List ℕ) (p : ℕ) (rest : List ℕ) : Type 0 where
  pub same : sets l p rest ≡ sets l₀ at whole
  pub ends : p + length rest ≡ at + length whole

pub left-start : (l : List ℕ) (at : ℕ) (whole : List ℕ) → Left l at whole l at whole
left-start l at whole = record { same = refl; ends = refl }

pub left_step : {l₀ whole l m rest : List ℕ} {at p q : ℕ} (xs ys : List ℕ) → Left l₀ at whole l p rest → rest ≡ xs ++ ys → Put l p xs q m → Left l₀ at whole m q ys
left_step {l₀} {whole} {l} {m} {rest} {at} {p} {q} xs ys h e w =
    record {
      same =
          ap (λ (k : ℕ). sets m k ys) w.behind
          ∙ ap (λ (z : List ℕ). sets z (p + length xs) ys) w.room
          ∙ sym (sets-append l p xs ys)
          ∙ ap (sets l p) (sym e)
          ∙ h.same;
      ends = omega (arith, h.ends, w.behind, ap length e, length-append xs ys);
    }

pub left_end : {l₀ whole l rest : List ℕ} {at p : ℕ} → Left l₀ at whole l p rest → rest ≡ [] → Put l₀ at whole p l
left_end {l₀} {whole} {l} {rest} {at} {p} h e =
    record { behind = omega (arith, h.ends, ap length e); room = ap (sets l p) (sym e) ∙ h.same }

pub left-kept : {l₀ whole l rest : List ℕ} {at p : ℕ} → Left l₀ at whole l p rest → length l ≡ length l₀
left-kept {l₀} {whole} {l} {rest} {at} {p} h = sym (length-sets l p rest) ∙ ap length h.same ∙ length-sets l₀ at whole

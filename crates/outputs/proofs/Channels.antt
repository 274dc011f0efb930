-- Keys of entries: NMI and suffix together, and in capitals. Assumes nothing.
use Prim.Native.Nat.{ℕ, zero, suc, ◌-◌, ◌≤◌, ◌<◌}
use mathlib.Core.Path.{◌≡◌, refl, sym, ap, ◌∙◌}
use mathlib.Core.Bool.{Bool, true, false, ◌&&◌, ◌||◌}
use mathlib.Core.List.{List, [], ◌∷◌}
use native.Mathlib.Omega.{arith}
use borrow.Author.Tests.{le-leb, lt-leb, leb-true, eq-eqb, ne_eqb}
use lib.ListN.{length, take, drop, replicate, length-take, length-drop}
use lib.Dec.{leb, eqb}
use Rattle.std.specs.List.{list_all}
use Rattle.std.specs.Char.{is_ascii_digit, is_ascii_uppercase}
use Rattle.ground.specs.Lists.{all, same}
use Rattle.ground.specs.Digits.{is_digit}
use Rattle.ground.proofs.Tests.{and-true, refuted}
use Rattle.ground.proofs.Cases.{split, both}
use Rattle.ground.proofs.Same.{same-sound}
use Rattle.format.specs.Bytes.{capital, is_capital, is_letter, is_alnum, are_all}
use Rattle.format.specs.Texts.{is_nmi, is_suffix}
use Rattle.entries.specs.Little.{number_at}
use Rattle.entries.specs.Keys.{capitals, in_capitals}
use Rattle.tenants.specs.Outputs.{output, is_channel, is_empty, fit_output, is_kept}
use Rattle.outputs.specs.Taken.{kept_byte, taken_by}
use Rattle.outputs.proofs.Bools.{together, and-or}

-- ---- NMI and suffix

all-parts : (p : ℕ → Bool) (n : ℕ) (s : List ℕ) → all p (take n s) ≡ true → all p (drop n s) ≡ true → all p s ≡ true
all-parts p zero s e f = f
all-parts p (suc n) [] e f = refl
all-parts p (suc n) (b ∷ s) e f = let g = and-true (p b) (all p (take n s)) e in both (p b) (all p s) g.0 (all-parts p n s g.1 f)

all-part : (p : ℕ → Bool) (n : ℕ) (s : List ℕ) → all p s ≡ true → (all p (take n s) ≡ true) × (all p (drop n s) ≡ true)
all-part p zero s e = (refl, e)
all-part p (suc n) [] e = (refl, refl)
all-part p (suc n) (b ∷ s) e =
    let g = and-true (p b) (all p s) e in
    let h = all-part p n s g.1 in
    (both (p b) (all p (take n s)) g.0 h.0, h.1)

-- so many bytes of one kind
pub many : (p : ℕ → Bool) (n : ℕ) (s : List ℕ) → are_all p n n s ≡ true → (length s ≡ n) × (all p s ≡ true)
unfolding are_all
many p n s e =
    let g = and-true (leb n (length s) && leb (length s) n) (all p s) e in
    let h = and-true (leb n (length s)) (leb (length s) n) g.0 in
    (omega (arith, leb-true n (length s) h.0, leb-true (length s) n h.1), g.1)

are-many : (p : ℕ → Bool) (n : ℕ) (s : List ℕ) → length s ≡ n → all p s ≡ true → are_all p n n s ≡ true
unfolding are_all
are-many p n s e f =
    both (leb n (length s) && leb (length s) n) (all p s)
    (both (leb n (length s)) (leb (length s) n) (le-leb n (length s) (omega arith)) (le-leb (length s) n (omega arith))) f

pub channel-all : (k : List ℕ) → are_all is_alnum 12 12 k ≡ is_channel k
unfolding is_channel is_nmi is_suffix
channel-all k =
    together (are_all is_alnum 12 12 k) (are_all is_alnum 10 10 (take 10 k) && are_all is_alnum 2 2 (drop 10 k))
    (λ e.
    let g = many is_alnum 12 k e in
    let h = all-part is_alnum 10 k g.1 in
    both (are_all is_alnum 10 10 (take 10 k)) (are_all is_alnum 2 2 (drop 10 k))
    (are-many is_alnum 10 (take 10 k) (omega (arith, length-take 10 k, g.0)) h.0)
    (are-many is_alnum 2 (drop 10 k) (omega (arith, length-drop 10 k, g.0)) h.1))
    (λ e.
    let g = and-true (are_all is_alnum 10 10 (take 10 k)) (are_all is_alnum 2 2 (drop 10 k)) e in
    let n = many is_alnum 10 (take 10 k) g.0 in
    let s = many is_alnum 2 (drop 10 k) g.1 in
    are-many is_alnum 12 k (omega (arith, n.0, s.0, length-drop 10 k)) (all-parts is_alnum 10 k n.1 s.1))

pub channel-is : (k : List ℕ) {r : Bool} → r ≡ are_all is_alnum 12 12 k → r ≡ is_channel k
channel-is k e = e ∙ channel-all k

-- a channel's key has twelve bytes, all letters or digits
pub channel-bytes : (k : List ℕ) → is_channel k ≡ true → (length k ≡ 12) × (all is_alnum k ≡ true)
channel-bytes k e = many is_alnum 12 k (channel-all k ∙ e)

-- ---- in capitals

-- which letters and digits are kept
unsmall : (b : ℕ) → b < 97 → capital b ≡ b
unfolding capital
unsmall b h = rw (lt-leb 97 b h)

module _ (b : ℕ) where
  pub kept_low : b < 48 → false ≡ kept_byte b
  unfolding kept_byte is_alnum is_digit is_letter is_capital
  kept_low h = rw (lt-leb 48 b h, lt-leb 65 b (omega arith), lt-leb 97 b (omega arith))

  pub kept-digit : 48 ≤ b → b ≤ 57 → true ≡ kept_byte b
  unfolding kept_byte is_alnum is_digit
  kept-digit l h = rw (le-leb 48 b l, le-leb b 57 h, unsmall b (omega arith), eq-eqb b b refl)

  pub kept-between : 57 < b → b < 65 → false ≡ kept_byte b
  unfolding kept_byte is_alnum is_digit is_letter is_capital
  kept-between l h = rw (le-leb 48 b (omega arith), lt-leb b 57 l, lt-leb 65 b h, lt-leb 97 b (omega arith))

  pub kept-capital : 65 ≤ b → {r : Bool} → r ≡ leb b 90 → r ≡ kept_byte b
  unfolding kept_byte is_alnum is_digit is_letter is_capital capital
  kept-capital l e =
      split b 90
      (λ h. e ∙ rw (le-leb b 90 h, le-leb 48 b (omega arith), lt-leb b 57 (omega arith), le-leb 65 b l, unsmall b (omega arith), eq-eqb b b refl))
      (λ h. e ∙ rw (lt-leb b 90 h, le-leb 48 b (omega arith), lt-leb b 57 (omega arith), le-leb 65 b l) (small h))
    where
      small : 90 < b → false ≡ (leb 97 b && leb b 122) && eqb (capital b) b
      small h =
          split 97 b
          (λ g. split b 122
          (λ k. rw (le-leb 97 b g, le-leb b 122 k, ne_eqb (b - 32) b (λ z. omega arith)))
          (λ k. rw (le-leb 97 b g, lt-leb b 122 k)))
          (λ g. rw (lt-leb 97 b g))

pub kept_is : (b : ℕ) → kept_byte b ≡ is_ascii_digit b || is_ascii_uppercase b
kept_is b =
    split 48 b
    (λ l.
    split b 57
    (λ h. sym (kept-digit b l h) ∙ rw (le-leb 48 b l, le-leb b 57 h))
    (λ h.
    split 65 b
    (λ g. sym (kept-capital b g refl) ∙ rw (le-leb 48 b l, lt-leb b 57 h, le-leb 65 b g))
    (λ g. sym (kept-between b h g) ∙ rw (le-leb 48 b l, lt-leb b 57 h, lt-leb 65 b g))))
    (λ l. sym (kept_low b l) ∙ rw (lt-leb 48 b l, lt-leb 65 b (omega arith)))

-- std's test of all that a chain yields
pub all-each : {X : Type 0} (p : X → Bool) (xs : List X) → list_all p xs ≡ all p xs
all-each p [] = refl
all-each p (x ∷ xs) = ap (λ (b : Bool). p x && b) (all-each p xs)

same-each : (s : List ℕ) → same (capitals s) s ≡ all (λ (b : ℕ). eqb (capital b) b) s
unfolding same
same-each [] = refl
same-each (b ∷ s) = rw (same-each s)

all-kept : (s : List ℕ) → all is_alnum s ≡ true → all (λ (b : ℕ). eqb (capital b) b) s ≡ true → all kept_byte s ≡ true
unfolding kept_byte
all-kept [] e f = refl
all-kept (b ∷ s) e f =
    let g = and-true (is_alnum b) (all is_alnum s) e in
    let h = and-true (eqb (capital b) b) (all (λ (b : ℕ). eqb (capital b) b) s) f in
    both (is_alnum b && eqb (capital b) b) (all kept_byte s) (both (is_alnum b) (eqb (capital b) b) g.0 h.0) (all-kept s g.1 h.1)

kept-all : (s : List ℕ) → all kept_byte s ≡ true → (all is_alnum s ≡ true) × (all (λ (b : ℕ). eqb (capital b) b) s ≡ true)
unfolding kept_byte
kept-all [] e = (refl, refl)
kept-all (b ∷ s) e =
    let g = and-true (is_alnum b && eqb (capital b) b) (all kept_byte s) e in
    let h = and-true (is_alnum b) (eqb (capital b) b) g.0 in
    let i = kept-all s g.1 in
    (both (is_alnum b) (all is_alnum s) h.0 i.0, both (eqb (capital b) b) (all (λ (b : ℕ). eqb (capital b) b) s) h.1 i.1)

pub kept-other : (k : List ℕ) → (length k ≡ 12 → ⊥) → false ≡ is_channel k && in_capitals k
kept-other k n = refuted (is_channel k && in_capitals k) (λ e. n (channel-bytes k (and-true (is_channel k) (in_capitals k) e).0).0)

kept-as : (k : List ℕ) → length k ≡ 12 → all kept_byte k ≡ is_channel k && in_capitals k
unfolding in_capitals
kept-as k n =
    together (all kept_byte k) (is_channel k && same (capitals k) k)
    (λ e.
    let g = kept-all k e in
    both (is_channel k) (same (capitals k) k) (sym (channel-all k) ∙ are-many is_alnum 12 k n g.0) (same-each k ∙ g.1))
    (λ e.
    let g = and-true (is_channel k) (same (capitals k) k) e in
    all-kept k (channel-bytes k g.0).1 (sym (same-each k) ∙ g.1))

pub kept-channel : (k : List ℕ) {r : Bool} → length k ≡ 12 → r ≡ all kept_byte k → r ≡ is_channel k && in_capitals k
kept-channel k n e = e ∙ kept-as k n

-- ---- an entry

-- an empty key has no small letter
empty-kept : (k : List ℕ) → is_empty k ≡ true → in_capitals k ≡ true
unfolding is_empty in_capitals capital same
empty-kept k t = rw (same-sound k (replicate 12 0) t)

-- what the code learned of an entry
module _ (k : List ℕ) (s : ℕ) {r g : Bool} (e : r ≡ taken_by g k s) where
  pub fit-taken : g ≡ is_channel k → r ≡ fit_output (output k s)
  unfolding taken_by fit_output
  fit-taken h = rw (← h) e

  kept-taken : g ≡ is_channel k && in_capitals k → r ≡ is_kept (output k s)
  unfolding taken_by is_kept fit_output
  kept-taken h =
      e
      ∙ ap (λ (c : Bool). leb s 1000 && (c || is_empty k && eqb s 0)) h
      ∙ sym (and-or (leb s 1000) (is_channel k) (is_empty k && eqb s 0) (in_capitals k) (λ t. empty-kept k (and-true (is_empty k) (eqb s 0) t).0))

-- its bytes in memory
pub kept_entry : (b : List ℕ) {r g : Bool} {s : ℕ} → s ≡ number_at b 12 2 → g ≡ is_channel (take 12 b) && in_capitals (take 12 b) → r ≡ taken_by g (take 12 b) s
    → r ≡ is_kept (output (take 12 b) (number_at b 12 2))
kept_entry b {s = s} n h e = kept-taken (take 12 b) s e h ∙ ap (λ (x : ℕ). is_kept (output (take 12 b) x)) n

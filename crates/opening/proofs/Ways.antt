-- What an opening tells a caller. Assumes nothing.
use Rattle.std.proofs.Common.{Option, Some, None, Result, Ok, Err}
use Rattle.std.specs.Option.{ok_or}
use Prim.Native.Nat.{ℕ}
use mathlib.Core.Path.{◌≡◌, refl, sym, ap, ◌∙◌}
use mathlib.Core.Bool.{Bool, true, false, cond}
use mathlib.Core.List.{List}
use native.Mathlib.Omega.{arith}
use Rattle.store.specs.Head.{header_of}
use Rattle.store.specs.Store.{is_store}
use Rattle.store.specs.declared.Header.{Header}
use Rattle.opening.specs.Opens.{opened_of}

is-if : (t : Bool) (h k : Header) → Some h ≡ cond t (Some k) None → (t ≡ true) × (h ≡ k)
is-if true h k e = (refl, (cc))
is-if false h k e = let z : ◌≡◌ {A = ℕ} 0 1 = cc in absurd (omega arith)

not-if : (t : Bool) (k : Header) → None ≡ cond t (Some k) None → t ≡ false
not-if true k e = let z : ◌≡◌ {A = ℕ} 0 1 = cc in absurd (omega arith)
not-if false k e = refl

module _ (m : List ℕ) {o : Option Header} (e : o ≡ opened_of m) where
  pub opened-store : {h : Header} → o ≡ Some h → is_store m ≡ true
  unfolding opened_of
  opened-store {h} q = (is-if (is_store m) h (header_of m) (sym q ∙ e)).0

  pub opened-header : {h : Header} → o ≡ Some h → h ≡ header_of m
  unfolding opened_of
  opened-header {h} q = (is-if (is_store m) h (header_of m) (sym q ∙ e)).1

  pub opened-not : o ≡ None → is_store m ≡ false
  unfolding opened_of
  opened-not q = not-if (is_store m) (header_of m) (sym q ∙ e)

-- ---- the header where a refusal stands for none

pub told-header : {E : Type 0} (o : Option Header) (x : E) {r : Result Header E} {h : Header} → r ≡ ok_or o x → r ≡ Ok h → o ≡ Some h
told-header {E} (Some k) x {r} {h} v q =
    let z : ◌≡◌ {A = Result Header E} (Ok k) (Ok h) = sym v ∙ q in
    let w : k ≡ h = cc in
    ap Some w
told-header {E} None x {r} {h} v q =
    let z : ◌≡◌ {A = Result Header E} (Err x) (Ok h) = sym v ∙ q in
    let w : ◌≡◌ {A = ℕ} 0 1 = cc in
    absurd (omega arith)

pub told-none : {E : Type 0} (o : Option Header) (x : E) {y : E} {r : Result Header E} → r ≡ ok_or o x → r ≡ Err y → (o ≡ None) × (y ≡ x)
told-none {E} (Some k) x {y} {r} v q =
    let z : ◌≡◌ {A = Result Header E} (Ok k) (Err y) = sym v ∙ q in
    let w : ◌≡◌ {A = ℕ} 0 1 = cc in
    absurd (omega arith)
told-none {E} None x {y} {r} v q =
    let z : ◌≡◌ {A = Result Header E} (Err x) (Err y) = sym v ∙ q in
    let w : y ≡ x = cc in
    (refl, w)

-- A name put on a page, where the flag or the kind of record that it goes by is known. Assumes nothing.
use Prim.Native.Nat.{ℕ, ◌-◌}
use mathlib.Core.Path.{◌≡◌, sym, ap}
use mathlib.Core.List.{List}
use Rattle.page.specs.Filled.{Filled}
use Rattle.page.proofs.Filling.{filled-as}
use Rattle.words.specs.Names.{name_in300, name_of}

pub known : (name : ℕ → List ℕ) (k : ℕ) {l m : List ℕ} {at i n : ℕ} → n ≡ k → Filled l at (name k) i m → Filled l at (name n) i m
known name k e p = filled-as p (ap name (sym e))

pub name-as : (k number count : ℕ) {l m : List ℕ} {at i kind : ℕ} → kind ≡ k → Filled l at (name_of k number count) i m → Filled l at (name_of kind number count) i m
name-as k number count = known (λ z. name_of z number count) k

pub name-300 : (number count b : ℕ) {l m : List ℕ} {at i kind : ℕ} → kind ≡ 300 → b ≡ count - number → Filled l at (name_in300 number b) i m
    → Filled l at (name_of kind number count) i m
unfolding name_of
name-300 number count b e f p = name-as 300 number count e (filled-as p (ap (name_in300 number) f))

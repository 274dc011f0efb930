-- The place by what a call answered. Assumes nothing.
use Rattle.std.proofs.Common.{Result, Ok, Err}
use Prim.Native.Nat.{ℕ, ◌+◌}
use mathlib.Core.Path.{◌≡◌}
use mathlib.Core.List.{List}
use Rattle.format.specs.declared.Refusal.{Refusal}
use Rattle.store.specs.Head.{header_of}
use Rattle.store.specs.Calls.{kept_as}
use Rattle.store.specs.declared.Header.{Header}
use Rattle.kept_bytes.specs.Kept.{kept_from, used_end}

pub used-is : (m : List ℕ) {h : Header} → h ≡ header_of m → h.room + h.used ≡ used_end m
unfolding used_end
used-is m e = rw e

pub from-days : (m : List ℕ) {x : Result ℕ Refusal} {n r : ℕ} → x ≡ Ok n → r ≡ used_end m → r ≡ kept_from (kept_as x) (used_end m)
from-days m e q = rw e q

pub from-refused : (m : List ℕ) {x : Result ℕ Refusal} {y : Refusal} → x ≡ Err y → 0 ≡ kept_from (kept_as x) (used_end m)
from-refused m e = rw e

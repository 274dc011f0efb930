-- What is kept, by what a call answered. Assumes nothing.
use Rattle.std.proofs.Common.{Result, Ok, Err}
use Prim.Native.Nat.{ℕ}
use mathlib.Core.Path.{◌≡◌}
use mathlib.Core.Bool.{Bool}
use mathlib.Core.List.{List}
use Rattle.ground.specs.Lists.{same}
use Rattle.format.specs.declared.Refusal.{Refusal}
use Rattle.tenants.specs.Calls.{versioned_as}
use Rattle.map_kept.specs.Kept.{kept_but, kept_after}

module _ (m was : List ℕ) (a e : ℕ) {x : Result ℕ Refusal} {b : Bool} where
  pub after-version : {v : ℕ} → x ≡ Ok v → b ≡ kept_but a e m was → b ≡ kept_after (versioned_as x) a e m was
  unfolding kept_after
  after-version ex eb = rw ex eb

  pub after-refusal : {y : Refusal} → x ≡ Err y → b ≡ same m was → b ≡ kept_after (versioned_as x) a e m was
  unfolding kept_after
  after-refusal ex eb = rw ex eb

-- The check accepts a file exactly when it is in the format, and answers its version, channels and days. Assumes nothing.
use Prim.Native.Nat.{ℕ}
use mathlib.Core.Path.{◌≡◌}
use mathlib.Core.Logic.{◌↔◌}
use mathlib.Core.List.{List, [], ◌∷◌}
use Rattle.format.specs.Answers.{accepted}
use Rattle.format.specs.File.{check_of}
use Rattle.format.specs.Settled.{varied}
use Rattle.format.proofs.Settled.{settled}
use Rattle.format.proofs.Refusals.{thirteen, refusals}
use Rattle.passing.proofs.Walk.{not-accepted, walk-of, of-walk}
use Rattle.theorems.specs.Grammar.{InFormat}
use Rattle.theorems.proofs.Takes.{takes-file}
use Rattle.theorems.proofs.Told.{told-file}

pub format : (file : List ℕ) (v c d : ℕ) → (check_of file ≡ accepted (v ∷ c ∷ d ∷ [])) ↔ InFormat file v c d
format file v c d = (
  λ e. (let w = walk-of file (accepted (v ∷ c ∷ d ∷ [])) e (not-accepted 1 0 0 0 _) in told-file 1048576 file v c d w.0 w.1),
  λ h. of-walk file (accepted (v ∷ c ∷ d ∷ [])) h.short (takes-file 1048576 file v c d h),
)

-- a file of the settled cases is one: a half-hour V day whose 400s are 1 to 31 of A and 32 to 48 of E52
pub sample : InFormat (varied ("400,1,31,A,," ∷ "400,32,48,E52,," ∷ [])) 12 1 1
sample = (format (varied ("400,1,31,A,," ∷ "400,32,48,E52,," ∷ [])) 12 1 1).0 settled.covered

-- and one of NEM13 is one: a 100, a 250 and a 900
pub sample-13 : InFormat thirteen 13 1 0
sample-13 = (format thirteen 13 1 0).0 refusals.none

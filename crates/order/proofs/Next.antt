-- What a step's answer says of the record's fault, of the state behind it and of the fault's place. Assumes nothing.
use Prim.Native.Nat.{ℕ, ◌+◌, ◌≤◌}
use mathlib.Core.Path.{◌≡◌, refl, sym, ap}
use mathlib.Core.List.{List}
use mathlib.Core.Bool.{Bool, true, false, false≢true}
use Rattle.std.proofs.Common.{Result, Ok, Err}
use native.Mathlib.Omega.{arith}
use Rattle.format.specs.Order.{Due}
use Rattle.format.specs.Faults.{Fault, Fine, Stop}
use Rattle.order.specs.declared.State.{State}
use Rattle.order.specs.declared.Stop as stop
use Rattle.order.specs.State.{Kept, Next, goes, stops, or_stop, Holds}

abbrev going : Next → Bool
going (goes st) = true
going (stops x o i) = false

pub gone : (f : Fault) (d s : Due) → or_stop f d ≡ goes s → (f ≡ Fine) × (s ≡ d)
gone Fine d s e = (refl, sym (ap due_of e))
  where
    due_of : Next → Due
    due_of (goes x) = x
    due_of (stops x o i) = d
gone (Stop x o i) d s e = absurd (false≢true (ap going e))

pub stopped : (f : Fault) (d : Due) (x o i : ℕ) → or_stop f d ≡ stops x o i → f ≡ Stop x o i
stopped Fine d x o i e = absurd (false≢true (sym (ap going e)))
stopped (Stop y p j) d x o i e = ap fault_of e
  where
    fault_of : Next → Fault
    fault_of (goes s) = Fine
    fault_of (stops a b c) = Stop a b c

module _ (file : List ℕ) (at e : ℕ) (t : Result State stop.Stop) (r : Holds file at e t) where
  pub kept_on : (n : State) → t ≡ Ok n → Kept file (e + 2) n
  kept_on n q =
      let h : Kept file (e + 1) n = rw q at r in
      record { known = h.known; begun = h.begun; within = h.within; small = h.small; few = h.few; channels = omega (arith, h.channels); days = omega (arith, h.days) }

  pub stop-within : (x : stop.Stop) → t ≡ Err x → at + x.place ≤ e
  stop-within x q = rw q at r

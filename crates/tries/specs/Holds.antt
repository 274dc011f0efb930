-- A field held to its rule, for the contracts of the inner functions.
use Rattle.std.specs.Prelude.{ℕ, ◌+◌, ◌≡◌, List, Bool, true, cond, Option, Some, None}
use Rattle.ground.specs.Lists.{span_of, other}
use Rattle.format.specs.Cut.{fields, field}
use Rattle.format.specs.Records.{obeys}
use Rattle.format.specs.declared.Rule.{Rule}

-- the field that starts at a, of which s is the rest of the record, in a record of the kind k
unfoldable pub held_of : ℕ → Rule → ℕ → List ℕ → Option ℕ
held_of k x a s = cond (obeys k x (field 0 (fields s))) (Some (a + span_of (other 44) s)) None

-- where an end is answered, the field ends there and passes the test
abbrev pub Ended : (List ℕ → Bool) → ℕ → List ℕ → Option ℕ → Type 0
Ended p a s (Some z) = (z ≡ a + span_of (other 44) s) × (p (field 0 (fields s)) ≡ true)
Ended p a s None = Unit {0}

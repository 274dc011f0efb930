-- Two tests that pass together are the same. Assumes nothing.
use mathlib.Core.Path.{◌≡◌, refl, sym}
use mathlib.Core.Bool.{Bool, true, false, ◌&&◌, ◌||◌}

pub together : (a b : Bool) → (a ≡ true → b ≡ true) → (b ≡ true → a ≡ true) → a ≡ b
together true b f g = sym (f refl)
together false true f g = g refl
together false false f g = refl

-- where the second of two alternatives holds, so does what is asked beside the first
pub and-or : (a c e i : Bool) → (e ≡ true → i ≡ true) → (a && (c || e)) && i ≡ a && ((c && i) || e)
and-or false c e i f = refl
and-or true true true true f = refl
and-or true true true false f = f refl
and-or true true false true f = refl
and-or true true false false f = refl
and-or true false true i f = f refl
and-or true false false i f = refl

-- The marks of a V day's 400s: whether those to come leave the day alike, by what those so far have in common. Assumes nothing.
use Prim.Native.Nat.{ℕ, ◌<◌}
use mathlib.Core.Path.{◌≡◌, refl, sym}
use mathlib.Core.Bool.{true, false, true≢false}
use mathlib.Core.List.{List, [], ◌∷◌}
use native.Mathlib.Omega.{arith}
use Rattle.ground.proofs.Cases.{by}
use Rattle.format.specs.Quality.{Mark, same_mark}
use Rattle.format.specs.Records.{mark_in}
use Rattle.format.specs.Order.{Shared, none_yet, all_have, they_differ, share_with, are_alike}
use Rattle.format.proofs.MarkText.{mark-itself, mark-sound}
use Rattle.theorems.specs.Grammar.{Record, Covers, Marked, Alike}

-- the 400s to come do not leave the day alike, where those so far have this in common
abbrev pub Apart : Shared → List Record → Type 0
Apart none_yet rs = Alike rs → ⊥
Apart (all_have m) rs = Marked m rs → ⊥
Apart they_differ rs = Unit {0}

module _ (r : Record) (rs : List Record) where
  pub apart-on : (x : Shared) → Apart x (r ∷ rs) → Apart (share_with x (mark_in r)) rs
  apart-on none_yet f = λ h. f (mark_in r, (refl, h))
  apart-on (all_have m) f = by (same_mark m (mark_in r)) (λ t. rw t (λ h. f (sym (mark-sound _ _ t), h))) (λ t. rw t tt)
  apart-on they_differ f = tt

  pub apart-back : (x : Shared) → Apart (share_with x (mark_in r)) rs → Apart x (r ∷ rs)
  apart-back none_yet f = λ h. f (rw h.1.0 h.1.1)
  apart-back (all_have m) f = λ h. (let t : same_mark m (mark_in r) ≡ true = rw h.0 (mark-itself m) in let g : Marked m rs → ⊥ = (rw t at f) in g h.1)
  apart-back they_differ f = tt

-- where no 400 is to come
pub apart-end : (x : Shared) (m : Mark) → are_alike (share_with x m) ≡ false → Apart (share_with x m) []
apart-end none_yet m h = absurd (true≢false h)
apart-end (all_have a) m h = by (same_mark a m) (λ t. absurd (true≢false (rw t at h))) (λ t. rw t tt)
apart-end they_differ m h = tt

pub end-apart : (x : Shared) (rs : List Record) → ((m : Mark) → Marked m rs) → Apart x rs → are_alike x ≡ false
end-apart none_yet rs h f = refl
end-apart (all_have m) rs h f = absurd (f (h m))
end-apart they_differ rs h f = refl

pub marked-end : (n a : ℕ) (rs : List Record) (m : Mark) → n < a → Covers n a rs → Marked m rs
marked-end n a [] m h c = tt
marked-end n a (r ∷ rs) m h c = absurd (let w = c.0 in let x = c.1 in let y = c.2 in let z : ⊥ = omega arith in z)

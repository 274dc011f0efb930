-- The edited file put into the room, or refused for its length: the lengths that the code compares are those of the definition. Assumes nothing.
use Prim.Native.Nat.{ℕ, ◌+◌, ◌-◌, ◌≤◌, ◌<◌}
use mathlib.Core.Path.{◌≡◌, ap₂}
use mathlib.Core.List.{List, [], ◌∷◌}
use native.Mathlib.Omega.{arith}
use lib.ListN.{length, take, length-append, length-drop}
use lib.Seq.{length-take-le}
use borrow.Author.Tests.{lt-ltb, le-ltb}
use Rattle.format.specs.Answers.{accepted, refusal, refused_as}
use Rattle.format.specs.File.{most}
use Rattle.format.specs.declared.Refusal.{Refusal}
use Rattle.moving.specs.Moving.{spliced, Fitting, Spliced}
use Rattle.replacing.specs.Replace.{left, put_of}

module _ (room : List ℕ) (n a e : ℕ) (block : List ℕ) (o : a ≤ e) (w : e ≤ n) (h : n ≤ length room) where
  length-edited : length (spliced (take n room) a e block) ≡ n - (e - a) + length block
  length-edited =
      let g = length-take-le n room h in
      let i = length-take-le a (take n room) (omega arith) in
      simp (length-append, length-drop) (omega arith)

  module _ (s : n ≤ most) where
    pub put_1 : most - (n - (e - a)) < length block → (x : Refusal) → refused_as x ≡ refusal 1 → left (refused_as x) room ≡ put_of (spliced (take n room) a e block) room
    unfolding put_of
    put_1 l x ex = rw (ex, lt-ltb most (length (spliced (take n room) a e block)) (omega (arith, length-edited)))

    module _ (t : length block ≤ most - (n - (e - a))) where
      short : length (spliced (take n room) a e block) ≤ most
      short = omega (arith, length-edited)

      pub put-15 : length room - (n - (e - a)) < length block → (x : Refusal) → refused_as x ≡ refusal 15 → left (refused_as x) room ≡ put_of (spliced (take n room) a e block) room
      unfolding put_of
      put-15 l x ex = rw (ex, le-ltb most _ short, lt-ltb (length room) (length (spliced (take n room) a e block)) (omega (arith, length-edited)))

      module _ (l : length block ≤ length room - (n - (e - a))) where
        pub put-fits : Fitting room n a e block
        put-fits = record { order = o; inside = w; file = h; fits = omega arith }

        pub put-done : (r : ℕ) (new : List ℕ) → Spliced room n a e block r new → left (accepted (r ∷ [])) new ≡ put_of (spliced (take n room) a e block) room
        unfolding put_of
        put-done r new p =
            let z : length (spliced (take n room) a e block) ≤ length room = omega (arith, length-edited, put-fits.fits) in
            rw (le-ltb most _ short, le-ltb (length room) _ z) (ap₂ (λ (i : ℕ) (l : List ℕ). left (accepted (i ∷ [])) l) p.bytes p.room)

-- The tail moved and the block written are the spliced file over the old room: the block's stores lie before the tail's, so both are one run of stores from
-- place a on. Assumes nothing.
use Prim.Native.Nat.{ℕ, ◌+◌, ◌-◌}
use mathlib.Core.Path.{◌≡◌, sym, ap, ap₂, ◌∙◌}
use mathlib.Core.List.{List, ◌++◌}
use native.Mathlib.Omega.{arith}
use lib.ListN.{length, take, drop, length-append, length-drop}
use lib.Seq.{sets, sets-eq, length-take-le, take-take}
use Rattle.format.specs.Day.{over}
use Rattle.ground.specs.Room.{Put}
use Rattle.ground.proofs.Room.{sets-append}
use Rattle.moving.specs.Moving.{moved, Within, spliced, Fitting, Spliced}
use Rattle.moving.proofs.Stores.{sets-later}
use Rattle.moving.proofs.Moves.{length-stretch, stretch-end, moved-sets}

module _ (room : List ℕ) (n a e : ℕ) (block : List ℕ) (f : Fitting room n a e block) where
  -- the file's tail is a stretch of the room
  tail : take (n - e) (drop e room) ≡ drop e (take n room)
  tail = let z : e + (n - e) ≡ n = omega arith in stretch-end e (n - e) room ∙ ap (λ (k : ℕ). drop e (take k room)) z

  pub length-spliced : length (spliced (take n room) a e block) ≡ a + length block + (n - e)
  length-spliced =
      let g = length-take-le n room f.file in
      let h = length-take-le a (take n room) (omega arith) in
      simp (length-append, length-drop) (omega arith)

  -- the block and the tail behind it, stored from place a on
  spliced-sets : sets room a (block ++ take (n - e) (drop e room)) ≡ over (spliced (take n room) a e block) room
  spliced-sets =
      let t = block ++ take (n - e) (drop e room) in
      let g = length-stretch room e (n - e) (omega arith) in
      let k : a + length t ≡ length (spliced (take n room) a e block) = omega (arith, length-spliced, length-append block (take (n - e) (drop e room))) in
      sets-eq t room a (omega (arith, length-spliced))
      ∙ ap (λ (j : ℕ). take a room ++ t ++ drop j room) k
      ∙ ap₂ (λ (x : List ℕ) (y : List ℕ). x ++ (block ++ y) ++ drop (length (spliced (take n room) a e block)) room)
      (sym (take-take a n room (omega arith))) tail

  -- the tail first, the block then
  pub spliced-so : (b r : ℕ) (l m : List ℕ) → b ≡ a + length block → l ≡ moved room e b (n - e) → Put l a block r m → Spliced room n a e block (b + (n - e)) m
  spliced-so b r l m eb el p =
      let w : Within room e b (n - e) = record { from = omega arith; to = omega arith } in
      record {
        bytes = omega (arith, length-spliced);
        room =
            p.room
            ∙ ap (λ (z : List ℕ). sets z a block) (el ∙ moved-sets room e b (n - e) w ∙ ap (λ (i : ℕ). sets room i (take (n - e) (drop e room))) eb)
            ∙ sets-later room a (a + length block) block (take (n - e) (drop e room)) (omega arith)
            ∙ sym (sets-append room a block (take (n - e) (drop e room)))
            ∙ spliced-sets;
      }

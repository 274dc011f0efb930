-- A replacing that is refused leaves every byte of the room: each way to a refusal in the definition does, and the last of them is the only one that stores.
-- Assumes nothing.
use Prim.Native.Nat.{ℕ}
use mathlib.Core.Path.{◌≡◌, refl, sym, ap, ◌∙◌}
use mathlib.Core.List.{List, [], ◌∷◌}
use lib.ListN.{length, take, drop}
use lib.Dec.{ltb}
use Rattle.ground.proofs.Cases.{by}
use Rattle.format.specs.Answers.{Answer, accepted, refused}
use Rattle.format.specs.File.{most, check_of, block_check_of}
use Rattle.format.specs.Day.{DayRows, days_of}
use Rattle.passing.proofs.Walk.{not-accepted}
use Rattle.whose.specs.Whose.{whose_is}
use Rattle.replacing.specs.Replace.{Left, left, or_refused, edited_at, put_of, same_date, replace_first, replace_in, replace_of}

-- where the answer is a refusal, the room is this one
abbrev Keeps : List ℕ → Left → Type 0
Keeps room l = (x p k i : ℕ) → l.answer ≡ refused x p k i → l.room ≡ room

or-keeps : (a : Answer) (room : List ℕ) (l : Left) → Keeps room l → Keeps room (or_refused a room l)
or-keeps (accepted xs) room l h = h
or-keeps (refused x p k i) room l h = λ x p k i e. refl

put_keeps : (file room : List ℕ) → Keeps room (put_of file room)
unfolding put_of
put_keeps file room =
    by (ltb most (length file))
    (λ t. rw t (λ x p k i e. refl))
    (λ t. by (ltb (length room) (length file)) (λ u. rw (t, u) (λ x p k i e. refl)) (λ u. rw (t, u) (λ x p k i e. not-accepted x p k i _ (sym e))))

first-keeps : (file : List ℕ) (ds : List DayRows) (block room : List ℕ) → Keeps room (replace_first file ds block room)
first-keeps file [] block room = λ x p k i e. refl
first-keeps file (d ∷ ds) block room =
    or-keeps (block_check_of (whose_is file d).minutes (whose_is file d).unit block) room _
    (or-keeps (same_date d block) room _ (put_keeps (edited_at file d block) room))

pub refused-keeps : (room : List ℕ) (n day : ℕ) (block : List ℕ) (x p k i : ℕ) (room' : List ℕ) → replace_of room n day block ≡ left (refused x p k i) room' → room' ≡ room
unfolding replace_of replace_in
refused-keeps room n day block x p k i room' e = sym (ap (λ (l : Left). l.room) e) ∙ go x p k i (ap (λ (l : Left). l.answer) e)
  where
    go : Keeps room (replace_of room n day block)
    go =
        by (ltb (length room) n)
        (λ t. rw t (λ x p k i e. refl))
        (λ t. rw t (or-keeps (check_of (take n room)) room _ (first-keeps (take n room) (drop day (days_of (take n room))) block room)))

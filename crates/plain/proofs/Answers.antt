-- What a put answers of a store, by the day that is held of the key and by the days held. Assumes nothing.
use Prim.Native.Nat.{ℕ, ◌+◌}
use mathlib.Core.Path.{◌≡◌, sym, ap, ◌∙◌}
use mathlib.Core.Bool.{true, false, cond}
use mathlib.Core.List.{List, [], ◌∷◌}
use lib.ListN.{length}
use lib.Dec.{leb, ltb}
use Rattle.ground.proofs.Cases.{by}
use Rattle.format.specs.Answers.{accepted}
use Rattle.format.specs.Day.{day_of}
use Rattle.format.specs.Block.{Given}
use Rattle.entries.specs.Keys.{Key}
use Rattle.store.specs.Used.{taken, held, free_from}
use Rattle.store.specs.Ranges.{slot_of}
use Rattle.store.specs.Moves.{live}
use Rattle.entries.specs.Left.{Left, left, refuse, unless}
use Rattle.store.specs.Calls.{seek, is_there, update_of, slot_for, map_without, put_into, put_fit, day_rows}
use Rattle.store.specs.declared.Header.{Header}
use Rattle.stored.proofs.Seek.{there}
use Rattle.stored.proofs.Whole.{Whole}
use Rattle.plain.proofs.Counts.{free-some}
use Rattle.stored.proofs.Holds.{update-is}

-- 20, or it is put
abbrev pub put_room : List ℕ → Header → Key → Given → List ℕ → Left
put_room m h x g block =
    unless (leb (live m h (map_without m h x) + length block) h.size) 20 m
    (left (accepted (held (taken (map_without m h x) (slot_for m h x)) ∷ [])) (put_into m h (map_without m h x) (slot_for m h x) x g block))

module _ (m : List ℕ) (h : Header) (w : Whole m h) (x : Key) where
  pub slot-known : is_there m h x ≡ true → slot_for m h x ≡ seek m h x
  unfolding slot_for
  slot-known t = rw t

  pub slot-new : is_there m h x ≡ false → slot_for m h x ≡ free_from h.map 0 h.slots
  unfolding slot_for
  slot-new t = rw t

  -- which is one of the slots where fewer days are held than there are slots
  pub slot-free : is_there m h x ≡ false → ltb (slot_for m h x) h.slots ≡ ltb h.days h.slots
  slot-free t =
      ap (λ (s : ℕ). ltb s h.slots) (slot-new t)
      ∙ free-some h.map h.slots w.few w.past
      ∙ ap (λ (d : ℕ). ltb d h.slots) (sym w.days)

  -- the key is there: 18 by its day's update time
  pub put-known : (g : Given) (block : List ℕ) → is_there m h x ≡ true
      → put_fit m h x g block ≡ cond (leb g.head.update (day_of (day_rows m h (slot_of m h (seek m h x)))).update) (refuse 18 m) (put_room m h x g block)
  unfolding put_fit
  put-known g block t =
      let e : update_of m h (seek m h x) ≡ (day_of (day_rows m h (slot_of m h (seek m h x)))).update = update-is m h w (seek m h x) (there m h x t).uses in
      let l : ltb (slot_for m h x) h.slots ≡ true = ap (λ (s : ℕ). ltb s h.slots) (slot-known t) ∙ t in
      by (leb g.head.update (update_of m h (seek m h x)))
      (λ v. rw (← e, t, v))
      (λ v. rw (← e, t, v, l))

  -- it is new: 19 by the days held
  pub put-new : (g : Given) (block : List ℕ) → is_there m h x ≡ false → put_fit m h x g block ≡ cond (ltb h.days h.slots) (put_room m h x g block) (refuse 19 m)
  unfolding put_fit
  put-new g block t = rw (t, slot-free t)

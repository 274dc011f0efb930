-- The slot that a put takes: the key's own, or the lowest free one. Without the key's day it is free, and no other slot has the key. Assumes nothing.
use Prim.Native.Nat.{ℕ, ◌<◌}
use mathlib.Core.Path.{◌≡◌, sym, ◌∙◌}
use mathlib.Core.Bool.{true, false, true≢false}
use mathlib.Core.List.{List}
use native.Mathlib.Omega.{arith}
use Rattle.ground.proofs.Cases.{by}
use Rattle.entries.specs.Keys.{Key, capital_key, same_key}
use Rattle.store.specs.Used.{used, free_from}
use Rattle.store.specs.Store.{slot_key}
use Rattle.store.specs.Calls.{seek, is_there, slot_for, map_without}
use Rattle.store.specs.declared.Header.{Header}
use Rattle.used_map.proofs.Slots.{freeing, freed-free, lowest-first, none-past}
use Rattle.stored.proofs.Keys.{is_key}
use Rattle.stored.proofs.Seek.{has, there, absent, absent-last}
use Rattle.stored.proofs.Whole.{Whole, slot-within}
use Rattle.plain.proofs.Answers.{slot-known, slot-new}

pub record Seat (m : List ℕ) (h : Header) (x : Key) (s : ℕ) : Type 0 where
  pub free : used (map_without m h x) s ≡ false
  pub others : (i : ℕ) → (i ≡ s → ⊥) → used (map_without m h x) i ≡ used h.map i
  pub was : used h.map s ≡ true → slot_key m h s ≡ capital_key x
  pub only : (i : ℕ) → (i ≡ s → ⊥) → used h.map i ≡ true → slot_key m h i ≡ capital_key x → ⊥

module _ (m : List ℕ) (h : Header) (w : Whole m h) (x : Key) where
  -- where the key is new no slot is left out
  pub none_out : is_there m h x ≡ false → map_without m h x ≡ h.map
  none_out t = freed-free h.map (seek m h x) (none-past h.map h.slots (seek m h x) w.past (omega (arith, absent-last m h x t)))

  pub own-seat : is_there m h x ≡ true → Seat m h x (seek m h x)
  own-seat t =
      let k = there m h x t in
      let f = freeing h.map (seek m h x) k.uses in
      record {
        free = f.was;
        others = λ i q. sym (f.others i q);
        was = λ u. k.own;
        only = λ i q u e. q (w.own i (seek m h x) u k.uses (e ∙ sym k.own));
      }

  new-seat : is_there m h x ≡ false → free_from h.map 0 h.slots < h.slots → Seat m h x (free_from h.map 0 h.slots)
  new-seat t l =
      let e = none_out t in
      let f : used h.map (free_from h.map 0 h.slots) ≡ false = (lowest-first h.map h.slots 0).free (omega arith) in
      record {
        free = rw e f;
        others = λ i q. rw e;
        was = λ u. absurd (true≢false (sym u ∙ f));
        only = λ i q u k.
            (let a : has m h x i ≡ false = absent m h x t i (slot-within h.map h.slots i w.past u) in
            let n : same_key (capital_key x) (slot_key m h i) ≡ false = rw u at a in
            true≢false (sym (is_key (capital_key x) (slot_key m h i) (sym k)) ∙ n));
      }

  pub seat : slot_for m h x < h.slots → Seat m h x (slot_for m h x)
  seat l =
      by (is_there m h x)
      (λ t. rw (slot-known m h w x t) (own-seat t))
      (λ t. let e = slot-new m h w x t in rw e (new-seat t (rw e at l)))

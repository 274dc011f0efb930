-- A delete that is accepted leaves a store, without the key's day. Assumes nothing.
use Prim.Native.Nat.{ℕ, ◌+◌, ◌≤◌}
use mathlib.Core.Path.{◌≡◌, refl, sym, ap, ◌∙◌}
use mathlib.Core.Bool.{true, false, true≢false}
use mathlib.Core.List.{List, []}
use native.Mathlib.Omega.{arith}
use lib.ListN.{length}
use lib.Seq.{length-sets}
use Rattle.ground.specs.Lists.{sum}
use Rattle.entries.specs.Keys.{Key}
use Rattle.store.specs.Used.{freed, none_past}
use Rattle.store.specs.Head.{header_of, header_bytes, header_with}
use Rattle.store.specs.Moves.{live, moved_down}
use Rattle.store.specs.Calls.{seek, is_there}
use Rattle.store.specs.declared.Header.{Header}
use Rattle.settling.proofs.Blocks.{live-most}
use Rattle.settling.proofs.Headed.{headed, header-headed, starts-headed, sizes-headed}
use Rattle.settling.proofs.After.{Sound, length-after, laid-after, live-after}
use Rattle.plain.proofs.Seat.{Seat, own-seat}
use Rattle.stored.proofs.Whole.{Whole}
use Rattle.plain.proofs.Alike.{Changed}
use Rattle.plain.proofs.Change.{none-there}
use Rattle.stored.proofs.Settle.{sound}
use Rattle.plain.proofs.Down.{alike-down}
use Rattle.plain.proofs.Again.{Small, past-freed, alike-headed, header-small, whole_again}

module _ (m : List ℕ) (h : Header) (w : Whole m h) (z : Small h) (x : Key) (is : is_there m h x ≡ true) where
  -- the slot, and the slots that stay
  abbrev s : ℕ
  s = seek m h x

  abbrev less : ℕ
  less = freed h.map s

  abbrev end : ℕ
  end = live m h less

  abbrev d : List ℕ
  d = moved_down m h less []

  abbrev h' : Header
  h' = header_with h less end

  abbrev m' : List ℕ
  m' = headed d h less end

  t : Seat m h x s
  t = own-seat m h w x is

  o : Sound m h less
  o = sound m h w z.size s

  few : end ≤ h.size
  few = live-most m h less o.settles

  fits : end + length {A = ℕ} [] ≤ h.size
  fits = omega (arith, few)

  long : length d ≡ length m
  long = length-after m h less [] o fits

  room : 32 ≤ h.room
  room = omega (arith, w.list, w.order)

  past : none_past less h.slots ≡ true
  past = past-freed h.map h.slots s w.past

  pub changed : Changed m m' h h' x s
  unfolding header_with
  changed =
      record {
        slots = refl;
        others = t.others;
        alike = λ i q u. alike-headed m d h less end i w.list room (alike-down m h w z.size s [] fits i (t.others i q ∙ u));
        was = t.was;
        is = λ u. absurd (true≢false (sym u ∙ t.free));
        only = t.only;
      }

  header_is : header_of m' ≡ h'
  header_is = header-headed d h less end (omega (arith, long, w.long)) (header-small h less end z w.few (omega (arith, w.order)) past few)

  pub deleted-whole : Whole m' h'
  unfolding header_with
  deleted-whole =
      whole_again m m' h less end x s w changed header_is (length-sets d 0 (header_bytes h') ∙ long) past few
      (rw (starts-headed d h less end w.list less, sizes-headed d h less end w.list less) (laid-after m h less [] o fits))
      (λ u. absurd (true≢false (sym u ∙ t.free)))

  -- no day of the key is left, and the bytes are those of the others
  pub deleted-there : is_there m' h' x ≡ false
  unfolding header_with
  deleted-there = none-there m m' h h' x s w changed t.free

  pub deleted-live : live m' h' less ≡ end
  unfolding live
  deleted-live = ap sum (sizes-headed d h less end w.list less) ∙ live-after m h less [] o fits

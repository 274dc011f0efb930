-- The block room, lent as a part of the memory and come back. Assumes nothing.
use Prim.Native.Nat.{ℕ, ◌+◌, ◌-◌}
use mathlib.Core.Path.{◌≡◌, sym, ap, ap₂, ◌∙◌}
use mathlib.Core.List.{List, [], ◌++◌, append-nil}
use native.Mathlib.Omega.{arith}
use lib.ListN.{length, take, drop}
use lib.Seq.{sets}
use borrow.Rule.Slice.PartMut.{put_mid}
use Rattle.ground.proofs.Spans.{part_cut}
use Rattle.store.specs.Ranges.{starts, sizes}
use Rattle.store.specs.Moves.{room_in, blocks_in, new_starts, offsets_put, moved_down}
use Rattle.store.specs.declared.Header.{Header}
use Rattle.lists.proofs.Parts.{put-part}
use Rattle.ranges.specs.Laid.{Laid}
use Rattle.packing.specs.Packing.{packed, pack_of}
use Rattle.settling.specs.Settling.{Settles, Settled}
use Rattle.settling.proofs.Blocks.{laid-room, blocks-long, live-most}

module _ {m : List ℕ} {h : Header} {map : ℕ} (k : Settles m h map) (os ns : List ℕ) (eo : os ≡ starts m h map) (en : ns ≡ sizes m h map) where
  abbrev part : List ℕ
  part = take (h.room + h.size - h.room) (drop h.room m)

  cut : part ≡ room_in m h
  cut = part_cut h.room h.size (drop h.room m)

  pub laid-part : Laid os ns (length part)
  laid-part = rw (eo, en, cut) (laid-room m h map k)

  module _ (r : ℕ) (l z : List ℕ) (e : packed r l z ≡ pack_of part os ns) where
    is : packed r l z ≡ pack_of (room_in m h) (starts m h map) (sizes m h map)
    is = e ∙ ap (λ (x : List ℕ). pack_of x os ns) cut ∙ ap₂ (pack_of (room_in m h)) eo en

    places-new : z ≡ new_starts m h map
    unfolding pack_of new_starts
    places-new = ap (λ x. x.places) is

    back : put_mid h.room (h.room + h.size - h.room) m l ≡ sets m h.room (blocks_in m h map ++ [])
    unfolding pack_of blocks_in
    back =
        let s : h.room + h.size - h.room ≡ h.size = omega arith in
        ap₂ (λ (i : ℕ) (x : List ℕ). put_mid h.room i m x) s (ap (λ x. x.room) is)
        ∙ put-part m (blocks_in m h map) h.room h.size (omega (arith, blocks-long m h map k, live-most m h map k)) k.room
        ∙ ap (sets m h.room) (sym (append-nil (blocks_in m h map)))

    pub settled-so : (new : List ℕ) → new ≡ offsets_put h map 0 z (put_mid h.room (h.room + h.size - h.room) m l) → Settled m h map r new
    unfolding pack_of blocks_in moved_down
    settled-so new w =
        record {
          bytes = ap (λ x. x.bytes) is ∙ blocks-long m h map k;
          memory = w ∙ ap₂ (offsets_put h map 0) places-new back;
        }

-- The slot and the header written. Assumes nothing.
use Prim.Native.Nat.{ℕ, ◌+◌, ◌≤◌}
use mathlib.Core.Path.{◌≡◌}
use mathlib.Core.List.{List, [], ◌∷◌}
use native.Mathlib.Omega.{arith}
use lib.ListN.{length}
use lib.Seq.{sets}
use Rattle.format.specs.Answers.{accepted}
use Rattle.format.specs.declared.DayHead.{DayHead}
use Rattle.entries.specs.Keys.{Key, capital_key}
use Rattle.entries.specs.Entries.{entry_bytes}
use Rattle.store.specs.Used.{taken, held}
use Rattle.store.specs.Head.{header_bytes, header_with}
use Rattle.store.specs.Ranges.{slot_place}
use Rattle.entries.specs.Left.{left}
use Rattle.store.specs.declared.Header.{Header}
use Rattle.entering.specs.Enters.{Enterable, entered_of}

pub entry-within : {n : ℕ} {h : Header} {s : ℕ} {nmi suffix : List ℕ} {k start size : ℕ} → Enterable n h s nmi suffix k start size → {at : ℕ} → at ≡ slot_place h s
    → at + length nmi + length suffix + 14 ≤ n
entry-within z e = omega (arith, z.within, z.nmi-long, z.suffix-long)

pub entered : (m : List ℕ) (h : Header) (map s : ℕ) (x : Key) (day : DayHead) (start size : ℕ) {at full d : ℕ} {mid new : List ℕ} → at ≡ slot_place h s
    → mid ≡ sets m at (entry_bytes (capital_key x) (record { minutes = day.length; unit = day.unit; start = start; size = size }))
    → full ≡ taken map s → d ≡ held full
    → new ≡ sets mid 0 (header_bytes (record { slots = h.slots; days = d; map = full; list = h.list; room = h.room; size = h.size; used = start + size }))
    → left (accepted (d ∷ [])) new ≡ entered_of m h map s x day start size
unfolding entered_of header_with
entered m h map s x day start size ea em ef ed en = rw (en, em, ea, ed, ef)

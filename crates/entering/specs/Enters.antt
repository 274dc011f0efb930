-- What the writing of a slot asks, and what it leaves.
use Rattle.std.specs.Prelude.{ℕ, ◌+◌, ◌≤◌, ◌<◌, ◌≡◌, List, [], ◌∷◌, length}
use Rattle.std.proofs.lemmas.List.Edits.{sets}
use Rattle.format.specs.Answers.{accepted}
use Rattle.format.specs.declared.DayHead.{DayHead}
use Rattle.entries.specs.Keys.{Key, capital_key}
use Rattle.entries.specs.Entries.{entry_bytes}
use Rattle.store.specs.Used.{taken, held}
use Rattle.store.specs.Head.{header_bytes, header_with}
use Rattle.store.specs.Ranges.{slot_place}
use Rattle.entries.specs.Left.{Left, left}
use Rattle.store.specs.declared.Header.{Header}

-- slot s can be written for a block of so many bytes at that offset
pub record Enterable (n : ℕ) (h : Header) (s : ℕ) (nmi suffix : List ℕ) (minutes start size : ℕ) : Type 0 where
  pub few : s < 64
  pub within : slot_place h s + 26 ≤ n
  pub nmi-long : length nmi ≡ 10
  pub suffix-long : length suffix ≡ 2
  pub short : minutes < 256
  pub small : start + size < 4294967296

-- the slot and the header are written, and the days held are answered
unfoldable pub entered_of : List ℕ → Header → ℕ → ℕ → Key → DayHead → ℕ → ℕ → Left
entered_of m h map s x d start size =
    left (accepted (held (taken map s) ∷ []))
    (sets (sets m (slot_place h s) (entry_bytes (capital_key x) (record { minutes = d.length; unit = d.unit; start = start; size = size })))
    0 (header_bytes (header_with h (taken map s) (start + size))))

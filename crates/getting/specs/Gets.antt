-- What has to hold before a day is read from its block in a store.
use Rattle.std.specs.Prelude.{ℕ, ◌+◌, ◌≤◌, ◌≡◌, List, length}
use Rattle.format.specs.Answers.{accepted}
use Rattle.entries.specs.declared.Entry.{Entry}
use Rattle.store.specs.Store.{block_says}
use Rattle.store.specs.declared.Header.{Header}

-- the entry's block lies in memory, and is accepted
pub record Readable (m : List ℕ) (h : Header) (e : Entry) : Type 0 where
  pub within : h.room + e.start + e.size ≤ length m
  pub numbers : List ℕ
  pub says : block_says m h e ≡ accepted numbers

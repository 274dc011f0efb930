-- The dates of a store's slots, at hand in a list.
use Rattle.std.specs.Prelude.{ℕ, ◌≤◌, ◌<◌, ◌≡◌, List, get_or}
use Rattle.store.specs.declared.Header.{Header}
use Rattle.slots.specs.Fields.{dates}

-- there is one for each slot that the store may have, and 0 for a free one
pub record Dated (m : List ℕ) (h : Header) (l : List ℕ) : Type 0 where
  pub few : h.slots ≤ 64
  pub are : l ≡ dates m h h.map

-- from slot j on, none before slot k has slot i's date
pub record Passed (l : List ℕ) (i j n k : ℕ) : Type 0 where
  pub from : j ≤ k
  pub within : k ≤ n
  pub other : (s : ℕ) → j ≤ s → s < k → get_or l i 0 ≡ get_or l s 0 → ⊥

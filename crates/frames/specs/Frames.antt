-- The conditions of a store that its header alone meets or not, taken together.
use Rattle.std.specs.Prelude.{ℕ, Bool, ◌&&◌}
use Rattle.store.specs.Used.{none_past}
use Rattle.store.specs.Store.{slotted, counted, in_order, used_fit}
use Rattle.store.specs.declared.Header.{Header}

-- in n bytes
unfoldable pub framed : Header → ℕ → Bool
framed h n = slotted h.slots && counted h && none_past h.map h.slots && in_order h n && used_fit h

-- The header of what is a store.
use Rattle.std.specs.Prelude.{ℕ, cond, List, Option, Some, None}
use Rattle.store.specs.Head.{header_of}
use Rattle.store.specs.Store.{is_store}
use Rattle.store.specs.declared.Header.{Header}

unfoldable pub opened_of : List ℕ → Option Header
opened_of m = cond (is_store m) (Some (header_of m)) None

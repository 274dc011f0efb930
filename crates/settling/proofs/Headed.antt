-- The memory after its header was written with another map and another number of used bytes: slots and blocks are as they were. Assumes nothing.
use Prim.Native.Nat.{ℕ, ◌+◌, ◌≤◌}
use mathlib.Core.Path.{◌≡◌, sym, ap, ◌∙◌}
use mathlib.Core.List.{List}
use mathlib.Core.Bool.{cond}
use native.Mathlib.Omega.{arith}
use lib.ListN.{length}
use lib.Seq.{sets}
use Rattle.ground.specs.Lists.{from}
use Rattle.entries.specs.declared.Entry.{Entry}
use Rattle.store.specs.Used.{used}
use Rattle.store.specs.Head.{header_of, header_bytes, header_with}
use Rattle.store.specs.Ranges.{slot_place, slot_of, starts, sizes}
use Rattle.store.specs.Store.{slot_key, block_in}
use Rattle.store.specs.declared.Header.{Header}
use Rattle.slots.proofs.Back.{HeaderFits, header-back, header-outside, key-outside, entry-outside}
use Rattle.ground.proofs.From.{from-here, from_list, length_from}

-- the memory with that header
abbrev pub headed : List ℕ → Header → ℕ → ℕ → List ℕ
headed m h map end = sets m 0 (header_bytes (header_with h map end))

module _ (m : List ℕ) (h : Header) (map end : ℕ) where
  pub header-headed : 32 ≤ length m → HeaderFits (header_with h map end) → header_of (headed m h map end) ≡ header_with h map end
  header-headed l f = header-back (header_with h map end) m l f

  module _ (l : 32 ≤ h.list) where
    pub slot-headed : (i : ℕ) → slot_of (headed m h map end) (header_with h map end) i ≡ slot_of m h i
    unfolding header_with
    slot-headed i = entry-outside (header_with h map end) m (slot_place h i) (omega arith)

    pub key-headed : (i : ℕ) → slot_key (headed m h map end) (header_with h map end) i ≡ slot_key m h i
    unfolding header_with
    key-headed i = key-outside (header_with h map end) m (slot_place h i) (omega arith)

    -- a number of each used slot
    same : (x : ℕ) (f : Entry → ℕ)
        → from (λ i. cond (used x i) (f (slot_of (headed m h map end) (header_with h map end) i)) 0) 0 64 ≡ from (λ i. cond (used x i) (f (slot_of m h i)) 0) 0 64
    same x f =
        let g : ℕ → ℕ = λ i. cond (used x i) (f (slot_of m h i)) 0 in
        from_list (from g 0 64) (λ i. cond (used x i) (f (slot_of (headed m h map end) (header_with h map end) i)) 0) 64 (length_from g 0 64) (λ j a.
        ap (λ (e : Entry). cond (used x j) (f e) 0) (slot-headed j) ∙ sym (from-here g 0 64 j a))

    pub starts-headed : (x : ℕ) → starts (headed m h map end) (header_with h map end) x ≡ starts m h x
    starts-headed x = same x (λ e. e.start)

    pub sizes-headed : (x : ℕ) → sizes (headed m h map end) (header_with h map end) x ≡ sizes m h x
    sizes-headed x = same x (λ e. e.size)

  pub block-headed : 32 ≤ h.room → (e : Entry) → block_in (headed m h map end) (header_with h map end) e ≡ block_in m h e
  unfolding header_with
  block-headed l e = header-outside (header_with h map end) m (h.room + e.start) e.size (omega arith)

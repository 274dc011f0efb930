-- Entries written into memory and read out of it, one after the other: what is left to write at entry i (`Left` of ground). Assumes nothing.
use Prim.Native.Nat.{ℕ, suc, ◌+◌, ◌-◌, ◌*◌, ◌≤◌, ◌<◌}
use mathlib.Core.Path.{◌≡◌, refl, sym, ap, ◌∙◌}
use mathlib.Core.List.{List, ◌++◌, map}
use native.Mathlib.Numerals.{add-one}
use native.Mathlib.Omega.{arith}
use lib.ListN.{length, take, drop, get_or, set, length-append, length-drop, length-set}
use lib.Seq.{sets, length-take-le, length-sets}
use Rattle.ground.specs.Room.{Put}
use Rattle.ground.proofs.Spans.{part_cut}
use Rattle.ground.proofs.Room.{put_then, Left, left-start, left_step, left_end}
use Rattle.entries.specs.Little.{number_at, in_bytes}
use Rattle.entries.specs.Keys.{capitals}
use Rattle.keys.proofs.Letters.{length-capitals}
use Rattle.little.proofs.Numbers.{length-in, put_in}
use Rattle.tenants.specs.Outputs.{Output, kept_output, outputs_in, output_bytes, keys_of, shares_of}
use Rattle.tenants.specs.Calls.{kept_given}
use Rattle.outputs.proofs.Walks.{given_from, entries_from, given-here, given-none, entry_here, entries_none, entry-share}

-- ---- one entry

pub entry-put : (l key : List ℕ) (at share : ℕ) {a b : List ℕ} → length key ≡ 12 → a ≡ sets l at (capitals key) → b ≡ sets a (at + 12) (in_bytes 2 share)
    → b ≡ sets l at (capitals key ++ in_bytes 2 share)
entry-put l key at share {a} {b} n e f =
    let p : Put l at (capitals key) (at + 12) a = record { behind = omega (arith, length-capitals key); room = e } in
    (put_then p (put_in {j = at + 14} 2 share (omega arith) f)).room

-- ---- the entries that are handed in

-- those before i are written
pub record Given (l₀ : List ℕ) (at : ℕ) (keys shares l : List ℕ) (i : ℕ) : Type 0 where
  pub within : i ≤ 128
  pub kept : length l ≡ length l₀
  pub left : Left l₀ at (output_bytes (kept_given keys shares)) l (at + 14 * i) (output_bytes (map kept_output (given_from keys shares i)))

module _ (l₀ : List ℕ) (at : ℕ) (keys shares : List ℕ) where
  pub given-start : Given l₀ at keys shares l₀ 0
  given-start =
      let z : at + 14 * 0 ≡ at = omega arith in
      record { within = omega arith; kept = refl; left = rw z (left-start l₀ at (output_bytes (kept_given keys shares))) }

  pub given-more : (l : List ℕ) (i : ℕ) {b : List ℕ} → 1536 ≤ length keys → i < 128 → Given l₀ at keys shares l i
      → b ≡ sets l (at + 14 * i) (capitals (take (12 * i + 12 - 12 * i) (drop (12 * i) keys)) ++ in_bytes 2 (get_or shares i 0))
      → Given l₀ at keys shares b (i + 1)
  unfolding output_bytes kept_output
  given-more l i {b} k h r e =
      let key : List ℕ = take 12 (drop (12 * i) keys) in
      let n : length key ≡ 12 = length-take-le 12 (drop (12 * i) keys) (omega (arith, length-drop (12 * i) keys)) in
      let c : length (capitals key ++ in_bytes 2 (get_or shares i 0)) ≡ 14 = omega (arith, length-append (capitals key) (in_bytes 2 (get_or shares i 0)), length-capitals key, length-in 2 (get_or shares i 0)) in
      let e' : b ≡ sets l (at + 14 * i) (capitals key ++ in_bytes 2 (get_or shares i 0)) = rw (part_cut (12 * i) 12 (drop (12 * i) keys)) at e in
      let w : Put l (at + 14 * i) (capitals key ++ in_bytes 2 (get_or shares i 0)) (at + 14 * (i + 1)) b = record { behind = omega arith; room = e' } in
      record {
        within = omega arith;
        kept = ap length e' ∙ length-sets l (at + 14 * i) (capitals key ++ in_bytes 2 (get_or shares i 0)) ∙ r.kept;
        left =
            left_step (capitals key ++ in_bytes 2 (get_or shares i 0)) (output_bytes (map kept_output (given_from keys shares (i + 1)))) r.left
            (ap (λ (os : List Output). output_bytes (map kept_output os)) (given-here keys shares i h)) w;
      }

  pub given-end : (l : List ℕ) (i : ℕ) → 128 ≤ i → Given l₀ at keys shares l i → l ≡ sets l₀ at (output_bytes (kept_given keys shares))
  unfolding output_bytes
  given-end l i h r = (left_end r.left (ap (λ (os : List Output). output_bytes (map kept_output os)) (given-none keys shares i h))).room

-- ---- keys out of memory

pub record Keys (e l₀ l : List ℕ) (i : ℕ) : Type 0 where
  pub within : i ≤ 128
  pub kept : length l ≡ length l₀
  pub left : Left l₀ 0 (keys_of (outputs_in 128 e)) l (12 * i) (keys_of (entries_from e i))

module _ (e l₀ : List ℕ) where
  pub keys-start : Keys e l₀ l₀ 0
  keys-start = record { within = omega arith; kept = refl; left = left-start l₀ 0 (keys_of (outputs_in 128 e)) }

  pub keys-more : (l : List ℕ) (i : ℕ) {b : List ℕ} {j : ℕ} → length e ≡ 1792 → i < 128 → Keys e l₀ l i
      → Put l (12 * i) (take (14 * i + 12 - 14 * i) (drop (14 * i) e)) j b → Keys e l₀ b (i + 1)
  unfolding keys_of
  keys-more l i {b} {j} k h r p =
      let key : List ℕ = take 12 (drop (14 * i) e) in
      let n : length key ≡ 12 = length-take-le 12 (drop (14 * i) e) (omega (arith, length-drop (14 * i) e)) in
      let q : b ≡ sets l (12 * i) key = rw (part_cut (14 * i) 12 (drop (14 * i) e)) at p.room in
      let w : Put l (12 * i) key (12 * (i + 1)) b = record { behind = omega arith; room = q } in
      record {
        within = omega arith;
        kept = ap length q ∙ length-sets l (12 * i) key ∙ r.kept;
        left = left_step key (keys_of (entries_from e (i + 1))) r.left (ap keys_of (entry_here e i h)) w;
      }

  pub keys-end : (l : List ℕ) (i : ℕ) → 128 ≤ i → Keys e l₀ l i → l ≡ sets l₀ 0 (keys_of (outputs_in 128 e))
  unfolding keys_of
  keys-end l i h r = (left_end r.left (ap keys_of (entries_none e i h))).room

-- ---- shares out of memory

pub record Shares (e l₀ l : List ℕ) (i : ℕ) : Type 0 where
  pub within : i ≤ 128
  pub kept : length l ≡ length l₀
  pub left : sets l i (shares_of (entries_from e i)) ≡ sets l₀ 0 (shares_of (outputs_in 128 e))

module _ (e l₀ : List ℕ) where
  pub shares-start : Shares e l₀ l₀ 0
  shares-start = record { within = omega arith; kept = refl; left = refl }

  pub shares-more : (l : List ℕ) (i : ℕ) {v : ℕ} → i < 128 → Shares e l₀ l i → v ≡ number_at (take (14 * i + 14 - 14 * i) (drop (14 * i) e)) 12 2
      → Shares e l₀ (set l i v) (i + 1)
  shares-more l i {v} h r q =
      record {
        within = omega arith;
        kept = length-set l i v ∙ r.kept;
        left =
            ap (λ (x : ℕ). sets (set l i v) x (shares_of (entries_from e (i + 1)))) (add-one i)
            ∙ ap (λ (x : ℕ). sets (set l i x) (suc i) (shares_of (entries_from e (i + 1)))) (q ∙ entry-share e i)
            ∙ ap (λ (os : List Output). sets l i (shares_of os)) (sym (entry_here e i h))
            ∙ r.left;
      }

  pub shares-end : (l : List ℕ) (i : ℕ) → 128 ≤ i → Shares e l₀ l i → l ≡ sets l₀ 0 (shares_of (outputs_in 128 e))
  shares-end l i h r = rw (entries_none e i h) at r.left

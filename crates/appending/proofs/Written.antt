-- A version written behind others: with entries that are handed in, and with those of another version, whose bytes are moved. Assumes nothing.
use Prim.Native.Nat.{ℕ, ◌+◌, ◌-◌, ◌≤◌, ◌<◌}
use mathlib.Core.Path.{◌≡◌, refl, sym, ap, ◌∙◌}
use mathlib.Core.List.{List, ◌++◌}
use native.Mathlib.Omega.{arith}
use lib.ListN.{length, get_or}
use lib.Seq.{sets, length-sets, take_all}
use Rattle.ground.specs.Room.{Put}
use Rattle.ground.proofs.Room.{put_then}
use Rattle.entries.specs.Little.{piece, in_bytes}
use Rattle.moving.specs.Moving.{Within, moved}
use Rattle.moving.proofs.Moves.{moved-sets}
use Rattle.little.proofs.Pieces.{piece-before}
use Rattle.little.proofs.Numbers.{put_in}
use Rattle.tenants.specs.Outputs.{Output, outputs_in, output_bytes}
use Rattle.tenants.specs.Versions.{Version, version, none, version_from, version_bytes, version_place, version_at, count_in, versions_in}
use Rattle.tenants.specs.Calls.{with_version, outputs_of}
use Rattle.output_bytes.proofs.Back.{piece_bytes, bytes_back}
use Rattle.versions.proofs.Pieces.{entries-part, entries-long, version-here}

-- first date, entries and count, one after the other
pub written : (m : List ℕ) (first : ℕ) (os : List Output) {n at : ℕ} {a b c : List ℕ} → n ≡ count_in m → at ≡ version_place n
    → a ≡ sets m at (in_bytes 4 first) → b ≡ sets a (at + 4) (output_bytes os) → c ≡ sets b 0 (in_bytes 4 (n + 1)) → c ≡ with_version m (version first os)
unfolding with_version version_bytes
written m first os {n} {at} {a} {b} {c} e p ea eb ec =
    let w : Put a (at + 4) (output_bytes os) (at + 4 + length (output_bytes os)) b = record { behind = refl; room = eb } in
    let q : b ≡ sets m at (in_bytes 4 first ++ output_bytes os) = (put_then (put_in {j = at + 4} 4 first (omega arith) ea) w).room in
    let v : at ≡ version_place (count_in m) = p ∙ ap version_place e in
    ec
    ∙ ap (λ (x : ℕ). sets b 0 (in_bytes 4 (x + 1))) e
    ∙ ap (λ (x : List ℕ). sets x 0 (in_bytes 4 (count_in m + 1))) (q ∙ ap (λ (x : ℕ). sets m x (in_bytes 4 first ++ output_bytes os)) v)

-- ---- the bytes of a version's entries, moved

module _ (m : List ℕ) (l : 57476 ≤ length m) {n k : ℕ} (few : n < 32) (h : k < n) {at from : ℕ} (p : at ≡ version_place n) (q : from ≡ version_place k) {a : List ℕ} (first : ℕ)
    (ea : a ≡ sets m at (in_bytes 4 first)) where
  pub move-within : Within a (from + 4) (at + 4) 1792
  move-within =
      let z : length a ≡ length m = ap length ea ∙ length-sets m at (in_bytes 4 first) in
      record { from = omega arith; to = omega arith }

  -- they lie before the new version
  kept_there : piece a (from + 4) 1792 ≡ piece m (from + 4) 1792
  kept_there = ap (λ (x : List ℕ). piece x (from + 4) 1792) ea ∙ piece-before (in_bytes 4 first) m (from + 4) 1792 at (omega arith)

  moved_as : (e : n ≡ count_in m) → ((i : ℕ) → get_or m i 0 < 256) → moved a (from + 4) (at + 4) 1792 ≡ sets a (at + 4) (output_bytes (outputs_of (versions_in m) (k + 1)))
  unfolding version_at version_from
  moved_as e f =
      let s : List ℕ = piece m (from + 4) 1792 in
      let i : k + 1 - 1 ≡ k = omega arith in
      let v : get_or (versions_in m) (k + 1 - 1) none ≡ version_at m k = ap (λ (x : ℕ). get_or (versions_in m) x none) i ∙ version-here m k (omega arith) in
      let o : outputs_of (versions_in m) (k + 1) ≡ outputs_in 128 s = ap (λ (x : Version). x.outputs) v ∙ ap (outputs_in 128) (sym (entries-part m k q refl)) in
      let w : length s ≡ 1792 = entries-long m k l (omega arith) (entries-part m k q refl) in
      let b : output_bytes (outputs_in 128 s) ≡ s = bytes_back 128 s (piece_bytes m (from + 4) 1792 f) (omega arith) ∙ take_all 1792 s (omega arith) in
      moved-sets a (from + 4) (at + 4) 1792 move-within ∙ ap (sets a (at + 4)) (kept_there ∙ sym (ap output_bytes o ∙ b))

  pub copied : n ≡ count_in m → ((i : ℕ) → get_or m i 0 < 256) → {b c : List ℕ} → b ≡ moved a (from + 4) (at + 4) 1792 → c ≡ sets b 0 (in_bytes 4 (n + 1))
      → c ≡ with_version m (version first (outputs_of (versions_in m) (k + 1)))
  copied e f eb ec = written m first (outputs_of (versions_in m) (k + 1)) e p ea (eb ∙ moved_as e f) ec

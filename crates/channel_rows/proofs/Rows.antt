-- The line of a channel from its parts, and the days of a channel as they are counted. Assumes nothing.
use Prim.Native.Nat.{ℕ, suc, ◌+◌, ◌-◌, ◌≤◌}
use mathlib.Core.Path.{◌≡◌}
use mathlib.Core.List.{List, [], ◌∷◌}
use Rattle.std.proofs.Common.{Option, Some, None}
use native.Mathlib.Omega.{arith}
use borrow.Author.Tests.{ne_eqb}
use lib.ListN.{length, drop}
use Rattle.ground.specs.Lists.{part}
use Rattle.format.specs.Cut.{lines, fields, field}
use Rattle.format.specs.Records.{kind_in}
use Rattle.lines.specs.Places.{LineEnd}
use Rattle.lines.proofs.Ends.{line-none, line-more}
use Rattle.channel.specs.declared.Channel.{Channel}
use Rattle.channel.specs.declared.Channel.TheVariants.{Days, Quantity}
use Rattle.page.specs.Filled.{Filled}
use Rattle.page.proofs.Filling.{filled-then}
use Rattle.phrase.specs.Phrases.{line_text}
use Rattle.tables.specs.Totals.{row_text}
use Rattle.channel_rows.specs.Rows.{days_ahead, channel_row, channel_text}

-- ---- days

module _ (file : List ℕ) (at e d all : ℕ) (s : LineEnd file at e) (inv : all ≡ d + days_ahead (lines (drop at file))) where
  pub days-end : e ≡ length file → d ≡ all
  unfolding days_ahead
  days-end h = let z : days_ahead (lines (drop at file)) ≡ 0 = (rw (line-none file at e s h)) in omega arith

  module _ (go : e ≡ length file → ⊥) {k : ℕ} (ek : k ≡ kind_in (fields (part file at e))) where
    pub days-stop : k ≡ 200 → d ≡ all
    unfolding days_ahead
    days-stop h = let z : days_ahead (lines (drop at file)) ≡ 0 = (rw (line-more file at e s go, ← ek, h)) in omega arith

    pub days-day : (k ≡ 200 → ⊥) → k ≡ 300 → all ≡ d + 1 + days_ahead (lines (drop (e + 2) file))
    unfolding days_ahead
    days-day h g =
        let z : days_ahead (lines (drop at file)) ≡ suc (days_ahead (lines (drop (e + 2) file))) = (rw (line-more file at e s go, ← ek, g)) in
        omega arith

    pub days-pass : (k ≡ 200 → ⊥) → (k ≡ 300 → ⊥) → all ≡ d + days_ahead (lines (drop (e + 2) file))
    unfolding days_ahead
    days-pass h g =
        let z : days_ahead (lines (drop at file)) ≡ days_ahead (lines (drop (e + 2) file)) = (rw (line-more file at e s go, ← ek, ne_eqb _ _ h, ne_eqb _ _ g)) in
        omega arith

-- there are no more days than bytes before them
module _ (file : List ℕ) (at e d : ℕ) (s : LineEnd file at e) (h : d ≤ at) where
  pub days-few : d + 1 ≤ e + 2
  days-few = omega (arith, s.order)

  pub days-fewer : d ≤ e + 2
  days-fewer = omega (arith, s.order)

-- ---- the line

module _ {p₀ p₁ p₂ : List ℕ} {i j : ℕ} where
  -- the row of a channel, by the fields of its record
  pub channel-put : (n : ℕ) (fs : List (List ℕ)) (unit days t : ℕ) {nmi suffix u : List ℕ} → nmi ≡ field (2 - 1) fs → suffix ≡ field (5 - 1) fs
      → u ≡ field (unit - 1) fs → Filled p₀ 0 (row_text n nmi suffix u days t 0) i p₁ → Filled p₁ i (10 ∷ []) j p₂
      → Filled p₀ 0 (channel_row n fs (unit - 1) days t) j p₂
  unfolding channel_row line_text
  channel-put n fs unit days t en es eu a b = rw (← en, ← es, ← eu) (filled-then a b)

-- and by where it stands
module _ {p₀ p₁ : List ℕ} {i : ℕ} (file : List ℕ) (k : ℕ) (place : Option Channel) (t : ℕ) where
  pub placed-days : (c : Channel) (a e d : ℕ) {s : List ℕ} → place ≡ Some c → c ≡ Days a e → s ≡ part file a e → d ≡ days_ahead (lines (drop (e + 2) file))
      → Filled p₀ 0 (channel_row k (fields s) (8 - 1) d t) i p₁ → Filled p₀ 0 (channel_text file k place t) i p₁
  placed-days c a e d o h es ed w = rw (o, h, ← es, ← ed) w

  pub placed-quantity : (c : Channel) (a e : ℕ) {s : List ℕ} → place ≡ Some c → c ≡ Quantity a e → s ≡ part file a e
      → Filled p₀ 0 (channel_row k (fields s) (20 - 1) 0 t) i p₁ → Filled p₀ 0 (channel_text file k place t) i p₁
  placed-quantity c a e o h es w = rw (o, h, ← es) w

  pub placed-missing : place ≡ None → Filled p₀ 0 [] i p₁ → Filled p₀ 0 (channel_text file k place t) i p₁
  placed-missing h w = rw h w

-- Texts of numbers that were worked out first. Assumes nothing.
use Prim.Native.Nat.{ℕ, ◌+◌, ◌*◌}
use mathlib.Core.Path.{◌≡◌, sym, ap, ◌∙◌}
use mathlib.Core.List.{List, []}
use lib.ListN.{take}
use Rattle.ground.specs.Text.{bytes}
use Rattle.page.specs.Filled.{Filled}
use Rattle.page.specs.Texts.{texts}
use Rattle.page.proofs.Filling.{filled-then, filled-as}
use Rattle.phrase.proofs.Chained.{filled-four}
use Rattle.words.specs.Lists.{numbered}
use Rattle.measures.specs.Axis.{step_for, steps_for, height_of}
use Rattle.measures.specs.Counts.{count_of}
use Rattle.chart.specs.Parts.{share_of, number_in, value_in, band_text, shade_of, colours, colour_text}
use Rattle.chart.specs.Bars.{minutes_text, span_text, rect_text, x_of, column_text, pillar_text}
use Rattle.chart.specs.Frame.{lengths_text, line_text, step_text, lines_text}
use Rattle.chart.specs.Legend.{hatch_text, named_text, entry_text}

module _ {p₀ p₁ p₂ : List ℕ} {at a b : ℕ} where
  pub column-put : (i n flag x w : ℕ) → x ≡ share_of (i * 864000000) n → w ≡ share_of 864000000 n
      → Filled p₀ at (rect_text (bytes "</title><rect x='") x w 300000000) a p₁ → Filled p₁ a (band_text flag) b p₂ → Filled p₀ at (column_text i n flag) b p₂
  unfolding column_text x_of
  column-put i n flag x w e f p q = rw (← e, ← f) (filled-then p q)

  pub lengths-put : (n m : ℕ) → m ≡ share_of 1440 n → Filled p₀ at (number_in (bytes "</text></g>\n<text x='76' y='56'>") n (bytes " intervals of ")) a p₁
      → Filled p₁ a (number_in [] m (bytes " minutes</text><text x='940' y='56' text-anchor='end'>sum of the day</text>\n")) b p₂ → Filled p₀ at (lengths_text n) b p₂
  unfolding lengths_text
  lengths-put n m f p q = rw (← f) (filled-then p q)

  pub step-put : (most k s h : ℕ) → s ≡ step_for most → h ≡ height_of most (k * s)
      → Filled p₀ at (value_in (bytes "<g transform='translate(0 -") h (bytes ")'><path d='M-4 0h868' stroke='#d4d4d4'/><text x='-8' y='4'>")) a p₁
      → Filled p₁ a (value_in [] (k * s) (bytes "</text></g>\n")) b p₂ → Filled p₀ at (step_text most k) b p₂
  unfolding step_text line_text
  step-put most k s h e f p q = rw (← e, ← f) (filled-then p q)

-- the number of the colour of a flag that is known
pub shade-known : (k : ℕ) {flag r : ℕ} → flag ≡ k → r ≡ shade_of k → r ≡ shade_of flag
shade-known k e h = h ∙ ap shade_of (sym e)

pub colour-put : (flag k : ℕ) {text p₀ p₁ : List ℕ} {at a : ℕ} → k ≡ shade_of flag → text ≡ numbered k colours → Filled p₀ at text a p₁ → Filled p₀ at (colour_text flag) a p₁
unfolding colour_text
colour-put flag k e f p = filled-as p (f ∙ ap (λ (z : ℕ). numbered z colours) e)

pub pillar-put : (i n value flag most x w h : ℕ) {p₀ p₁ p₂ p₃ : List ℕ} {at a b c : ℕ} → x ≡ share_of (i * 864000000) n → w ≡ share_of 768000000 n → h ≡ height_of most value
    → Filled p₀ at (rect_text (bytes "<rect x='") x w h) a p₁ → Filled p₁ a (colour_text flag) b p₂ → Filled p₂ b (bytes "</g>\n") c p₃
    → Filled p₀ at (pillar_text i n value flag most) c p₃
unfolding pillar_text x_of
pillar-put i n value flag most x w h e f g p q r = rw (← e, ← f, ← g) (filled-then (filled-then p q) r)

pub span-put : (i n s t : ℕ) {p₀ p₁ p₂ p₃ p₄ : List ℕ} {at a b c d : ℕ} → s ≡ share_of (i * 1440) n → t ≡ share_of ((i + 1) * 1440) n
    → Filled p₀ at (minutes_text s) a p₁ → Filled p₁ a (bytes " to ") b p₂ → Filled p₂ b (minutes_text t) c p₃ → Filled p₃ c (bytes ": ") d p₄
    → Filled p₀ at (span_text i n) d p₄
unfolding span_text
span-put i n s t e f p q r u = rw (← e, ← f) (filled-four p q r u)

pub entry-put : (flags : List ℕ) (n x flag k : ℕ) {p₀ p₁ p₂ p₃ p₄ : List ℕ} {at a b c d : ℕ} → k ≡ count_of flag (take n flags)
    → Filled p₀ at (number_in (bytes "<g transform='translate(") x (bytes " 42)'><rect width='14' height='14'")) a p₁ → Filled p₁ a (colour_text flag) b p₂
    → Filled p₂ b (hatch_text flag) c p₃ → Filled p₃ c (named_text flag k) d p₄ → Filled p₀ at (entry_text flags n x flag) d p₄
unfolding entry_text
entry-put flags n x flag k e p q r s = rw (← e) (filled-four p q r s)

-- the line of 0 and one of each step
pub lines-put : (most s : ℕ) {p₀ p₁ : List ℕ} {at a : ℕ} → s ≡ steps_for most → Filled p₀ at (texts (step_text most) (s + 1)) a p₁ → Filled p₀ at (lines_text most) a p₁
unfolding lines_text
lines-put most s e p = rw (← e) p

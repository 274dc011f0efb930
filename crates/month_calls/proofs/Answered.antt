-- The line of a call that reads several days, from what the call answered. Assumes nothing.
use Prim.Native.Nat.{ℕ}
use mathlib.Core.Path.{◌≡◌, ap, ◌∙◌}
use mathlib.Core.Bool.{Bool, ◌&&◌}
use mathlib.Core.List.{List, [], ◌∷◌}
use lib.ListN.{get_or}
use Rattle.ground.specs.Digits.{dec}
use Rattle.format.specs.Answers.{Answer}
use Rattle.page.specs.Filled.{Filled}
use Rattle.page.specs.Texts.{texts}
use Rattle.page.proofs.Filling.{filled-then, filled-as}
use Rattle.answer_lines.specs.Lines.{line_of, numbers_text}
use Rattle.calls.specs.Kept.{kept_all}
use Rattle.calls.specs.Lines.{intervals_in}
use Rattle.months.specs.Month.{Daily, Lent, DaysLeft, days_left}
use Rattle.month_calls.specs.Lines.{days_in, day_in, days_text, kept_daily, kept_behind}

-- a day's text from its date and the numbers behind it
module _ (ds : Daily) (k : ℕ) {l m n : List ℕ} {at i j : ℕ} (t c u o e : ℕ) where
  pub day-put : t ≡ get_or ds.dates k 0 → c ≡ get_or ds.counts k 0 → u ≡ get_or ds.updates k 0 → o ≡ get_or ds.loads k 0 → e ≡ get_or ds.units k 0
      → Filled l at (32 ∷ dec t) i m → Filled m i (numbers_text 47 (c ∷ u ∷ o ∷ e ∷ [])) j n → Filled l at (day_in ds k) j n
  unfolding day_in
  day-put ht hc hu ho he p q = rw (← ht, ← hc, ← hu, ← ho, ← he) (filled-then p q)

-- the line from the answer and the days behind it, and whether the lists are kept, from what each kind of them says
module _ (a : Answer) (w : Lent) (d : ℕ) (e : d ≡ days_in a) where
  pub line-begun : {p₀ p₁ p₂ : List ℕ} {at i j : ℕ} → Filled p₀ at (line_of a) i p₁ → Filled p₁ i (texts (day_in w.days) d) j p₂ → Filled p₀ at (days_text (days_left a w)) j p₂
  unfolding days_text
  line-begun p q = filled-then p (filled-as q (ap (texts (day_in w.days)) e))

  pub lists-kept : (k : ℕ) (b : Bool) → k ≡ intervals_in a → b ≡ (kept_all k w.values w.marks && kept_daily d w.days) → b ≡ kept_behind (days_left a w)
  unfolding kept_behind
  lists-kept k b ek eb = rw (← e, ← ek) eb

-- what the call has left, by its meaning
module _ {l m : DaysLeft} (h : l ≡ m) where
  pub line_as : {p₀ p₁ : List ℕ} {at i : ℕ} → Filled p₀ at (days_text l) i p₁ → Filled p₀ at (days_text m) i p₁
  line_as p = filled-as p (ap days_text h)

  pub intervals-as : {k : ℕ} → k ≡ intervals_in l.answer → k ≡ intervals_in m.answer
  intervals-as e = e ∙ ap (λ (z : DaysLeft). intervals_in z.answer) h

  pub kept-as : {b : Bool} → b ≡ kept_behind l → b ≡ kept_behind m
  kept-as e = e ∙ ap kept_behind h

  pub lists-as : l.lists ≡ m.lists
  lists-as = ap (λ (z : DaysLeft). z.lists) h

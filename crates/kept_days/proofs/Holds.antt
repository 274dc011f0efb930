-- A slot that holds a day, one law for a return of the code. Assumes nothing.
use Rattle.std.proofs.Common.{Option, Some, None, Result, Ok, Err}
use Prim.Native.Nat.{ℕ, ◌+◌}
use mathlib.Core.Path.{◌≡◌, refl, sym, ◌∙◌}
use mathlib.Core.Bool.{Bool, true, false}
use mathlib.Core.List.{List}
use native.Mathlib.Omega.{arith}
use lib.ListN.{drop, get_or}
use lib.Dec.{eqb}
use Rattle.format.specs.Answers.{Answer, accepted, refused, block_checked_as}
use Rattle.format.specs.File.{block_check_of}
use Rattle.format.specs.declared.Refusal.{Refusal}
use Rattle.format.specs.declared.BlockChecked.{BlockChecked}
use Rattle.alone.specs.Walk.{date_said}
use Rattle.entries.specs.Little.{piece, number_at}
use Rattle.entries.specs.Keys.{key, kept_key}
use Rattle.entries.specs.Entries.{key_at, entry_at}
use Rattle.entries.specs.declared.Entry.{Entry}
use Rattle.store.specs.Ranges.{slot_place}
use Rattle.store.specs.Store.{slot_key, block_says, is_dated, holds_day}
use Rattle.store.specs.Calls.{update_said}
use Rattle.store.specs.declared.Header.{Header}

-- ---- the check of a block

pub block-says : (m : List ℕ) (h : Header) (e : Entry) {p : List ℕ} {a : Answer} → p ≡ piece m (h.room + e.start) e.size → a ≡ block_check_of e.minutes e.unit (drop 0 p)
    → a ≡ block_says m h e
block-says m h e ep ea = ea ∙ rw ep

-- the date in an answer
dated : (a : Answer) (date : ℕ) {t : ℕ} → Some t ≡ date_said a → eqb t date ≡ is_dated a date
unfolding date_said is_dated
dated (accepted xs) date {t} e = let z : t ≡ get_or xs 0 0 = cc in rw z
dated (refused x p k i) date {t} e = let z : ◌≡◌ {A = ℕ} 0 1 = cc in absurd (omega arith)

undated : (a : Answer) (date : ℕ) → None ≡ date_said a → false ≡ is_dated a date
unfolding date_said is_dated
undated (accepted xs) date e = let z : ◌≡◌ {A = ℕ} 0 1 = cc in absurd (omega arith)
undated (refused x p k i) date e = refl

module _ (m : List ℕ) (h : Header) (e : Entry) {p : List ℕ} (ep : p ≡ piece m (h.room + e.start) e.size) {x : Option ℕ} (ex : x ≡ date_said (block_check_of e.minutes e.unit (drop 0 p))) (date : ℕ) where
  says : x ≡ date_said (block_says m h e)
  says = ex ∙ rw ep

  pub block-dated : {t : ℕ} → x ≡ Some t → eqb t date ≡ is_dated (block_says m h e) date
  block-dated q = dated (block_says m h e) date (sym q ∙ says)

  pub block-undated : x ≡ None → false ≡ is_dated (block_says m h e) date
  block-undated q = undated (block_says m h e) date (sym q ∙ says)

module _ {c : Result BlockChecked Refusal} where
  module _ {d : BlockChecked} (e : c ≡ Ok d) where
    pub update-is : d.update ≡ update_said (block_checked_as c)
    unfolding update_said
    update-is = rw e

  module _ {x : Refusal} (e : c ≡ Err x) where
    pub no-update : 0 ≡ update_said (block_checked_as c)
    unfolding update_said
    no-update = rw e

-- ---- a slot

module _ (m : List ℕ) (h : Header) (i : ℕ) where
  pub key-there : {a d : ℕ} {n s : List ℕ} {b : Bool} → a ≡ slot_place h i → d ≡ number_at m (a + 12) 4 → n ≡ piece m a 10 → s ≡ piece m (a + 10) 2 → b ≡ kept_key (key n s d)
      → b ≡ kept_key (slot_key m h i)
  unfolding key_at
  key-there at ed en es eb = rw (← at, ← ed, ← en, ← es) eb

  module _ {b : Bool} (eb : b ≡ kept_key (slot_key m h i)) where
    pub day-there : b ≡ true → {a : ℕ} {e : Entry} {d : ℕ} {r : Bool} → a ≡ slot_place h i → e ≡ entry_at m a → d ≡ number_at m (a + 12) 4 → r ≡ is_dated (block_says m h e) d → r ≡ holds_day m h i
    unfolding holds_day key_at
    day-there t at ee ed er = rw (sym eb ∙ t, ← at, ← ee, ← ed) er

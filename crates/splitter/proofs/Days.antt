-- The ways out of splitting a day: by the map on its date, of a file, and of a store. Assumes nothing.
use Rattle.std.proofs.Common.{Result, Ok, Err}
use Prim.Native.Nat.{ℕ, ◌≤◌}
use mathlib.Core.Path.{◌≡◌, sym, ap, ◌∙◌}
use mathlib.Core.Bool.{true}
use mathlib.Core.List.{List, [], ◌∷◌, append-nil}
use native.Mathlib.Omega.{arith}
use lib.ListN.{length, drop_of_length-le}
use lib.Dec.{leb}
use borrow.Author.Tests.{leb-true}
use Rattle.ground.specs.Lists.{sum}
use Rattle.ground.proofs.Cases.{by}
use Rattle.format.specs.Cut.{field}
use Rattle.format.specs.Records.{date_in}
use Rattle.format.specs.Answers.{Answer, accepted, refused, refused_as, totalled_as}
use Rattle.format.specs.Day.{values_of, over}
use Rattle.format.specs.declared.Refusal.{Refusal}
use Rattle.entries.specs.Keys.{Key, key}
use Rattle.entries.specs.Left.{Left, left}
use Rattle.store.specs.Head.{header_of}
use Rattle.store.specs.Store.{is_store}
use Rattle.store.specs.Calls.{is_there}
use Rattle.tenants.specs.Outputs.{keys_of, shares_of}
use Rattle.tenants.specs.Versions.{versions_in, is_map, version_on}
use Rattle.tenants.specs.Calls.{versioned_as, enough, outputs_of, Mapped, mapped, fill_of, ask_of, on_of}
use Rattle.tenant_map.proofs.Asks.{on-keys-long, on-shares-long}
use Rattle.whose.specs.Whose.{nmi_field, suffix_field}
use Rattle.day_sums.specs.Sought.{day_in, rows_of, sought_as, Within, within_as}
use Rattle.day_sums.specs.declared.DayAt.{DayAt}
use Rattle.stored_sums.specs.Sums.{sum_at, stored_sum_of}
use Rattle.splits.specs.Calls.{split_of, split_on, split_day_of, split_stored_of}

-- ---- the map on a date

-- a list over one of its length
whole : (xs ls : List ℕ) → length xs ≡ length ls → over xs ls ≡ xs
whole xs ls e = let h : length ls ≤ length xs = omega arith in rw (drop_of_length-le ls h, append-nil xs)

-- an answer is accepted or refused, and not both
differ : {X : Type 0} {x p k f : ℕ} {xs : List ℕ} → refused x p k f ≡ accepted xs → X
differ {X} {x} {p} {k} {f} {xs} e =
    let z : ◌≡◌ {A = ℕ} 0 1 = cc in
    absurd (omega arith)

differs : {X : Type 0} {x p k f : ℕ} {xs ks ss ks₁ ss₁ : List ℕ} → mapped (refused x p k f) ks ss ≡ mapped (accepted xs) ks₁ ss₁ → X
differs e = differ (ap (λ (o : Mapped). o.answer) e)

-- lists of just the length of 128 outputs
room : (ks ss : List ℕ) → length ks ≡ 1536 → length ss ≡ 128 → enough ks ss ≡ true
unfolding enough
room ks ss k s = rw (k, s)

-- a map that was read into such lists
module _ (t : ℕ) (nmi suffix m : List ℕ) (date : ℕ) (ps ks ss : List ℕ) {ks₁ ss₁ : List ℕ} (k : length ks ≡ 1536) (s : length ss ≡ 128) where
  -- was refused: that is the answer
  refused-on : {x p r f : ℕ} → mapped (refused x p r f) ks₁ ss₁ ≡ on_of m date ks ss → left (refused x p r f) ps ≡ split_on t nmi suffix date m ps
  unfolding on_of ask_of fill_of split_on
  refused-on {x} {p} {r} {f} e =
      by (is_map m)
      (λ a.
      by (leb 1 (version_on (versions_in m) date))
      (λ b. differs (rw (a, b, room ks ss k s) at e))
      (λ b. rw (a, b) (ap (λ (o : Mapped). left o.answer ps) (rw (a, b) at e))))
      (λ a. rw a (ap (λ (o : Mapped). left o.answer ps) (rw a at e)))

  -- was accepted: what is split by it is the answer
  version-on : {xs : List ℕ} {l : Left} → mapped (accepted xs) ks₁ ss₁ ≡ on_of m date ks ss → l ≡ split_of t nmi suffix ks₁ ss₁ ps → l ≡ split_on t nmi suffix date m ps
  unfolding on_of ask_of fill_of split_on
  version-on {xs} {l} e q =
      by (is_map m)
      (λ a.
      by (leb 1 (version_on (versions_in m) date))
      (λ b.
      let v : ℕ = version_on (versions_in m) date in
      let g : mapped (accepted xs) ks₁ ss₁ ≡ mapped (accepted (v ∷ [])) (over (keys_of (outputs_of (versions_in m) v)) ks) (over (shares_of (outputs_of (versions_in m) v)) ss) =
      rw (a, b, room ks ss k s) at e in
      let u : ks₁ ≡ keys_of (outputs_of (versions_in m) v) =
      ap (λ (o : Mapped). o.keys) g ∙ whole (keys_of (outputs_of (versions_in m) v)) ks (on-keys-long m date a (leb-true 1 v b) ∙ sym k) in
      let w : ss₁ ≡ shares_of (outputs_of (versions_in m) v) =
      ap (λ (o : Mapped). o.shares) g ∙ whole (shares_of (outputs_of (versions_in m) v)) ss (on-shares-long m date a (leb-true 1 v b) ∙ sym s) in
      rw (a, b, ← u, ← w) q)
      (λ b. differs (sym (rw (a, b) at e))))
      (λ a. differs (sym (rw a at e)))

  pub on-refused : {r : Result ℕ Refusal} {x : Refusal} → r ≡ Err x → mapped (versioned_as r) ks₁ ss₁ ≡ on_of m date ks ss
      → left (refused_as x) ps ≡ split_on t nmi suffix date m ps
  on-refused q e = refused-on (ap (λ (r : Result ℕ Refusal). mapped (versioned_as r) ks₁ ss₁) (sym q) ∙ e)

  pub on-version : {r : Result ℕ Refusal} {n : ℕ} {l : Left} → r ≡ Ok n → mapped (versioned_as r) ks₁ ss₁ ≡ on_of m date ks ss
      → l ≡ split_of t nmi suffix ks₁ ss₁ ps → l ≡ split_on t nmi suffix date m ps
  on-version q e w = version-on (ap (λ (r : Result ℕ Refusal). mapped (versioned_as r) ks₁ ss₁) (sym q) ∙ e) w

-- ---- of a file

pub sought-within : (file : List ℕ) {r : Result DayAt Refusal} {d : DayAt} → r ≡ Ok d → within_as file r → Within file d
sought-within file h w = rw h at w

module _ (file : List ℕ) (day : ℕ) (m ps : List ℕ) {r : Result DayAt Refusal} (e : sought_as file r ≡ day_in file day) where
  pub day-refused : {x : Refusal} → r ≡ Err x → left (refused_as x) ps ≡ split_day_of file day m ps
  unfolding split_day_of
  day-refused h = rw (← e, h)

  pub day-split : {d : DayAt} → r ≡ Ok d → {t date : ℕ} {nmi suffix : List ℕ} → t ≡ sum (values_of (rows_of file d).block)
      → nmi ≡ field nmi_field (rows_of file d).channel.cells → suffix ≡ field suffix_field (rows_of file d).channel.cells
      → date ≡ date_in (rows_of file d).block.top.cells → {l : Left} → l ≡ split_on t nmi suffix date m ps → l ≡ split_day_of file day m ps
  unfolding split_day_of
  day-split h et en es ed g = g ∙ rw (← e, h, et, en, es, ed)

-- ---- of a store

module _ (s nmi suffix : List ℕ) (date : ℕ) (m ps : List ℕ) where
  abbrev asked : Key
  asked = key nmi suffix date

  refused-stored : {x p k f : ℕ} → refused x p k f ≡ stored_sum_of s asked → left (refused x p k f) ps ≡ split_stored_of s asked m ps
  unfolding stored_sum_of split_stored_of
  refused-stored e =
      by (is_store s)
      (λ a.
      by (is_there s (header_of s) asked)
      (λ b. differ (rw (a, b) at e))
      (λ b. rw (a, b) (ap (λ (z : Answer). left z ps) (rw (a, b) at e))))
      (λ a. rw a (ap (λ (z : Answer). left z ps) (rw a at e)))

  summed-stored : {v : ℕ} → accepted (v ∷ []) ≡ stored_sum_of s asked → split_on v nmi suffix date m ps ≡ split_stored_of s asked m ps
  unfolding stored_sum_of split_stored_of
  summed-stored {v} e =
      by (is_store s)
      (λ a.
      by (is_there s (header_of s) asked)
      (λ b.
      let g : accepted (v ∷ []) ≡ accepted (sum_at s asked ∷ []) = rw (a, b) at e in
      let w : v ≡ sum_at s asked = cc in
      rw (a, b, ← w))
      (λ b. differ (sym (rw (a, b) at e))))
      (λ a. differ (sym (rw a at e)))

  module _ {r : Result ℕ Refusal} (e : totalled_as r ≡ stored_sum_of s asked) where
    pub stored_refused : {x : Refusal} → r ≡ Err x → left (refused_as x) ps ≡ split_stored_of s asked m ps
    stored_refused h = refused-stored (ap totalled_as (sym h) ∙ e)

    pub stored-split : {v : ℕ} → r ≡ Ok v → {l : Left} → l ≡ split_on v nmi suffix date m ps → l ≡ split_stored_of s asked m ps
    stored-split h g = g ∙ summed-stored (ap totalled_as (sym h) ∙ e)

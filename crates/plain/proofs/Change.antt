-- Where one slot of a store changed: the used slots have keys of their own again, the changed slot is the key's, and what stays is said. Assumes nothing.
use Prim.Native.Nat.{ℕ, ◌<◌}
use mathlib.Core.Path.{◌≡◌, sym, ap, ◌∙◌}
use mathlib.Core.Bool.{true, false, true≢false}
use mathlib.Core.List.{List}
use borrow.Author.Tests.{lt-ltb}
use Rattle.ground.proofs.Cases.{by, same_or}
use Rattle.format.specs.Day.{Day}
use Rattle.entries.specs.Keys.{Key, capital_key, same_key}
use Rattle.store.specs.Used.{used}
use Rattle.store.specs.Store.{slot_key, holds_day}
use Rattle.store.specs.Calls.{seek, is_there}
use Rattle.store.specs.declared.Header.{Header}
use Rattle.plain.specs.Stays.{Stays}
use Rattle.stored.proofs.Keys.{key-is, is_key}
use Rattle.stored.proofs.Seek.{has, seek_is, seek-none}
use Rattle.stored.proofs.Whole.{Whole, is_whole}
use Rattle.plain.proofs.Alike.{alike-holds, day_in, day-held, block_held_lem, Changed, same-day, same_block}

module _ (m m' : List ℕ) (h h' : Header) (x : Key) (s : ℕ) (w : Whole m h) (c : Changed m m' h h' x s) where
  -- another slot that is used now was used before
  before : (i : ℕ) → (i ≡ s → ⊥) → used h'.map i ≡ true → used h.map i ≡ true
  before i q u = sym (c.others i q) ∙ u

  -- and has not the key
  unlike : (i : ℕ) → (i ≡ s → ⊥) → used h'.map i ≡ true → slot_key m' h' i ≡ capital_key x → ⊥
  unlike i q u k = let b = before i q u in c.only i q b (sym (c.alike i q b).key ∙ k)

  pub own-again : (i j : ℕ) → used h'.map i ≡ true → used h'.map j ≡ true → slot_key m' h' i ≡ slot_key m' h' j → i ≡ j
  own-again i j u v k =
      same_or i s
      (λ q. same_or j s
      (λ r. q ∙ sym r)
      (λ r. absurd (unlike j r v (sym k ∙ ap (slot_key m' h') q ∙ c.is (ap (used h'.map) (sym q) ∙ u)))))
      (λ q. same_or j s
      (λ r. absurd (unlike i q u (k ∙ ap (slot_key m' h') r ∙ c.is (ap (used h'.map) (sym r) ∙ v))))
      (λ r.
      let a = before i q u in
      let b = before j r v in
      w.own i j a b (sym (c.alike i q a).key ∙ k ∙ (c.alike j r b).key)))

  pub holds-again : (used h'.map s ≡ true → holds_day m' h' s ≡ true) → (i : ℕ) → used h'.map i ≡ true → holds_day m' h' i ≡ true
  holds-again f i u =
      same_or i s
      (λ q. ap (holds_day m' h') q ∙ f (ap (used h'.map) (sym q) ∙ u))
      (λ q. let b = before i q u in alike-holds m m' h h' i (c.alike i q b) ∙ w.holds i b)

  -- ---- the key's own day

  other-has : (i : ℕ) → (i ≡ s → ⊥) → has m' h' x i ≡ false
  other-has i q =
      by (used h'.map i)
      (λ t. by (same_key (capital_key x) (slot_key m' h' i))
      (λ k. absurd (unlike i q t (sym (key-is (capital_key x) (slot_key m' h' i) k))))
      (λ k. rw (t, k)))
      (λ t. rw t)

  -- none, where the slot is free now
  pub none-there : used h'.map s ≡ false → is_there m' h' x ≡ false
  none-there f = seek-none m' h' x (λ t l. same_or t s (λ q. rw (q, f)) (λ q. other-has t q))

  -- the slot's, where it is used
  module _ (u : used h'.map s ≡ true) (l : s < h'.slots) where
    pub found-there : seek m' h' x ≡ s
    found-there =
        let t : has m' h' x s ≡ true = rw (u, is_key (capital_key x) (slot_key m' h' s) (sym (c.is u))) in
        seek_is m' h' x s l t (λ i g k. same_or i s (λ q. q) (λ q. absurd (true≢false (sym k ∙ other-has i q))))

    pub is-there : is_there m' h' x ≡ true
    is-there = rw found-there (lt-ltb s h'.slots l)

  -- ---- what stays

  pub stays : Whole m' h' → (ds : List Day) → day_in m' h' x ≡ ds → Stays m m' x ds
  stays v ds e =
      record {
        store = is_whole m' h' v;
        own = day-held m' h' v.header x ∙ e;
        others = λ y n. day-held m' h' v.header y ∙ same-day m m' h h' x s c y n ∙ sym (day-held m h w.header y);
        blocks = λ y n. block_held_lem m' h' v.header y ∙ same_block m m' h h' x s c y n ∙ sym (block_held_lem m h w.header y);
      }

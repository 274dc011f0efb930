-- The walk to the channel of a number, what is answered of it, and the channel behind it. Assumes nothing.
use Prim.Native.Nat.{ℕ, zero, suc, ◌+◌, ◌-◌, ◌≤◌}
use mathlib.Core.Path.{◌≡◌, refl, sym, ap, ◌∙◌}
use mathlib.Core.List.{List, [], ◌∷◌}
use native.Mathlib.Omega.{arith}
use Rattle.std.specs.Prelude.{Option, Some, None}
use lib.ListN.{length, drop}
use lib.Seq.{drop-nil, drop-length, drop-drop}
use borrow.Author.Tests.{ne_eqb}
use Rattle.ground.specs.Lists.{part}
use Rattle.format.specs.Cut.{lines, fields}
use Rattle.format.specs.Records.{kind_in, intervals_in, millionths, quantity_in}
use Rattle.format.specs.Answers.{Answer, accepted, refusal}
use Rattle.format.specs.Total.{totals_from, total_first, total_of}
use Rattle.lines.specs.Places.{LineEnd, Cut, Rest}
use Rattle.lines.proofs.Cuts.{rest-here}
use Rattle.lines.proofs.Ends.{line-none, line-more}
use Rattle.format.specs.File.{IsAccepted}
use Rattle.sums.specs.Sums.{sum_at}
use Rattle.channel.specs.declared.Channel.{Channel}
use Rattle.channel.specs.declared.Channel.TheVariants.{Days, Quantity}
use Rattle.channel.specs.declared.ChannelStart.{ChannelStart}
use Rattle.channel.specs.Places.{totals_in, totals_at, ChannelAhead, totalled, inside, Behind}

-- the quantity is the nineteenth field of a 250
pub quantity-is : (file : List ℕ) (fs : List (List ℕ)) (p x e b y v : ℕ) → Rest file fs p 18 x e → Cut file x e b y → v ≡ millionths (part file x b)
    → v ≡ quantity_in fs
unfolding quantity_in
quantity-is file fs p x e b y v s k h = h ∙ ap millionths (rest-here s k)

total-next : (left v : ℕ) (vs : List ℕ) → (left ≡ 0 → ⊥) → drop left (v ∷ vs) ≡ drop (left - 1) vs
total-next zero v vs z = absurd (z refl)
total-next (suc k) v vs z = let m : suc k - 1 ≡ k = omega arith in rw m

-- the record at a place ends at e; `left` channels are to be passed
module _ (file : List ℕ) (at e left : ℕ) (s : LineEnd file at e) (ts : List ℕ) (inv : ts ≡ drop left (totals_at file at)) where
  pub find_none : e ≡ length file → [] ≡ ts
  unfolding totals_from
  find_none h = rw (inv, line-none file at e s h, drop-nil)

  module _ (go : e ≡ length file → ⊥) {k : ℕ} (ek : k ≡ kind_in (fields (part file at e))) where
    module _ (is : k ≡ 200) where
      has-days : totals_at file at ≡ totalled file (Some (Days at e))
      unfolding totals_from
      has-days = rw (line-more file at e s go, ← ek, is)

      pub find-days : left ≡ 0 → totalled file (Some (Days at e)) ≡ ts
      find-days z = sym (inv ∙ rw (has-days, z))

      pub find-on : (left ≡ 0 → ⊥) → ts ≡ drop (left - 1) (totals_at file (e + 2))
      find-on z = inv ∙ rw has-days (total-next left _ (totals_at file (e + 2)) z)

    module _ (not : k ≡ 200 → ⊥) where
      module _ (is : k ≡ 250) where
        has-quantity : totals_at file at ≡ totalled file (Some (Quantity at e))
        unfolding totals_from
        has-quantity = rw (line-more file at e s go, ← ek, is)

        pub find-quantity : left ≡ 0 → totalled file (Some (Quantity at e)) ≡ ts
        find-quantity z = sym (inv ∙ rw (has-quantity, z))

        pub find-over : (left ≡ 0 → ⊥) → ts ≡ drop (left - 1) (totals_at file (e + 2))
        find-over z = inv ∙ rw has-quantity (total-next left _ (totals_at file (e + 2)) z)

      pub find-other : (k ≡ 250 → ⊥) → ts ≡ drop left (totals_at file (e + 2))
      unfolding totals_from
      find-other h = rw (inv, line-more file at e s go, ← ek, ne_eqb _ _ not, ne_eqb _ _ h)

pub ruleset finds = (find_none, find-days, find-on, find-quantity, find-over, find-other)

-- ---- behind a channel

-- c is a 200 or a 250 from a to e
module _ (file : List ℕ) (c : Option Channel) (i : inside file c) (a e : ℕ) where
  module _ (k : Channel) (o : c ≡ Some k) (h : k ≡ Days a e) where
    within-days : (a ≤ e) × (e + 2 ≤ length file)
    within-days = rw (o, h) at i

    pub days-order : a ≤ e
    days-order = within-days.0

    pub days-room : e + 2 ≤ length file
    days-room = within-days.1

    pub days-end : e ≤ length file
    days-end = omega (arith, days-room)

  module _ (k : Channel) (o : c ≡ Some k) (h : k ≡ Quantity a e) where
    within-quantity : (a ≤ e) × (e + 2 ≤ length file)
    within-quantity = rw (o, h) at i

    pub quantity-order : a ≤ e
    quantity-order = within-quantity.0

    pub quantity-room : e + 2 ≤ length file
    quantity-room = within-quantity.1

    pub quantity-end : e ≤ length file
    quantity-end = omega (arith, quantity-room)

  pub behind-days : (k : Channel) → c ≡ Some k → k ≡ Days a e → (r : ChannelStart) → r.at ≡ e + 2 → r.left ≡ 0 → Behind file c r
  behind-days k o h r ra rl = record { within = rw ra (days-room k o h); is = rw (o, h, ra, rl) }

  pub behind-quantity : (k : Channel) → c ≡ Some k → k ≡ Quantity a e → (r : ChannelStart) → r.at ≡ e + 2 → r.left ≡ 0 → Behind file c r
  behind-quantity k o h r ra rl = record { within = rw ra (quantity-room k o h); is = rw (o, h, ra, rl) }

pub behind-none : (file : List ℕ) (c : Option Channel) → c ≡ None → (r : ChannelStart) → r.at ≡ length file → r.left ≡ 0 → Behind file c r
unfolding totals_from lines
behind-none file c h r ra rl = record { within = omega arith; is = rw (h, ra, rl, drop-length file) }

-- ---- what is answered of it

module _ (file : List ℕ) (c : Option Channel) where
  pub channel-days : (k : Channel) (a e n v : ℕ) → c ≡ Some k → k ≡ Days a e → n ≡ intervals_in (fields (part file a e)) → v ≡ sum_at file (e + 2) n
      → accepted (v ∷ []) ≡ total_first (totalled file c)
  channel-days k a e n v o h en ev = rw (o, h, ← en, ← ev)

  pub channel-quantity : (k : Channel) (a e v : ℕ) → c ≡ Some k → k ≡ Quantity a e → v ≡ quantity_in (fields (part file a e)) → accepted (v ∷ []) ≡ total_first (totalled file c)
  channel-quantity k a e v o h ev = rw (o, h, ← ev)

  pub channel-missing : (r : Answer) → c ≡ None → r ≡ refusal 14 → r ≡ total_first (totalled file c)
  channel-missing r h er = rw (h, er)

-- ---- in a file that was accepted

module _ (file : List ℕ) (channel : ℕ) (c : Option Channel) (ec : totalled file c ≡ drop channel (totals_in file)) where
  pub next-noted : (r : ChannelStart) → Behind file c r → ChannelAhead file (channel + 1) r
  next-noted r b = record { within = b.within; is = sym (drop-drop 1 channel (totals_in file)) ∙ rw (← ec) b.is }

  pub noted-is : IsAccepted file → (r : Answer) → r ≡ total_first (totalled file c) → r ≡ total_of file channel
  unfolding total_of
  noted-is a r q = rw (a.1, ← ec) q

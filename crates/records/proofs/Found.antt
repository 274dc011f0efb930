-- The fields of a 250, each found behind the one before it. Assumes nothing.
use Prim.Native.Nat.{ℕ, ◌+◌, ◌≤◌}
use mathlib.Core.Path.{◌≡◌, sym, ap, ◌∙◌}
use mathlib.Core.List.{List}
use native.Mathlib.Omega.{arith}
use lib.ListN.{length}
use Rattle.ground.specs.Lists.{part}
use Rattle.ground.proofs.Lists.{to_end}
use Rattle.format.specs.Cut.{fields, field}
use Rattle.lines.specs.Places.{Cut, Rest}
use Rattle.lines.proofs.Cuts.{rest-here, rest-next, rest-on}
use Rattle.records.specs.Reads.{Found, Stands, IsRead}
use Rattle.records.specs.declared.reads.Place.{Place}

module _ {s : List ℕ} where
  pub found_here : {a n from to next : ℕ} → Rest s (fields (part s a (length s))) a n from (length s) → Cut s from (length s) to next
      → Found s a n (record { from = from; to = to; next = next })
  found_here r k = record { here = rest-here r k; rest = rest-next r k }

  pub found_within : {a n : ℕ} {p : Place} → Found s a n p → p.next ≤ length s
  found_within f = f.rest.ends

  -- behind a field that was found
  found-on : {i m : ℕ} {p q : Place} → Found s 0 i p → Found s p.next m q → Found s 0 (i + 1 + m) q
  found-on {i} {m} {p} {q} f g =
      let k : i + 1 + m + 1 ≡ i + 1 + (m + 1) = omega arith in
      record { here = g.here ∙ sym (f.rest.same m); rest = rw k (rest-on f.rest g.rest) }

  stands : {i : ℕ} {p : Place} → Found s 0 i p → Stands s i p
  stands {i} f = f.here ∙ ap (λ (t : List ℕ). field i (fields t)) (to_end 0 s)

  pub read_is : {a b c d e f g h i : Place} → Found s 0 1 a → Found s a.next 2 b → Found s b.next 4 c → Found s c.next 4 d
      → Found s d.next 0 e → Found s e.next 0 f → Found s f.next 0 g → Found s g.next 0 h → Found s h.next 0 i
      → IsRead s (record { nmi = a; suffix = b; previous = c; current = d; quality = e; reason = f; description = g; quantity = h; unit = i })
  read_is nmi b₁ c₁ d₁ e₁ f₁ g₁ h₁ i₁ =
      let suffix : Found s 0 4 _ = found-on nmi b₁ in
      let previous : Found s 0 9 _ = found-on suffix c₁ in
      let current : Found s 0 14 _ = found-on previous d₁ in
      let quality : Found s 0 15 _ = found-on current e₁ in
      let reason : Found s 0 16 _ = found-on quality f₁ in
      let description : Found s 0 17 _ = found-on reason g₁ in
      let quantity : Found s 0 18 _ = found-on description h₁ in
      let unit : Found s 0 19 _ = found-on quantity i₁ in
      record {
        nmi = stands nmi;
        suffix = stands suffix;
        previous = stands previous;
        current = stands current;
        quality = stands quality;
        reason = stands reason;
        description = stands description;
        quantity = stands quantity;
        unit = stands unit;
      }

-- The parts of the entry that a put writes fit their bytes. Assumes nothing.
use Prim.Native.Nat.{ℕ, ◌^◌, ◌<◌}
use mathlib.Core.Path.{◌≡◌, ◌∙◌}
use mathlib.Core.Bool.{true, ◌&&◌}
use mathlib.Core.List.{List}
use native.Mathlib.Omega.{arith}
use lib.ListN.{length, length-map}
use lib.Dec.{leb, eqb}
use borrow.Author.Tests.{leb-true, eqb-true}
use Rattle.ground.proofs.Tests.{and-true}
use Rattle.ground.proofs.Cases.{by}
use Rattle.format.specs.Bytes.{capital, is_alnum, are_all}
use Rattle.format.specs.Texts.{is_nmi, is_suffix}
use Rattle.format.specs.Numbers.{is_length}
use Rattle.format.specs.Block.{Given}
use Rattle.format.proofs.NumberText.{date-below}
use Rattle.format.proofs.Units.{known_small}
use Rattle.entries.specs.Keys.{Key, capital_key, good_key}
use Rattle.store.specs.Calls.{entry_for}
use Rattle.slots.proofs.Back.{EntryFits}
use Rattle.shortest.specs.Writer.{Writable}
use Rattle.stored.proofs.Keys.{good}
use Rattle.shortest.proofs.Theorems.{unit-known}

key-long : (k : ℕ) (s : List ℕ) → are_all is_alnum k k s ≡ true → length s ≡ k
unfolding are_all
key-long k s e =
    let a = and-true (leb k (length s)) (leb (length s) k) (and-true (leb k (length s) && leb (length s) k) _ e).0 in
    let l = leb-true k (length s) a.0 in
    let g = leb-true (length s) k a.1 in
    omega arith

minutes-small : (m : ℕ) → is_length m ≡ true → m < 2 ^ 8
unfolding is_length
minutes-small m e =
    by (eqb m 5) (λ t. let y = eqb-true m 5 t in omega arith)
    λ t. by (eqb m 15) (λ u. let y = eqb-true m 15 u in omega arith)
    λ u. let y = eqb-true m 30 (let v : eqb m 30 ≡ true = (rw (t, u) at e) in v) in omega arith

pub entry-fits : (x : Key) (g : Given) (start size : ℕ) → good_key x ≡ true → Writable g → start < 2 ^ 32 → size < 2 ^ 32 → EntryFits (capital_key x) (entry_for start g size)
unfolding capital_key entry_for is_nmi is_suffix
entry-fits x g start size e w l r =
    let k = good x e in
    record {
      nmi = length-map x.nmi capital ∙ key-long 10 x.nmi k.nmi;
      suffix = length-map x.suffix capital ∙ key-long 2 x.suffix k.suffix;
      date = omega (arith, date-below x.date k.date);
      minutes = minutes-small g.head.length w.length-known;
      unit = omega (arith, known_small g.head.unit (unit-known g w));
      start = l;
      size = r;
    }

-- What was handed in to be written, where nothing is wrong with it, is a day that may be written. Assumes nothing.
use Prim.Native.Nat.{ℕ, ◌≤◌}
use mathlib.Core.Path.{◌≡◌}
use mathlib.Core.Logic.{◌≢◌}
use mathlib.Core.Bool.{true, ◌&&◌}
use native.Mathlib.Omega.{arith}
use lib.ListN.{length}
use lib.Seq.{length-take-le}
use lib.Dec.{leb}
use borrow.Author.Tests.{leb-true}
use Rattle.ground.specs.Lists.{all, from}
use Rattle.ground.proofs.Tests.{and-true}
use Rattle.ground.proofs.From.{length_from}
use Rattle.format.specs.Day.{enough_for}
use Rattle.format.specs.Block.{Given, intervals_given, mark_given, day_given, is_inside, fit_given, fit_day, enough}
use Rattle.format.proofs.Numbers.{intervals-most, intervals-some}
use Rattle.shortest.specs.Writer.{Writable}
use Rattle.shortest.proofs.Back.{Whole}

enough-values : (n v f m r s l : ℕ) → enough_for n v f m r s l ≡ true → n ≤ v
unfolding enough_for
enough-values n v f m r s l h =
    let a = and-true (leb n v && leb n f && leb n m && leb n r && leb n s) (leb n l) h in
    let b = and-true (leb n v && leb n f && leb n m && leb n r) (leb n s) a.0 in
    let c = and-true (leb n v && leb n f && leb n m) (leb n r) b.0 in
    let d = and-true (leb n v && leb n f) (leb n m) c.0 in
    leb-true n v (and-true (leb n v) (leb n f) d.0).0

pub whole : (g : Given) → Writable g → Whole (day_given g)
unfolding day_given intervals_given enough fit_given
whole g w =
    let n : ℕ = intervals_given g in
    let z : n ≢ 0 = intervals-some g.head.length w.length-known in
    record {
      fit = (and-true (all (is_inside g) (from (λ i. i) 0 n)) (fit_day (day_given g)) w.fit).1;
      values = length-take-le n g.values (enough-values n _ _ _ _ _ _ w.lists-long);
      marks = length_from (mark_given g) 0 n;
      some = omega arith;
      few = omega (arith, intervals-most g.head.length);
    }

-- Keys: the test that two are the same decides that they are equal, and a good key in capital letters is one that is kept. Assumes nothing.
use mathlib.Core.Path.{◌≡◌, refl, subst}
use mathlib.Core.Bool.{true, ◌&&◌}
use lib.Dec.{eqb}
use borrow.Author.Tests.{eqb-true, eq-eqb}
use Rattle.ground.specs.Lists.{same}
use Rattle.ground.proofs.Tests.{and-true}
use Rattle.ground.proofs.Same.{same-itself, same-sound}
use Rattle.format.specs.Texts.{is_nmi, is_suffix}
use Rattle.format.specs.Dates.{is_date}
use Rattle.entries.specs.Keys.{Key, key, capital_key, good_key, kept_key, same_key}
use Rattle.keys.proofs.Capitals.{are-capital, capitals-kept}

-- ---- the same key

pub key-is : (x y : Key) → same_key x y ≡ true → x ≡ y
unfolding same_key
key-is x y e =
    let a = and-true (same x.nmi y.nmi && same x.suffix y.suffix) (eqb x.date y.date) e in
    let b = and-true (same x.nmi y.nmi) (same x.suffix y.suffix) a.0 in
    let n = same-sound x.nmi y.nmi b.0 in
    let s = same-sound x.suffix y.suffix b.1 in
    let d = eqb-true x.date y.date a.1 in
    λ i. key (n i) (s i) (d i)

pub key-itself : (x : Key) → same_key x x ≡ true
unfolding same_key
key-itself x = rw (same-itself x.nmi, same-itself x.suffix, eq-eqb x.date x.date refl)

pub is_key : (x y : Key) → x ≡ y → same_key x y ≡ true
is_key x y e = subst (λ (k : Key). same_key x k ≡ true) e (key-itself x)

-- ---- a key that is kept

pub record Good (k : Key) : Type 0 where
  pub nmi : is_nmi k.nmi ≡ true
  pub suffix : is_suffix k.suffix ≡ true
  pub date : is_date k.date ≡ true

pub good : (k : Key) → good_key k ≡ true → Good k
unfolding good_key
good k e =
    let a = and-true (is_nmi k.nmi && is_suffix k.suffix) (is_date k.date) e in
    let b = and-true (is_nmi k.nmi) (is_suffix k.suffix) a.0 in
    record { nmi = b.0; suffix = b.1; date = a.1 }

pub kept-key : (x : Key) → good_key x ≡ true → kept_key (capital_key x) ≡ true
unfolding kept_key good_key capital_key is_nmi is_suffix
kept-key x e =
    let g = good x e in
    rw (are-capital 10 x.nmi g.nmi, are-capital 2 x.suffix g.suffix, g.date, capitals-kept x.nmi, capitals-kept x.suffix)

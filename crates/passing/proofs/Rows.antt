-- What the rows of a day's block say of each interval. Assumes nothing.
use Prim.Native.Nat.{ℕ, ◌+◌, ◌-◌}
use mathlib.Core.Path.{◌≡◌, refl, sym, ap, ap₂, ◌∙◌}
use mathlib.Core.List.{List, [], ◌∷◌, ◌++◌, map, map-append}
use lib.ListN.{length, replicate}
use lib.Dec.{eqb}
use Rattle.ground.proofs.Cases.{by}
use Rattle.ground.proofs.Lists.{map-replicate}
use Rattle.format.specs.Quality.{Mark}
use Rattle.format.specs.Cut.{Lines, line, rest, fields}
use Rattle.format.specs.Records.{kind_in, first_in, last_in, mark_at}
use Rattle.format.specs.Order.{is_varied}
use Rattle.format.specs.Day.{Row, BlockRows, runs_from, cover_of, each_of, tag_at, tags_of, marks_of}
use Rattle.format.specs.declared.Tag.{Tag}

-- what goes by the fields alone is the same wherever the 400s stand
pub cover-anywhere : {X : Type 0} (f : List (List ℕ) → X) (p q : ℕ) (ls : Lines) → cover_of (λ x. f x.cells) (runs_from p ls) ≡ cover_of (λ x. f x.cells) (runs_from q ls)
unfolding runs_from cover_of
cover-anywhere f p q (rest t) = refl
cover-anywhere {X} f p q (line r ls) =
    by (eqb (kind_in (fields r)) 400)
    (λ t. rw t (ap (λ (xs : List X). replicate (last_in (fields r) + 1 - first_in (fields r)) (f (fields r)) ++ xs) (cover-anywhere f (p + length r + 2) (q + length r + 2) ls)))
    (λ t. rw t)

module _ {X Y : Type 0} (g : X → Y) where
  map-cover : (f : Row → X) (rs : List Row) → map g (cover_of f rs) ≡ cover_of (λ r. g (f r)) rs
  unfolding cover_of
  map-cover f [] = refl
  map-cover f (r ∷ rs) =
      let k : ℕ = last_in r.cells + 1 - first_in r.cells in
      map-append g (replicate k (f r)) (cover_of f rs) ∙ ap₂ (λ (x y : List Y). x ++ y) (map-replicate g k (f r)) (map-cover f rs)

  pub map_each : (f : ℕ → Row → ℕ → X) (d : BlockRows) → map g (each_of f d) ≡ each_of (λ k x i. g (f k x i)) d
  unfolding each_of
  map_each f d =
      by (is_varied d.n d.top.cells)
      (λ t. rw t (map-cover (λ x. f 400 x 3) d.runs))
      (λ t. rw t (map-replicate g d.n (f 300 d.top (d.n + 2))))

-- a tag's length is that of the mark's description
pub tags-lengths : (d : BlockRows) → map (λ (t : Tag). t.length) (tags_of d) ≡ map (λ (m : Mark). length m.text) (marks_of d)
unfolding tags_of marks_of tag_at mark_at
tags-lengths d =
    map_each (λ (t : Tag). t.length) tag_at d ∙ sym (map_each (λ (m : Mark). length m.text) (λ k x i. mark_at k i x.cells) d)

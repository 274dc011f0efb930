-- The marks of a day that is handed in: its five lists, taken together, and the lent text.
use Rattle.std.specs.Prelude.{ℕ, ◌≤◌, List, Bool, ◌&&◌, length, take, drop, get_or}
use Rattle.ground.specs.Lists.{all, from}
use Rattle.format.specs.Quality.{across, Mark}
use Rattle.format.specs.Day.{Five}
use Rattle.format.specs.Block.{fit_quality, fit_reason, fit_mark}
use Rattle.format.specs.declared.Tag.{Tag}
use Rattle.text.specs.Inside.{inside}

-- interval i, from 0
unfoldable pub tag_from : Five → ℕ → Tag
tag_from l i =
    record {
      flag = get_or l.flags i 0;
      method = get_or l.methods i 0;
      reason = get_or l.reasons i 0;
      start = get_or l.starts i 0;
      length = get_or l.lengths i 0;
    }

-- the mark that a tag says, whose description stands in the text
unfoldable pub mark_of : List ℕ → Tag → Mark
mark_of text t = record { flag = t.flag; method = t.method; reason = t.reason; text = take t.length (drop t.start text) }

unfoldable pub marks_from : Five → List ℕ → ℕ → Mark
marks_from l text i = mark_of text (tag_from l i)

-- its quality and its reason are ones that a 400 may carry, and stand together with a description of that length
unfoldable pub fit_fields : Tag → Bool
fit_fields t = fit_quality t.flag t.method && fit_reason t.reason && across t.flag t.reason t.length

-- the tag's description lies inside the text, and the mark is fit
unfoldable pub tag_inside : List ℕ → Tag → Bool
tag_inside text t = inside text t.start t.length

unfoldable pub inside_at : Five → List ℕ → ℕ → Bool
inside_at l text i = tag_inside text (tag_from l i)

unfoldable pub fit_tag : List ℕ → Tag → Bool
fit_tag text t = tag_inside text t && fit_mark (mark_of text t)

-- the marks of the first n intervals are fit, and their descriptions lie inside the text
unfoldable pub fit_marks : Five → List ℕ → ℕ → Bool
fit_marks l text n = all (inside_at l text) (from (λ i. i) 0 n) && all fit_mark (from (marks_from l text) 0 n)

-- none of the five lists is shorter than n
pub record Long (n : ℕ) (l : Five) : Type 0 where
  pub flags : n ≤ length l.flags
  pub methods : n ≤ length l.methods
  pub reasons : n ≤ length l.reasons
  pub starts : n ≤ length l.starts
  pub lengths : n ≤ length l.lengths

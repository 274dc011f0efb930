-- What the flag of an interval's quality means. An interval is never V: on a V day its quality is that of its 400.
use Rattle.std.specs.Prelude.{ℕ, cond, List, [], eqb}
use Rattle.ground.specs.Text.{bytes}
use Rattle.format.specs.Quality.{flag_a, flag_e, flag_f, flag_n, flag_s}

unfoldable pub quality_name : ℕ → List ℕ
quality_name flag =
    cond (eqb flag flag_a) (bytes "actual")
    (cond (eqb flag flag_e) (bytes "estimated")
    (cond (eqb flag flag_f) (bytes "final substituted")
    (cond (eqb flag flag_n) (bytes "null data")
    (cond (eqb flag flag_s) (bytes "substituted")
    []))))

-- The pieces of a day block's 300 as they are written, and a head that is fit.
use Rattle.std.specs.Prelude.{ℕ, List, ◌++◌, Bool, ◌&&◌, ◌||◌, eqb}
use Rattle.ground.specs.Text.{bytes}
use Rattle.ground.specs.Digits.{padded}
use Rattle.format.specs.Units.{is_unit}
use Rattle.format.specs.Dates.{is_date, is_time}
use Rattle.format.specs.Block.{load_text, comma, crlf, values_text}
use Rattle.format.specs.declared.DayHead.{DayHead}

-- the 300 up to its values
unfoldable pub front_text : ℕ → List ℕ → List ℕ
front_text date vs = bytes "300," ++ padded 8 date ++ comma ++ values_text vs

-- and from the comma behind its description on
unfoldable pub times_text : ℕ → ℕ → List ℕ
times_text update load = comma ++ padded 14 update ++ comma ++ load_text load ++ crlf

-- its unit is one, and its date and its times meet their rules; a load time of 0 is none
unfoldable pub fit_head : DayHead → Bool
fit_head h = is_unit h.unit && is_date h.date && is_time h.update && (eqb h.load 0 || is_time h.load)

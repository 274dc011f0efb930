-- 02, 11, as calls on a plain list of versions; and any sequence of calls, on the list and on memory.
use Rattle.std.specs.Prelude.{ℕ, ◌+◌, List, [], ◌∷◌, ◌++◌, cond, length, ltb}
use Rattle.ground.specs.Lists.{all}
use Rattle.format.specs.Answers.{Answer, accepted, refusal}
use Rattle.entries.specs.Left.{Left}
use Rattle.tenants.specs.Outputs.{fit_output, outputs_given}
use Rattle.tenants.specs.Versions.{Version, version, may_follow, latest}
use Rattle.tenants.specs.Calls.{enough, kept_given, add_of, is_number, outputs_of, back_of, Mapped, ask_of, on_of}

pub data Call : Type 0 where
  add : ℕ → List ℕ → List ℕ → Call
  back : ℕ → ℕ → Call
  on : ℕ → List ℕ → List ℕ → Call

-- what is seen of a call: an answer; of asking for a date the two lists too
pub data Seen : Type 0 where
  said : Answer → Seen
  filled : Mapped → Seen

-- ---- a plain list

-- what is seen, and the versions then
pub record Turn : Type 0 where
  pub seen : Seen
  pub versions : List Version

abbrev pub turn : Seen → List Version → Turn
turn s vs = record { seen = s; versions = vs }

abbrev pub refuse : ℕ → List Version → Turn
refuse x vs = turn (said (refusal x)) vs

-- one version more at the end
unfoldable pub append_plain : Version → List Version → Turn
append_plain v vs =
    cond (may_follow (latest vs) v.first)
    (cond (ltb (length vs) 32) (turn (said (accepted ((length vs + 1) ∷ []))) (vs ++ v ∷ [])) (refuse 23 vs))
    (refuse 24 vs)

unfoldable pub add_plain : ℕ → List ℕ → List ℕ → List Version → Turn
add_plain first keys shares vs =
    cond (enough keys shares)
    (cond (all fit_output (outputs_given 128 keys shares)) (append_plain (version first (kept_given keys shares)) vs) (refuse 25 vs))
    (refuse 15 vs)

unfoldable pub back_plain : ℕ → ℕ → List Version → Turn
back_plain k first vs = cond (is_number vs k) (append_plain (version first (outputs_of vs k)) vs) (refuse 14 vs)

unfoldable pub plain_turn : Call → List Version → Turn
plain_turn (add first keys shares) vs = add_plain first keys shares vs
plain_turn (back k first) vs = back_plain k first vs
plain_turn (on date keys shares) vs = turn (filled (ask_of vs date keys shares)) vs

-- ---- memory

-- what is seen, and the memory then
pub record Step : Type 0 where
  pub seen : Seen
  pub memory : List ℕ

abbrev pub step_by : Left → Step
step_by l = record { seen = said l.answer; memory = l.memory }

unfoldable pub map_step : Call → List ℕ → Step
map_step (add first keys shares) m = step_by (add_of m first keys shares)
map_step (back k first) m = step_by (back_of m k first)
map_step (on date keys shares) m = record { seen = filled (on_of m date keys shares); memory = m }

-- ---- any sequence of calls

unfoldable pub seen_by_map : List Call → List ℕ → List Seen
seen_by_map [] m = []
seen_by_map (c ∷ cs) m = (map_step c m).seen ∷ seen_by_map cs (map_step c m).memory

unfoldable pub seen_by_list : List Call → List Version → List Seen
seen_by_list [] vs = []
seen_by_list (c ∷ cs) vs = (plain_turn c vs).seen ∷ seen_by_list cs (plain_turn c vs).versions

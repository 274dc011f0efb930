-- Whether a version of a first date may be added: "a date that falls or is none is 24", "full is 23".
use Rattle.std.specs.Prelude.{ℕ, List, cond, ltb, Result, Ok, Err}
use Rattle.tenants.specs.Versions.{count_in, versions_in, may_follow, latest}

-- behind so many versions, or the refusal's number
unfoldable pub next_of : List ℕ → ℕ → Result ℕ ℕ
next_of m first = cond (may_follow (latest (versions_in m)) first) (cond (ltb (count_in m) 32) (Ok (count_in m)) (Err 23)) (Err 24)

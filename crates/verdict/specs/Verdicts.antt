-- What the check of a file says: what was accepted, or its refusal; and the status that goes with it.
use Rattle.std.specs.Prelude.{ℕ, Bool, cond, List, [], ◌∷◌, ◌++◌, get_or}
use Rattle.ground.specs.Digits.{dec}
use Rattle.ground.specs.Text.{bytes}
use Rattle.format.specs.Answers.{Answer, accepted, refused}
use Rattle.format.specs.declared.Refusal.{Refusal}
use Rattle.phrase.specs.Phrases.{line_text, counted_text}
use Rattle.explain.specs.Said.{explanation, told}

-- so many channels and days
unfoldable pub contents_text : ℕ → ℕ → List ℕ
contents_text channels days = counted_text channels (bytes "channel") ++ bytes ", " ++ counted_text days (bytes "day") ++ 10 ∷ []

unfoldable pub accepted_text : ℕ → ℕ → ℕ → List ℕ
accepted_text version channels days = bytes "accepted: NEM" ++ dec version ++ bytes ", " ++ contents_text channels days

-- a refusal: all that there is to say of it, or one line where it is that of one of several files
unfoldable pub refusal_text : Bool → List ℕ → Refusal → List ℕ
refusal_text several file x = cond several (line_text (told file x)) (explanation file x)

-- the answer of a check: version, channels and days, or the first refusal
abbrev pub check_text : Bool → List ℕ → Answer → List ℕ
check_text several file (accepted xs) = accepted_text (get_or xs 0 0) (get_or xs 1 0) (get_or xs 2 0)
check_text several file (refused x p k i) = refusal_text several file (record { number = x; place = p; «record» = k; field = i })

-- 0 for a file that is accepted, 1 for one that is refused
abbrev pub status_of : Answer → ℕ
status_of (accepted xs) = 0
status_of (refused x p k i) = 1

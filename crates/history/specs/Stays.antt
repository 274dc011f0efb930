-- What adding leaves, which version answers a date, and the memories that addings give.
use Rattle.std.specs.Prelude.{ℕ, ◌+◌, ◌≤◌, ◌<◌, ◌≡◌, true, List, [], ◌∷◌, ◌++◌, length, get_or}
use Rattle.format.specs.Answers.{accepted}
use Rattle.entries.specs.Little.{piece}
use Rattle.tenants.specs.Versions.{Version, none, version_place, count_in, versions_in, is_map}
use Rattle.tenants.specs.Calls.{make_of, add_of, on_of}

-- m' is what one version more, v, left of m: a map of the versions that were there and v behind them. The bytes of each version that was there stay, and every date
-- before v's first date is answered as before, in full.
pub record Added (m m' : List ℕ) (v : Version) : Type 0 where
  pub map : is_map m' ≡ true
  pub versions : versions_in m' ≡ versions_in m ++ v ∷ []
  pub bytes : (i : ℕ) → i < count_in m → piece m' (version_place i) 1796 ≡ piece m (version_place i) 1796
  pub answers : (date : ℕ) → date < v.first → (keys shares : List ℕ) → on_of m' date keys shares ≡ on_of m date keys shares

-- version k is the highest whose first date is not later than the date
pub record Highest (vs : List Version) (date k : ℕ) : Type 0 where
  pub some : 1 ≤ k
  pub there : k ≤ length vs
  pub holds : (i : ℕ) → i + 1 ≡ k → (get_or vs i none).first ≤ date
  pub later : (i : ℕ) → k ≤ i → i < length vs → date < (get_or vs i none).first

-- lent bytes
abbrev pub AreBytes : List ℕ → Type 0
AreBytes m = (i : ℕ) → get_or m i 0 < 256

-- memory that making a map and adding versions to it gives
pub data Given : List ℕ → Type 0 where
  made : (m : List ℕ) (xs : List ℕ) → (make_of m).answer ≡ accepted xs → Given (make_of m).memory
  added : (m : List ℕ) (first : ℕ) (keys shares xs : List ℕ) → Given m → (add_of m first keys shares).answer ≡ accepted xs → Given (add_of m first keys shares).memory

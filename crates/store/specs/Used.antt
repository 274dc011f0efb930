-- 02, 2: "a used map of one bit for each slot". "The number of slots in use and the lowest free slot come from the map." Bit s is that of slot s.
use Rattle.std.specs.Prelude.{ℕ, zero, suc, ◌+◌, ◌-◌, ◌/◌, ◌%◌, ◌^◌, Bool, cond, List, [], ◌∷◌, length, eqb}

-- slot s is in use: bit s of the map is 1
unfoldable pub used : ℕ → ℕ → Bool
used map s = eqb (map / 2 ^ s % 2) 1

-- the map with slot s in use, and with slot s free
unfoldable pub taken : ℕ → ℕ → ℕ
taken map s = cond (used map s) map (map + 2 ^ s)

unfoldable pub freed : ℕ → ℕ → ℕ
freed map s = cond (used map s) (map - 2 ^ s) map

-- the slots in use among the k slots from slot i on
unfoldable pub used_from : ℕ → ℕ → ℕ → List ℕ
used_from map i zero = []
used_from map i (suc k) = cond (used map i) (i ∷ used_from map (suc i) k) (used_from map (suc i) k)

-- the number of slots in use: the map's count of ones
unfoldable pub held : ℕ → ℕ
held map = length (used_from map 0 64)

-- the lowest free slot among the k slots from slot i on; i + k where none is free
unfoldable pub free_from : ℕ → ℕ → ℕ → ℕ
free_from map i zero = i
free_from map i (suc k) = cond (used map i) (free_from map (suc i) k) i

-- "no bit is set past the slots": without its lowest n bits the map is 0
unfoldable pub none_past : ℕ → ℕ → Bool
none_past map n = eqb (map / 2 ^ n) 0

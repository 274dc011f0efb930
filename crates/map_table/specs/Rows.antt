-- What a line of a table for a tenant map says: output, NMI, suffix, share. 02, 11: "each an NMI and suffix with a share from 0 to 1000"; "an unused output has
-- an empty key and share 0".
use Rattle.std.specs.Prelude.{ℕ, Bool, cond, ◌&&◌, List, length, leb, eqb, Option, Some, None, Result, Ok, Err}
use Rattle.format.specs.Cut.{fields, field}
use Rattle.format.specs.Numbers.{number_of}
use Rattle.format.specs.Texts.{is_nmi, is_suffix}
use Rattle.map_table.specs.declared.Row.{Row}
use Rattle.map_table.specs.declared.Fault.{Fault}
use Rattle.map_table.specs.declared.Fault.TheVariants as fault

-- a fault by its number, from which `map_lines` says what is wrong: that of the field at fault from 1, and 0 where there are not four; 5 is an output with two
-- lines, 6 a share by itself
abbrev pub fault_number : Fault → ℕ
fault_number fault.Fields = 0
fault_number fault.Output = 1
fault_number fault.Nmi = 2
fault_number fault.Suffix = 3
fault_number fault.Share = 4
fault_number fault.Twice = 5
fault_number fault.NoKey = 6

-- an output at a share, and an unused one
abbrev pub used : ℕ → ℕ → Row
used output share = record { output = output; share = Some share }

abbrev pub unused : ℕ → Row
unused output = record { output = output; share = None }

-- a number that is not above a most
abbrev pub up_to : ℕ → Option ℕ → Option ℕ
up_to most (Some n) = cond (leb n most) (Some n) None
up_to most None = None

-- 1 to 4 digits
unfoldable pub number_up_to : ℕ → List ℕ → Option ℕ
number_up_to most s = up_to most (number_of 1 4 s)

-- the output at a share that may be none
abbrev pub with_share : ℕ → Option ℕ → Result Row Fault
with_share output (Some share) = Ok (used output share)
with_share output None = Err fault.Share

-- without NMI and suffix the share is 0
abbrev pub without_key : ℕ → Option ℕ → Result Row Fault
without_key output (Some share) = cond (eqb share 0) (Ok (unused output)) (Err fault.NoKey)
without_key output None = Err fault.Share

abbrev pub is_keyless : List ℕ → List ℕ → Bool
is_keyless nmi suffix = eqb (length nmi) 0 && eqb (length suffix) 0

-- the leftmost field at fault is named
unfoldable pub keyed : ℕ → List ℕ → List ℕ → List ℕ → Result Row Fault
keyed output nmi suffix share =
    cond (is_keyless nmi suffix) (without_key output (number_up_to 1000 share))
    (cond (is_nmi nmi) (cond (is_suffix suffix) (with_share output (number_up_to 1000 share)) (Err fault.Suffix)) (Err fault.Nmi))

abbrev pub at_output : Option ℕ → List ℕ → List ℕ → List ℕ → Result Row Fault
at_output (Some output) nmi suffix share = keyed output nmi suffix share
at_output None nmi suffix share = Err fault.Output

unfoldable pub row_of : List ℕ → Result Row Fault
row_of s =
    cond (eqb (length (fields s)) 4)
    (at_output (number_up_to 127 (field 0 (fields s))) (field 1 (fields s)) (field 2 (fields s)) (field 3 (fields s)))
    (Err fault.Fields)

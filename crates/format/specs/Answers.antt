-- 01, Refusal numbers: "Numbers are answered with byte place, record number from 0, and field number from 1 (0 if no field is meant)." "For 1, 14 to [16], and
-- any number added later without a place of its own, place, record and field are 0." And, in Which form goes where: "If an answer is an enum, a definition
-- sets out this paper's number and values for each of the enum's cases."
use Rattle.std.specs.Prelude.{ℕ, List, [], ◌∷◌, Result, Ok, Err}
use Rattle.format.specs.declared.Refusal.{Refusal}
use Rattle.format.specs.declared.Checked.{Checked}
use Rattle.format.specs.declared.BlockChecked.{BlockChecked}
use Rattle.format.specs.declared.DayRead.{DayRead}
use Rattle.format.specs.declared.Written.{Written}

-- an answer as the paper has it: the values of a call that is accepted, or a refusal's number, place, record and field
pub data Answer : Type 0 where
  accepted : List ℕ → Answer
  refused : ℕ → ℕ → ℕ → ℕ → Answer

-- a refusal without a place of its own
abbrev pub refusal : ℕ → Answer
refusal x = refused x 0 0 0

abbrev pub refused_as : Refusal → Answer
refused_as x = refused x.number x.place x.«record» x.field

-- version, channels, days
abbrev pub checked_as : Result Checked Refusal → Answer
checked_as (Ok c) = accepted (c.version ∷ c.channels ∷ c.days ∷ [])
checked_as (Err x) = refused_as x

-- date, n, update time, load time, records
abbrev pub block_checked_as : Result BlockChecked Refusal → Answer
block_checked_as (Ok c) = accepted (c.date ∷ c.n ∷ c.update ∷ c.load ∷ c.records ∷ [])
block_checked_as (Err x) = refused_as x

-- date, n, update time, load time, unit
abbrev pub day_read_as : Result DayRead Refusal → Answer
day_read_as (Ok d) = accepted (d.date ∷ d.n ∷ d.update ∷ d.load ∷ d.unit ∷ [])
day_read_as (Err x) = refused_as x

-- the total
abbrev pub totalled_as : Result ℕ Refusal → Answer
totalled_as (Ok v) = accepted (v ∷ [])
totalled_as (Err x) = refused_as x

-- the block's length and record count
abbrev pub written_as : Result Written Refusal → Answer
written_as (Ok w) = accepted (w.bytes ∷ w.records ∷ [])
written_as (Err x) = refused_as x

-- An answer is known from the paper's number and values: no two stand for the same. Assumes nothing.
use Rattle.std.proofs.Common.{Result, Ok, Err, Option, Some, None}
use mathlib.Core.Path.{◌≡◌, refl, ap}
use Prim.Native.Nat.{ℕ}
use Rattle.format.specs.Answers.{refused_as, checked_as, day_read_as, totalled_as, written_as}
use Rattle.format.specs.declared.Refusal.{Refusal}
use Rattle.format.specs.declared.Checked.{Checked}
use Rattle.format.specs.declared.DayRead.{DayRead}
use Rattle.format.specs.declared.Written.{Written}
use Rattle.whose.specs.Whose.{day_found_as}
use Rattle.whose.specs.declared.DayFound.{DayFound}
use Rattle.replacing.specs.Replace.{replaced_as}
use Rattle.store.specs.Calls.{made_as, kept_as, slot_read_as}
use Rattle.store.specs.declared.Slot.{Slot}
use Rattle.tenants.specs.Calls.{versioned_as}
use Rattle.splits.specs.Calls.{split_as}
use Rattle.months.specs.Month.{days_read_as}
use Rattle.months.specs.declared.DaysRead.{DaysRead}

refusal_is : (n p r f : ℕ) → Refusal
refusal_is n p r f = record { number = n; place = p; «record» = r; field = f }

refusal-one : (x y : Refusal) → refused_as x ≡ refused_as y → x ≡ y
unfolding refusal_is
refusal-one x y e =
    let a : x.number ≡ y.number = cc in
    let b : x.place ≡ y.place = cc in
    let c : x.«record» ≡ y.«record» = cc in
    let d : x.field ≡ y.field = cc in
    let g : refusal_is x.number x.place x.«record» x.field ≡ refusal_is y.number y.place y.«record» y.field = rw (a, b, c, d) in
    g

checked_is : ℕ → ℕ → ℕ → Checked
checked_is a b c = record { version = a; channels = b; days = c }

pub checked-one : (x y : Result Checked Refusal) → checked_as x ≡ checked_as y → x ≡ y
unfolding checked_is
checked-one (Ok x) (Ok y) e =
    let a : x.version ≡ y.version = cc in
    let b : x.channels ≡ y.channels = cc in
    let c : x.days ≡ y.days = cc in
    let z : checked_is x.version x.channels x.days ≡ checked_is y.version y.channels y.days = rw (a, b, c) in
    ap (λ (w : Checked). Ok w) z
checked-one (Ok x) (Err y) e = cc
checked-one (Err x) (Ok y) e = cc
checked-one (Err x) (Err y) e = ap (λ (w : Refusal). Err w) (refusal-one x y e)

day_read_is : ℕ → ℕ → ℕ → ℕ → ℕ → DayRead
day_read_is a b c d f = record { date = a; n = b; update = c; load = d; unit = f }

pub day-read-one : (x y : Result DayRead Refusal) → day_read_as x ≡ day_read_as y → x ≡ y
unfolding day_read_is
day-read-one (Ok x) (Ok y) e =
    let a : x.date ≡ y.date = cc in
    let b : x.n ≡ y.n = cc in
    let c : x.update ≡ y.update = cc in
    let d : x.load ≡ y.load = cc in
    let f : x.unit ≡ y.unit = cc in
    let z : day_read_is x.date x.n x.update x.load x.unit ≡ day_read_is y.date y.n y.update y.load y.unit = rw (a, b, c, d, f) in
    ap (λ (w : DayRead). Ok w) z
day-read-one (Ok x) (Err y) e = cc
day-read-one (Err x) (Ok y) e = cc
day-read-one (Err x) (Err y) e = ap (λ (w : Refusal). Err w) (refusal-one x y e)

pub totalled-one : (x y : Result ℕ Refusal) → totalled_as x ≡ totalled_as y → x ≡ y
totalled-one (Ok v) (Ok w) e = cc
totalled-one (Ok x) (Err y) e = cc
totalled-one (Err x) (Ok y) e = cc
totalled-one (Err x) (Err y) e = ap (λ (w : Refusal). Err w) (refusal-one x y e)

written_is : ℕ → ℕ → Written
written_is a b = record { bytes = a; records = b }

pub written_one : (x y : Result Written Refusal) → written_as x ≡ written_as y → x ≡ y
unfolding written_is
written_one (Ok x) (Ok y) e =
    let a : x.bytes ≡ y.bytes = cc in
    let b : x.records ≡ y.records = cc in
    let z : written_is x.bytes x.records ≡ written_is y.bytes y.records = rw (a, b) in
    ap (λ (w : Written). Ok w) z
written_one (Ok x) (Err y) e = cc
written_one (Err x) (Ok y) e = cc
written_one (Err x) (Err y) e = ap (λ (w : Refusal). Err w) (refusal-one x y e)

found_is : ℕ → ℕ → ℕ → ℕ → ℕ → ℕ → ℕ → DayFound
found_is a b c d f g h = record { channel = a; nmi = b; suffix = c; unit = d; length = f; start = g; end = h }

pub found-one : (x y : Result DayFound Refusal) → day_found_as x ≡ day_found_as y → x ≡ y
unfolding found_is
found-one (Ok x) (Ok y) e =
    let a : x.channel ≡ y.channel = cc in
    let b : x.nmi ≡ y.nmi = cc in
    let c : x.suffix ≡ y.suffix = cc in
    let d : x.unit ≡ y.unit = cc in
    let f : x.length ≡ y.length = cc in
    let g : x.start ≡ y.start = cc in
    let h : x.end ≡ y.end = cc in
    let z : found_is x.channel x.nmi x.suffix x.unit x.length x.start x.end ≡ found_is y.channel y.nmi y.suffix y.unit y.length y.start y.end = rw (a, b, c, d, f, g, h) in
    ap (λ (w : DayFound). Ok w) z
found-one (Ok x) (Err y) e = cc
found-one (Err x) (Ok y) e = cc
found-one (Err x) (Err y) e = ap (λ (w : Refusal). Err w) (refusal-one x y e)

days_read_is : ℕ → ℕ → DaysRead
days_read_is a b = record { days = a; intervals = b }

pub days-read-one : (x y : Result DaysRead Refusal) → days_read_as x ≡ days_read_as y → x ≡ y
unfolding days_read_is
days-read-one (Ok x) (Ok y) e =
    let a : x.days ≡ y.days = cc in
    let b : x.intervals ≡ y.intervals = cc in
    let z : days_read_is x.days x.intervals ≡ days_read_is y.days y.intervals = rw (a, b) in
    ap (λ (w : DaysRead). Ok w) z
days-read-one (Ok x) (Err y) e = cc
days-read-one (Err x) (Ok y) e = cc
days-read-one (Err x) (Err y) e = ap (λ (w : Refusal). Err w) (refusal-one x y e)

pub replaced-one : (x y : Result ℕ Refusal) → replaced_as x ≡ replaced_as y → x ≡ y
replaced-one (Ok v) (Ok w) e = cc
replaced-one (Ok x) (Err y) e = cc
replaced-one (Err x) (Ok y) e = cc
replaced-one (Err x) (Err y) e = ap (λ (w : Refusal). Err w) (refusal-one x y e)

pub made_one : (x y : Result ℕ Refusal) → made_as x ≡ made_as y → x ≡ y
made_one (Ok a) (Ok b) e = cc
made_one (Ok a) (Err y) e = cc
made_one (Err x) (Ok b) e = cc
made_one (Err x) (Err y) e = ap Err (refusal-one x y e)

pub kept-one : (x y : Result ℕ Refusal) → kept_as x ≡ kept_as y → x ≡ y
kept-one (Ok a) (Ok b) e = cc
kept-one (Ok a) (Err y) e = cc
kept-one (Err x) (Ok b) e = cc
kept-one (Err x) (Err y) e = ap Err (refusal-one x y e)

slot_is : (n s t l u v a e : ℕ) → Slot
slot_is n s t l u v a e = record { nmi = n; suffix = s; date = t; length = l; unit = u; update = v; start = a; end = e }

slot-one : (x y : Slot) → slot_read_as (Ok (Some x)) ≡ slot_read_as (Ok (Some y)) → x ≡ y
unfolding slot_is
slot-one x y e =
    let a : x.nmi ≡ y.nmi = cc in
    let b : x.suffix ≡ y.suffix = cc in
    let c : x.date ≡ y.date = cc in
    let d : x.length ≡ y.length = cc in
    let g : x.unit ≡ y.unit = cc in
    let h : x.update ≡ y.update = cc in
    let i : x.start ≡ y.start = cc in
    let j : x.end ≡ y.end = cc in
    let k : slot_is x.nmi x.suffix x.date x.length x.unit x.update x.start x.end ≡ slot_is y.nmi y.suffix y.date y.length y.unit y.update y.start y.end =
    rw (a, b, c, d, g, h, i, j) in
    k

pub slot-read-one : (x y : Result (Option Slot) Refusal) → slot_read_as x ≡ slot_read_as y → x ≡ y
slot-read-one (Ok None) (Ok None) e = refl
slot-read-one (Ok None) (Ok (Some s)) e = cc
slot-read-one (Ok None) (Err y) e = cc
slot-read-one (Ok (Some r)) (Ok None) e = cc
slot-read-one (Ok (Some r)) (Ok (Some s)) e = ap (λ (s : Slot). Ok (Some s)) (slot-one r s e)
slot-read-one (Ok (Some r)) (Err y) e = cc
slot-read-one (Err x) (Ok None) e = cc
slot-read-one (Err x) (Ok (Some s)) e = cc
slot-read-one (Err x) (Err y) e = ap Err (refusal-one x y e)

pub versioned-one : (x y : Result ℕ Refusal) → versioned_as x ≡ versioned_as y → x ≡ y
versioned-one (Ok a) (Ok b) e = cc
versioned-one (Ok a) (Err y) e = cc
versioned-one (Err x) (Ok b) e = cc
versioned-one (Err x) (Err y) e = ap Err (refusal-one x y e)

pub split_one : (x y : Result ℕ Refusal) → split_as x ≡ split_as y → x ≡ y
split_one (Ok a) (Ok b) e = cc
split_one (Ok a) (Err y) e = cc
split_one (Err x) (Ok b) e = cc
split_one (Err x) (Err y) e = ap Err (refusal-one x y e)

-- For each public entry: two results that its contract allows are equal, and so is what is left in everything lent. Said of what a caller learns of the
-- function, which the tool makes of the clauses in its source, so that a loosened contract is refused here. Assumes nothing.
use mathlib.Core.Path.{◌≡◌, sym, ap, ◌∙◌}
use contract.Lifetimes.{Lfts}
use borrow.Fn.Kinds.{Dens, res_t, ended_of}
use denote.Triple.Clauses.{AtExit}
use Rattle.format.specs.Day.{Outcome}
use Rattle.checking.proofs.check.check.Kinds as check-kinds
use Rattle.checking.proofs.check.check.Reads as check-reads
use Rattle.reading.proofs.read_day.read_day.Kinds as read-kinds
use Rattle.reading.proofs.read_day.read_day.Reads as read-reads
use Rattle.months.specs.Month.{DaysLeft}
use Rattle.month.proofs.read_days.Kinds as read-days-kinds
use Rattle.month.proofs.read_days.Reads as read-days-reads
use Rattle.reading.proofs.total.total.Kinds as total-kinds
use Rattle.reading.proofs.total.total.Reads as total-reads
use Rattle.writing.proofs.write_day.Kinds as write-kinds
use Rattle.writing.proofs.write_day.Reads as write-reads
use Rattle.whose.proofs.find_day.Kinds as find-kinds
use Rattle.whose.proofs.find_day.Reads as find-reads
use Rattle.replacing.specs.Replace.{Left}
use Rattle.replacing.proofs.replace_day.Kinds as replace-kinds
use Rattle.replacing.proofs.replace_day.Reads as replace-reads
use Rattle.entries.specs.Left as Lent
use Rattle.making.proofs.make_store.Kinds as make-kinds
use Rattle.making.proofs.make_store.Reads as make-reads
use Rattle.putting.proofs.put_day.Kinds as put-kinds
use Rattle.putting.proofs.put_day.Reads as put_reads
use Rattle.deleting.proofs.delete_day.Kinds as delete-kinds
use Rattle.deleting.proofs.delete_day.Reads as delete-reads
use Rattle.getting.proofs.get_day.Kinds as get-kinds
use Rattle.getting.proofs.get_day.Reads as get-reads
use Rattle.slot_reading.proofs.read_slot.Kinds as slot-kinds
use Rattle.slot_reading.proofs.read_slot.Reads as slot-reads
use Rattle.tenants.specs.Calls.{Mapped}
use Rattle.tenant_map.proofs.make_map.Kinds as make-map-kinds
use Rattle.tenant_map.proofs.make_map.Reads as make-map-reads
use Rattle.tenant_map.proofs.add_version.Kinds as add-kinds
use Rattle.tenant_map.proofs.add_version.Reads as add_reads
use Rattle.tenant_map.proofs.back_to.Kinds as back-kinds
use Rattle.tenant_map.proofs.back_to.Reads as back-reads
use Rattle.tenant_map.proofs.map_on.Kinds as on-kinds
use Rattle.tenant_map.proofs.map_on.Reads as on-reads
use Rattle.splitter.proofs.split.Kinds as split-kinds
use Rattle.splitter.proofs.split.Reads as split-reads
use Rattle.splitter.proofs.split_day.Kinds as split-day-kinds
use Rattle.splitter.proofs.split_day.Reads as split-day-reads
use Rattle.splitter.proofs.split_stored.Kinds as split-stored-kinds
use Rattle.splitter.proofs.split_stored.Reads as split-stored-reads
use Rattle.determined.proofs.Answers.{checked-one, day-read-one, days-read-one, totalled-one, written_one, found-one, replaced-one, made_one, kept-one, slot-read-one, versioned-one, split_one}

-- `check` is lent nothing that it may change
pub one-check : (κs : Lfts 1) (a : Dens κs check-kinds.ps) (x y : (res_t check-kinds.r κs).Denot) (e f : AtExit (ended_of 1 check-kinds.ps check-kinds.r) κs)
    → check-reads.Learnt κs a x e → check-reads.Learnt κs a y f → x ≡ y
one-check κs a x y e f p q = checked-one x y (p ∙ sym q)

-- `total` likewise
pub one-total : (κs : Lfts 1) (a : Dens κs total-kinds.ps) (x y : (res_t total-kinds.r κs).Denot) (e f : AtExit (ended_of 1 total-kinds.ps total-kinds.r) κs)
    → total-reads.Learnt κs a x e → total-reads.Learnt κs a y f → x ≡ y
one-total κs a x y e f p q = totalled-one x y (p ∙ sym q)

-- `read_day`: the answer, the values, and the five lists of marks
pub one-read : (κs : Lfts 7) (a : Dens κs read-kinds.ps) (x y : (res_t read-kinds.r κs).Denot) (e f : AtExit (ended_of 7 read-kinds.ps read-kinds.r) κs)
    → read-reads.Learnt κs a x e → read-reads.Learnt κs a y f
    → (x ≡ y) × (e.1.1.0.now ≡ f.1.1.0.now) × (e.1.1.1.0.now ≡ f.1.1.1.0.now) × (e.1.1.1.1.0.now ≡ f.1.1.1.1.0.now)
    × (e.1.1.1.1.1.0.now ≡ f.1.1.1.1.1.0.now) × (e.1.1.1.1.1.1.0.now ≡ f.1.1.1.1.1.1.0.now)
    × (e.1.1.1.1.1.1.1.0.now ≡ f.1.1.1.1.1.1.1.0.now)
one-read κs a x y e f p q =
    let o = p ∙ sym q in (
      day-read-one x y (ap (λ (u : Outcome). u.answer) o),
      ap (λ (u : Outcome). u.values) o,
      ap (λ (u : Outcome). u.marks.flags) o,
      ap (λ (u : Outcome). u.marks.methods) o,
      ap (λ (u : Outcome). u.marks.reasons) o,
      ap (λ (u : Outcome). u.marks.starts) o,
      ap (λ (u : Outcome). u.marks.lengths) o,
    )

-- `read_days`: the answer, the six long lists, and the five of one place a day
pub one-read-days : (κs : Lfts 12) (a : Dens κs read-days-kinds.ps) (x y : (res_t read-days-kinds.r κs).Denot) (e f : AtExit (ended_of 12 read-days-kinds.ps read-days-kinds.r) κs)
    → read-days-reads.Learnt κs a x e → read-days-reads.Learnt κs a y f
    → (x ≡ y)
    × (e.1.1.1.0.now ≡ f.1.1.1.0.now)
    × (e.1.1.1.1.0.now ≡ f.1.1.1.1.0.now)
    × (e.1.1.1.1.1.0.now ≡ f.1.1.1.1.1.0.now)
    × (e.1.1.1.1.1.1.0.now ≡ f.1.1.1.1.1.1.0.now)
    × (e.1.1.1.1.1.1.1.0.now ≡ f.1.1.1.1.1.1.1.0.now)
    × (e.1.1.1.1.1.1.1.1.0.now ≡ f.1.1.1.1.1.1.1.1.0.now)
    × (e.1.1.1.1.1.1.1.1.1.0.now ≡ f.1.1.1.1.1.1.1.1.1.0.now)
    × (e.1.1.1.1.1.1.1.1.1.1.0.now ≡ f.1.1.1.1.1.1.1.1.1.1.0.now)
    × (e.1.1.1.1.1.1.1.1.1.1.1.0.now ≡ f.1.1.1.1.1.1.1.1.1.1.1.0.now)
    × (e.1.1.1.1.1.1.1.1.1.1.1.1.0.now ≡ f.1.1.1.1.1.1.1.1.1.1.1.1.0.now)
    × (e.1.1.1.1.1.1.1.1.1.1.1.1.1.0.now ≡ f.1.1.1.1.1.1.1.1.1.1.1.1.1.0.now)
one-read-days κs a x y e f p q =
    let o = p ∙ sym q in (
      days-read-one x y (ap (λ (u : DaysLeft). u.answer) o),
      ap (λ (u : DaysLeft). u.lists.values) o,
      ap (λ (u : DaysLeft). u.lists.marks.flags) o,
      ap (λ (u : DaysLeft). u.lists.marks.methods) o,
      ap (λ (u : DaysLeft). u.lists.marks.reasons) o,
      ap (λ (u : DaysLeft). u.lists.marks.starts) o,
      ap (λ (u : DaysLeft). u.lists.marks.lengths) o,
      ap (λ (u : DaysLeft). u.lists.days.dates) o,
      ap (λ (u : DaysLeft). u.lists.days.counts) o,
      ap (λ (u : DaysLeft). u.lists.days.updates) o,
      ap (λ (u : DaysLeft). u.lists.days.loads) o,
      ap (λ (u : DaysLeft). u.lists.days.units) o,
    )

-- `write_day`: the answer, and every byte of the room
pub one-write : (κs : Lfts 8) (a : Dens κs write-kinds.ps) (x y : (res_t write-kinds.r κs).Denot) (e f : AtExit (ended_of 8 write-kinds.ps write-kinds.r) κs)
    → write-reads.Learnt κs a x e → write-reads.Learnt κs a y f → (x ≡ y) × (e.1.1.1.1.1.1.1.1.0.now ≡ f.1.1.1.1.1.1.1.1.0.now)
one-write κs a x y e f p q = (written_one x y (p.0 ∙ sym q.0), p.1 ∙ sym q.1)

-- `find_day` is lent nothing that it may change
pub one-find : (κs : Lfts 1) (a : Dens κs find-kinds.ps) (x y : (res_t find-kinds.r κs).Denot) (e f : AtExit (ended_of 1 find-kinds.ps find-kinds.r) κs)
    → find-reads.Learnt κs a x e → find-reads.Learnt κs a y f → x ≡ y
one-find κs a x y e f p q = found-one x y (p ∙ sym q)

-- `replace_day`: the answer, and every byte of the room
pub one-replace : (κs : Lfts 2) (a : Dens κs replace-kinds.ps) (x y : (res_t replace-kinds.r κs).Denot) (e f : AtExit (ended_of 2 replace-kinds.ps replace-kinds.r) κs)
    → replace-reads.Learnt κs a x e → replace-reads.Learnt κs a y f → (x ≡ y) × (e.0.now ≡ f.0.now)
one-replace κs a x y e f p q = let o = p ∙ sym q in (replaced-one x y (ap (λ (u : Left). u.answer) o), ap (λ (u : Left). u.room) o)

-- `make_store`: the answer, and every byte of memory
pub one-make : (κs : Lfts 1) (a : Dens κs make-kinds.ps) (x y : (res_t make-kinds.r κs).Denot) (e f : AtExit (ended_of 1 make-kinds.ps make-kinds.r) κs)
    → make-reads.Learnt κs a x e → make-reads.Learnt κs a y f → (x ≡ y) × (e.0.now ≡ f.0.now)
one-make κs a x y e f p q = let o = p ∙ sym q in (made_one x y (ap (λ (u : Lent.Left). u.answer) o), ap (λ (u : Lent.Left). u.memory) o)

-- `put_day` and `delete_day` likewise
pub one-put : (κs : Lfts 10) (a : Dens κs put-kinds.ps) (x y : (res_t put-kinds.r κs).Denot) (e f : AtExit (ended_of 10 put-kinds.ps put-kinds.r) κs)
    → put_reads.Learnt κs a x e → put_reads.Learnt κs a y f → (x ≡ y) × (e.0.now ≡ f.0.now)
one-put κs a x y e f p q = let o = p ∙ sym q in (kept-one x y (ap (λ (u : Lent.Left). u.answer) o), ap (λ (u : Lent.Left). u.memory) o)

pub one-delete : (κs : Lfts 3) (a : Dens κs delete-kinds.ps) (x y : (res_t delete-kinds.r κs).Denot) (e f : AtExit (ended_of 3 delete-kinds.ps delete-kinds.r) κs)
    → delete-reads.Learnt κs a x e → delete-reads.Learnt κs a y f → (x ≡ y) × (e.0.now ≡ f.0.now)
one-delete κs a x y e f p q = let o = p ∙ sym q in (kept-one x y (ap (λ (u : Lent.Left). u.answer) o), ap (λ (u : Lent.Left). u.memory) o)

-- `get_day`: the answer, the values, and the five lists of marks
pub one-get : (κs : Lfts 9) (a : Dens κs get-kinds.ps) (x y : (res_t get-kinds.r κs).Denot) (e f : AtExit (ended_of 9 get-kinds.ps get-kinds.r) κs)
    → get-reads.Learnt κs a x e → get-reads.Learnt κs a y f
    → (x ≡ y) × (e.1.1.1.1.0.now ≡ f.1.1.1.1.0.now) × (e.1.1.1.1.1.0.now ≡ f.1.1.1.1.1.0.now) × (e.1.1.1.1.1.1.0.now ≡ f.1.1.1.1.1.1.0.now)
    × (e.1.1.1.1.1.1.1.0.now ≡ f.1.1.1.1.1.1.1.0.now) × (e.1.1.1.1.1.1.1.1.0.now ≡ f.1.1.1.1.1.1.1.1.0.now) × (e.1.1.1.1.1.1.1.1.1.0.now ≡ f.1.1.1.1.1.1.1.1.1.0.now)
one-get κs a x y e f p q =
    let o = p ∙ sym q in (
      day-read-one x y (ap (λ (u : Outcome). u.answer) o),
      ap (λ (u : Outcome). u.values) o,
      ap (λ (u : Outcome). u.marks.flags) o,
      ap (λ (u : Outcome). u.marks.methods) o,
      ap (λ (u : Outcome). u.marks.reasons) o,
      ap (λ (u : Outcome). u.marks.starts) o,
      ap (λ (u : Outcome). u.marks.lengths) o,
    )

-- `read_slot` is lent nothing that it may change
pub one-slot : (κs : Lfts 1) (a : Dens κs slot-kinds.ps) (x y : (res_t slot-kinds.r κs).Denot) (e f : AtExit (ended_of 1 slot-kinds.ps slot-kinds.r) κs)
    → slot-reads.Learnt κs a x e → slot-reads.Learnt κs a y f → x ≡ y
one-slot κs a x y e f p q = slot-read-one x y (p ∙ sym q)

-- `make_map`, `add_version` and `back_to`: the answer, and every byte of memory
pub one-make-map : (κs : Lfts 1) (a : Dens κs make-map-kinds.ps) (x y : (res_t make-map-kinds.r κs).Denot) (e f : AtExit (ended_of 1 make-map-kinds.ps make-map-kinds.r) κs)
    → make-map-reads.Learnt κs a x e → make-map-reads.Learnt κs a y f → (x ≡ y) × (e.0.now ≡ f.0.now)
one-make-map κs a x y e f p q = let o = p ∙ sym q in (versioned-one x y (ap (λ (u : Lent.Left). u.answer) o), ap (λ (u : Lent.Left). u.memory) o)

pub one-add : (κs : Lfts 3) (a : Dens κs add-kinds.ps) (x y : (res_t add-kinds.r κs).Denot) (e f : AtExit (ended_of 3 add-kinds.ps add-kinds.r) κs)
    → add_reads.Learnt κs a x e → add_reads.Learnt κs a y f → (x ≡ y) × (e.0.now ≡ f.0.now)
one-add κs a x y e f p q = let o = p ∙ sym q in (versioned-one x y (ap (λ (u : Lent.Left). u.answer) o), ap (λ (u : Lent.Left). u.memory) o)

pub one-back : (κs : Lfts 1) (a : Dens κs back-kinds.ps) (x y : (res_t back-kinds.r κs).Denot) (e f : AtExit (ended_of 1 back-kinds.ps back-kinds.r) κs)
    → back-reads.Learnt κs a x e → back-reads.Learnt κs a y f → (x ≡ y) × (e.0.now ≡ f.0.now)
one-back κs a x y e f p q = let o = p ∙ sym q in (versioned-one x y (ap (λ (u : Lent.Left). u.answer) o), ap (λ (u : Lent.Left). u.memory) o)

-- `map_on`: the answer, the keys and the shares
pub one_on_lem : (κs : Lfts 3) (a : Dens κs on-kinds.ps) (x y : (res_t on-kinds.r κs).Denot) (e f : AtExit (ended_of 3 on-kinds.ps on-kinds.r) κs)
    → on-reads.Learnt κs a x e → on-reads.Learnt κs a y f
    → (x ≡ y) × (e.1.1.0.now ≡ f.1.1.0.now) × (e.1.1.1.0.now ≡ f.1.1.1.0.now)
one_on_lem κs a x y e f p q =
    let o = p ∙ sym q in
    (versioned-one x y (ap (λ (u : Mapped). u.answer) o), ap (λ (u : Mapped). u.keys) o, ap (λ (u : Mapped). u.shares) o)

-- `split`, `split_day`, `split_stored`: the answer, and the parts
pub one_split : (κs : Lfts 5) (a : Dens κs split-kinds.ps) (x y : (res_t split-kinds.r κs).Denot) (e f : AtExit (ended_of 5 split-kinds.ps split-kinds.r) κs)
    → split-reads.Learnt κs a x e → split-reads.Learnt κs a y f → (x ≡ y) × (e.1.1.1.1.1.0.now ≡ f.1.1.1.1.1.0.now)
one_split κs a x y e f p q = let o = p ∙ sym q in (split_one x y (ap (λ (u : Lent.Left). u.answer) o), ap (λ (u : Lent.Left). u.memory) o)

pub one-split-day : (κs : Lfts 3) (a : Dens κs split-day-kinds.ps) (x y : (res_t split-day-kinds.r κs).Denot)
    (e f : AtExit (ended_of 3 split-day-kinds.ps split-day-kinds.r) κs)
    → split-day-reads.Learnt κs a x e → split-day-reads.Learnt κs a y f → (x ≡ y) × (e.1.1.1.0.now ≡ f.1.1.1.0.now)
one-split-day κs a x y e f p q = let o = p ∙ sym q in (split_one x y (ap (λ (u : Lent.Left). u.answer) o), ap (λ (u : Lent.Left). u.memory) o)

pub one-split-stored : (κs : Lfts 5) (a : Dens κs split-stored-kinds.ps) (x y : (res_t split-stored-kinds.r κs).Denot)
    (e f : AtExit (ended_of 5 split-stored-kinds.ps split-stored-kinds.r) κs)
    → split-stored-reads.Learnt κs a x e → split-stored-reads.Learnt κs a y f → (x ≡ y) × (e.1.1.1.1.1.0.now ≡ f.1.1.1.1.1.0.now)
one-split-stored κs a x y e f p q = let o = p ∙ sym q in (split_one x y (ap (λ (u : Lent.Left). u.answer) o), ap (λ (u : Lent.Left). u.memory) o)

-- `packing::pack` meets its contract: the blocks before place p are packed (`Packing`), and every fact of a turn comes from one law (`turn`). Assumes nothing.
use mathlib.Core.Path.{◌≡◌}
use Rattle.packing.proofs.Turns.{packing-none, as_many, packing-all, Turn, turn, even}
use lib.ListN.{length}
use native.Mathlib.Omega.{arith}
use borrow.Author.Rules.{rules}
use Rattle.packing.proofs.pack.Goals as goal

pub loop-places-init : goal.loop-places-init
loop-places-init c = search packing-none

pub next_from-i-requires : goal.next_from-i-requires
next_from-i-requires c = search even

pub returns-then-i-places : goal.returns-then-i-places
returns-then-i-places c = search packing-all

pub bounds-lengths-i : goal.bounds-lengths-i
bounds-lengths-i c = omega (arith, (let m : length c.loop-places.places ≡ length c.args.places.now = search as_many in m))

pub move_bytes-requires : goal.move_bytes-requires
move_bytes-requires c = (let u : Turn c.args.room.now c.args.places.now c.args.lengths.now c.loop-places.room c.loop-places.places c.loop-places.p c.loop-places.q c.next_from-i.result c.wide-o.result c.wide-n.result = search turn in u).within

pub overflow_cast-places : goal.overflow_cast-places
overflow_cast-places c =
    let u : Turn c.args.room.now c.args.places.now c.args.lengths.now c.loop-places.room c.loop-places.places c.loop-places.p c.loop-places.q c.next_from-i.result c.wide-o.result c.wide-n.result = search turn in
    omega (arith, c.wide-o.ensures.small)

pub overflow_add-q : goal.overflow_add-q
overflow_add-q c = let u : Turn c.args.room.now c.args.places.now c.args.lengths.now c.loop-places.room c.loop-places.places c.loop-places.p c.loop-places.q c.next_from-i.result c.wide-o.result c.wide-n.result = search turn in omega arith

pub overflow_add-p : goal.overflow_add-p
overflow_add-p c = let u : Turn c.args.room.now c.args.places.now c.args.lengths.now c.loop-places.room c.loop-places.places c.loop-places.p c.loop-places.q c.next_from-i.result c.wide-o.result c.wide-n.result = search turn in omega arith

pub overflow_add-guess : goal.overflow_add-guess
overflow_add-guess c = omega (arith, (let m : length c.loop-places.places ≡ length c.args.places.now = search as_many in m))

pub loop-places-smaller : goal.loop-places-smaller
loop-places-smaller c = let u : Turn c.args.room.now c.args.places.now c.args.lengths.now c.loop-places.room c.loop-places.places c.loop-places.p c.loop-places.q c.next_from-i.result c.wide-o.result c.wide-n.result = search turn in omega arith

pub loop-places-preserved : goal.loop-places-preserved
loop-places-preserved c = (let u : Turn c.args.room.now c.args.places.now c.args.lengths.now c.loop-places.room c.loop-places.places c.loop-places.p c.loop-places.q c.next_from-i.result c.wide-o.result c.wide-n.result = search turn in u).more _ (search rules)

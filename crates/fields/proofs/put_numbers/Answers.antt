-- `fields::put_numbers`: what the loop has written or holds when it has come to the place i of the record. Assumes nothing.
use mathlib.Core.Path.{◌≡◌, ◌∙◌}
use Prim.Native.Nat.{◌+◌, ◌≤◌}
use native.Mathlib.Omega.{arith}
use lib.ListN.{length, get_or}
use mir.Facts.{to_z-of_z}
use mir.Syntax.{w64}
use mir.Val.{SFits}
use lib.IntN.{pos}
use borrow.Author.Rules.{rules}
use Rattle.bits.proofs.Bytes.{length-unpack}
use Rattle.bits.specs.Bits.{unpack}
use Rattle.format.specs.Fields.{total}
use Rattle.format.specs.Types.{places, places_of}
use Rattle.fields.proofs.Coding.{odd_seen, written_start, written_same, written_all}
use Rattle.fields.proofs.Coding.{room-here, code_asks, written_on}
use Rattle.fields.proofs.Holding.{held_none}
use Rattle.fields.proofs.put_numbers.Goals as goal

pub loop-i-init : goal.loop-i-init
loop-i-init c =
    let u = unpack c.args.part.now in
    let l : length c.args.numbers.now ≡ places = search rules in
    let room : c.args.from + total (places_of c.args.kind) ≤ length u = omega (arith, length-unpack c.args.part.now, c.requires.ends.0) in
    let none = c.none-held.ensures in
    written_same (held_none c.none-held.result u none.1) (omega (arith, none)) (written_start room l c.requires.tested)

pub code-requires : goal.code-requires
code-requires c =
    let long : length c.args.numbers.now ≡ places = search rules in
    let fits : SFits w64 (get_or c.args.numbers.now c.loop-i.i (pos 0)) = search rules in
    let number = to_z-of_z {w = w64} fits in
    code_asks c.loop-i.invariant c.places_of-place-items.ensures c.loop-i-test.true long number (odd_seen c.loop-i.marks)

pub hold-requires : goal.hold-requires
hold-requires c =
    let room = room-here c.loop-i.invariant c.places_of-place-items.ensures c.loop-i-test.true in
    let e = c.code.ensures.as_place.1 in
    record { room = (omega (arith, room, e, c.requires.ends.0, c.loop-i.auto.part), omega (arith, room, e, c.requires.ends.1)) }

pub loop-i-preserved : goal.loop-i-preserved
loop-i-preserved c =
    let long : length c.args.numbers.now ≡ places = search rules in
    let fits : SFits w64 (get_or c.args.numbers.now c.loop-i.i (pos 0)) = search rules in
    let number = to_z-of_z {w = w64} fits in
    let h = c.hold.ensures in
    let e = c.code.ensures in
    written_on c.loop-i.invariant c.places_of-place-items.ensures c.loop-i-test.true long number (odd_seen c.loop-i.marks)
    c.code.result e.as_place e.coded h.bits_put h.reach

pub put-requires : goal.put-requires
put-requires c =
    let place = c.loop-i.invariant.place in
    (omega (arith, place, c.requires.ends.0, c.loop-i.auto.part), omega (arith, place, c.requires.ends.1))

pub returns : goal.returns
returns c = c.put.ensures ∙ written_all c.loop-i.invariant c.places_of-place-items.ensures (omega arith)

-- `fields::numbers_at`: what the loop has decoded when it has come to the place i of the record. Assumes nothing.
use mathlib.Core.Path.{refl, sym, ◌∙◌}
use mathlib.Core.List.{List}
use Prim.Native.Nat.{ℕ, ◌*◌, ◌≤◌}
use native.Mathlib.Omega.{arith}
use lib.ListN.{length}
use mir.Facts.{to_z-of_z}
use mir.Syntax.{w64}
use Rattle.bits.proofs.Phases.{length_true}
use Rattle.bits.specs.declared.Phase.{Phase}
use Rattle.bits.specs.Bits.{true_bits}
use Rattle.fields.proofs.Decoding.{read_start, read_on, read_all}
use Rattle.fields.proofs.Decoding.{marked_here, unmarked_here, mark-fits, mark-place}
use Rattle.fields.proofs.Decoding.{inside_here, small_here}
use Rattle.types.proofs.Table.{narrow_at, signed_at, some_at}
use Rattle.fields.proofs.numbers_at.Goals.{then-is_minus_zero, else-is_minus_zero}
use Rattle.fields.proofs.numbers_at.Goals as goal

-- the fields end within the part
inside-part : (φ : Phase) (s : List ℕ) {n : ℕ} → n ≤ 8 * length s → n ≤ length (true_bits φ s)
inside-part φ s h = omega (arith, length_true φ s)

pub loop-i-init : goal.loop-i-init
loop-i-init c = read_start (true_bits c.args.part.phase c.args.part.bytes.now) c.args.from c.args.kind c.requires.blank.0 c.requires.blank.1

pub nonempty_field-word-requires : goal.nonempty_field-word-requires
nonempty_field-word-requires c =
    let g = c.loop-i.invariant in
    let d = c.places_of-place-items.ensures in
    let h = c.loop-i-test.true in
    (some_at d c.loop-i.i h, narrow_at d c.loop-i.i, omega (arith, inside_here g d h, c.requires.room.0))

pub invariant_of-field : goal.invariant_of-field
invariant_of-field c =
    let g = c.loop-i.invariant in
    let d = c.places_of-place-items.ensures in
    let h = c.loop-i-test.true in
    let room = inside-part c.args.part.phase c.args.part.bytes.now c.requires.room.0 in
    record {
      narrow = narrow_at d c.loop-i.i;
      sized = signed_at d c.loop-i.i;
      small = small_here g d h room c.nonempty_field-word.ensures;
    }

pub overflow_add-minus : goal.overflow_add-minus
overflow_add-minus c =
    let g = c.loop-i.invariant in
    let d = c.places_of-place-items.ensures in
    let h = c.loop-i-test.true in
    let room = inside-part c.args.part.phase c.args.part.bytes.now c.requires.room.0 in
    let number = to_z-of_z {w = w64} (record { sfits = c.number.type_inv }) ∙ c.number.ensures in
    let mark = marked_here c.loop-i.i c.loop-i.minus (sym c.is_minus_zero.ensures ∙ c.if-is_minus_zero.true) (mark-place g d h) refl in
    record { fits = mark-fits (read_on g d h room c.nonempty_field-word.ensures number mark) }

pub overflow_add-at : goal.overflow_add-at
overflow_add-at c =
    let inside = inside_here c.loop-i.invariant c.places_of-place-items.ensures c.loop-i-test.true in
    record { fits = omega (arith, inside, c.requires.room.1) }

pub loop-i-preserved : goal.loop-i-preserved
loop-i-preserved c =
    let g = c.loop-i.invariant in
    let d = c.places_of-place-items.ensures in
    let h = c.loop-i-test.true in
    let room = inside-part c.args.part.phase c.args.part.bytes.now c.requires.room.0 in
    let number = to_z-of_z {w = w64} (record { sfits = c.number.type_inv }) ∙ c.number.ensures in
    elim c.if-is_minus_zero.branch [
      | then-is_minus_zero w ↦
          read_on g d h room c.nonempty_field-word.ensures number
          (marked_here c.loop-i.i c.loop-i.minus (sym c.is_minus_zero.ensures ∙ w.if-is_minus_zero.true) (mark-place g d h) w.minus-is)
      | else-is_minus_zero w ↦
          read_on g d h room c.nonempty_field-word.ensures number
          (unmarked_here c.loop-i.i c.loop-i.minus (sym c.is_minus_zero.ensures ∙ w.if-is_minus_zero.false) w.minus-is)
    ]

pub returns : goal.returns
returns c = read_all c.loop-i.invariant c.places_of-place-items.ensures (omega arith)

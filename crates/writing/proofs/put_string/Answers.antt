-- `writing::put_string`: each piece joins those before it, and the check bits are those of all bits put so far. Assumes nothing.
use mathlib.Core.Path.{◌≡◌, ◌∙◌}
use Prim.Native.Nat.{◌≤◌}
use native.Mathlib.Omega.{arith}
use lib.ListN.{length}
use borrow.Author.Rules.{rules}
use Rattle.bits.proofs.Bytes.{length-unpack}
use Rattle.format.proofs.Information.{string-filled, raw_few}
use Rattle.format.proofs.Writing.{Typed, length-string}
use Rattle.types.proofs.Cases.{length-least, check_few, parted}
use Rattle.fields.proofs.Coding.{tested}
use Rattle.writing.proofs.Strings.{check-lt, service-lt, fields_pass, string-put}
use Rattle.writing.proofs.put_string.Goals as goal

pub overflow_sub-count : goal.overflow_sub-count
overflow_sub-count c = omega (arith, string-filled c.args.r.now.kind, c.check_count-degree.ensures, c.length_of.ensures)

pub service-requires : goal.service-requires
service-requires c = fields_pass _ c.requires.passes

pub overflow_add-service : goal.overflow_add-service
overflow_add-service c = let x = service-lt _ _ c.service.ensures in omega arith

pub put_field-requires : goal.put_field-requires
put_field-requires c =
    let p = parted c.args.r.now.kind c.raw_count-n.ensures c.check_count-degree.ensures c.length_of.ensures in
    let x = service-lt _ _ c.service.ensures in
    (omega arith, omega arith, omega (arith, p, c.requires.ends.1), omega (arith, c.requires.ends.0))

pub put_numbers-requires : goal.put_numbers-requires
put_numbers-requires c =
    let p = parted c.args.r.now.kind c.raw_count-n.ensures c.check_count-degree.ensures c.length_of.ensures in
    let least = (length-least _ _ c.length_of.ensures).1 in
    record {
      ends = (omega (arith, p, c.requires.ends.1, c.length_of.ensures), omega (arith, p, least, c.requires.ends.0));
      tested = tested c.args.r.now c.requires.passes;
    }

pub put_raw-requires : goal.put_raw-requires
put_raw-requires c =
    let p = parted c.args.r.now.kind c.raw_count-n.ensures c.check_count-degree.ensures c.length_of.ensures in (
      omega (arith, c.raw_count-n.ensures, raw_few c.args.r.now.kind),
      omega (arith, p, c.requires.ends.1),
      omega (arith, p, (length-least _ _ c.length_of.ensures).1, c.requires.ends.0),
    )

pub overflow_sub-offset : goal.overflow_sub-offset
overflow_sub-offset c = omega (arith, parted c.args.r.now.kind c.raw_count-n.ensures c.check_count-degree.ensures c.length_of.ensures)

pub check-c-requires : goal.check-c-requires
check-c-requires c =
    let p = parted c.args.r.now.kind c.raw_count-n.ensures c.check_count-degree.ensures c.length_of.ensures in
    (omega (arith, p), omega (arith, p, c.requires.ends.1), omega (arith, p, (length-least _ _ c.length_of.ensures).1, c.requires.ends.0))

pub overflow_add-offset-2 : goal.overflow_add-offset-2
overflow_add-offset-2 c =
    let p = parted c.args.r.now.kind c.raw_count-n.ensures c.check_count-degree.ensures c.length_of.ensures in
    omega (arith, p, (length-least _ _ c.length_of.ensures).1, c.requires.ends.0)

pub overflow_add-offset-3 : goal.overflow_add-offset-3
overflow_add-offset-3 c =
    let p = parted c.args.r.now.kind c.raw_count-n.ensures c.check_count-degree.ensures c.length_of.ensures in
    record { fits = omega (arith, p, (length-least _ _ c.length_of.ensures).1, c.requires.ends.0) }

pub put_field-requires-2 : goal.put_field-requires-2
put_field-requires-2 c =
    let few : c.check_count-degree.result ≤ 24 = omega (arith, c.check_count-degree.ensures, check_few c.args.r.now.kind) in
    let p = parted c.args.r.now.kind c.raw_count-n.ensures c.check_count-degree.ensures c.length_of.ensures in
    let same : length c.put_raw.new.part ≡ length c.args.part.now = c.part-3-1.given ∙ c.part-2-1.given ∙ c.part-1.given in
    let small = check-lt _ _ _ _ (c.from.ensures ∙ c.check-c.ensures) c.check_count-degree.ensures in
    let least = (length-least _ _ c.length_of.ensures).1 in
    (omega arith, small, omega (arith, p, c.requires.ends.1, same), omega (arith, p, least, c.requires.ends.0))

pub returns : goal.returns
returns c =
    let holds : Typed c.args.r.now = search rules in
    record {
      long = length-string c.args.r.now holds;
      bits_put =
          string-put c.args.r.now holds c.args.offset _ _ _ _ _ _ _ _
          (omega (arith, length-unpack c.args.part.now, c.requires.ends.1, c.length_of.ensures))
          c.length_of.ensures c.check_count-degree.ensures c.raw_count-n.ensures c.service.ensures c.put_field.ensures
          c.put_numbers.ensures c.put_raw.ensures _ _ (c.from.ensures ∙ c.check-c.ensures) c.put_field-2.ensures;
    }

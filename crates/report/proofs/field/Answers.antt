-- `report::field`: the bits of the bytes are the string's. Assumes nothing.
use borrow.Author.Rules.{rules}
use Rattle.format.specs.Strings.{string_bits}
use Rattle.report.proofs.Printing.{field_fits}
use Rattle.report.proofs.field.Goals as goal

pub overflow_cast-result : goal.overflow_cast-result
overflow_cast-result c =
    let p = c.requires in
    let l = field_fits c.args.part.now _ _ _ _ c.field.ensures p.0 p.1 p.2 p.3 p.4 in
    search rules

pub returns : goal.returns
unfolding string_bits
returns c = c.field.ensures

-- `cuts::put_cut`: the count and reading's number are the line. Assumes nothing.
use Rattle.format.specs.declared.Record.{Record}
use Rattle.format.specs.declared.Refusal.{Refusal}
use Rattle.std.specs.Prelude.{Result}
use mathlib.Core.Path.{◌≡◌, ap, ◌∙◌}
use Rattle.bits.specs.declared.Phase.TheVariants.{Straight}
use Rattle.format.specs.Answers.{answer_code}
use Rattle.format.specs.Reading.{reading}
use Rattle.cuts.specs.Cuts.{count_line}
use Rattle.cuts.proofs.put_cut.Goals as goal

pub returns : goal.returns
unfolding count_line
returns c =
    let number : c.answer_number-number.result ≡ (answer_code (reading Straight c.args.rec.now c.args.count 0)).0 =
    c.answer_number-number.ensures ∙ ap (λ (r : Result Record Refusal). (answer_code r).0) c.read.ensures.answered in
    rw number at c.row.ensures

-- `report::report`: what is read of an input is enough of it. Assumes nothing.
use borrow.Author.Rules.{rules}
use Rattle.report.proofs.Printing.{report_front}
use Rattle.report.proofs.report.Goals as goal

pub returns-clause-enough : goal.returns-clause-enough
returns-clause-enough c = λ input e. rw (report_front c.args.rec.now input e) (search rules)

-- `cuts::main`: the lines end within the buffer. Assumes nothing.
use borrow.Author.Rules.{rules}
use Rattle.cuts.proofs.Lines.{cuts_within}
use Rattle.cuts.proofs.main.Goals as goal

pub written-requires : goal.written-requires
written-requires c = cuts_within _ c.put_cuts.ensures (search rules)

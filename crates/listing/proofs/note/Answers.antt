-- `listing::note`: by cases of the index. Assumes nothing.
use borrow.Author.Tests.{lt-ltb, le-ltb}
use Rattle.listing.proofs.note.Goals as goal

pub returns-then-index-list : goal.returns-then-index-list
returns-then-index-list c = simp (lt-ltb _ _ c.if-index-list.true)

pub returns-else-index-list : goal.returns-else-index-list
returns-else-index-list c = simp (le-ltb _ _ c.if-index-list.false)

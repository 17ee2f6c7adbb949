-- `almanac::Book::entry`: nothing outside the book's numbers, else what the entry gives. Assumes nothing.
use mathlib.Core.Path.{◌≡◌, sym, ◌∙◌}
use native.Mathlib.Omega.{arith}
use borrow.Author.Rules.{rules}
use lib.ListN.{length}
use Rattle.format.specs.Types.{last_satellite}
use Rattle.almanac.proofs.Books.{read_empty, read_held, entry_below, entry_above, entry_there}
use Rattle.almanac.proofs.Book.entry.Goals as goal

pub returns-in_err-checked_sub : goal.returns-in_err-checked_sub
returns-in_err-checked_sub c = c.from_residual.ensures ∙ sym (entry_below _ _ (omega (arith, c.in_err-checked_sub.ensures)))

pub returns-in_err-entry : goal.returns-in_err-entry
returns-in_err-entry c =
    let l : length c.args.self.now.entries ≡ last_satellite = search rules in
    let k = c.in_ok-checked_sub.ensures in
    c.from_residual-in_err-entry.ensures
    ∙ sym (entry_above _ _ (omega (arith, l, k.0, k.1, c.in_err-entry.ensures.lookup.3)))

pub returns-then-entry-eq0 : goal.returns-then-entry-eq0
returns-then-entry-eq0 c =
    sym (entry_there c.args.self.now c.args.satellite _ _ (search rules) c.in_ok-checked_sub.ensures c.in_ok-entry.ensures.lookup.3
    ∙ read_empty c.in_ok-entry.entry.now c.if-entry-eq0.true)

pub returns-else-entry-eq0 : goal.returns-else-entry-eq0
returns-else-entry-eq0 c =
    sym (entry_there c.args.self.now c.args.satellite _ _ (search rules) c.in_ok-checked_sub.ensures c.in_ok-entry.ensures.lookup.3
    ∙ read_held c.in_ok-entry.entry.now c.if-entry-eq0.false)

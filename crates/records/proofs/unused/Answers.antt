-- `records::unused`: the places past those of the table are tested. Assumes nothing.
use mathlib.Core.Path.{◌≡◌, ◌∙◌}
use lib.ListN.{length}
use borrow.Author.Rules.{rules}
use Rattle.format.specs.Types.{places}
use Rattle.records.proofs.Tests.{unused_is}
use Rattle.records.proofs.unused.Goals as goal

pub returns : goal.returns
returns c =
    let long : length c.args.r.now.numbers ≡ places = search rules in
    c.any_set.ensures ∙ unused_is c.args.r.now.numbers c.places_of-used.ensures long

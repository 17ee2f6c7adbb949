-- Reading into lent memory. Assumes nothing.
use Rattle.std.specs.Prelude.{Ok, ◌≡◌, Result}
use Rattle.format.specs.declared.Refusal.{Refusal}
use Rattle.format.specs.Tests.{Answer, answer_of}

-- What a function gives that reads into a lent record, or a set: the answer, and where nothing is refused what was found.
pub record Reads {A : Type 0} (found : Result A Refusal) (answer : Answer) (after : A) : Type 0 where
  pub answered : answer ≡ answer_of found
  pub read : answer ≡ Ok tt → found ≡ Ok after

-- What is known of a record that was decoded. Assumes nothing.
use Rattle.std.specs.Prelude.{◌≡◌, Bool, List, ℕ}
use Rattle.format.specs.declared.Record.{Record}
use Rattle.format.specs.Reading.{record_at}

-- A record is the one that stands at a place of some bits, so that each of its numbers is one that a field's bits stand for.
pub record OfBits (r : Record) : Type 0 where
  pub bits : List Bool
  pub place : ℕ
  pub is : r ≡ record_at bits place

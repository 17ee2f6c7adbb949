-- The numbers of the C interface that name a phase, and its structs, from the answers and their numbers and values. Assumes nothing.
use Rattle.std.specs.Prelude.{false, ℕ, zero, suc, Float, pos, Result, Option, Some, None}
use Rattle.std.specs.Float.{fin}
use Rattle.bits.specs.declared.Phase.{Phase}
use Rattle.bits.specs.declared.Phase.TheVariants.{Straight, Inverted}
use Rattle.format.specs.declared.Record.{Record}
use Rattle.format.specs.declared.Refusal.{Refusal}
use Rattle.format.specs.declared.Set.{Set}
use Rattle.format.specs.Answers.{answer_code}
use Rattle.format.specs.Records.{blank}
use Rattle.format.specs.Tests.{given_or}
use Rattle.format.specs.Sets.{blank_set}
use Rattle.almanac.specs.declared.Entry.{Entry}
use Rattle.almanac.specs.Book.{holding, empty_entry}
use Rattle.answers.specs.declared.Code.{Code}
use Rattle.l1oc.specs.declared.ReadCode.{ReadCode}
use Rattle.l1oc.specs.declared.SetCode.{SetCode}
use Rattle.l1oc.specs.declared.ValueCode.{ValueCode}

-- The phase that a number names: 0 straight, every other inverted.
abbrev pub phase_of : ℕ → Phase
phase_of zero = Straight
phase_of (suc n) = Inverted

-- A number and a value.
abbrev pub coded : ℕ × ℕ → Code
coded p = record { number = p.0; value = p.1 }

-- The number and the value of an answer, and what it gives: a record that is read, a set, a value. Beside a refusal they are blank, or
-- 0.0.
abbrev pub read_coded : Result Record Refusal → ReadCode
read_coded a = record { number = (answer_code a).0; value = (answer_code a).1; content = given_or blank a }

abbrev pub set_coded : Result Set Refusal → SetCode
set_coded a = record { number = (answer_code a).0; value = (answer_code a).1; content = given_or blank_set a }

abbrev pub value_coded : Result Float Refusal → ValueCode
value_coded a = record { number = (answer_code a).0; value = (answer_code a).1; scaled = given_or (fin false 0 (pos 0)) a }

-- What a book holds for a satellite, as an entry: an empty one where it holds nothing.
abbrev pub entry_coded : Option Record → Entry
entry_coded (Some r) = holding r
entry_coded None = empty_entry

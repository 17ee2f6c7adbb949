-- The text that the program `cuts` prints. Assumes nothing.
use Rattle.std.specs.Prelude.{List, [], ◌∷◌, ◌++◌, ℕ, zero, suc, ◌*◌}
use Rattle.bits.specs.declared.Phase.TheVariants.{Straight}
use Rattle.format.specs.Answers.{answer_code}
use Rattle.format.specs.Reading.{reading}
use Rattle.text.specs.Text.{row, number_most}

-- The line of a bit count: the count, and reading's number at place 0 with it.
unfoldable pub count_line : List ℕ → ℕ → List ℕ
count_line bytes count = row (count ∷ (answer_code (reading Straight bytes count 0)).0 ∷ [])

-- The lines of the first counts, from 0 on.
unfoldable pub cuts : List ℕ → ℕ → List ℕ
cuts bytes zero = []
cuts bytes (suc count) = cuts bytes count ++ count_line bytes count

-- How many bit counts there are: from 0 to the string's 250.
abbrev pub counts : ℕ
counts = 251

-- The most bytes of a line.
abbrev pub cut_most : ℕ
cut_most = 2 * number_most

-- The text that the program `list` prints (document 01, "Starred and plain examples"), of a recording that is always straight (document 02,
-- U2). Assumes nothing.
use Rattle.std.specs.Prelude.{Bool, cond, List, [], ◌∷◌, ◌++◌, ℕ, ◌*◌, length}
use Rattle.bits.specs.declared.Phase.TheVariants.{Straight}
use Rattle.bits.specs.Bits.{number, recorded}
use Rattle.format.specs.Answers.{answer_code}
use Rattle.format.specs.Tests.{bit_limit, above}
use Rattle.format.specs.Listing.{starts}
use Rattle.format.specs.Reading.{reading}
use Rattle.format.specs.Strings.{string_bits, type_at}
use Rattle.text.specs.Text.{row}

-- "place,type,number,kp,a,omb,result" and a newline.
abbrev pub header : List ℕ
header =
    112 ∷ 108 ∷ 97 ∷ 99 ∷ 101 ∷ 44 ∷ 116 ∷ 121 ∷ 112 ∷ 101 ∷ 44 ∷ 110 ∷ 117 ∷ 109 ∷ 98 ∷ 101 ∷ 114 ∷ 44
    ∷ 107 ∷ 112 ∷ 44 ∷ 97 ∷ 44 ∷ 111 ∷ 109 ∷ 98 ∷ 44 ∷ 114 ∷ 101 ∷ 115 ∷ 117 ∷ 108 ∷ 116 ∷ 10 ∷ []

-- "refused,1" and a newline.
abbrev pub refused_line : List ℕ
refused_line = 114 ∷ 101 ∷ 102 ∷ 117 ∷ 115 ∷ 101 ∷ 100 ∷ 44 ∷ 49 ∷ 10 ∷ []

-- The bits of all bytes.
abbrev pub all_bits : List ℕ → List Bool
all_bits bytes = recorded Straight bytes (8 * length bytes)

-- Type, j, KP, A and OMB of the string at a place, straight from the bits.
unfoldable pub service_numbers : List Bool → ℕ → List ℕ
service_numbers bits place =
    type_at bits place ∷ number (string_bits bits place 19 24) ∷ number (string_bits bits place 32 33)
    ∷ number (string_bits bits place 34 34)
    ∷ number (string_bits bits place 35 50) ∷ []

-- The line of a start: the place; type, j, KP, A and OMB; and reading's number, 0 if read.
unfoldable pub line : List ℕ → ℕ → List ℕ
line bytes place =
    row (place ∷ (service_numbers (all_bits bytes) place
    ++ ((answer_code (reading Straight bytes (8 * length bytes) place)).0 ∷ [])))

-- A line for each start.
unfoldable pub lines : List ℕ → List ℕ → List ℕ
lines bytes [] = []
lines bytes (p ∷ ps) = line bytes p ++ lines bytes ps

-- The header, and a line for each start that listing gives.
abbrev pub listed : List ℕ → List ℕ
listed bytes = header ++ lines bytes (starts (all_bits bytes))

-- All that `list` prints for these bytes on its standard input: above the limit the refusal only.
unfoldable pub report : List ℕ → List ℕ
report bytes = cond (above (8 * length bytes) bit_limit) refused_line (listed bytes)

-- Text as bytes: decimal numbers, rows of them, and what it is to write a text into a buffer. Assumes nothing.
use Rattle.std.specs.Prelude.{cond, List, [], ◌∷◌, ◌++◌, ◌≡◌, ℕ, zero, suc, ◌+◌, ◌*◌, ◌/◌, ◌%◌, ltb, length}
use Rattle.bits.specs.Bits.{put}

-- The bytes of ASCII: the digits from "0" on, the comma, the newline.
abbrev pub digit : ℕ → ℕ
digit d = 48 + d

abbrev pub comma : ℕ
comma = 44

abbrev pub newline : ℕ
newline = 10

-- The decimal digits of a number, highest first: of a number below ten its digit, of another the digits of its tenth part and then the
-- last one. Of a number that has more than `most` digits, the last `most`.
unfoldable pub digits : ℕ → ℕ → List ℕ
digits zero n = []
digits (suc most) n = cond (ltb n 10) (digit n ∷ []) (digits most (n / 10) ++ (digit (n % 10) ∷ []))

-- The most digits of a u32, whose largest is 4294967295.
abbrev pub digits_most : ℕ
digits_most = 10

-- The numeral of a number: its decimal digits, with no zeros in front. Ten digits are enough for every number below 10 ^ 10, and so for
-- every u32 (`numeral_whole` of `proofs/Numerals.antt`).
unfoldable pub numeral : ℕ → List ℕ
numeral n = digits digits_most n

-- What ends a number, by the numbers after it: a comma, and where there are none a newline.
abbrev pub end_of : List ℕ → ℕ
end_of [] = newline
end_of (n ∷ ns) = comma

-- A row: the numerals of numbers with commas between them and a newline after the last.
unfoldable pub row : List ℕ → List ℕ
row [] = []
row (n ∷ ns) = numeral n ++ (end_of ns ∷ row ns)

-- The most bytes of a number and the byte after it.
abbrev pub number_most : ℕ
number_most = digits_most + 1

-- How many numbers a line of the program `list` has.
abbrev pub row_numbers : ℕ
row_numbers = 7

-- The most bytes of a line of the program `list` (`row-most` of `proofs/Numerals.antt`).
abbrev pub line_most : ℕ
line_most = row_numbers * number_most

-- A text was written at a place: `after` is the buffer `before` with the text there, and `next` is the place after it.
pub record Wrote (text : List ℕ) (at : ℕ) (before after : List ℕ) (next : ℕ) : Type 0 where
  pub written : after ≡ put at text before
  pub placed : next ≡ at + length text

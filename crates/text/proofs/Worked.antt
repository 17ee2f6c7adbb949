-- Worked examples of the definitions, computed. Assumes nothing.
use mathlib.Core.List.{[], ◌∷◌}
use mathlib.Core.Path.{◌≡◌, refl}
use Rattle.text.specs.Text.{digits, numeral, row}

-- "0", "7", "10", "524288", the largest u32
zero_is : numeral 0 ≡ 48 ∷ []
unfolding numeral digits
zero_is = refl

seven : numeral 7 ≡ 55 ∷ []
unfolding numeral digits
seven = refl

ten : numeral 10 ≡ 49 ∷ 48 ∷ []
unfolding numeral digits
ten = refl

six_digits : numeral 524288 ≡ 53 ∷ 50 ∷ 52 ∷ 50 ∷ 56 ∷ 56 ∷ []
unfolding numeral digits
six_digits = refl

largest : numeral 4294967295 ≡ 52 ∷ 50 ∷ 57 ∷ 52 ∷ 57 ∷ 54 ∷ 55 ∷ 50 ∷ 57 ∷ 53 ∷ []
unfolding numeral digits
largest = refl

-- "0,0,5,3,1,99,0" and a newline
seven-numbers :
    row (0 ∷ 0 ∷ 5 ∷ 3 ∷ 1 ∷ 99 ∷ 0 ∷ [])
    ≡ 48 ∷ 44 ∷ 48 ∷ 44 ∷ 53 ∷ 44 ∷ 51 ∷ 44 ∷ 49 ∷ 44 ∷ 57 ∷ 57 ∷ 44 ∷ 48 ∷ 10 ∷ []
unfolding row numeral digits
seven-numbers = refl

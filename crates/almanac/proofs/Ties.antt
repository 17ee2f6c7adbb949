-- Laws of the way in which a tie of days is settled. Assumes nothing.
use mathlib.Core.Path.{◌≡◌}
use mathlib.Core.Bool.{true, false}
use native.Mathlib.Omega.{arith}
use lib.IntN.{ℤ}
use lib.Signed.{◌≤ℤ◌}
use Rattle.std.proofs.lemmas.Int.{ints}
use Rattle.almanac.specs.Book.{wins}

-- it is an order
pub wins_chain : (a b c : ℤ) → wins a b ≡ true → wins b c ≡ true → wins a c ≡ true
wins_chain a b c p q = grind (arith, ints)

pub wins_across : (a b c : ℤ) → wins a b ≡ true → wins c b ≡ false → wins a c ≡ true
wins_across a b c p q = grind (arith, ints)

-- the age that is kept is the smaller one
pub won : (a b : ℤ) → wins a b ≡ true → a ≤ℤ b
won a b p = grind (arith, ints)

pub lost : (a b : ℤ) → wins a b ≡ false → b ≤ℤ a
lost a b p = grind (arith, ints)

-- and of equal ages the one that is held
pub no_win : (a b : ℤ) → a ≡ b → wins a b ≡ true → ⊥
no_win a b e p = grind (arith, ints)

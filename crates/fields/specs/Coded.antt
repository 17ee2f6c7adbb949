-- What the parts of writing give. Assumes nothing.
use Rattle.std.specs.Prelude.{Ok}
use Rattle.std.specs.Prelude.{◌≡◌, Bool, false, cond, List, ℕ, ℤ, nat_abs}
use Rattle.bits.specs.Bits.{bits, put}
use Rattle.bits.specs.Signed.{sign_magnitude}
use Rattle.format.specs.Fields.{Field}
use Rattle.format.specs.Records.{ranges, unused, stray, mark_bits}
use Rattle.format.specs.Types.{mark_width}
use Rattle.fields.specs.declared.words.Held.{Held}

-- The bits of a number in a field of a width, signed or not.
abbrev pub code_of : Bool → ℕ → ℤ → Bool → List Bool
code_of signed width v minus = cond signed (sign_magnitude width v minus) (bits width (nat_abs v))

-- The bits as they are when what is held has been put.
abbrev pub after_held : Held → List Bool → List Bool
after_held h u = put h.at (bits h.count h.word) u

-- What the tests 7, 11 and 10 leave: numbers and a mark that a type's fields take.
pub record Tested (fields : List Field) (numbers : List ℤ) (minus : ℕ) : Type 0 where
  pub ranged : ranges fields numbers 10 ≡ Ok tt
  pub placed : unused fields numbers ≡ false
  pub borne : stray fields numbers (mark_bits mark_width minus) 0 ≡ Ok tt

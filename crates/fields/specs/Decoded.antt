-- What the parts of decoding give. Assumes nothing.
use Rattle.std.specs.Prelude.{◌≡◌, Bool, cond, List, ℕ, ℤ, pos}
use Rattle.bits.specs.Bits.{bits}
use Rattle.bits.specs.Signed.{signed_of}
use Rattle.format.specs.Fields.{values, minus_zeros}
use Rattle.format.specs.Records.{mark_of}
use Rattle.format.specs.Types.{places_of}

-- The number that a field of `width` bits stands for, signed or not.
abbrev pub number_of : Bool → ℕ → ℕ → ℤ
number_of signed width x = cond signed (signed_of (bits width x)) (pos x)

-- The numbers and the mark of a type's information fields, which stand at the front of these bits.
pub record Decoded (kind : ℕ) (p : List Bool) (decoded : List ℤ) (minus : ℕ) : Type 0 where
  pub numbers : decoded ≡ values (places_of kind) p
  pub mark : minus ≡ mark_of (minus_zeros (places_of kind) p)

-- The bytes that a string covers give what the recording gives. Assumes nothing.
use mathlib.Core.Path.{◌≡◌, refl}
use mathlib.Core.Bool.{Bool}
use mathlib.Core.List.{List}
use Prim.Native.Nat.{ℕ, ◌+◌, ◌%◌, ◌≤◌}
use Rattle.bits.specs.declared.Phase.{Phase}
use Rattle.bits.specs.Bits.{true_bits, recorded, covered_bytes}
use Rattle.format.specs.Strings.{type_at, length_of}
use Rattle.format.proofs.Covered.{covers, same-type, same_check, same_record}
use Rattle.reading.specs.Checked.{checked}

module _ (φ : Phase) (s : List ℕ) (n p long : ℕ) (k : p + long ≤ n) (e : long ≡ length_of (type_at (recorded φ s n) p)) where
  abbrev part : List Bool
  part = true_bits φ (covered_bytes p long s)

  pub part_type : type_at part (p % 8) ≡ type_at (recorded φ s n) p
  part_type = same-type (recorded φ s n) part p (p % 8) (covers φ s n p long k e)

  pub part_checked : checked part (p % 8) p ≡ checked (recorded φ s n) p p
  unfolding checked
  part_checked =
      let c = covers φ s n p long k e in
      rw (same_check (recorded φ s n) part p (p % 8) c, same_record (recorded φ s n) part p (p % 8) c) refl

-- A recording of either phase reads as the bytes that hold its true bits do straight. Assumes nothing.
use Rattle.format.specs.declared.Set.{Set}
use Rattle.format.specs.declared.Record.{Record}
use Rattle.format.specs.declared.Refusal.{Refusal}
use Rattle.std.specs.Prelude.{Result}
use mathlib.Core.Path.{◌≡◌, sym, ap, ap₂}
use mathlib.Core.Bool.{Bool}
use mathlib.Core.List.{List}
use Prim.Native.Nat.{ℕ, ◌+◌, ◌<◌}
use lib.ListN.{get_or}
use Rattle.bits.specs.declared.Phase.{Phase}
use Rattle.bits.specs.declared.Phase.TheVariants.{Straight}
use Rattle.bits.specs.Bits.{true_bytes}
use Rattle.bits.proofs.Phases.{length-true_bytes, recorded_true}
use Rattle.format.specs.Reading.{record_at, reading, content_of}
use Rattle.format.specs.Records.{field_tests}
use Rattle.format.specs.Sets.{set_reading}
use Rattle.format.specs.Standing.{string_tests}
use Rattle.format.specs.Strings.{length_of}
use Rattle.format.specs.Tests.{◌then◌, place_tests, giving}
use Rattle.format.proofs.Sets.{from_first}

-- what reading gives, of how many bytes there are and the true bits
abbrev read_of : ℕ → ℕ → ℕ → List Bool → Result Record Refusal
read_of n count place u =
    giving (place_tests n count place then string_tests u place then field_tests (record_at u place)) (record_at u place)

-- what reading a set gives, of what reading gives at each place
abbrev set_of : ℕ → (ℕ → Result Record Refusal) → Result Set Refusal
set_of place at =
    let second : ℕ = place + length_of (content_of (at place)).kind in
    let third : ℕ = second + length_of (content_of (at second)).kind in
    from_first (at place) (at second) (at third)

module _ (φ : Phase) (bytes : List ℕ) (count : ℕ) (below : (i : ℕ) → get_or bytes i 0 < 256) where
  pub reads-straight : (place : ℕ) → reading φ bytes count place ≡ reading Straight (true_bytes φ bytes) count place
  unfolding reading
  reads-straight place =
      ap₂ (λ (n : ℕ) (u : List Bool). read_of n count place u) (sym (length-true_bytes φ bytes)) (recorded_true φ bytes count below)

  pub set-reads-straight : (place : ℕ) → set_reading φ bytes count place ≡ set_reading Straight (true_bytes φ bytes) count place
  unfolding set_reading
  set-reads-straight place = ap (set_of place) (λ i p. reads-straight p i)

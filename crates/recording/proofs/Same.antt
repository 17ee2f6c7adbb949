-- The bits of a recording are those of the lent bytes that it was made of. Assumes nothing.
use mathlib.Core.Path.{◌≡◌, refl}
use mathlib.Core.List.{List}
use Prim.Native.Nat.{ℕ}
use Rattle.bits.specs.declared.Phase.{Phase}
use Rattle.bits.specs.Bits.{recorded}
use Rattle.recording.specs.declared.Recording.{Recording}
use Rattle.recording.specs.Recorded.{bits_of}

pub bits_same : {φ : Phase} {s : List ℕ} {n : ℕ} (r : Recording) → (r.part.bytes.now ≡ s) × (r.part.phase ≡ φ) × (r.count ≡ n)
    → bits_of r ≡ recorded φ s n
bits_same r same = rw (same.0, same.1, same.2) refl

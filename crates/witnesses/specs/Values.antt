-- Fields as f64: both ends of the fields of 40 bits, 1, -1, 0 and minus zero, with the float's 64 bits. Assumes nothing.
use Rattle.std.specs.Prelude.{List, [], ◌∷◌, map, ℕ, ℤ, pos, negsuc, set}
use Rattle.format.specs.declared.Record.{Record}
use Rattle.format.specs.Types.{places_of}
use Rattle.witnesses.specs.Writable.{record_of, no_raw, zero_or_least}

-- A record of type 11 by its x, field 10, of 2 ^ -20 kilometres; and one of type 10 by its tau_c, field 24, of 2 ^ -31 seconds.
-- The other unsigned fields are at their least, the signed ones 0.
abbrev pub position : ℤ → ℕ → Record
position x minus = record_of 11 (set (map zero_or_least (places_of 11)) 0 x) minus no_raw

abbrev pub shift : ℤ → ℕ → Record
shift s minus = record_of 10 (set (map zero_or_least (places_of 10)) 14 s) minus no_raw

-- A record, the number of a field, and the bits of its value.
pub record Pattern : Type 0 where
  pub content : Record
  pub field : ℕ
  pub bits : ℕ

abbrev pub patterns : List Pattern
patterns =
    record { content = position (pos 549755813887) 0; field = 10; bits = 0x411fffffffffc000 }
    ∷ record { content = position (negsuc 549755813886) 0; field = 10; bits = 0xc11fffffffffc000 }
    ∷ record { content = position (pos 1) 0; field = 10; bits = 0x3eb0000000000000 }
    ∷ record { content = position (negsuc 0) 0; field = 10; bits = 0xbeb0000000000000 }
    ∷ record { content = position (pos 0) 0; field = 10; bits = 0 }
    ∷ record { content = position (pos 0) 1; field = 10; bits = 0 }
    ∷ record { content = shift (pos 549755813887) 0; field = 24; bits = 0x406fffffffffc000 }
    ∷ record { content = shift (negsuc 549755813886) 0; field = 24; bits = 0xc06fffffffffc000 }
    ∷ record { content = shift (negsuc 0) 0; field = 24; bits = 0xbe00000000000000 }
    ∷ record { content = shift (pos 0) 16384; field = 24; bits = 0 }
    ∷ []

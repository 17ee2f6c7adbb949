-- Ephemeris sets, byte for byte and by their fields, and what reading and writing them answers (document 02, U1). Assumes nothing.
use Rattle.std.specs.Prelude.{List, [], ◌∷◌, ℕ}
use Rattle.format.specs.declared.Record.{Record}
use Rattle.format.specs.declared.Set.{Set}
use Rattle.witnesses.specs.Writable.{minus_zero}

-- A record sent by another satellite, at another OMB.
abbrev pub sent : ℕ → ℕ → Record → Record
sent j omb r =
    record {
      kind = r.kind;
      satellite = j;
      signal = r.signal;
      validity = r.validity;
      call = r.call;
      attitude = r.attitude;
      correction = r.correction;
      next = r.next;
      time = omb;
      numbers = r.numbers;
      minus = r.minus;
      raw = r.raw;
    }

-- Three records of these types, satellites and OMBs, with every signed field minus zero and every other at its least.
abbrev pub three : ℕ × ℕ × ℕ → ℕ × ℕ × ℕ → ℕ × ℕ × ℕ → Set
three types js ombs =
    record {
      first = sent js.0 ombs.0 (minus_zero types.0);
      second = sent js.1 ombs.1 (minus_zero types.1);
      third = sent js.2 ombs.2 (minus_zero types.2);
    }

-- A set, and its strings: the bits 101, then 750 from place 3 on. Its OMB goes from 43199 to 0 at the second step.
abbrev pub worked : Set
worked = three (10, 11, 12) (63, 63, 63) (43198, 43199, 0)

unfoldable pub worked_bytes : List ℕ
worked_bytes =
    0xAB ∷ 0xE2 ∷ 0x57 ∷ 0xF5 ∷ 0x6D ∷ 0x45 ∷ 0xF0 ∷ 0x40 ∷ 0x08 ∷ 0x00 ∷ 0x00 ∷ 0x01 ∷ 0x01 ∷ 0x08 ∷ 0x42 ∷ 0x00
    ∷ 0x00 ∷ 0x00 ∷ 0x02 ∷ 0x00 ∷ 0x00 ∷ 0x40 ∷ 0x00 ∷ 0x80 ∷ 0x00 ∷ 0x00 ∷ 0x00 ∷ 0x00 ∷ 0x80 ∷ 0x03 ∷ 0x2D ∷ 0xCA
    ∷ 0xF8 ∷ 0x97 ∷ 0xFD ∷ 0x5B ∷ 0x51 ∷ 0x7F ∷ 0x00 ∷ 0x00 ∷ 0x00 ∷ 0x00 ∷ 0x01 ∷ 0x00 ∷ 0x00 ∷ 0x00 ∷ 0x00 ∷ 0x01
    ∷ 0x00 ∷ 0x00 ∷ 0x00 ∷ 0x00 ∷ 0x01 ∷ 0x00 ∷ 0x00 ∷ 0x00 ∷ 0x00 ∷ 0x20 ∷ 0x01 ∷ 0x00 ∷ 0x00 ∷ 0xE6 ∷ 0x5E ∷ 0xBE
    ∷ 0x26 ∷ 0x7F ∷ 0x56 ∷ 0x80 ∷ 0x00 ∷ 0x40 ∷ 0x02 ∷ 0x00 ∷ 0x00 ∷ 0x00 ∷ 0x00 ∷ 0x40 ∷ 0x00 ∷ 0x00 ∷ 0x00 ∷ 0x08
    ∷ 0x00 ∷ 0x10 ∷ 0x00 ∷ 0x20 ∷ 0x00 ∷ 0x40 ∷ 0x00 ∷ 0x10 ∷ 0x00 ∷ 0x00 ∷ 0x00 ∷ 0x00 ∷ 0x3F ∷ 0xC7 ∷ 0x00
    ∷ []

-- Strings of types 1, 2 and 10, of 125, 375 and 250 bits, end to end from place 0 on. Each reads by itself.
unfoldable pub unlike_bytes : List ℕ
unlike_bytes =
    0x5F ∷ 0x10 ∷ 0x7F ∷ 0xAB ∷ 0x40 ∷ 0x01 ∷ 0xFF ∷ 0xFF ∷ 0xFF ∷ 0xFF ∷ 0xFF ∷ 0xFF ∷ 0xFF ∷ 0xFC ∷ 0xA0 ∷ 0xE2
    ∷ 0xF8 ∷ 0x85 ∷ 0xFD ∷ 0x5A ∷ 0x00 ∷ 0x11 ∷ 0xFF ∷ 0xFF ∷ 0xFF ∷ 0xFF ∷ 0xFF ∷ 0xFF ∷ 0xFF ∷ 0xFF ∷ 0xFF ∷ 0xFF
    ∷ 0xFF ∷ 0xFF ∷ 0xFF ∷ 0xFF ∷ 0xFF ∷ 0xFF ∷ 0xFF ∷ 0xFF ∷ 0xFF ∷ 0xFF ∷ 0xFF ∷ 0xFF ∷ 0xFF ∷ 0xFF ∷ 0xFF ∷ 0xFF
    ∷ 0xFF ∷ 0xFF ∷ 0xFF ∷ 0xFF ∷ 0xFF ∷ 0xFF ∷ 0xFF ∷ 0xFF ∷ 0xFF ∷ 0xFF ∷ 0xFF ∷ 0xF7 ∷ 0x46 ∷ 0xD6 ∷ 0x15 ∷ 0xF1
    ∷ 0x2B ∷ 0xFA ∷ 0xB6 ∷ 0xA2 ∷ 0xF8 ∷ 0x20 ∷ 0x04 ∷ 0x00 ∷ 0x00 ∷ 0x00 ∷ 0x80 ∷ 0x84 ∷ 0x21 ∷ 0x00 ∷ 0x00 ∷ 0x00
    ∷ 0x01 ∷ 0x00 ∷ 0x00 ∷ 0x20 ∷ 0x00 ∷ 0x40 ∷ 0x00 ∷ 0x00 ∷ 0x00 ∷ 0x00 ∷ 0x40 ∷ 0x01 ∷ 0x96 ∷ 0xE4
    ∷ []

-- ---- what is answered

-- Writing sets at place 3 of 95 bytes: the set and the bit count, and the number and the value that are answered.
abbrev pub writings : List (Set × ℕ × (ℕ × ℕ))
writings =
    (worked, 753, (0, 753))
    ∷ (three (10, 11, 12) (63, 63, 63) (43199, 0, 1), 753, (0, 753))
    -- 5 for the 750 bits, though the first two strings fit
    ∷ (worked, 752, (5, 3))
    -- 12; and before 13, 14 and 5
    ∷ (three (11, 10, 12) (63, 63, 63) (5, 6, 7), 753, (12, 0))
    ∷ (three (10, 11, 11) (63, 63, 62) (5, 6, 8), 752, (12, 0))
    -- 13; and before 14 and 5
    ∷ (three (10, 11, 12) (62, 63, 63) (5, 6, 7), 753, (13, 0))
    ∷ (three (10, 11, 12) (63, 63, 62) (5, 5, 5), 752, (13, 0))
    -- 14 at either step; and before 5
    ∷ (three (10, 11, 12) (63, 63, 63) (5, 7, 8), 753, (14, 0))
    ∷ (three (10, 11, 12) (63, 63, 63) (43199, 0, 0), 752, (14, 0))
    -- a record's own refusal before all of these: 43200 is no OMB, and 0 is no satellite
    ∷ (three (10, 11, 12) (63, 63, 63) (43198, 43199, 43200), 753, (7, 9))
    ∷ (three (12, 11, 10) (63, 0, 62) (5, 43200, 43200), 752, (7, 2))
    ∷ []

-- Reading at place 0 of `unlike_bytes`: the bit count, and the number and the value that are answered. The second string is looked for
-- where the first ends, at 125, and the third where the second does, at 500.
abbrev pub unlike_readings : List (ℕ × (ℕ × ℕ))
unlike_readings =
    (124, (5, 0))
    ∷ (125, (5, 125))
    ∷ (499, (5, 125))
    ∷ (749, (5, 500))
    ∷ (750, (12, 0))
    ∷ []

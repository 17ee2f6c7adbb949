-- Records of every type that writing takes: both ends of every field's range, minus zeros, raw bits that are all 1. Assumes nothing.
use Rattle.std.specs.Prelude.{true, cond, List, [], ◌∷◌, map, ℕ, zero, suc, eqb, ℤ, pos, replicate, set}
use Rattle.bits.specs.Bits.{pack, put}
use Rattle.format.specs.declared.Record.{Record}
use Rattle.format.specs.Fields.{Field, is_signed, least, most}
use Rattle.format.specs.Records.{mark_of, raw_bytes}
use Rattle.format.specs.Types.{places_of, raw_count}

-- All types, the last first.
abbrev pub below : ℕ → List ℕ
below zero = []
below (suc n) = n ∷ below n

abbrev pub kinds : List ℕ
kinds = below 64

-- A record of a type with these numbers, this mark and these raw bytes.
abbrev pub record_of : ℕ → List ℤ → ℕ → List ℕ → Record
record_of t numbers minus raw =
    record {
      kind = t;
      satellite = 63;
      signal = 1;
      validity = 0;
      call = 10;
      attitude = 1;
      correction = 2;
      next = 1;
      time = 43199;
      numbers = numbers;
      minus = minus;
      raw = raw;
    }

abbrev pub no_raw : List ℕ
no_raw = replicate raw_bytes 0

-- Every field at its least: the signed ones are negative.
abbrev pub lowest : ℕ → Record
lowest t = record_of t (map least (places_of t)) 0 no_raw

-- Every field at its most, but the orbit 00 of type 20, and every raw bit 1.
abbrev pub highest : ℕ → Record
highest t =
    record_of t (cond (eqb t 20) (set (map most (places_of t)) 0 (pos 0)) (map most (places_of t))) 0
    (put 0 (pack (replicate (raw_count t) true)) no_raw)

-- Every signed field minus zero, every other at its least.
abbrev pub zero_or_least : Field → ℤ
zero_or_least f = cond (is_signed f) (pos 0) (least f)

abbrev pub minus_zero : ℕ → Record
minus_zero t = record_of t (map zero_or_least (places_of t)) (mark_of (map is_signed (places_of t))) no_raw

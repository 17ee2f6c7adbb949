-- A type's fields as the code's tables have them. Assumes nothing.
use Rattle.std.specs.Prelude.{◌≡◌, Bool, true, cond, ◌&&◌, List, [], ◌∷◌, ◌++◌, ℕ, suc, ◌-◌, ◌^◌, eqb, map, length, replicate}
use Rattle.format.specs.Fields.{Field, unsigned, signed, absent, width, is_signed, least, most, power}
use Rattle.format.specs.Types.{typed, find, places, places_of}
use Rattle.types.specs.declared.rows.Place.{Place}

-- The place of the code's table for a field: its width, its range, its power, and whether it is signed.
abbrev pub place_of : Field → Place
place_of f = record { width = width f; least = least f; most = most f; power = power f; signed = is_signed f }

-- A place that a type does not use: all is 0.
abbrev pub no_place : Place
no_place = place_of absent

-- A table has the places that a type uses, in order; the type's other places are unused.
pub record Describes (kind : ℕ) (table : List Place) : Type 0 where
  pub used : table ≡ map place_of (find kind typed)
  pub whole : table ++ replicate (places - length table) no_place ≡ map place_of (places_of kind)

-- Whether a field takes every number that its bits stand for.
abbrev pub is_full : Field → Bool
is_full (unsigned w a b k) = eqb a 0 && eqb b (2 ^ w - 1)
is_full (signed w k) = true
is_full absent = true

-- The places of the fields, counted on from n, that do not: their range is narrower than their width.
abbrev pub narrow : List Field → ℕ → List ℕ
narrow [] n = []
narrow (f ∷ fs) n = cond (is_full f) (narrow fs (suc n)) (n ∷ narrow fs (suc n))

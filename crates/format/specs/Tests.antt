-- Tests, one after another, and those of a bit count and a place (document 01, "What is returned, and when"). Assumes nothing.
use Rattle.std.specs.Prelude.{Ok, Err, Result}
use Rattle.std.specs.Prelude.{Bool, true, false, cond, not, List, [], ◌∷◌, ◌++◌, ℕ, ◌*◌, ◌≤◌, ltb, length}
use Rattle.format.specs.declared.Refusal.{Refusal}
use Rattle.format.specs.declared.Refusal.TheVariants.{TooLong, BeyondBytes, BeyondCount}

-- What a test answers, and a function that gives nothing beside: nothing is wrong, or why it is refused.
abbrev pub Answer : Type 0
Answer = Result (Unit {0}) Refusal

-- What a function answers that gives a number: listing how many starts it found, writing the place after what it wrote, an accuracy factor
-- the centimetres, a day count the days since 1 January 1996; or why it gives none.
abbrev pub Outcome : Type 0
Outcome = Result ℕ Refusal

-- What an answer says as a test, whatever it gives: nothing is wrong, or why it is refused.
abbrev pub answer_of : {A : Type 0} → Result A Refusal → Answer
answer_of (Ok x) = Ok tt
answer_of (Err r) = Err r

-- A test: refused where the condition holds.
unfoldable pub when : Bool → Refusal → Answer
when b r = cond b (Err r) (Ok tt)

-- Whether nothing was refused.
abbrev pub is_passed : Answer → Bool
is_passed (Ok u) = true
is_passed (Err r) = false

-- Whether something was refused.
abbrev pub refuses : Answer → Bool
refuses a = not (is_passed a)

-- The first of two tests that refuses.
infixr 5 ◌then◌
unfoldable pub ◌then◌ : Answer → Answer → Answer
a then b = cond (is_passed a) b a

-- What is given, or what stands for it beside a refusal.
abbrev pub given_or : {A : Type 0} → A → Result A Refusal → A
given_or other (Ok x) = x
given_or other (Err r) = other

-- What a function answers that gives something where its tests pass.
abbrev pub giving : {A : Type 0} → Answer → A → Result A Refusal
giving (Ok u) x = Ok x
giving (Err r) x = Err r

-- ---- by number and value

-- A line of the papers' table of answers (document 01's; from 12 on document 02's): where a condition holds, a number and its value are
-- returned.
pub data Line : Type 0 where
  on : (holds : Bool) (number value : ℕ) → Line

-- What is returned: number and value of the first line whose condition holds, or 0 and what the function gives.
unfoldable pub returned : List Line → ℕ → ℕ × ℕ
returned [] given = (0, given)
returned (on holds number value ∷ lines) given = cond holds (number, value) (returned lines given)

-- ---- the tests of a bit count and a place

-- A number is above another.
abbrev pub above : ℕ → ℕ → Bool
above n limit = ltb limit n

-- The most bits that a recording may have.
abbrev pub bit_limit : ℕ
bit_limit = 524288

-- 1, 2: of so many bytes and a bit count.
unfoldable pub count_tests : ℕ → ℕ → Answer
count_tests bytes count = when (above count bit_limit) TooLong then when (above count (8 * bytes)) BeyondBytes

-- These by number and value.
abbrev pub count_lines : ℕ → ℕ → List Line
count_lines bytes count = on (above count bit_limit) 1 0 ∷ on (above count (8 * bytes)) 2 0 ∷ []

-- 1, 2, 3: of so many bytes, a bit count and a place.
unfoldable pub place_tests : ℕ → ℕ → ℕ → Answer
place_tests bytes count place = count_tests bytes count then when (above place count) (BeyondCount place)

-- These by number and value.
abbrev pub place_lines : ℕ → ℕ → ℕ → List Line
place_lines bytes count place = count_lines bytes count ++ (on (above place count) 3 place ∷ [])

-- The bit count passes: neither 1 nor 2 applies (document 01, "Words of demand 3").
pub record Passes (bytes : List ℕ) (count : ℕ) : Type 0 where
  pub short_enough : count ≤ bit_limit
  pub in_bytes : count ≤ 8 * length bytes

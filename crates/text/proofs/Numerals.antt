-- How long numerals and rows are, and the digits of a number from the last one on. Assumes nothing.
use mathlib.Core.Bool.{Bool, true, false, cond}
use mathlib.Core.List.{List, [], ◌∷◌, ◌++◌, append_assoc}
use mathlib.Core.Path.{◌≡◌, refl, sym, ap, ◌∙◌}
use Prim.Native.Nat.{ℕ, zero, suc, ◌*◌, ◌/◌, ◌%◌, ◌^◌, ◌≤◌, ◌<◌}
use native.Mathlib.Decide.{dec_lt}
use native.Mathlib.Nat.{pow-suc}
use native.Mathlib.Omega.{arith}
use lib.Dec.{ltb}
use lib.ListN.{length, length-append}
use borrow.Author.Tests.{lt-ltb, le-ltb}
use Rattle.std.proofs.lemmas.Fmt.{decimal_digit, decimal_step}
use Rattle.std.specs.Fmt.{decimal}
use Rattle.text.specs.Text.{digit, digits, digits_most, numeral, newline, end_of, row, number_most, row_numbers, line_most}

-- ---- digits
module _ (most n : ℕ) where
  pub digits_one : n < 10 → digits (suc most) n ≡ digit n ∷ []
  unfolding digits
  digits_one h = simp (lt-ltb n 10 h)

  pub digits_more : 10 ≤ n → digits (suc most) n ≡ digits most (n / 10) ++ (digit (n % 10) ∷ [])
  unfolding digits
  digits_more h = simp (le-ltb n 10 h)

-- The tenth part of a number has one digit less.
pub rest-fits : (j n : ℕ) → 10 ≤ n → n < 10 ^ suc j → (0 < j) × (n / 10 < 10 ^ j)
rest-fits zero n h g = absurd (omega arith)
rest-fits (suc j) n h g = (omega arith, omega (arith, pow-suc 10 (suc j)))

-- Room for more digits than a number has changes nothing.
digits_same : (m most n : ℕ) → m ≤ most → 0 < m → n < 10 ^ m → digits most n ≡ digits m n
digits_same zero most n l z h = absurd (omega arith)
digits_same (suc m) zero n l z h = absurd (omega arith)
digits_same (suc m) (suc most) n l z h =
    by (dec_lt n 10) (λ g. let r = rest-fits m n g h in digits_same m most (n / 10) (omega arith) r.0 r.1)
  where
    by : Dec (n < 10) → (10 ≤ n → digits most (n / 10) ≡ digits m (n / 10)) → digits (suc most) n ≡ digits (suc m) n
    by (yes g) e = digits_one most n g ∙ sym (digits_one m n g)
    by (no g) e =
        let k : 10 ≤ n = omega arith in
        digits_more most n k ∙ ap (λ (ds : List ℕ). ds ++ (digit (n % 10) ∷ [])) (e k) ∙ sym (digits_more m n k)

-- Ten digits are enough.
pub numeral_whole : (most n : ℕ) → digits_most ≤ most → n < 10 ^ digits_most → digits most n ≡ numeral n
unfolding numeral
numeral_whole most n l h = digits_same digits_most most n l (omega arith) h

-- ---- std's decimal text of a number is its numeral
decimal_digits : (most n : ℕ) → 0 < most → n < 10 ^ most → n < 2 ^ 64 → decimal n ≡ digits most n
decimal_digits zero n z g f = absurd (omega arith)
decimal_digits (suc most) n z g f =
    by (dec_lt n 10) (λ h. let r = rest-fits most n h g in decimal_digits most (n / 10) r.0 r.1 (omega arith))
  where
    by : Dec (n < 10) → (10 ≤ n → decimal (n / 10) ≡ digits most (n / 10)) → decimal n ≡ digits (suc most) n
    by (yes h) e = decimal_digit n h ∙ sym (digits_one most n h)
    by (no h) e =
        let k : 10 ≤ n = omega arith in
        decimal_step n k f ∙ ap (λ (ds : List ℕ). ds ++ (digit (n % 10) ∷ [])) (e k) ∙ sym (digits_more most n k)

pub decimal-numeral : (n : ℕ) {x : ℕ} → x ≡ n → n < 10 ^ digits_most → decimal x ≡ numeral n
unfolding numeral
decimal-numeral n e h = ap decimal e ∙ decimal_digits digits_most n (omega arith) h (omega arith)

-- ---- lengths
digits-length : (most n : ℕ) → (length (digits most n) ≤ most) × (0 < most → 0 < length (digits most n))
unfolding digits
digits-length zero n = (omega arith, λ h. h)
digits-length (suc most) n =
    let more = digits most (n / 10) ++ (digit (n % 10) ∷ []) in
    let l = length-append (digits most (n / 10)) (digit (n % 10) ∷ []) in
    by (ltb n 10) more (omega (arith, (digits-length most (n / 10)).0)) (omega arith)
  where
    by : (b : Bool) (more : List ℕ) → length more ≤ suc most → 0 < length more
        → (length (cond b (digit n ∷ []) more) ≤ suc most) × (0 < suc most → 0 < length (cond b (digit n ∷ []) more))
    by true more h g = (omega arith, λ _. omega arith)
    by false more h g = (h, λ _. g)

pub numeral-length : (n : ℕ) → (0 < length (numeral n)) × (length (numeral n) ≤ digits_most)
unfolding numeral
numeral-length n = ((digits-length digits_most n).1 (omega arith), (digits-length digits_most n).0)

-- ---- rows
pub row_cons : (n : ℕ) (ns : List ℕ) → row (n ∷ ns) ≡ (numeral n ++ (end_of ns ∷ [])) ++ row ns
unfolding row
row_cons n ns = simp append_assoc

pub row_one : (n : ℕ) → row (n ∷ []) ≡ numeral n ++ (newline ∷ [])
unfolding row
row_one n = refl

pub row_empty : (ns : List ℕ) → length ns ≡ 0 → row ns ≡ []
unfolding row
row_empty [] e = refl
row_empty (n ∷ ns) e = absurd (omega arith)

pub row-length : (ns : List ℕ) → (length ns ≤ length (row ns)) × (length (row ns) ≤ number_most * length ns)
unfolding row
row-length [] = (omega arith, omega arith)
row-length (n ∷ ns) =
    let l = length-append (numeral n) (end_of ns ∷ row ns) in
    let m = numeral-length n in
    let r = row-length ns in
    (omega arith, omega arith)

pub row-most : (ns : List ℕ) → length ns ≡ row_numbers → (0 < length (row ns)) × (length (row ns) ≤ line_most)
row-most ns e = let r = row-length ns in (omega arith, omega arith)

-- The decimal digits of a number. Assumes nothing.
use mathlib.Core.Path.{◌≡◌, refl, ap, sym, ◌∙◌}
use mathlib.Core.Bool.{Bool, true, false}
use mathlib.Core.List.{List, [], ◌∷◌, ◌++◌}
use Prim.Native.Nat.{ℕ, zero, suc, ◌+◌, ◌*◌, ◌/◌, ◌%◌, ◌<◌, ◌≤◌}
use native.Mathlib.Nat.{div-lt_self, div-lt_iff_lt-mul}
use native.Mathlib.Omega.{arith}
use lib.Dec.{ltb}
use lib.ListN.{length, length-append}
use borrow.Author.Tests.{lt-ltb, le-ltb, ltb-true, ltb-false}
use Rattle.log_text.specs.Text.{digits_in, digits}

one_digit : (most n : ℕ) → n < 10 → digits_in (suc most) n ≡ (48 + n) ∷ []
unfolding digits_in
one_digit most n h = rw (lt-ltb n 10 h)

more_digits : (most n : ℕ) → 10 ≤ n → digits_in (suc most) n ≡ digits_in most (n / 10) ++ (48 + n % 10) ∷ []
unfolding digits_in
more_digits most n h = rw (le-ltb n 10 h)

-- Room for more places changes nothing.
roomy_by : (a b n : ℕ) (t : Bool) → ltb n 10 ≡ t → (10 ≤ n → digits_in a (n / 10) ≡ digits_in b (n / 10)) → digits_in (suc a) n ≡ digits_in (suc b) n
roomy_by a b n true e r = let l = ltb-true n 10 e in one_digit a n l ∙ sym (one_digit b n l)
roomy_by a b n false e r =
    let l = ltb-false n 10 e in
    more_digits a n l ∙ ap (λ (x : List ℕ). x ++ (48 + n % 10) ∷ []) (r l) ∙ sym (more_digits b n l)

roomy : (a b n : ℕ) → n < a → n < b → digits_in a n ≡ digits_in b n
roomy zero b n h k = absurd (omega arith)
roomy (suc a) zero n h k = absurd (omega arith)
roomy (suc a) (suc b) n h k =
    roomy_by a b n (ltb n 10) refl (λ l. let d : n / 10 < n = div-lt_self (omega arith) (omega arith) in roomy a b (n / 10) (omega arith) (omega arith))

pub digits_one : (n : ℕ) → n < 10 → digits n ≡ (48 + n) ∷ []
unfolding digits
digits_one n h = one_digit n n h

pub digits_more : (n : ℕ) → 10 ≤ n → digits n ≡ digits (n / 10) ++ (48 + n % 10) ∷ []
unfolding digits
digits_more n h =
    let d : n / 10 < n = div-lt_self (omega arith) (omega arith) in
    more_digits n n h ∙ ap (λ (x : List ℕ). x ++ (48 + n % 10) ∷ []) (roomy n (suc (n / 10)) (n / 10) (omega arith) (omega arith))

pub length_more : (n : ℕ) → 10 ≤ n → length (digits n) ≡ length (digits (n / 10)) + 1
length_more n h = ap length (digits_more n h) ∙ length-append (digits (n / 10)) ((48 + n % 10) ∷ [])

-- ---- At most 20 places for 64 bits, and 3 for a byte.

unfoldable tens : ℕ → ℕ
tens zero = 10
tens (suc k) = tens k * 10

places_by : (k n : ℕ) (t : Bool) → ltb n 10 ≡ t → (10 ≤ n → length (digits (n / 10)) ≤ k) → length (digits n) ≤ suc k
places_by k n true e r = omega (arith, ap length (digits_one n (ltb-true n 10 e)))
places_by k n false e r = let l = ltb-false n 10 e in omega (arith, length_more n l, r l)

places : (k n : ℕ) → n < tens k → length (digits n) ≤ suc k
unfolding tens
places zero n h = places_by zero n (ltb n 10) refl (λ l. absurd (omega arith))
places (suc k) n h = places_by (suc k) n (ltb n 10) refl (λ l. places k (n / 10) ((div-lt_iff_lt-mul (omega arith)).1 h))

pub places_of_word : (n : ℕ) → n < 18446744073709551616 → length (digits n) ≤ 20
unfolding tens
places_of_word n h = places 19 n (omega arith)

pub places_of_byte : (n : ℕ) → n < 256 → length (digits n) ≤ 3
unfolding tens
places_of_byte n h = places 2 n (omega arith)

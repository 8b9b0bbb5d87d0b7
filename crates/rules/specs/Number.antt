-- Numbers in bytes, "low byte first": of n bytes, from place `at` of a buffer on, and as the list of their bytes.
use Rattle.std.specs.Prelude.{List, [], ◌∷◌, ℕ, zero, suc, ◌+◌, ◌*◌, ◌/◌, ◌%◌, get_or}

abbrev pub low_first : (n : ℕ) → List ℕ → (at : ℕ) → ℕ
low_first zero bytes at = 0
low_first (suc n) bytes at = get_or bytes at 0 + 256 * low_first n bytes (suc at)

abbrev pub bytes_of : (n : ℕ) → ℕ → List ℕ
bytes_of zero number = []
bytes_of (suc n) number = number % 256 ∷ bytes_of n (number / 256)

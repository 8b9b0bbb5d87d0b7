-- Flags packed into a number, the first in the lowest bit.
use Rattle.std.specs.Prelude.{Bool, ℕ, zero, suc, ◌+◌, ◌*◌}
use Rattle.words.specs.Bits.{flag}

unfoldable pub pack : ℕ → (ℕ → Bool) → ℕ
pack zero f = 0
pack (suc n) f = flag (f zero) + 2 * pack n (λ i. f (suc i))

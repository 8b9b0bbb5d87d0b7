use mathlib.Core.List.{List, [], ◌∷◌}
use Prim.Native.Nat.{ℕ, ◌<◌}
use mathlib.Core.Path.{◌≡◌}
use lib.ListN.{get_or}
use native.Mathlib.Omega.{arith}
use Rattle.layout.specs.Encoding.{mark_byte}
use Rattle.context.specs.Bits.{mark_bits}
use Rattle.context.proofs.Table.{table_rule}
use Rattle.context.proofs.mark_bits.Goals as goal

table : List (List ℕ)
table =
    (68 ∷ 136 ∷ 136 ∷ 68 ∷ 136 ∷ 136 ∷ [])
    ∷ (4 ∷ 8 ∷ 8 ∷ 4 ∷ 8 ∷ 8 ∷ [])
    ∷ (0 ∷ 0 ∷ 0 ∷ 0 ∷ 0 ∷ 0 ∷ [])
    ∷ (0 ∷ 0 ∷ 0 ∷ 0 ∷ 0 ∷ 0 ∷ [])
    ∷ (20 ∷ 24 ∷ 40 ∷ 4 ∷ 8 ∷ 8 ∷ [])
    ∷ (16 ∷ 16 ∷ 32 ∷ 0 ∷ 0 ∷ 0 ∷ [])
    ∷ (1 ∷ 1 ∷ 2 ∷ 0 ∷ 0 ∷ 0 ∷ [])
    ∷ (1 ∷ 1 ∷ 2 ∷ 0 ∷ 0 ∷ 0 ∷ [])
    ∷ (1 ∷ 1 ∷ 2 ∷ 0 ∷ 0 ∷ 0 ∷ [])
    ∷ []

row : (s m : ℕ) → s < 9 → m < 6 → get_or (get_or table s []) m 0 ≡ mark_bits s m
unfolding table mark_bits mark_byte
row s m l k = table_rule 6 mark_bits table tt s m l k

pub returns : goal.returns
unfolding table
returns c = grind (arith, row)

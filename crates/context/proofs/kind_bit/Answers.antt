use mathlib.Core.List.{List, [], ◌∷◌}
use Prim.Native.Nat.{ℕ}
use Rattle.layout.specs.Encoding.{kind_byte}
use Rattle.context.specs.Bits.{kind_bits}
use borrow.Author.Rules.{rules}
use Rattle.context.proofs.Table.{table_rule}
use Rattle.context.proofs.kind_bit.Goals as goal

table : List (List ℕ)
table = (2 ∷ 2 ∷ 1 ∷ []) ∷ (8 ∷ 8 ∷ 4 ∷ []) ∷ (8 ∷ 8 ∷ 4 ∷ []) ∷ []

pub returns : goal.returns
unfolding table kind_bits kind_byte
returns c = table_rule 3 kind_bits table tt c.args.held c.args.acquired (search rules) (search rules)

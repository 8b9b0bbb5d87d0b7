use mathlib.Core.Path.{◌≡◌, ap, ◌∙◌}
use Prim.Native.Nat.{ℕ, max}
use lib.Bits.{bit_or}
use Rattle.rules.specs.HeldLocks.{E, S, R, N}
use Rattle.words.specs.Bits.{bit}
use Rattle.words.proofs.Words.{bit_or_lem}
use Rattle.successors.proofs.with_irq.Goals as goal

joined : (x y t : ℕ) {z : ℕ} → bit y t ≡ z → bit (bit_or x y) t ≡ max (bit x t) z
joined x y t e = bit_or_lem x y t ∙ ap (max (bit x t)) e

pub returns : goal.returns
returns c =
    let locks = c.args.locks in
    record {
      at = elim [
        | E ↦ elim [
          | R ↦ λ t. joined locks.er _ t (c.irq_word.ensures t)
          | N ↦ λ t. joined locks.en _ t (c.irq_word-2.ensures t)
        ]
        | S ↦ elim [
          | R ↦ λ t. joined locks.sr _ t (c.irq_word-3.ensures t)
          | N ↦ λ t. joined locks.sn _ t (c.irq_word-4.ensures t)
        ]
      ];
    }

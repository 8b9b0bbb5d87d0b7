-- Kinds and sources as numbers in the order of the slip's bytes, and back.
use Rattle.std.specs.Prelude.{ℕ, zero, suc, ◌+◌, ◌*◌, ◌/◌, ◌%◌, ◌^◌}
use Rattle.rules.specs.HeldLocks.{First, Second, E, S, R, N}
use Rattle.rules.specs.Marks.{hard_irq, soft_irq}
use Rattle.rules.specs.Graph.{Kind, Source, lock, irq, source_number}
use Rattle.rules.specs.KindNames.{ER, EN, SR, SN}
use Rattle.rules.specs.Cycle.{Entry}

-- The kind and the source of a byte of a slip: 1 ER, 2 EN, 4 SR, 8 SN; 0 a lock dependency, 1 hard, 2 soft. Other bytes stand in no slip.
abbrev pub kind_of_byte : ℕ → Kind
kind_of_byte zero = EN
kind_of_byte (suc zero) = ER
kind_of_byte (suc (suc zero)) = EN
kind_of_byte (suc (suc (suc zero))) = EN
kind_of_byte (suc (suc (suc (suc zero)))) = SR
kind_of_byte (suc (suc (suc (suc (suc n))))) = SN

abbrev pub source_of_byte : ℕ → Source
source_of_byte zero = lock
source_of_byte (suc zero) = irq hard_irq
source_of_byte (suc (suc n)) = irq soft_irq

-- The kind's place: its byte is that power of two.
abbrev pub kind_place_by : First → Second → ℕ
kind_place_by E R = 0
kind_place_by E N = 1
kind_place_by S R = 2
kind_place_by S N = 3

abbrev pub kind_place : Kind → ℕ
kind_place k = kind_place_by k.first k.second

abbrev pub kind_of_place : ℕ → Kind
kind_of_place p = kind_of_byte (2 ^ p)

-- How many kinds with a source there are, and the rank of one: 0 is ER by a lock, 11 is SN by a soft interrupt.
abbrev pub rank_count : ℕ
rank_count = 12

abbrev pub rank : Kind → Source → ℕ
rank k o = 3 * kind_place k + source_number o

abbrev pub kind_at : ℕ → Kind
kind_at j = kind_of_place (j / 3)

abbrev pub source_at : ℕ → Source
source_at j = source_of_byte (j % 3)

-- An entry as one number, its class first.
abbrev pub entry_number : Entry → ℕ
entry_number e = rank_count * e.class + rank e.kind e.source

abbrev pub numbered : ℕ → Entry
numbered n = record { class = n / rank_count; kind = kind_at (n % rank_count); source = source_at (n % rank_count) }

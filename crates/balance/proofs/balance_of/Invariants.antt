-- The invariant: the chunks that are left are those of the bytes that are left, and the balances are those of the records before. Assumes nothing.
use mathlib.Core.Path.{◌≡◌}
use Rattle.std.specs.Slice.Iter.{chunks_exact_rest, chunks_exact_size}
use Rattle.rules.specs.Record.{record_size}
use Rattle.balance.proofs.Walking.{Walked}
use Rattle.balance.proofs.balance_of.Given as goal

abbrev pub invariant-loop-bytes : goal.invariant-loop-bytes
invariant-loop-bytes l = record { size : chunks_exact_size l.bytes-iterator ≡ record_size; walked : Walked l.piece (chunks_exact_rest l.bytes-iterator) l.balances }

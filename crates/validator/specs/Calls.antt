-- The lent buffers, and a call of the step over them.
use Rattle.std.specs.Prelude.{List, ℕ}
use Rattle.rules.specs.Record.{Bytes}
use Rattle.validator.specs.Step.{Stepped}

-- The five buffers that are lent to the calls.
pub record Buffers : Type 0 where
  pub desk : List ℕ
  pub sheet : List ℕ
  pub seen : List ℕ
  pub history : List ℕ
  pub slip : List ℕ

abbrev pub buffers : (desk sheet seen history slip : List ℕ) → Buffers
buffers desk sheet seen history slip = record { desk = desk; sheet = sheet; seen = seen; history = history; slip = slip }

-- A call of the step: the buffers, the record, the answer, the buffers left.
abbrev pub Called : Buffers → Bytes → ℕ → Buffers → Type 0
Called b r answer b' =
    Stepped b.desk b.sheet b.seen b.history b.slip r answer b'.desk b'.sheet b'.seen b'.history b'.slip

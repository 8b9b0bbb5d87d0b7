-- Document 02, b and j: a unit of a log, its header or a record, is validated.
use Rattle.std.specs.Prelude.{◌≡◌, Bool, true, false, cond, List, ℕ, suc, ◌-◌, ◌^◌, ltb, eqb}
use Rattle.rules.specs.Log.{header_classes, header_word}
use Rattle.opening.specs.Open.{Opened}
use Rattle.validator.specs.Calls.{Buffers, Called}
use Rattle.progress.specs.Feed.{Feed, unit_begun}

-- One record more. The number would pass 2 to the 64 only in a log of more bytes than that; it stays there.
unfoldable pub more : ℕ → ℕ
more n = cond (ltb n (2 ^ 64 - 1)) (suc n) n

-- A unit is validated: the header opens desk, sheets and history with its classes and the word that declares crosslocks, or is refused with 2; a record is handed to the step and counted.
pub data UnitValidated (opened : Bool) (number : ℕ) (b : Buffers) (unit : List ℕ) : Feed → Buffers → Type 0 where
  header : {answer : ℕ} {b' : Buffers} → opened ≡ false
      → Opened (header_classes unit) (header_word unit) b.desk b.sheet b.seen b.history answer b'.desk b'.sheet b'.seen b'.history
      → b'.slip ≡ b.slip → UnitValidated opened number b unit (unit_begun answer (eqb answer 0) number) b'
  a_record : {answer : ℕ} {b' : Buffers} → opened ≡ true → Called b unit answer b'
      → UnitValidated opened number b unit (unit_begun answer true (more number)) b'

-- Document 01, "Logs for the bench", and document 02, b and j: "A log is the header 4C 48 01 K and then records", and what comes of the records.
use Rattle.std.specs.Prelude.{Bool, true, false, cond, ◌&&◌, ◌||◌, List, [], ◌∷◌, ℕ, zero, suc, ◌+◌, ◌*◌, ◌/◌, leb, eqb, length, get_or, take, drop}
use Rattle.rules.specs.Limits.{max_classes}
use Rattle.rules.specs.Number.{low_first}
use Rattle.rules.specs.Record.{Bytes, record_size}
use Rattle.rules.specs.Verdict.{number}
use Rattle.rules.specs.Run.{State, step}

-- "a header 4C 48 02 K is followed by" the word that declares crosslocks, of eight bytes; one of version 1 declares none. The third byte tells which.
abbrev pub plain_size : ℕ
plain_size = 4

abbrev pub word_size : ℕ
word_size = 8

abbrev pub declares : List ℕ → Bool
declares bytes = eqb (get_or bytes 2 0) 2

abbrev pub header_size : List ℕ → ℕ
header_size bytes = cond (declares bytes) (plain_size + word_size) plain_size

-- A good header: of its size, the signature 4C 48, version 1 or 2, and K from 1 to 64.
unfoldable pub is_header : List ℕ → Bool
is_header bytes =
    eqb (length bytes) (header_size bytes)
    && eqb (get_or bytes 0 0) 0x4C
    && eqb (get_or bytes 1 0) 0x48
    && (eqb (get_or bytes 2 0) 1 || declares bytes)
    && leb 1 (get_or bytes 3 0)
    && leb (get_or bytes 3 0) max_classes

-- K of a good header, and 0 of any other bytes.
unfoldable pub header_classes : List ℕ → ℕ
header_classes bytes = cond (is_header bytes) (get_or bytes 3 0) 0

-- The word of a good header, "low byte first": bit c declares class c. Others have 0.
unfoldable pub header_word : List ℕ → ℕ
header_word bytes = cond (is_header bytes && declares bytes) (low_first word_size bytes plain_size) 0

-- The next unit of a log, of which these bytes are the first or all, is its header until that was opened, and then a record.
abbrev pub unit_size : (opened : Bool) (bytes : List ℕ) → ℕ
unit_size false bytes = header_size bytes
unit_size true bytes = record_size

-- The first n records of bytes.
abbrev pub first_records : ℕ → List ℕ → List Bytes
first_records zero bytes = []
first_records (suc n) bytes = take record_size bytes ∷ first_records n (drop record_size bytes)

-- The bytes behind a header are cut into as many records as they have, and loose bytes are left.
unfoldable pub records_of : List ℕ → List Bytes
records_of bytes = first_records (length bytes / record_size) bytes

unfoldable pub loose_of : List ℕ → List ℕ
loose_of bytes = drop (record_size * (length bytes / record_size)) bytes

-- "loose bytes, as a short next record": at the end of the log.
abbrev pub short_record : (ended : Bool) (loose : List ℕ) → List Bytes
short_record true (b ∷ bs) = (b ∷ bs) ∷ []
short_record true [] = []
short_record false loose = []

-- What comes of records: the first answer but 0, with the number of its record, or 0, with the number of records; and the state then.
pub record Outcome : Type 0 where
  pub answer : ℕ
  pub at : ℕ
  pub state : State

-- "stops at the first answer but 0", where `before` records were accepted and clean
abbrev pub validate : ℕ → State → (before : ℕ) → List Bytes → Outcome
validate K s before [] = record { answer = 0; at = before; state = s }
validate K s before (r ∷ rs) =
    let o = step K s r in
    cond (eqb (number o.answer) 0) (validate K o.state (suc before) rs) (record { answer = number o.answer; at = suc before; state = o.state })

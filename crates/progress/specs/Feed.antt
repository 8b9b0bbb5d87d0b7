-- Document 02, b and j: what a feed keeps between calls, and the bytes in which it is lent.
use Rattle.std.specs.Prelude.{Bool, true, false, cond, ◌&&◌, ◌||◌, List, [], ◌∷◌, ◌++◌, ℕ, ◌+◌, ◌*◌, ◌-◌, ◌/◌, ◌%◌, ◌^◌, leb, ltb, eqb, length, get_or, take, drop}
use Rattle.words.specs.Bits.{flag}
use Rattle.rules.specs.Decision.{tabulate}
use Rattle.rules.specs.Verdict.{Refusal, refusal_number, order, bad_opening, unfit}
use Rattle.rules.specs.Log.{plain_size, word_size, unit_size}
use Rattle.rules.specs.Number.{low_first}
use Rattle.layout.specs.Fit.{all_below}

-- How far a feed has come: the standing answer, which is 0 or the first answer but 0; whether the header was complete and opened the desk; the loose
-- bytes of a header or record that is not complete; and the number of records validated, which with an answer but 0 is that of its record (0 is the header).
pub record Feed : Type 0 where
  pub answer : ℕ
  pub opened : Bool
  pub loose : List ℕ
  pub number : ℕ

abbrev pub fresh : Feed
fresh = record { answer = 0; opened = false; loose = []; number = 0 }

-- A unit was validated, and the next has no byte yet.
abbrev pub unit_begun : (answer : ℕ) (opened : Bool) (number : ℕ) → Feed
unit_begun answer opened number = record { answer = answer; opened = opened; loose = []; number = number }

-- The next unit has a part more.
abbrev pub with_part : Feed → List ℕ → Feed
with_part f part = record { answer = f.answer; opened = f.opened; loose = f.loose ++ part; number = f.number }

-- ---- The bytes.

-- The most bytes that a unit has: a header with its word.
abbrev pub longest : ℕ
longest = plain_size + word_size

-- "keeps at most five loose bytes"; of a header with its word "the feed may then keep eleven bytes"
abbrev pub most_loose : ℕ
most_loose = longest - 1

abbrev pub answer_at : ℕ
answer_at = 0

abbrev pub opened_at : ℕ
opened_at = 1

abbrev pub count_at : ℕ
count_at = 2

abbrev pub loose_at : ℕ
loose_at = 3

abbrev pub number_at : ℕ
number_at = loose_at + most_loose

abbrev pub number_size : ℕ
number_size = 8

abbrev pub feed_size : ℕ
feed_size = number_at + number_size

-- What the bytes stand for.
abbrev pub view : List ℕ → Feed
view feed =
    record {
      answer = get_or feed answer_at 0;
      opened = eqb (get_or feed opened_at 0) 1;
      loose = take (get_or feed count_at 0) (drop loose_at feed);
      number = low_first number_size feed number_at;
    }

-- Byte i of a feed: the answer, 1 once opened, the number of loose bytes, these and zeros behind them, and the number, low byte first.
unfoldable pub byte_of : Feed → ℕ → ℕ
byte_of f i =
    cond (eqb i answer_at) f.answer
    (cond (eqb i opened_at) (flag f.opened)
    (cond (eqb i count_at) (length f.loose)
    (cond (ltb i number_at) (get_or f.loose (i - loose_at) 0)
    (f.number / 2 ^ (8 * (i - number_at)) % 256))))

abbrev pub bytes_of : Feed → List ℕ
bytes_of f = tabulate feed_size (byte_of f)

-- ---- The fit test.

unfoldable pub any_of : List Refusal → ℕ → Bool
any_of [] answer = false
any_of (r ∷ rs) answer = eqb answer (refusal_number r) || any_of rs answer

-- The step's answers.
unfoldable pub is_step_answer : ℕ → Bool
is_step_answer answer = leb answer 1 || eqb answer unfit || any_of order answer

-- Before the desk is opened no record has a number, and the only answer but 0 is 2; from then on the answers are the step's, and one but 0 has its record.
abbrev pub stands_with : (opened : Bool) (answer number : ℕ) → Bool
stands_with false answer number = (eqb answer 0 || eqb answer bad_opening) && eqb number 0
stands_with true answer number = is_step_answer answer && (eqb answer 0 || leb 1 number)

-- Loose bytes are fewer than the next unit has, and none with an answer but 0.
unfoldable pub well_formed : Feed → Bool
well_formed f =
    ltb (length f.loose) (unit_size f.opened f.loose)
    && ((eqb f.answer 0 || eqb (length f.loose) 0)
    && stands_with f.opened f.answer f.number)

-- Place j of the loose bytes is used, or 0.
abbrev pub unused_zero : List ℕ → ℕ → Bool
unused_zero feed j = ltb j (get_or feed count_at 0) || eqb (get_or feed (loose_at + j) 0) 0

-- Fit: long enough, the byte for opened 0 or 1, at most so many loose bytes, zeros behind them, and a feed that can be.
unfoldable pub fits : List ℕ → Bool
fits feed =
    leb feed_size (length feed)
    && (leb (get_or feed opened_at 0) 1
    && (leb (get_or feed count_at 0) most_loose
    && (all_below most_loose (unused_zero feed)
    && well_formed (view feed))))

-- The text that the program makes.
use Rattle.std.specs.Prelude.{◌≡◌, Bool, List, ℕ}
use Rattle.validator.specs.Calls.{Buffers}
use Rattle.outcome.specs.Outcomes.{is_answer}
use Rattle.outcome.specs.declared.Outcome.{Outcome}
use Rattle.files.specs.Replayed.{Replayed}
use Rattle.log_text.specs.Text.{Appended, text_of}

-- The text made is that of what came of the log, from place 0 on, and of the buffer no other byte changed.
pub record TextOfInput (b : Buffers) (out : List ℕ) (answer : Bool) (out' : List ℕ) (size : ℕ) (b' : Buffers) : Type 0 where
  pub outcome : Outcome
  pub replayed : Replayed b outcome b'
  pub text : Appended out 0 (text_of outcome b'.slip) out' size
  pub answer_is : answer ≡ is_answer outcome

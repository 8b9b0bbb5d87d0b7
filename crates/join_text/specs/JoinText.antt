-- The text of a join of two logs, in ASCII: the words of a log's own text, without the number of a record.
use Rattle.std.specs.Prelude.{Bool, true, false, cond, List, [], ◌∷◌, ◌++◌, ℕ, zero, suc}
use Rattle.layout.specs.Slip.{entries_of}
use Rattle.benches.specs.Benches.{Bench}
use Rattle.joiner.specs.Joining.{Joined}
use Rattle.outcome.specs.declared.Outcome.{Outcome}
use Rattle.log_text.specs.Text.{refused_line, cycle_text, Appended, text_of}

-- "clean"
abbrev pub clean_line : List ℕ
clean_line = 99 ∷ 108 ∷ 101 ∷ 97 ∷ 110 ∷ 10 ∷ []

-- "fault"
abbrev pub fault_line : List ℕ
fault_line = 102 ∷ 97 ∷ 117 ∷ 108 ∷ 116 ∷ 10 ∷ []

-- What the joiner's answer says, with the cycle of the slip where it is a fault.
abbrev pub joined_text : (answer : ℕ) (slip : List ℕ) → List ℕ
joined_text zero slip = clean_line
joined_text (suc zero) slip = fault_line ++ cycle_text (entries_of slip)
joined_text (suc (suc a)) slip = refused_line (suc (suc a))

-- Each record was accepted and clean, up to the end of the log.
abbrev pub is_clean : Outcome → Bool
is_clean (Outcome.Clean n) = true
is_clean (Outcome.Refused answer i) = false
is_clean (Outcome.Fault i) = false
is_clean Outcome.Unread = false

-- What a log says by itself where it is not clean: its name, as "log 1: ", and its own text.
abbrev pub own_text : (name : List ℕ) → Outcome → (slip : List ℕ) → List ℕ
own_text name o slip = cond (is_clean o) [] (name ++ text_of o slip)

-- Two benches were joined, and the text is that of the answer, from place 0 on.
pub record JoinTold (one two : Bench) (desk sheet seen slip out desk' sheet' seen' slip' out' : List ℕ) (size : ℕ) : Type 0 where
  pub answer : ℕ
  pub joined : Joined one two desk sheet seen slip answer desk' sheet' seen' slip'
  pub text : Appended out 0 (joined_text answer slip') out' size

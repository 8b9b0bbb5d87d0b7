-- The word and the count of the question's answer: 0 where it is refused.
use Rattle.std.specs.Prelude.{ℕ, Result, Ok, Err}
use Rattle.answers.specs.declared.Refusal.{Refusal}
use Rattle.question.specs.declared.Reach.{Reach}

abbrev pub word_of : Result Reach Refusal → ℕ
word_of (Ok r) = r.word
word_of (Err e) = 0

abbrev pub count_of : Result Reach Refusal → ℕ
count_of (Ok r) = r.count
count_of (Err e) = 0

-- What is known of the table, by computation. Assumes nothing.
use mathlib.Core.Path.{◌≡◌, refl}
use mathlib.Core.Bool.{Bool, cond, ◌&&◌}
use mathlib.Core.List.{map}
use Prim.Native.Nat.{ℕ, zero, suc, ◌+◌}
use lib.Dec.{eqb}
use Rattle.rules.specs.Record.{is_malformed}
use Rattle.rules.specs.Verdict.{refusal}
use Rattle.rules.specs.Graph.{dependency}
use Rattle.rules.specs.Decision.{cyclic, tabulate}
use Rattle.rules.specs.Crosslocks.{count_below}
use Rattle.rules.specs.Run.{answers, run}
use Rattle.rules.specs.Examples.{plain, takes, frees, does, says, all_clean, ends_with, fault_at}
use Rattle.layout.specs.Layout.{marks_at}
use Rattle.layout.specs.Encoding.{mark_byte}
use Rattle.layout.specs.Fit.{mark_fits}
use Rattle.clash.specs.Clash.{clash, answer_of, mark_bytes}
use Rattle.clash.specs.Examples.{ClashCase, clash_case, clash_cases}

abbrev answers_below : ℕ → (ℕ → Bool) → ℕ
answers_below zero test = 0
answers_below (suc n) test = cond (test n) 1 0 + answers_below n test

-- A mark byte that the fit test passes.
abbrev is_fit : ℕ → Bool
is_fit byte = mark_fits 1 (tabulate (suc marks_at) (λ i. cond (eqb i marks_at) byte 0)) 0

pub yes_answers : answers_below mark_bytes answer_of ≡ 192
unfolding answer_of clash
yes_answers = refl

pub fit_bytes : answers_below mark_bytes is_fit ≡ 144
unfolding mark_fits
fit_bytes = refl

pub fit_answers : answers_below mark_bytes (λ byte. is_fit byte && answer_of byte) ≡ 103
unfolding answer_of clash mark_fits
fit_answers = refl

pub logs_answered : map (λ (e : ClashCase). answers 1 plain e.log) clash_cases ≡ map (λ (e : ClashCase). e.given) clash_cases
unfolding clash_cases clash_case all_clean ends_with fault_at takes frees does says is_malformed count_below refusal dependency cyclic
logs_answered = refl

pub logs_marked : map (λ (e : ClashCase). mark_byte (run 1 plain e.log).graph.marks 0) clash_cases ≡ map (λ (e : ClashCase). e.marks) clash_cases
unfolding clash_cases clash_case takes frees does says is_malformed count_below refusal dependency cyclic mark_byte
logs_marked = refl

pub marks_answered : map (λ (e : ClashCase). answer_of e.marks) clash_cases ≡ map (λ (e : ClashCase). e.answer) clash_cases
unfolding clash_cases clash_case answer_of clash
marks_answered = refl

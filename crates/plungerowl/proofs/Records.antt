-- What comes of records, one after another. Assumes nothing.
use mathlib.Core.Path.{◌≡◌, refl, sym, ap, ◌∙◌}
use mathlib.Core.List.{List, [], ◌∷◌, ◌++◌}
use Prim.Native.Nat.{ℕ, suc}
use native.Mathlib.Decide.{ℕ_discrete}
use borrow.Author.Tests.{eq-eqb, ne_eqb}
use Rattle.rules.specs.Record.{Bytes}
use Rattle.rules.specs.Verdict.{number}
use Rattle.rules.specs.Run.{State, step}
use Rattle.rules.specs.Log.{Outcome, validate}

module _ (K : ℕ) where
  pub validate_on : (s : State) (n : ℕ) (r : Bytes) (rs : List Bytes) → number (step K s r).answer ≡ 0
      → validate K s n (r ∷ rs) ≡ validate K (step K s r).state (suc n) rs
  validate_on s n r rs e = rw (eq-eqb (number (step K s r).answer) 0 e) refl

  pub validate_stops : (s : State) (n : ℕ) (r : Bytes) (rs : List Bytes) → (number (step K s r).answer ≡ 0 → ⊥)
      → validate K s n (r ∷ rs) ≡ record { answer = number (step K s r).answer; at = suc n; state = (step K s r).state }
  validate_stops s n r rs h = rw (ne_eqb (number (step K s r).answer) 0 h) refl

  -- Records behind an answer but 0 are not looked at; behind others they are validated from where those led.
  pub validate_stopped : (s : State) (n : ℕ) (rs xs : List Bytes) → ((validate K s n rs).answer ≡ 0 → ⊥) → validate K s n (rs ++ xs) ≡ validate K s n rs
  validate_stopped s n [] xs h = absurd (h refl)
  validate_stopped s n (r ∷ rs) xs h = elim (ℕ_discrete (number (step K s r).answer) 0) [
    | yes e ↦
        validate_on s n r (rs ++ xs) e
        ∙ validate_stopped (step K s r).state (suc n) rs xs (λ z. h (ap (λ (o : Outcome). o.answer) (validate_on s n r rs e) ∙ z))
        ∙ sym (validate_on s n r rs e)
    | no m ↦ validate_stops s n r (rs ++ xs) m ∙ sym (validate_stops s n r rs m)
  ]

  pub validate_more : (s : State) (n : ℕ) (rs xs : List Bytes) → (validate K s n rs).answer ≡ 0
      → validate K s n (rs ++ xs) ≡ validate K (validate K s n rs).state (validate K s n rs).at xs
  validate_more s n [] xs h = refl
  validate_more s n (r ∷ rs) xs h = elim (ℕ_discrete (number (step K s r).answer) 0) [
    | yes e ↦
        validate_on s n r (rs ++ xs) e
        ∙ validate_more (step K s r).state (suc n) rs xs (sym (ap (λ (o : Outcome). o.answer) (validate_on s n r rs e)) ∙ h)
        ∙ ap (λ (o : Outcome). validate K o.state o.at xs) (sym (validate_on s n r rs e))
    | no m ↦ absurd (m (sym (ap (λ (o : Outcome). o.answer) (validate_stops s n r rs m)) ∙ h))
  ]

  pub validate_last : (s : State) (n : ℕ) (r : Bytes)
      → validate K s n (r ∷ []) ≡ record { answer = number (step K s r).answer; at = suc n; state = (step K s r).state }
  validate_last s n r = elim (ℕ_discrete (number (step K s r).answer) 0) [
    | yes e ↦
        validate_on s n r [] e
        ∙ ap (λ (a : ℕ). record { answer = a; at = suc n; state = (step K s r).state }) (sym e)
    | no m ↦ validate_stops s n r [] m
  ]

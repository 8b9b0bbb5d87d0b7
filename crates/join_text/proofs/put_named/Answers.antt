use mathlib.Core.Path.{◌≡◌, refl, sym, ap, ◌∙◌}
use mathlib.Core.Bool.{Bool, true, false, cond}
use mathlib.Core.List.{List, [], ◌++◌}
use Prim.Native.Nat.{ℕ, ◌≤◌}
use lib.ListN.{length}
use native.Mathlib.Omega.{arith}
use Rattle.outcome.specs.declared.Outcome.{Outcome}
use Rattle.log_text.specs.Text.{Appended, text_of}
use Rattle.log_text.proofs.Writing.{appended_both, as_text, kept}
use Rattle.join_text.specs.JoinText.{is_clean, own_text}
use Rattle.join_text.proofs.put_named.Goals as goal

nothing : (out : List ℕ) (at : ℕ) → at ≤ length out → Appended out at [] out at
nothing out at h = record { end_is = omega arith; bytes = refl; inside = h }

module _ (name : List ℕ) (o : Outcome) (slip : List ℕ) where
  clean_own : is_clean o ≡ true → own_text name o slip ≡ []
  clean_own h = ap (λ (b : Bool). cond b [] (name ++ text_of o slip)) h

  other_own : is_clean o ≡ false → own_text name o slip ≡ name ++ text_of o slip
  other_own h = ap (λ (b : Bool). cond b [] (name ++ text_of o slip)) h

pub returns-then-is_clean-clause-put : goal.returns-then-is_clean-clause-put
returns-then-is_clean-clause-put c =
    as_text (clean_own c.args.name.now c.args.outcome c.args.slip.now (sym c.is_clean.ensures ∙ c.if-is_clean.true)) (nothing _ _ (omega arith))

pub put_outcome-requires : goal.put_outcome-requires
put_outcome-requires c = let p = c.put_word.ensures.put in (omega (arith, p.end_is, kept p, c.requires.0), c.requires.1, c.requires.2)

pub returns-clause-put : goal.returns-clause-put
returns-clause-put c =
    as_text (other_own c.args.name.now c.args.outcome c.args.slip.now (sym c.is_clean.ensures ∙ c.if-is_clean.false)) (appended_both c.put_word.ensures.put c.put_outcome.ensures.put)

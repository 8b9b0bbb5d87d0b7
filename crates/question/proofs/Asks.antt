-- The question's three answers. Assumes nothing.
use mathlib.Core.Path.{◌≡◌, refl, sym, ◌∙◌}
use mathlib.Core.Bool.{true, false, true≢false}
use mathlib.Core.List.{List, []}
use Prim.Native.Nat.{ℕ, ◌<◌, ◌≤◌}
use native.Mathlib.Omega.{arith}
use lib.Count.{ones}
use Rattle.layout.specs.Layout.{desk_size, seen_size, classes_of, AreBytes}
use Rattle.layout.specs.Decoding.{view}
use Rattle.layout.specs.Fit.{fits}
use Rattle.fit.proofs.Fitting.{fit_encodes}
use Rattle.fit.proofs.Crossed.{no_entries}
use Rattle.search.specs.Rows.{Rows, Reached}
use Rattle.successors.specs.Successors.{Successors}
use Rattle.question.specs.Question.{Asked}

module _ (desk sheet seen : List ℕ) (class : ℕ) where
  pub asked_unfit : fits desk sheet seen ≡ false → Asked desk sheet seen class 11 0 0
  asked_unfit f =
      record {
        is_unfit = λ h. (refl, refl, refl);
        no_such_class = λ h l. absurd (true≢false (sym h ∙ f));
        answered = λ h l. absurd (true≢false (sym h ∙ f));
      }

  pub asked_no_class : fits desk sheet seen ≡ true → classes_of desk ≤ class → Asked desk sheet seen class 4 0 0
  asked_no_class f l =
      record {
        is_unfit = λ h. absurd (true≢false (sym f ∙ h));
        no_such_class = λ h m. (refl, refl, refl);
        answered = λ h m. absurd (omega arith);
      }

  pub asked_answered : (word count : ℕ) (rows : List ℕ) → AreBytes desk_size desk → AreBytes (seen_size (classes_of desk)) seen → fits desk sheet seen ≡ true → class < classes_of desk
      → Successors desk sheet (classes_of desk) rows → Reached (classes_of desk) rows class word → count ≡ ones word
      → Asked desk sheet seen class 0 word count
  asked_answered word count rows small numbers f l s r e =
      let v = view desk sheet seen [] in
      let enc = fit_encodes desk sheet seen [] f (no_entries desk) small numbers in
      let g : Rows (classes_of desk) v.graph rows =
      s.graph (classes_of desk) v.is_closed v.cores v.graph.marks v.graph.locks refl enc.in_desk enc.in_sheet in
      record {
        is_unfit = λ h. absurd (true≢false (sym f ∙ h));
        no_such_class = λ h m. absurd (omega arith);
        answered = λ h m. (refl, λ t. (r.sound v.graph g t, r.complete v.graph g t), e);
      }

-- Document 01, "Opening": what it answers and leaves in the desk, in the sheets and in the history.
use Rattle.std.specs.Prelude.{◌≡◌, Bool, cond, ◌&&◌, List, [], ◌∷◌, ◌++◌, ℕ, suc, leb, length, replicate, drop, set}
use Rattle.rules.specs.Number.{bytes_of}
use Rattle.rules.specs.Log.{word_size}
use Rattle.rules.specs.Verdict.{bad_opening}
use Rattle.layout.specs.Layout.{classes_at, declared_at, desk_size, sheet_size, seen_size, history_size}
use Rattle.layout.specs.Fit.{classes_fit, word_fits}

-- K is 1 to 64, no class of K or more is declared, and the buffers are long enough.
unfoldable pub opens : (K declared : ℕ) (desk sheet seen history : List ℕ) → Bool
opens K declared desk sheet seen history =
    classes_fit K
    && (word_fits K declared
    && (leb desk_size (length desk) && (leb (sheet_size K) (length sheet) && (leb (seen_size K) (length seen) && leb history_size (length history)))))

-- The first n bytes zero, and the rest as they were.
abbrev pub zeroed : ℕ → List ℕ → List ℕ
zeroed n bytes = replicate n 0 ++ drop n bytes

-- The bytes written from place `at` on.
abbrev pub written_at : (at : ℕ) (bytes buffer : List ℕ) → List ℕ
written_at at [] buffer = buffer
written_at at (b ∷ bs) buffer = written_at (suc at) bs (set buffer at b)

abbrev pub opened_desk : (K declared : ℕ) → List ℕ → List ℕ
opened_desk K declared desk = written_at declared_at (bytes_of word_size declared) (set (zeroed desk_size desk) classes_at K)

abbrev pub opened_sheet : ℕ → List ℕ → List ℕ
opened_sheet K sheet = zeroed (sheet_size K) sheet

abbrev pub opened_seen : ℕ → List ℕ → List ℕ
opened_seen K seen = zeroed (seen_size K) seen

abbrev pub opened_history : List ℕ → List ℕ
opened_history history = zeroed history_size history

-- By whether K, the declared classes and the buffers will do: 0, or "2 with nothing changed".
pub record Opened (K declared : ℕ) (before before_sheet before_seen before_history : List ℕ) (given : ℕ) (after after_sheet after_seen after_history : List ℕ) : Type 0 where
  pub answer : given ≡ cond (opens K declared before before_sheet before_seen before_history) 0 bad_opening
  pub desk : after ≡ cond (opens K declared before before_sheet before_seen before_history) (opened_desk K declared before) before
  pub sheet : after_sheet ≡ cond (opens K declared before before_sheet before_seen before_history) (opened_sheet K before_sheet) before_sheet
  pub seen : after_seen ≡ cond (opens K declared before before_sheet before_seen before_history) (opened_seen K before_seen) before_seen
  pub history : after_history ≡ cond (opens K declared before before_sheet before_seen before_history) (opened_history before_history) before_history

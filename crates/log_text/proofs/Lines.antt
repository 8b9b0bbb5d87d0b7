-- The lines of a cycle. Assumes nothing.
use mathlib.Core.Path.{◌≡◌, refl}
use mathlib.Core.List.{List}
use Prim.Native.Nat.{ℕ, zero, suc, ◌+◌, ◌*◌, ◌≤◌, ◌<◌}
use native.Mathlib.Numerals.{add-one}
use native.Mathlib.Omega.{arith}
use lib.ListN.{length, get_or, length-append}
use Rattle.rules.specs.Cycle.{entry_at, following}
use Rattle.layout.specs.Layout.{entries_at, entry_size, count_of}
use Rattle.rules.specs.Ranks.{kind_of_byte, source_of_byte}
use Rattle.layout.specs.Slip.{entry_of, entries_of, next_place}
use Rattle.layout.proofs.Slips.{next_below}
use Rattle.rules.proofs.Closure.{length_tabulate, get_d_tabulate}
use Rattle.log_text.specs.Text.{digits, kind_text, source_text, entry_text, fault_text, line_size, lines_of, Appended, EntryPut}
use Rattle.log_text.proofs.Digits.{places_of_byte, places_of_word}
use Rattle.log_text.proofs.Writing.{appended_both, as_text}

-- ---- Kinds and sources by their numbers.

pub length_kind : (k : ℕ) → length (kind_text (kind_of_byte k)) ≡ 4
length_kind zero = refl
length_kind (suc zero) = refl
length_kind (suc (suc zero)) = refl
length_kind (suc (suc (suc zero))) = refl
length_kind (suc (suc (suc (suc zero)))) = refl
length_kind (suc (suc (suc (suc (suc k))))) = refl

pub length_source : (s : ℕ) → length (source_text (source_of_byte s)) ≡ 6
length_source zero = refl
length_source (suc zero) = refl
length_source (suc (suc s)) = refl

-- The four parts of a line.
pub entry_put : {b b₁ b₂ b₃ b₄ : List ℕ} {at e₁ e₂ e₃ e₄ class kind source to : ℕ} → class < 256 → to < 256 → Appended b at (digits class) b₁ e₁
    → Appended b₁ e₁ (kind_text (kind_of_byte kind)) b₂ e₂ → Appended b₂ e₂ (digits to) b₃ e₃ → Appended b₃ e₃ (source_text (source_of_byte source)) b₄ e₄
    → EntryPut b at class kind source to b₄ e₄
unfolding entry_text
entry_put {class = class} {kind = kind} {source = source} {to = to} h k p q r s =
    record {
      line = appended_both (appended_both (appended_both p q) r) s;
      short = omega (arith, p.end_is, q.end_is, r.end_is, s.end_is, places_of_byte class h, places_of_byte to k, length_kind kind, length_source source);
    }

-- ---- The entries of a slip.

module _ (slip : List ℕ) where
  pub long : length (entries_of slip) ≡ count_of slip
  long = length_tabulate (count_of slip) (entry_of slip)

  -- The line of entry i is that of its bytes and of the class of the next.
  line_of : (i : ℕ) → i < count_of slip
      → entry_text (entry_at (entries_of slip) i) (following (entries_of slip) i).class
      ≡ entry_text (entry_of slip i) (get_or slip (entries_at + entry_size * next_place (count_of slip) i) 0)
  line_of i h =
      rw (long, get_d_tabulate (count_of slip) (entry_of slip) _ i h, get_d_tabulate (count_of slip) (entry_of slip) _ (next_place (count_of slip) i) (next_below _ i h))
      refl

  pub started : (b : List ℕ) (at : ℕ) → at ≤ length b → Appended b at (lines_of (entries_of slip) 0) b at
  unfolding lines_of
  started b at h = record { end_is = omega arith; bytes = refl; inside = h }

  -- A turn of the loop.
  pub turn : (b out after : List ℕ) (at end place end' i : ℕ) → i < count_of slip → place ≡ entries_at + entry_size * next_place (count_of slip) i
      → Appended b at (lines_of (entries_of slip) i) out end
      → EntryPut out end (get_or slip (entries_at + entry_size * i) 0) (get_or slip (entries_at + entry_size * i + 1) 0) (get_or slip (entries_at + entry_size * i + 2) 0) (get_or slip place 0) after end'
      → Appended b at (lines_of (entries_of slip) (i + 1)) after end'
  unfolding lines_of
  turn b out after at end place end' i h e p q =
      rw add-one
      (appended_both p (as_text (line_of i h) (rw e at q.line)))

-- ---- Room.

pub fault_short : (n : ℕ) → n < 18446744073709551616 → length (fault_text n) ≤ line_size
unfolding fault_text
fault_short n h = simp length-append (omega (arith, places_of_word n h))

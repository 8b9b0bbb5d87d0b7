-- The lines of the balances. Assumes nothing.
use mathlib.Core.Path.{◌≡◌, refl, sym, ap, ap₂, subst, ◌∙◌}
use mathlib.Core.Bool.{Bool, true, false, cond}
use mathlib.Core.List.{List, ◌++◌}
use Prim.Native.Nat.{ℕ, zero, suc, ◌+◌, ◌<◌, ◌≤◌}
use native.Mathlib.Numerals.{add-one}
use native.Mathlib.Omega.{arith}
use lib.IntN.{ℤ, pos, negsuc}
use lib.ListN.{length, get_or}
use mir.Syntax.{w32}
use mir.Val.{SFits, to_z, of_z}
use mir.ValLaws.{to_z-of_z}
use Rattle.rules.specs.Limits.{max_classes}
use Rattle.rules.specs.Log.{records_of}
use Rattle.balance.specs.Piece.{bad_piece, is_refused, balance, balances_of, PieceBalanced}
use Rattle.balance.specs.Code.{Room}
use Rattle.balance.proofs.Adding.{passes, answered_0, given}
use Rattle.balance.proofs.Counting.{bits}
use Rattle.balance.proofs.Walking.{room_of}
use Rattle.log_text.specs.Text.{refused_line, digits, line_end, Appended}
use Rattle.log_text.proofs.Digits.{places_of_byte, places_of_word}
use Rattle.log_text.proofs.Writing.{appended_both, as_text}
use Rattle.balance_text.specs.Text.{signed_text, space, balance_line, shown, lines_below, piece_text, signed_room, line_room, LinePut}

-- ---- A line.

module _ (z : ℤ) (f : SFits w32 z) where
  pub signed_short : length (signed_text (bits z)) ≤ signed_room
  signed_short = rw (to_z-of_z w32 z f) (by z f)
    where
      by : (z : ℤ) → SFits w32 z → length (signed_text z) ≤ signed_room
      by (pos n) f = omega (arith, places_of_word n (omega (arith, f.sfits)))
      by (negsuc n) f = omega (arith, places_of_word (suc n) (omega (arith, f.sfits)))

  shown_line : (c : ℕ) (z : ℤ) → SFits w32 z → (of_z w32 z ≡ 0 → ⊥) → shown c z ≡ balance_line c z
  shown_line c (pos zero) f h = absurd (h refl)
  shown_line c (pos (suc n)) f h = refl
  shown_line c (negsuc n) f h = refl

  pub line_put : {b b₁ b₂ b₃ b₄ : List ℕ} {at e₁ e₂ e₃ e₄ class : ℕ} → class < max_classes → (of_z w32 z ≡ 0 → ⊥) → Appended b at (digits class) b₁ e₁
      → Appended b₁ e₁ space b₂ e₂ → Appended b₂ e₂ (signed_text (bits z)) b₃ e₃ → Appended b₃ e₃ line_end b₄ e₄ → LinePut b at class z b₄ e₄
  unfolding balance_line
  line_put {class = class} h n p q r s =
      let r' = as_text (ap signed_text (sym (to_z-of_z w32 z f))) r in
      record {
        line = as_text (shown_line class z f n) (appended_both (appended_both (appended_both p q) r') s);
        short = omega (arith, p.end_is, q.end_is, r.end_is, s.end_is, places_of_byte class (omega arith), signed_short);
      }

  pub nothing_put : (b : List ℕ) (at class : ℕ) → at + line_room ≤ length b → of_z w32 z ≡ 0 → LinePut b at class z b at
  nothing_put b at class h n =
      let e : z ≡ pos 0 = sym (to_z-of_z w32 z f) ∙ ap (to_z w32) n in
      record { line = rw e (record { end_is = omega arith; bytes = refl; inside = omega arith }); short = omega arith }

-- ---- All of them.

module _ (balances : ℕ → ℤ) where
  pub begun : (b : List ℕ) (at : ℕ) → at ≤ length b → Appended b at (lines_below 0 balances) b at
  unfolding lines_below
  begun b at h = record { end_is = omega arith; bytes = refl; inside = h }

  pub line_more : {b out after : List ℕ} {at end end' : ℕ} (c : ℕ) (z : ℤ) → z ≡ balances c → Appended b at (lines_below c balances) out end
      → LinePut out end c z after end' → Appended b at (lines_below (c + 1) balances) after end'
  unfolding lines_below
  line_more c z e p q = rw add-one (appended_both p (as_text (ap (shown c) (sym e)) q.line))

  lines_same : (g : ℕ → ℤ) (n : ℕ) → ((c : ℕ) → c < n → balances c ≡ g c) → lines_below n balances ≡ lines_below n g
  unfolding lines_below
  lines_same g zero h = refl
  lines_same g (suc n) h =
      ap₂ (λ (x y : List ℕ). x ++ y) (lines_same g n (λ c l. h c (omega arith))) (ap (shown n) (h n (omega arith)))

-- ---- The text of a piece, by what the call gave for it.

module _ (piece : List ℕ) {b : List ℤ} where
  pub text_refused : {answer : ℕ} → PieceBalanced piece answer b → (answer ≡ 0 → ⊥) → piece_text piece ≡ refused_line answer
  text_refused {answer} p h = by (is_refused piece) p.number
    where
      by : (t : Bool) → answer ≡ cond t bad_piece 0 → cond t (refused_line bad_piece) (lines_below max_classes (λ c. balance c (records_of piece))) ≡ refused_line answer
      by true e = ap refused_line (sym e)
      by false e = absurd (h e)

  module _ {answer : ℕ} (p : PieceBalanced piece answer b) (z : answer ≡ 0) where
    passed : is_refused piece ≡ false
    passed = answered_0 piece (subst (λ (a : ℕ). PieceBalanced piece a b) z p)

    pub text_balances : piece_text piece ≡ lines_below max_classes (λ c. get_or b c (pos 0))
    text_balances =
        rw passed (lines_same (λ c. balance c (records_of piece)) (λ c. get_or b c (pos 0)) max_classes (λ c l. sym (given piece p passed c l)))

    pub room_given : Room b
    room_given =
        let e : b ≡ balances_of (records_of piece) = p.numbers ∙ rw passed refl in
        rw e (room_of piece (passes piece passed).0)

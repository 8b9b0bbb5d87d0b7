-- Balances add. Assumes nothing.
use mathlib.Core.Path.{◌≡◌, refl, sym, ap, ap₂, ◌∙◌}
use mathlib.Core.Bool.{Bool, true, false, not, cond}
use mathlib.Core.List.{List, [], ◌∷◌, ◌++◌}
use Prim.Native.Nat.{ℕ, suc, ◌+◌, ◌%◌, ◌<◌, ◌≤◌}
use native.Mathlib.Omega.{arith}
use lib.Dec.{ltb, eqb}
use lib.IntN.{ℤ, pos, ◌+ℤ◌, ◌-ℤ◌}
use lib.ListN.{length, get_or, length-append}
use lib.Signed.{mag}
use borrow.Author.Tests.{le-ltb, ltb-false, eq-eqb, eqb-true, not-false}
use Rattle.rules.specs.Limits.{max_classes}
use Rattle.rules.specs.Record.{Bytes, Event, record_size}
use Rattle.rules.specs.Log.{records_of}
use Rattle.rules.specs.Balance.{acquires, releases, count_if}
use Rattle.rules.proofs.Balanced.{count_add}
use Rattle.rules.proofs.Booleans.{or_none}
use Rattle.rules.proofs.Closure.{length_tabulate, get_d_tabulate}
use Rattle.rules.proofs.Cutting.{joined_records}
use Rattle.balance.specs.Piece.{most_bytes, bad_piece, is_refused, counts, how_many, balance, for_each_class, balances_of, PieceBalanced, PiecesAdd}
use Rattle.balance.proofs.Integers.{difference_adds, difference_small}

-- ---- A number for each class.

module _ (f : ℕ → ℤ) where
  pub length_each : length (for_each_class f) ≡ max_classes
  unfolding for_each_class
  length_each = length_tabulate max_classes f

  pub get_or_each : (c : ℕ) → c < max_classes → get_or (for_each_class f) c (pos 0) ≡ f c
  unfolding for_each_class
  get_or_each c l = get_d_tabulate max_classes f (pos 0) c l

-- ---- Of records.

module _ (says : Event → Bool) where
  many_append : (xs ys : List Bytes) → how_many says (xs ++ ys) ≡ how_many says xs + how_many says ys
  many_append [] ys = omega arith
  many_append (r ∷ xs) ys =
      let b = counts says r in
      let ih = many_append xs ys in
      omega (arith, count_add b (how_many says xs), count_add b (how_many says (xs ++ ys)))

  no_more : (b : Bool) (n k : ℕ) → n ≤ k → count_if b n ≤ suc k
  no_more true n k h = omega arith
  no_more false n k h = omega arith

  many_most : (rs : List Bytes) → how_many says rs ≤ length rs
  many_most [] = omega arith
  many_most (r ∷ rs) = no_more (counts says r) (how_many says rs) (length rs) (many_most rs)

module _ (c : ℕ) where
  pub balance_append : (xs ys : List Bytes) → balance c (xs ++ ys) ≡ balance c xs +ℤ balance c ys
  unfolding balance
  balance_append xs ys =
      ap₂ (λ (a b : ℕ). pos a -ℤ pos b) (many_append (acquires c) xs ys) (many_append (releases c) xs ys)
      ∙ difference_adds (how_many (acquires c) xs) (how_many (releases c) xs) (how_many (acquires c) ys) (how_many (releases c) ys)

  pub balance_small : (rs : List Bytes) → mag (balance c rs) ≤ length rs
  unfolding balance
  balance_small rs = difference_small _ _ (length rs) (many_most (acquires c) rs) (many_most (releases c) rs)

-- ---- Of pieces.

module _ (piece : List ℕ) where
  pub passes : is_refused piece ≡ false → (length piece ≤ most_bytes) × (length piece % record_size ≡ 0)
  unfolding is_refused
  passes h =
      let p = or_none (ltb most_bytes (length piece)) (not (eqb (length piece % record_size) 0)) h in
      (ltb-false most_bytes (length piece) p.0, eqb-true (length piece % record_size) 0 (not-false _ p.1))

  pub passed : length piece ≤ most_bytes → length piece % record_size ≡ 0 → is_refused piece ≡ false
  unfolding is_refused
  passed h k = simp (le-ltb most_bytes (length piece) h, eq-eqb (length piece % record_size) 0 k)

  -- The answer tells which.
  pub answered_0 : {b : List ℤ} → PieceBalanced piece 0 b → is_refused piece ≡ false
  answered_0 p = by (is_refused piece) p.number
    where
      by : (t : Bool) → 0 ≡ cond t bad_piece 0 → t ≡ false
      by true e = absurd (omega arith)
      by false e = refl

  pub given : {answer : ℕ} {b : List ℤ} → PieceBalanced piece answer b → is_refused piece ≡ false → (c : ℕ) → c < max_classes
      → get_or b c (pos 0) ≡ balance c (records_of piece)
  given {b = b} p n c l =
      let e : b ≡ balances_of (records_of piece) = p.numbers ∙ rw n refl in
      rw e (get_or_each (λ c. balance c (records_of piece)) c l)

pub pieces_add : (one two : List ℕ) → PiecesAdd one two
pieces_add one two =
    record {
      add = λ p₁ p₂ h p.
          let n₁ = answered_0 one p₁ in
          let n₂ = answered_0 two p₂ in
          let s₁ = (passes one n₁).1 in
          let n = passed (one ++ two) h (let s₂ = (passes two n₂).1 in omega (arith, s₁, s₂, length-append one two)) in (
            p.number ∙ rw n refl,
            λ c l.
                given (one ++ two) p n c l
                ∙ ap (balance c) (joined_records one two s₁)
                ∙ balance_append c (records_of one) (records_of two)
                ∙ ap₂ (λ (x y : ℤ). x +ℤ y) (sym (given one p₁ n₁ c l)) (sym (given two p₂ n₂ c l)),
          );
    }

-- The contract settles the number and all 64 balances, for every piece.
pub balance_settles : (piece : List ℕ) {a a' : ℕ} {b b' : List ℤ} → PieceBalanced piece a b → PieceBalanced piece a' b' → (a ≡ a') × (b ≡ b')
balance_settles piece p q = (p.number ∙ sym q.number, p.numbers ∙ sym q.numbers)

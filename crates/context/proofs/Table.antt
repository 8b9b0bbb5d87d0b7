-- A rule of a table, proved at all of its entries by one test that antt computes, for lists of any element, and for a table of rows.
-- Assumes nothing.
use mathlib.Core.Path.{◌≡◌, ◌∙◌, subst, sym}
use mathlib.Core.Bool.{Bool, true, false}
use mathlib.Core.List.{List, [], ◌∷◌}
use Prim.Native.Nat.{ℕ, zero, suc, ◌+◌, ◌<◌}
use native.Mathlib.Nat.{add-zero, zero-add, add-suc, suc-add, le_of_suc-le-suc, not-suc-le-zero}
use lib.Dec.{T, eqb, eqb→eq}
use lib.ListN.{length, get_or}

abbrev pub and_also : Bool → Bool → Bool
and_also true b = b
and_also false b = false

pub and_also_left : (a b : Bool) → T (and_also a b) → T a
and_also_left true b t = tt
and_also_left false b t = t

pub and_also_right : (a b : Bool) → T (and_also a b) → T b
and_also_right true b t = t
and_also_right false b t = absurd t

module _ {A : Type 0} (d : A) (f : ℕ → A → Bool) where
  abbrev pub every : ℕ → List A → Bool
  every i [] = true
  every i (x ∷ xs) = and_also (f i x) (every (suc i) xs)

  from : (xs : List A) (i : ℕ) → T (every i xs) → (k : ℕ) → k < length xs → T (f (i + k) (get_or xs k d))
  from [] i t k h = absurd (not-suc-le-zero h)
  from (x ∷ xs) i t zero h = subst (λ (m : ℕ). T (f m x)) (sym (add-zero i)) (and_also_left (f i x) (every (suc i) xs) t)
  from (x ∷ xs) i t (suc k) h =
      subst (λ (m : ℕ). T (f m (get_or xs k d))) (suc-add i k ∙ sym (add-suc i k))
      (from xs (suc i) (and_also_right (f i x) (every (suc i) xs) t) k (le_of_suc-le-suc h))

  pub at : (xs : List A) → T (every 0 xs) → (k : ℕ) → k < length xs → T (f k (get_or xs k d))
  at xs t k h = subst (λ (m : ℕ). T (f m (get_or xs k d))) (zero-add k) (from xs 0 t k h)

-- a table of rows of one length n: the test f at each row, column and entry
module _ (n : ℕ) (f : ℕ → ℕ → ℕ → Bool) where
  abbrev pub row_ok : ℕ → List ℕ → Bool
  row_ok s row = and_also (eqb (length row) n) (every 0 (f s) 0 row)

  pub at2 : (rows : List (List ℕ)) → T (every [] row_ok 0 rows) → (s e : ℕ) → s < length rows → e < n
      → T (f s e (get_or (get_or rows s []) e 0))
  at2 rows t s e hs he =
      let row = get_or rows s [] in
      let r : T (row_ok s row) = at [] row_ok rows t s hs in
      let len : length row ≡ n = eqb→eq (length row) n (and_also_left (eqb (length row) n) (every 0 (f s) 0 row) r) in
      at 0 (f s) row (and_also_right (eqb (length row) n) (every 0 (f s) 0 row) r) e (subst (λ (m : ℕ). e < m) (sym len) he)

-- The table of a function: each entry is the function's value.
pub table_rule : (n : ℕ) (f : ℕ → ℕ → ℕ) (rows : List (List ℕ)) → T (every [] (row_ok n (λ s e v. eqb v (f s e))) 0 rows) → (s e : ℕ)
    → s < length rows → e < n → get_or (get_or rows s []) e 0 ≡ f s e
table_rule n f rows t s e hs he =
    eqb→eq (get_or (get_or rows s []) e 0) (f s e) (at2 n (λ s e v. eqb v (f s e)) rows t s e hs he)

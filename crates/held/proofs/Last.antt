-- Laws of `last_below`, and of what is found by it. Assumes nothing.
use mathlib.Core.Path.{◌≡◌, refl, sym, ap, ◌∙◌}
use mathlib.Core.Bool.{Bool, true, false, cond, false≢true}
use mathlib.Core.List.{List}
use Prim.Native.Nat.{ℕ, zero, suc, ◌<◌, ◌≤◌, ◌-◌, ◌+◌, ◌%◌, zero-le}
use native.Mathlib.Nat.{not-suc-le-zero, le_refl}
use native.Mathlib.Numerals.{sub-one}
use native.Mathlib.Omega.{arith}
use native.Mathlib.Decide.{ℕ_discrete, dec_lt}
use denote.Ref.{Bor}
use denote.Param.Members.{Mut}
use lib.ListN.{length, get_or}
use Rattle.std.specs.Prelude.{Option, None, Some, IfSome, IsSomeAnd, MatchOption, IsTrue, option_map}
use Rattle.std.specs.Fn.{Called}
use Rattle.std.specs.Iterator.Runs.{Run, AllItemsGive, IsFirstToGive, CallKeepsClosure, ItemsMapToReversed}
use lib.Dec.{eqb}
use borrow.Author.Tests.{eq-eqb, ne_eqb}
use Rattle.layout.specs.Layout.{depth_of, held_of}
use Rattle.held.specs.Frames.{HeldBytes, place_number, last_below, newest_of, taken_in, fitting_of}

-- What `last_below` finds.
pub data LastBelow (test : ℕ → Bool) (d : ℕ) : ℕ → Type 0 where
  nowhere : ((p : ℕ) → p < d → test p ≡ false) → LastBelow test d 0
  at : {q : ℕ} → q < d → test q ≡ true → ((p : ℕ) → q < p → p < d → test p ≡ false) → LastBelow test d (suc q)

pub last_below_lem : (test : ℕ → Bool) (d : ℕ) → LastBelow test d (last_below test d)
unfolding last_below
last_below_lem test zero = nowhere (λ p l. absurd (not-suc-le-zero l))
last_below_lem test (suc d) = by (test d) refl (last_below_lem test d)
  where
    more : test d ≡ false → {r : ℕ} → LastBelow test d r → LastBelow test (suc d) r
    more e (nowhere f) = nowhere (λ p l. elim (ℕ_discrete p d) [ yes q ↦ rw q e | no n ↦ f p (omega arith) ])
    more e (at {q} l h f) = at {q = q} (omega arith) h (λ p lo hi. elim (ℕ_discrete p d) [ yes q ↦ rw q e | no n ↦ f p lo (omega arith) ])

    by : (b : Bool) → test d ≡ b → LastBelow test d (last_below test d) → LastBelow test (suc d) (cond b (suc d) (last_below test d))
    by true e x = at {q = d} (omega arith) e (λ p lo hi. absurd (omega arith))
    by false e x = more e x

-- And nothing else is found.
last_is : (test : ℕ → Bool) (d : ℕ) {r : ℕ} → LastBelow test d r → r ≡ last_below test d
last_is test d (nowhere f) = by (last_below_lem test d)
  where
    by : {r : ℕ} → LastBelow test d r → 0 ≡ r
    by (nowhere g) = refl
    by (at {q} l h g) = absurd (false≢true (sym (f q l) ∙ h))
last_is test d (at {q} l h f) = by (last_below_lem test d)
  where
    by : {r : ℕ} → LastBelow test d r → suc q ≡ r
    by (nowhere g) = absurd (false≢true (sym (g q l) ∙ h))
    by (at {q = p} m e g) =
        elim (dec_lt q p) [
          | yes lo ↦ absurd (false≢true (sym (f p lo m) ∙ e))
          | no no_lo ↦ elim (dec_lt p q) [ yes lo ↦ absurd (false≢true (sym (g q lo l) ∙ h)) | no no_hi ↦ omega arith ]
        ]

-- What `rposition` over a slice finds, with a closure that computes a test of each element.
module _ {S F : Type 0} {steps : S → Option (Bor ℕ) → S → Type 0} (g : Mut F (Bor ℕ × Unit {0}) Bool) {f : F} (xs : List ℕ) (test : ℕ → Bool)
    (computes : (y : Bor ℕ) (b : Bool) (q : F) → Called g f (y, tt) b q → (q ≡ f) × (b ≡ test y.now)) (u : Run steps)
    (back : ItemsMapToReversed u (λ y. y.now) xs) where
  keeps : CallKeepsClosure g f
  keeps a b q h = (computes a.0 b q h).0

  says : {b : Bool} (k : ℕ) (o : Option (Bor ℕ)) → option_map (λ (y : Bor ℕ). y.now) o ≡ Some (get_or xs k 0) → IfSome o (λ y. Called g f (y, tt) b f)
      → test (get_or xs k 0) ≡ b
  says k None e h = absurd (cc)
  says {b} k (Some y) e h =
      let v : y.now ≡ get_or xs k 0 = cc in
      ap test (sym v) ∙ sym (computes y b f h).1

  some_says : {b : Bool} (k : ℕ) (o : Option (Bor ℕ)) → option_map (λ (y : Bor ℕ). y.now) o ≡ Some (get_or xs k 0) → IsSomeAnd o (λ y. Called g f (y, tt) b f)
      → test (get_or xs k 0) ≡ b
  some_says k None e h = absurd h
  some_says k (Some y) e h = says k (Some y) e h

  pub last_found : (r : Option ℕ) → IfSome r (λ i. i < length xs)
      → MatchOption r (IsTrue u.whole × AllItemsGive u g f false) (λ i. (i + u.len ≡ length xs) × IsFirstToGive u g f true false (length xs - 1 - i))
      → LastBelow (λ k. test (get_or xs k 0)) (length xs) (place_number r)
  last_found None tt (w, all) =
      nowhere (λ k l.
      let e = back.1 w in
      says k (u.at (length xs - 1 - k)) (back.2 k 0 l (omega arith)) (all keeps (length xs - 1 - k)))
  last_found (Some i) l (n, first) =
      let same : length xs - 1 - (length xs - 1 - i) ≡ i = omega arith in
      at l (some_says i (u.at (length xs - 1 - i)) (back.2 i 0 l (omega arith)) (first keeps).0)
      (λ k lo hi. some_says k (u.at (length xs - 1 - k)) (back.2 k 0 hi (omega arith)) ((first keeps).1 (length xs - 1 - k) (omega arith)))

-- Over the held bytes of a frame that is the newest lock.
pub newest_found : (desk : List ℕ) (n class : ℕ) {xs : List ℕ} → HeldBytes desk n xs → {r : ℕ}
    → LastBelow (λ k. eqb (get_or xs k 0 % 64) class) (length xs) r → r ≡ newest_of desk n class
unfolding newest_of
newest_found desk n class {xs} H found = last_is (λ p. eqb (held_of desk n p % 64) class) (depth_of desk n) (same found)
  where
    size : length xs ≡ depth_of desk n
    size = H.long

    test : {b : Bool} (p : ℕ) → p < depth_of desk n → eqb (get_or xs p 0 % 64) class ≡ b → eqb (held_of desk n p % 64) class ≡ b
    test p l h = rw (H.byte p l) at h

    same : {r : ℕ} → LastBelow (λ k. eqb (get_or xs k 0 % 64) class) (length xs) r → LastBelow (λ p. eqb (held_of desk n p % 64) class) (depth_of desk n) r
    same (nowhere f) = nowhere (λ p l. test p l (f p (omega (arith, size))))
    same (at {q} l h f) =
        let m : q < depth_of desk n = omega (arith, size) in
        at m (test q m h) (λ p lo hi. test p hi (f p lo (omega (arith, size))))

last_most : (p : ℕ → Bool) (i : ℕ) → last_below p i ≤ i
unfolding last_below
last_most p zero = zero-le
last_most p (suc i) = by (p i) (last_most p i)
  where
    by : (b : Bool) → last_below p i ≤ i → cond b (suc i) (last_below p i) ≤ suc i
    by true ih = le_refl (suc i)
    by false ih = omega arith

-- ---- `fitting_of`, where r is the place of the newest.

pub none_fits : (b : Bool) → cond {A = ℕ} b 0 0 ≡ 0
none_fits true = refl
none_fits false = refl

module _ (desk : List ℕ) (n class mode : ℕ) {r : Option ℕ} (e : place_number r ≡ newest_of desk n class) where
  pub fitting_none : r ≡ None → (s : Option ℕ) → s ≡ None → place_number s ≡ fitting_of desk n class mode
  unfolding fitting_of
  fitting_none z s none = rw (none, sym e, z) (sym (none_fits (eqb mode (taken_in desk n (0 - 1)))))

  module _ (p : ℕ) (is : r ≡ Some p) where
    place : suc p ≡ newest_of desk n class
    place = rw is at e

    pub found_inside : p < depth_of desk n
    unfolding newest_of
    found_inside = rw place (last_most _ (depth_of desk n))

    pub fitting_hit : mode ≡ taken_in desk n p → suc p ≡ fitting_of desk n class mode
    unfolding fitting_of
    fitting_hit h = rw (sym place, sub-one, eq-eqb mode (taken_in desk n p) h) refl

    pub fitting_miss : (mode ≡ taken_in desk n p → ⊥) → 0 ≡ fitting_of desk n class mode
    unfolding fitting_of
    fitting_miss ne = rw (sym place, sub-one, ne_eqb mode (taken_in desk n p) ne) refl

-- The second sheet and the count, and the journal that they encode. Assumes nothing.
use mathlib.Core.Path.{◌≡◌, refl, sym, ap, ap₂, ◌∙◌, subst, fun_ext}
use mathlib.Core.Bool.{Bool, true, false, cond, not, ◌&&◌, ◌||◌, false≢true}
use mathlib.Core.List.{List}
use Prim.Native.Nat.{ℕ, ◌+◌, ◌*◌, ◌^◌, ◌<◌, ◌≤◌}
use native.Mathlib.Omega.{arith}
use lib.Dec.{ltb, eqb}
use lib.ListN.{get_or}
use borrow.Author.Tests.{ltb-true, eqb-true, lt-ltb}
use Rattle.words.specs.Bits.{flag}
use Rattle.rules.specs.Limits.{max_accepted}
use Rattle.rules.specs.Graph.{Kind, Dependencies}
use Rattle.rules.specs.KindNames.{ER, EN, SR, SN, some_kind}
use Rattle.rules.specs.Run.{Journal}
use Rattle.rules.proofs.Booleans.{and_cases, and_both}
use Rattle.layout.specs.Layout.{accepted_at, number_size, seen_size, classes_of, kinds_of, accepted_of, pair_number, number_of, AreBytes}
use Rattle.layout.specs.Encoding.{kind_byte, NumberBytes, SheetBytes, SeenBytes}
use Rattle.layout.specs.Decoding.{view_locks, view_journal}
use Rattle.layout.proofs.Buffers.{cell_inside}
use Rattle.layout.proofs.Numbers.{bytes_of_lem, value_small, number_is}
use Rattle.validity.specs.Valid.{ValidJournal}
use Rattle.fit.proofs.Places.{by_pair}
use Rattle.fit.proofs.Facts.{NumberFacts}

-- A byte of kinds is 0 exactly where there is none.
kinds_none : (d : Dependencies) (f t : ℕ) → eqb (kind_byte d f t) 0 ≡ not (some_kind (d f t))
unfolding kind_byte
kinds_none d f t = by (d f t ER) (d f t EN) (d f t SR) (d f t SN)
  where
    by : (a b c e : Bool) → eqb (flag a * 1 + flag b * 2 + flag c * 4 + flag e * 8) 0 ≡ not ((a || b) || (c || e))
    by true true true true = refl
    by true true true false = refl
    by true true false true = refl
    by true true false false = refl
    by true false true true = refl
    by true false true false = refl
    by true false false true = refl
    by true false false false = refl
    by false true true true = refl
    by false true true false = refl
    by false true false true = refl
    by false true false false = refl
    by false false true true = refl
    by false false true false = refl
    by false false false true = refl
    by false false false false = refl

-- What holds of a pair of classes below K, and of 0 for any other pair.
module _ (K : ℕ) (f t : ℕ) where
  abbrev inside : Bool
  inside = ltb f K && ltb t K

  both_less : inside ≡ true → (f < K) × (t < K)
  both_less h = let a = and_cases (ltb f K) _ h in (ltb-true _ _ a.0, ltb-true _ _ a.1)

module _ (desk sheet seen : List ℕ) (n : NumberFacts desk sheet seen) where
  abbrev K : ℕ
  K = classes_of desk

  pub fit_seen : AreBytes (seen_size K) seen → SeenBytes K (view_journal desk seen).seen seen
  fit_seen bytes =
      record {
        long = n.long;
        numbers = λ f t l h.
            let c = cell_inside K f t l h in
            let v : (view_journal desk seen).seen f t ≡ number_of seen K f t = rw (lt-ltb f K l, lt-ltb t K h) refl in
            subst (λ (x : ℕ). NumberBytes x seen (number_size * (f * K + t))) (sym v)
            (bytes_of_lem seen number_size (number_size * (f * K + t)) (λ j m. bytes (number_size * (f * K + t) + j) (omega arith)));
      }

  pub fit_journal : accepted_of desk < 256 ^ number_size → AreBytes (seen_size K) seen
      → ((from to : ℕ) → from < K → to < K → kinds_of sheet K from to ≡ kind_byte (view_locks K sheet) from to)
      → ValidJournal (view_locks K sheet) (view_journal desk seen)
  fit_journal small bytes kinds =
      record {
        limit = omega arith;
        at_most = λ f t. most f t (inside K f t) refl;
        numbered = λ f t. pairs f t (inside K f t) refl;
      }
    where
      most : (f t : ℕ) (b : Bool) → inside K f t ≡ b → cond b (number_of seen K f t) 0 ≤ max_accepted
      most f t true h =
          let l = both_less K f t h in
          let c = cell_inside K f t l.0 l.1 in
          let v = value_small seen number_size (number_size * (f * K + t)) (λ j m. bytes (number_size * (f * K + t) + j) (omega arith)) in
          omega arith
      most f t false h = omega arith

      pairs : (f t : ℕ) (b : Bool) → inside K f t ≡ b → eqb (cond (inside K f t) (number_of seen K f t) 0) 0 ≡ not (some_kind (view_locks K sheet f t))
      pairs f t true h =
          let l = both_less K f t h in
          let c = cell_inside K f t l.0 l.1 in
          ap (λ (b : Bool). eqb (cond b (number_of seen K f t) 0) 0) h
          ∙ n.numbered (f * K + t) c
          ∙ ap (λ (x : ℕ). eqb x 0) (kinds f t l.0 l.1)
          ∙ kinds_none (view_locks K sheet) f t
      pairs f t false h = rw h refl

-- ---- And back.

module _ (desk seen : List ℕ) (locks : Dependencies) (j : Journal) (v : ValidJournal locks j) (count : NumberBytes j.accepted desk accepted_at)
    (numbers : SeenBytes (classes_of desk) j.seen seen) where
  pair_is : (f t : ℕ) → f < classes_of desk → t < classes_of desk → number_of seen (classes_of desk) f t ≡ j.seen f t
  pair_is f t l h =
      number_is seen (j.seen f t) (number_size * (f * classes_of desk + t)) (v.at_most f t) (numbers.numbers f t l h)

  accepted_is : accepted_of desk ≡ j.accepted
  accepted_is = number_is desk j.accepted accepted_at v.limit count

  -- A pair outside has no lock dependency, so no number.
  module _ (in_range : (f t : ℕ) (k : Kind) → locks f t k ≡ true → (f < classes_of desk) × (t < classes_of desk)) where
    nothing_outside : (f t : ℕ) → inside (classes_of desk) f t ≡ false → j.seen f t ≡ 0
    nothing_outside f t h = eqb-true (j.seen f t) 0 (v.numbered f t ∙ none (locks f t ER) refl (locks f t EN) refl (locks f t SR) refl (locks f t SN) refl)
      where
        barred : (k : Kind) → locks f t k ≡ true → ⊥
        barred k q =
            let r = in_range f t k q in
            false≢true (sym h ∙ and_both (lt-ltb f (classes_of desk) r.0) (lt-ltb t (classes_of desk) r.1))

        none : (a : Bool) → locks f t ER ≡ a → (b : Bool) → locks f t EN ≡ b → (c : Bool) → locks f t SR ≡ c → (d : Bool) → locks f t SN ≡ d
            → not (some_kind (locks f t)) ≡ true
        none true e b p c q d r = absurd (barred ER e)
        none false e true p c q d r = absurd (barred EN p)
        none false e false p true q d r = absurd (barred SR q)
        none false e false p false q true r = absurd (barred SN r)
        none false e false p false q false r = rw (e, p, q, r) refl

    pub journal_is : view_journal desk seen ≡ j
    journal_is =
        ap₂ (λ (a : ℕ) (s : ℕ → ℕ → ℕ). record { accepted = a; seen = s }) accepted_is
        (fun_ext (λ f. fun_ext (λ t. by f t (inside (classes_of desk) f t) refl)))
      where
        by : (f t : ℕ) (b : Bool) → inside (classes_of desk) f t ≡ b → cond b (number_of seen (classes_of desk) f t) 0 ≡ j.seen f t
        by f t true h = let l = both_less (classes_of desk) f t h in pair_is f t l.0 l.1
        by f t false h = sym (nothing_outside f t h)

  pub encoded_numbers : (sheet : List ℕ) → 1 ≤ classes_of desk → SheetBytes (classes_of desk) locks sheet → NumberFacts desk sheet seen
  encoded_numbers sheet some kinds =
      record {
        long = numbers.long;
        numbered = by_pair (classes_of desk) some (λ i. eqb (pair_number seen i) 0 ≡ eqb (get_or sheet i 0) 0)
            (λ f t l h.
            ap (λ (x : ℕ). eqb x 0) (pair_is f t l h)
            ∙ v.numbered f t
            ∙ sym (kinds_none locks f t)
            ∙ ap (λ (x : ℕ). eqb x 0) (sym (kinds.kinds f t l h)));
      }

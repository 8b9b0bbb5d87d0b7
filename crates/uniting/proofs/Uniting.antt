-- Bytes and numbers joined place by place. Assumes nothing.
use mathlib.Core.Path.{◌≡◌, refl, sym, ◌∙◌, subst}
use mathlib.Core.List.{List}
use mathlib.Core.Logic.{inl, inr, ⊎_elim}
use Prim.Native.Nat.{ℕ, ◌+◌, ◌*◌, ◌<◌, ◌≤◌}
use native.Mathlib.Decide.{ℕ_discrete}
use native.Mathlib.Omega.{arith}
use lib.Bits.{bit_or}
use lib.ListN.{length, get_or, set, length-set}
use lib.Seq.{get_or-set_same, get_or-set_other}
use Rattle.rules.specs.Join.{first_or}
use Rattle.layout.specs.Layout.{number_size, pair_number}
use Rattle.layout.specs.Encoding.{NumberBytes}
use Rattle.numbers.specs.Numbers.{NumberPut}
use Rattle.uniting.specs.United.{United, NumbersJoined}

pub united_none : (one two : List ℕ) (at : ℕ) (before : List ℕ) → United one two at at before before
united_none one two at before = record { long = refl; both = λ j l m. absurd (omega arith); else = λ j o. refl }

pub united_more : {one two before now : List ℕ} {at j : ℕ} → United one two at j before now → at ≤ j → j < length before
    → United one two at (j + 1) before (set now j (bit_or (get_or one j 0) (get_or two j 0)))
united_more {one} {two} {before} {now} {at} {j} u l m =
    let n = u.long in
    record {
      long = length-set now j _ ∙ u.long;
      both = λ i a b. elim (ℕ_discrete i j) [
        | yes e ↦ rw e (get_or-set_same now j _ 0 (omega arith))
        | no d ↦ get_or-set_other now j i _ 0 d ∙ u.both i a (omega arith)
      ];
      else = λ i o. get_or-set_other now j i _ 0 (⊎_elim (λ a e. omega arith) (λ a e. omega arith) o) ∙ u.else i (⊎_elim (λ a. inl a) (λ a. inr (omega arith)) o);
    }

pub numbers_none : (one two before : List ℕ) → NumbersJoined one two 0 before before
numbers_none one two before = record { keeps = record { long = refl; past = λ j l. refl }; numbers = λ j l. absurd (omega arith) }

pub numbers_more : {one two before now after : List ℕ} {j n : ℕ} → NumbersJoined one two j before now → NumberPut now (number_size * j) n after
    → n ≡ first_or (pair_number one j) (pair_number two j) → NumbersJoined one two (j + 1) before after
numbers_more {one} {two} {after = after} {j} u p e =
    record {
      keeps = record { long = p.long ∙ u.keeps.long; past = λ i l. p.else i (inr (omega arith)) ∙ u.keeps.past i (omega arith) };
      numbers = λ i l. by i l (ℕ_discrete i j);
    }
  where
    by : (i : ℕ) → i < j + 1 → Dec (i ≡ j) → NumberBytes (first_or (pair_number one i) (pair_number two i)) after (number_size * i)
    by i l (yes q) =
        subst (λ (i : ℕ). NumberBytes (first_or (pair_number one i) (pair_number two i)) after (number_size * i)) (sym q)
        (subst (λ (n : ℕ). NumberBytes n after (number_size * j)) e p.there)
    by i l (no d) = λ k m. p.else (number_size * i + k) (inl (omega arith)) ∙ u.numbers i (omega arith) k m

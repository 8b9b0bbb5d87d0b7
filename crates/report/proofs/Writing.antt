-- The slip, written entry by entry. Assumes nothing.
use mathlib.Core.Path.{◌≡◌, refl, sym, ap, ap₂, ◌∙◌, subst}
use mathlib.Core.List.{List, [], ◌∷◌, ◌++◌}
use mathlib.Core.Logic.{inl, inr}
use Prim.Native.Nat.{ℕ, zero, suc, ◌+◌, ◌*◌, ◌/◌, ◌%◌, ◌^◌, ◌<◌, ◌≤◌, min}
use Rattle.std.proofs.Math.Nat.{mod_self, mod-eq_of_lt}
use native.Mathlib.Decide.{ℕ_discrete, dec_lt}
use native.Mathlib.Omega.{arith}
use lib.ListN.{length, get_or, set, length-set}
use lib.Pow.{pow_mono}
use lib.Seq.{get_or-set_same, get_or-set_other}
use Rattle.rules.specs.Graph.{kind_bit, source_number}
use Rattle.rules.specs.Cycle.{Entry, entry_bytes, entry_at, following}
use Rattle.rules.specs.KindNames.{SN}
use Rattle.rules.specs.Ranks.{kind_of_byte, kind_at}
use Rattle.rules.proofs.Closure.{length_tabulate, get_d_tabulate}
use Rattle.rules.specs.Number.{bytes_of}
use Rattle.layout.specs.Layout.{number_size, entries_at, entry_number_at, entry_size, number_of, KeepsPast}
use Rattle.layout.specs.Decoding.{number_by, entry_seen}
use Rattle.layout.specs.Slip.{next_place}
use Rattle.layout.proofs.Slips.{next_below, next_more, next_last}
use Rattle.numbers.specs.Numbers.{NumberPut}
use Rattle.shortest.specs.Shortest.{found_entry, found_entries}
use Rattle.shortest.specs.declared.Found.{Found}
use Rattle.report.specs.Shown.{EntryWritten, Shown}

-- ---- Bytes of a rank.

from_5 : (n : ℕ) → 5 ≤ n → kind_of_byte n ≡ SN
from_5 zero l = absurd (omega arith)
from_5 (suc zero) l = absurd (omega arith)
from_5 (suc (suc zero)) l = absurd (omega arith)
from_5 (suc (suc (suc zero))) l = absurd (omega arith)
from_5 (suc (suc (suc (suc zero)))) l = absurd (omega arith)
from_5 (suc (suc (suc (suc (suc n))))) l = refl

module _ (rank : ℕ) where
  pub kind_0 : rank < 3 → 1 ≡ kind_bit (kind_at rank)
  kind_0 l = let e : rank / 3 ≡ 0 = omega arith in rw e refl

  pub kind_1 : ¬ (rank < 3) → rank < 6 → 2 ≡ kind_bit (kind_at rank)
  kind_1 n l = let e : rank / 3 ≡ 1 = omega arith in rw e refl

  pub kind_2 : ¬ (rank < 6) → rank < 9 → 4 ≡ kind_bit (kind_at rank)
  kind_2 n l = let e : rank / 3 ≡ 2 = omega arith in rw e refl

  pub kind_3 : ¬ (rank < 9) → 8 ≡ kind_bit (kind_at rank)
  kind_3 n = ap kind_bit (sym (from_5 (2 ^ (rank / 3)) (let l : 2 ^ 3 ≤ 2 ^ (rank / 3) = pow_mono {i = 3} {j = rank / 3} (omega arith) in omega arith)))

pub kind_law : (rank m : ℕ) → m ≡ min (rank / 3) 3 → 1 * 2 ^ m % 256 ≡ kind_bit (kind_at rank)
kind_law rank m e = elim (dec_lt rank 3) [
  | yes l ↦ let z : m ≡ 0 = omega arith in rw z (kind_0 rank l)
  | no a ↦ elim (dec_lt rank 6) [
    | yes l ↦ let z : m ≡ 1 = omega arith in rw z (kind_1 rank a l)
    | no b ↦ elim (dec_lt rank 9) [
      | yes l ↦ let z : m ≡ 2 = omega arith in rw z (kind_2 rank b l)
      | no d ↦ let z : m ≡ 3 = omega arith in rw z (kind_3 rank d)
    ]
  ]
]

-- The place after i in a cycle, as a remainder.
pub next_by_rem : (n i : ℕ) → i < n → (i + 1) % n ≡ next_place n i
next_by_rem n i l = elim (dec_lt (i + 1) n) [
  | yes h ↦ mod-eq_of_lt h ∙ sym (next_more n i h)
  | no h ↦ let e : i + 1 ≡ n = omega arith in rw (e, mod_self n) (sym (next_last n i (omega arith)))
]

-- ---- One entry.

module _ (before : List ℕ) (i class kind source number : ℕ) (room : entries_at + entry_size * i + entry_size ≤ length before) where
  abbrev at : ℕ
  at = entries_at + entry_size * i

  abbrev one : List ℕ
  one = set before at class

  abbrev two : List ℕ
  two = set one (at + 1) kind

  abbrev three : List ℕ
  three = set two (at + 2) source

  else : (j : ℕ) → (j ≡ at → ⊥) → (j ≡ at + 1 → ⊥) → (j ≡ at + 2 → ⊥) → get_or three j 0 ≡ get_or before j 0
  else j l m n = get_or-set_other two (at + 2) j source 0 n ∙ get_or-set_other one (at + 1) j kind 0 m ∙ get_or-set_other before at j class 0 l

  pub entry_written : (after : List ℕ) → NumberPut three (at + entry_number_at) number after → EntryWritten before i class kind source number after
  entry_written after P =
      record {
        long = P.long ∙ simp length-set;
        bytes = there;
        below = λ j l. P.else j (inl (omega arith)) ∙ else j (omega arith) (omega arith) (omega arith);
        above = λ j l. P.else j (inr (omega arith)) ∙ else j (omega arith) (omega arith) (omega arith);
      }
    where
      there : (k : ℕ) → k < entry_size → get_or after (at + k) 0 ≡ get_or ((class ∷ kind ∷ source ∷ []) ++ bytes_of number_size number) k 0
      there zero l =
          let z : at + 0 ≡ at = omega arith in
          rw z
          (P.else at (inl (omega arith)) ∙ get_or-set_other two (at + 2) at source 0 (omega arith) ∙ get_or-set_other one (at + 1) at kind 0 (omega arith)
          ∙ get_or-set_same before at class 0 (omega arith))
      there (suc zero) l =
          P.else (at + 1) (inl (omega arith)) ∙ get_or-set_other two (at + 2) (at + 1) source 0 (omega arith)
          ∙ get_or-set_same one (at + 1) kind 0 (simp length-set (omega arith))
      there (suc (suc zero)) l = P.else (at + 2) (inl (omega arith)) ∙ get_or-set_same two (at + 2) source 0 (simp length-set (omega arith))
      there (suc (suc (suc k))) l =
          let e : at + suc (suc (suc k)) ≡ at + entry_number_at + k = omega arith in
          ap (λ (x : ℕ). get_or after x 0) e ∙ P.there k (omega arith)

pub first_byte : (slip : List ℕ) (n : ℕ) → KeepsPast 1 slip (set slip 0 n)
first_byte slip n = record { long = length-set slip 0 n; past = λ j l. get_or-set_other slip 0 j n 0 (omega arith) }

-- ---- The loop.

module _ (K : ℕ) (seen : List ℕ) where
  -- The number of entry i.
  abbrev pub found_number : Found → ℕ → ℕ
  found_number f i =
      number_by (source_number (found_entry f i).source) (number_of seen K (found_entry f i).class (found_entry f (next_place f.n i)).class)

  abbrev entry_as : Found → ℕ → List ℕ
  entry_as f i = entry_bytes (found_entry f i) ++ bytes_of number_size (found_number f i)

  -- The entries of the list that is shown, and those behind them.
  entry_is : (f : Found) (i : ℕ) → i < f.n → entry_at (found_entries f) i ≡ found_entry f i
  entry_is f i l = get_d_tabulate f.n (found_entry f) _ i l

  next_is : (f : Found) (i : ℕ) → i < f.n → following (found_entries f) i ≡ found_entry f (next_place f.n i)
  next_is f i l =
      ap (λ (n : ℕ). entry_at (found_entries f) (next_place n i)) (length_tabulate f.n (found_entry f)) ∙ entry_is f (next_place f.n i) (next_below f.n i l)

  number_is : (f : Found) (i : ℕ) → i < f.n → found_number f i ≡ entry_seen (number_of seen K) (found_entries f) i
  number_is f i l =
      sym (ap₂ (λ (a b : Entry). number_by (source_number a.source) (number_of seen K a.class b.class)) (entry_is f i l) (next_is f i l))

  -- The number and the first i entries are written.
  pub record Writing (f : Found) (before : List ℕ) (i : ℕ) (now : List ℕ) : Type 0 where
    pub long : length now ≡ length before
    pub count : get_or now 0 0 ≡ f.n
    pub past : (j : ℕ) → entries_at + entry_size * i ≤ j → get_or now j 0 ≡ get_or before j 0
    pub bytes : (j k : ℕ) → j < i → k < entry_size → get_or now (entries_at + entry_size * j + k) 0 ≡ get_or (entry_as f j) k 0

  module _ {f : Found} {before : List ℕ} where
    pub writing_start : get_or before 0 0 ≡ f.n → Writing f before 0 before
    writing_start count = record { long = refl; count = count; past = λ j l. refl; bytes = λ j k l. absurd (omega arith) }

    pub writing_step : {i kind source number : ℕ} {now after : List ℕ} → Writing f before i now → kind ≡ kind_bit (found_entry f i).kind
        → source ≡ source_number (found_entry f i).source → number ≡ found_number f i
        → EntryWritten now i (found_entry f i).class kind source number after → Writing f before (i + 1) after
    writing_step {i} {kind} {source} {number} {after = after} W p q r w =
        record {
          long = w.long ∙ W.long;
          count = w.below 0 (omega arith) ∙ W.count;
          past = λ j l. w.above j (omega arith) ∙ W.past j (omega arith);
          bytes = λ j k l m. elim (ℕ_discrete j i) [
            | yes e ↦ subst (λ (x : ℕ). get_or after (entries_at + entry_size * x + k) 0 ≡ get_or (entry_as f x) k 0) (sym e) (here k m)
            | no n ↦ w.below (entries_at + entry_size * j + k) (omega arith) ∙ W.bytes j k (omega arith) m
          ];
        }
      where
        same : ((found_entry f i).class ∷ kind ∷ source ∷ []) ++ bytes_of number_size number ≡ entry_as f i
        same =
            ap₂ (λ (a b : ℕ). ((found_entry f i).class ∷ a ∷ b ∷ []) ++ bytes_of number_size number) p q
            ∙ ap (λ (n : ℕ). entry_bytes (found_entry f i) ++ bytes_of number_size n) r

        here : (k : ℕ) → k < entry_size → get_or after (entries_at + entry_size * i + k) 0 ≡ get_or (entry_as f i) k 0
        here k m = w.bytes k m ∙ ap (λ (l : List ℕ). get_or l k 0) same

    pub shown : {slip now : List ℕ} → Writing f before f.n now → KeepsPast 1 slip before → Shown f K seen slip now
    shown W k =
        let long = length_tabulate f.n (found_entry f) in
        record {
          keeps = record { long = W.long ∙ k.long; past = λ j l. W.past j l ∙ k.past j (omega arith) };
          bytes = record {
            count = W.count ∙ sym long;
            entries = λ i j l m.
                let h : i < f.n = rw long at l in
                W.bytes i j h m
                ∙ ap₂ (λ (e : Entry) (n : ℕ). get_or (entry_bytes e ++ bytes_of number_size n) j 0) (sym (entry_is f i h)) (number_is f i h);
          };
        }

-- The words of a class by rank. Assumes nothing.
use mathlib.Core.Path.{◌≡◌, refl, sym, ap, ap₂, ◌∙◌}
use mathlib.Core.List.{List}
use Prim.Native.Nat.{ℕ, zero, suc, ◌+◌, ◌*◌, ◌/◌, ◌%◌, ◌<◌, ◌≤◌, min}
use native.Mathlib.Omega.{arith}
use native.Mathlib.Decide.{ℕ_discrete, dec_lt}
use lib.ListN.{get_or, set, length, length-set}
use lib.Seq.{get_or-set_same, get_or-set_other}
use Rattle.words.specs.Bits.{bit, flag}
use Rattle.rules.specs.HeldLocks.{E, R, N}
use Rattle.rules.specs.Marks.{Level, hard_irq, soft_irq, safe, unsafe}
use Rattle.rules.specs.Graph.{Graph, Source, lock, irq, dependency_by}
use Rattle.rules.specs.Ranks.{kind_of_place, kind_at, source_at}
use Rattle.layout.specs.Layout.{marks_at, mark_of}
use Rattle.search.specs.Rows.{kind_index}
use Rattle.successors.specs.Column.{Columns}
use Rattle.successors.specs.Successors.{level_digit, usage_digit, SafeColumns}
use Rattle.successors.specs.declared.KindWords.{KindWords}
use Rattle.successors.specs.declared.SafeWords.{SafeWords}
use Rattle.successors.proofs.Digits.{column_bit, column_out, columns_at}
use Rattle.successors.proofs.Classes.{safe_at}
use Rattle.successors.proofs.Encoded.{mark_digit, kind_digit, flag_and, flag_true}
use Rattle.starts.specs.Levels.{letter_at}
use Rattle.shortest.specs.Shortest.{Encoded, lock_at, safe_word_at, unsafe_at, digit_by, RankWord, RankWords}

-- ---- By the kind's place.

-- The letters of a kind's place.
pub letter_law : (q : ℕ) → q < 4 → letter_at (q % 2) ≡ (kind_of_place q).second
letter_law zero l = refl
letter_law (suc zero) l = refl
letter_law (suc (suc zero)) l = refl
letter_law (suc (suc (suc zero))) l = refl
letter_law (suc (suc (suc (suc q)))) l = absurd (omega arith)

pub place_of_E : (q : ℕ) → q < 2 → (kind_of_place q).first ≡ E
place_of_E zero l = refl
place_of_E (suc zero) l = refl
place_of_E (suc (suc q)) l = absurd (omega arith)

pub place_of_R : (q : ℕ) → q < 4 → q % 2 ≡ 0 → (kind_of_place q).second ≡ R
place_of_R q l e = sym (letter_law q l) ∙ ap letter_at e

pub place_of_N : (q : ℕ) → q < 4 → (q % 2 ≡ 0 → ⊥) → (kind_of_place q).second ≡ N
place_of_N q l n = let e : q % 2 ≡ 1 = omega arith in sym (letter_law q l) ∙ ap letter_at e

-- ---- The words.

pub record Worded (mark : ℕ) (locks : KindWords) (hard soft : SafeWords) (n : ℕ) (words : List ℕ) : Type 0 where
  pub long : length words ≡ 12
  pub word : (j : ℕ) → j < n → RankWord mark locks hard soft j (get_or words j 0)

pub worded_more : {mark : ℕ} {locks : KindWords} {hard soft : SafeWords} {n word : ℕ} {words : List ℕ} → Worded mark locks hard soft n words → n < 12
    → RankWord mark locks hard soft n word → Worded mark locks hard soft (n + 1) (set words n word)
worded_more {mark} {locks} {hard} {soft} {n} {word} {words} o l r =
    record {
      long = length-set words n word ∙ o.long;
      word = λ j k. elim (ℕ_discrete j n) [
        | yes e ↦ rw (e, get_or-set_same words n word 0 (let z = o.long in omega arith)) r
        | no e ↦ rw (get_or-set_other words n j word 0 e) (o.word j (omega arith))
      ];
    }

module _ {desk sheet : List ℕ} {k c : ℕ} {locks : KindWords} {hard soft : SafeWords} {words : List ℕ}
    (m : Columns sheet (c * k) k locks) (h : SafeColumns desk k (level_digit hard_irq) hard) (s : SafeColumns desk k (level_digit soft_irq) soft)
    (few : k ≤ 64) (less : c < k) (w : Worded (mark_of desk c) locks hard soft 12 words) where
  lock_out : (q t : ℕ) → k ≤ t → bit (lock_at locks q) t ≡ 0
  lock_out q t o = ap (λ (z : ℕ). bit z t) (columns_at sheet (c * k) k locks m (kind_of_place q).first (kind_of_place q).second) ∙ column_out sheet (kind_index (kind_of_place q)) k (c * k) t o

  safe_out : (l : Level) (v : SafeWords) → SafeColumns desk k (level_digit l) v → (q t : ℕ) → k ≤ t → bit (safe_word_at v q) t ≡ 0
  safe_out l v x q t o = ap (λ (z : ℕ). bit z t) (safe_at l (kind_of_place q).second desk k v x) ∙ column_out desk (usage_digit (safe (kind_of_place q).second) + level_digit l) k marks_at t o

  digit_out : (r : Source) (q t : ℕ) → k ≤ t → digit_by r (mark_of desk c) locks hard soft q t ≡ 0
  digit_out lock q t o = lock_out q t o
  digit_out (irq hard_irq) q t o = let z = safe_out hard_irq hard h q t o in omega arith
  digit_out (irq soft_irq) q t o = let z = safe_out soft_irq soft s q t o in omega arith

  module _ (g : Graph) (e : Encoded k g desk sheet) where
    lock_in : (q t : ℕ) → t < k → bit (lock_at locks q) t ≡ flag (g.locks c t (kind_of_place q))
    lock_in q t i =
        ap (λ (z : ℕ). bit z t) (columns_at sheet (c * k) k locks m (kind_of_place q).first (kind_of_place q).second) ∙ column_bit sheet (kind_index (kind_of_place q)) k (c * k) t i
        ∙ kind_digit k e.is_closed e.cores g.marks g.locks desk sheet e.in_desk e.in_sheet c t (kind_of_place q).first (kind_of_place q).second less i

    irq_in : (l : Level) (v : SafeWords) → SafeColumns desk k (level_digit l) v → (q t : ℕ) → t < k
        → min (bit (mark_of desk c) (unsafe_at q + level_digit l)) (bit (safe_word_at v q) t) ≡ flag (dependency_by (irq l) g c t (kind_of_place q))
    irq_in l v x q t i =
        let mark = mark_digit k e.is_closed e.cores g.marks g.locks desk sheet e.in_desk e.in_sheet in
        ap₂ min (mark c l (unsafe (kind_of_place q).first) (omega arith))
        (ap (λ (z : ℕ). bit z t) (safe_at l (kind_of_place q).second desk k v x) ∙ column_bit desk (usage_digit (safe (kind_of_place q).second) + level_digit l) k marks_at t i
        ∙ mark t l (safe (kind_of_place q).second) (omega arith))
        ∙ flag_and (g.marks t l (safe (kind_of_place q).second)) (g.marks c l (unsafe (kind_of_place q).first))

    digit_in : (r : Source) (q t : ℕ) → t < k → digit_by r (mark_of desk c) locks hard soft q t ≡ flag (dependency_by r g c t (kind_of_place q))
    digit_in lock q t i = lock_in q t i
    digit_in (irq hard_irq) q t i = irq_in hard_irq hard h q t i
    digit_in (irq soft_irq) q t i = irq_in soft_irq soft s q t i

  inside : (j t : ℕ) → j < 12 → bit (get_or words j 0) t ≡ 1 → t < k
  inside j t l b = elim (dec_lt t k) [
    | yes i ↦ i
    | no o ↦ let a = (w.word j l).at t in let z = digit_out (source_at j) (j / 3) t (omega arith) in absurd (omega arith)
  ]

  pub rank_words_law : RankWords desk sheet k c words
  rank_words_law =
      record {
        ranged = inside;
        graph = λ g e. record {
          sound = λ j t l b. let i = inside j t l b in (i, flag_true (dependency_by (source_at j) g c t (kind_at j)) (sym (digit_in g e (source_at j) (j / 3) t i) ∙ sym ((w.word j l).at t) ∙ b));
          complete = λ j t l i b. (w.word j l).at t ∙ digit_in g e (source_at j) (j / 3) t i ∙ ap flag b;
        };
      }

pub worded_none : {mark : ℕ} {locks : KindWords} {hard soft : SafeWords} {words : List ℕ} → length words ≡ 12 → Worded mark locks hard soft 0 words
worded_none l = record { long = l; word = λ j k. absurd (omega arith) }

-- Laws of the words of a class and of the rows. Assumes nothing.
use mathlib.Core.Path.{◌≡◌, refl, sym, ap, ap₂, ◌∙◌, subst}
use mathlib.Core.Logic.{◌⊎◌, inl, inr, ⊎_elim}
use mathlib.Core.List.{List}
use Prim.Native.Nat.{ℕ, zero, suc, ◌+◌, ◌-◌, ◌*◌, ◌≤◌, ◌<◌, min, max}
use native.Mathlib.Decide.{dec_lt}
use native.Mathlib.Omega.{arith}
use lib.Arith.{digits_lt}
use lib.ListN.{length, get_or, set, length-set, replicate, length-replicate}
use lib.Seq.{get_or-set_same, get_or-set_other}
use Rattle.words.specs.Bits.{bit}
use Rattle.rules.specs.HeldLocks.{First, Second, E, S, R, N}
use Rattle.rules.specs.Marks.{Level, hard_irq, soft_irq, safe, unsafe}
use Rattle.rules.specs.Graph.{Kind}
use Rattle.layout.specs.Layout.{marks_at, mark_of}
use Rattle.search.specs.Rows.{kind_index}
use Rattle.successors.specs.declared.KindWords.{KindWords}
use Rattle.successors.specs.declared.SafeWords.{SafeWords}
use Rattle.successors.specs.Column.{column, kind_word, Columns}
use Rattle.successors.specs.Successors.{level_digit, usage_digit, safe_of, SafeColumns, WithIrq, RowWord, ClassWords, stored, Filled}
use Rattle.successors.proofs.Digits.{column_bit, column_out, columns_at}

-- A row lies in the sheet.
pub row_inside : {c k n : ℕ} → c < k → k * k ≤ n → c * k + k ≤ n
row_inside {c} {k} {n} h r =
    let l : k - 1 < k = omega arith in
    let d = digits_lt h l in
    omega arith

-- ---- The words of a class.

pub safe_at : (l : Level) (b : Second) (desk : List ℕ) (k : ℕ) (w : SafeWords) → SafeColumns desk k (level_digit l) w
    → safe_of w b ≡ column desk marks_at (usage_digit (safe b) + level_digit l) k
safe_at hard_irq N desk k w s = s.n
safe_at hard_irq R desk k w s = s.r
safe_at soft_irq N desk k w s = s.n
safe_at soft_irq R desk k w s = s.r

module _ (desk sheet : List ℕ) (k c : ℕ) (hard soft : SafeWords) (locks r : KindWords)
    (h : SafeColumns desk k (level_digit hard_irq) hard) (s : SafeColumns desk k (level_digit soft_irq) soft)
    (m : Columns sheet (c * k) k locks) (w : WithIrq (mark_of desk c) hard soft locks r) where
  pub class_law : ClassWords desk sheet k c r
  class_law =
      record {
        word = λ a b.
            let l = columns_at sheet (c * k) k locks m a b in
            let x = safe_at hard_irq b desk k hard h in
            let y = safe_at soft_irq b desk k soft s in
            let d = kind_index (record { first = a; second = b }) in
            let p = usage_digit (safe b) + level_digit hard_irq in
            let q = usage_digit (safe b) + level_digit soft_irq in
            record {
              inside = λ t i.
                  w.at a b t
                  ∙ ap₂ max (ap (λ (z : ℕ). bit z t) l ∙ column_bit sheet d k (c * k) t i)
                  (ap₂ max
                  (ap (λ (z : ℕ). min (bit (mark_of desk c) (usage_digit (unsafe a) + level_digit hard_irq)) z) (ap (λ (z : ℕ). bit z t) x ∙ column_bit desk p k marks_at t i))
                  (ap (λ (z : ℕ). min (bit (mark_of desk c) (usage_digit (unsafe a) + level_digit soft_irq)) z) (ap (λ (z : ℕ). bit z t) y ∙ column_bit desk q k marks_at t i)));
              outside = λ t o.
                  let e = w.at a b t in
                  let f = ap (λ (z : ℕ). bit z t) l ∙ column_out sheet d k (c * k) t o in
                  let g = ap (λ (z : ℕ). bit z t) x ∙ column_out desk p k marks_at t o in
                  let i = ap (λ (z : ℕ). bit z t) y ∙ column_out desk q k marks_at t o in
                  omega arith;
            };
      }

-- ---- The rows.

zeros : (n j : ℕ) → ◌≡◌ {A = ℕ} (get_or (replicate n 0) j 0) 0
zeros zero j = refl
zeros (suc n) zero = refl
zeros (suc n) (suc j) = zeros n j

pub filled_none : (desk sheet : List ℕ) (k : ℕ) → Filled desk sheet k 0 (replicate 256 0)
filled_none desk sheet k =
    record { size = length-replicate {A = ℕ} 256 0; words = λ c kd l. absurd (omega arith); rest = λ j l. zeros 256 j }

module _ (rows : List ℕ) (c : ℕ) (w : KindWords) where
  -- After one, two and three of the four stores.
  abbrev one : List ℕ
  one = set rows (4 * c) w.er

  abbrev two : List ℕ
  two = set one (4 * c + 1) w.en

  abbrev three : List ℕ
  three = set two (4 * c + 2) w.sr

  stored_length : length (stored rows c w) ≡ length rows
  stored_length = simp length-set

  stored_other : (j : ℕ) → (j < 4 * c) ⊎ (4 * c + 4 ≤ j) → get_or (stored rows c w) j 0 ≡ get_or rows j 0
  stored_other j o =
      get_or-set_other three (4 * c + 3) j w.sn 0 (off (4 * c + 3) (omega arith) (omega arith))
      ∙ get_or-set_other two (4 * c + 2) j w.sr 0 (off (4 * c + 2) (omega arith) (omega arith))
      ∙ get_or-set_other one (4 * c + 1) j w.en 0 (off (4 * c + 1) (omega arith) (omega arith))
      ∙ get_or-set_other rows (4 * c) j w.er 0 (off (4 * c) (omega arith) (omega arith))
    where
      off : (i : ℕ) → 4 * c ≤ i → i < 4 * c + 4 → j ≡ i → ⊥
      off i l h e = ⊎_elim (λ x. omega arith) (λ x. omega arith) o

  stored_at : 4 * c + 4 ≤ length rows → (a : First) (b : Second)
      → get_or (stored rows c w) (4 * c + kind_index (record { first = a; second = b })) 0 ≡ kind_word w a b
  stored_at l E R =
      let z : 4 * c + 0 ≡ 4 * c = omega arith in
      rw z
      (get_or-set_other three (4 * c + 3) (4 * c) w.sn 0 (λ e. omega arith)
      ∙ get_or-set_other two (4 * c + 2) (4 * c) w.sr 0 (λ e. omega arith)
      ∙ get_or-set_other one (4 * c + 1) (4 * c) w.en 0 (λ e. omega arith)
      ∙ get_or-set_same rows (4 * c) w.er 0 (omega arith))
  stored_at l E N =
      get_or-set_other three (4 * c + 3) (4 * c + 1) w.sn 0 (λ e. omega arith)
      ∙ get_or-set_other two (4 * c + 2) (4 * c + 1) w.sr 0 (λ e. omega arith)
      ∙ get_or-set_same one (4 * c + 1) w.en 0 (simp length-set (omega arith))
  stored_at l S R =
      get_or-set_other three (4 * c + 3) (4 * c + 2) w.sn 0 (λ e. omega arith)
      ∙ get_or-set_same two (4 * c + 2) w.sr 0 (simp length-set (omega arith))
  stored_at l S N = get_or-set_same three (4 * c + 3) w.sn 0 (simp length-set (omega arith))

pub filled_more : (desk sheet : List ℕ) (k c : ℕ) (rows : List ℕ) (w : KindWords) → c < 64 → Filled desk sheet k c rows
    → ClassWords desk sheet k c w → Filled desk sheet k (c + 1) (stored rows c w)
filled_more desk sheet k c rows w h f n =
    record {
      size = stored_length rows c w ∙ f.size;
      words = λ i kd l. elim (dec_lt i c) [
        | yes old ↦
            subst (λ (x : ℕ). RowWord desk sheet k i kd.first kd.second x)
            (sym (stored_other rows c w (4 * i + kind_index kd) (inl (below i kd old)))) (f.words i kd old)
        | no new ↦
            let e : i ≡ c = omega arith in
            rw e (subst (λ (x : ℕ). RowWord desk sheet k c kd.first kd.second x)
            (sym (stored_at rows c w (let z = f.size in omega arith) kd.first kd.second)) (n.word kd.first kd.second))
      ];
      rest = λ j l. stored_other rows c w j (inr (omega arith)) ∙ f.rest j (omega arith);
    }
  where
    small : (a : First) (b : Second) → kind_index (record { first = a; second = b }) < 4
    small E R = omega arith
    small E N = omega arith
    small S R = omega arith
    small S N = omega arith

    below : (i : ℕ) (kd : Kind) → i < c → 4 * i + kind_index kd < 4 * c
    below i kd l = let z : kind_index kd < 4 = small kd.first kd.second in omega arith

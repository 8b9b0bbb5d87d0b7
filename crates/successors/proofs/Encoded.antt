-- The words are the dependency graph of every state that the bytes encode. Assumes nothing.
use mathlib.Core.Path.{◌≡◌, refl, sym, ap, ap₂, ◌∙◌, subst}
use mathlib.Core.Bool.{Bool, true, false, ◌&&◌, ◌||◌}
use mathlib.Core.List.{List}
use Prim.Native.Nat.{ℕ, ◌+◌, ◌≤◌, ◌<◌, min, max}
use native.Mathlib.Decide.{dec_lt}
use native.Mathlib.Omega.{arith}
use lib.Dec.{ltb}
use lib.ListN.{get_or}
use borrow.Author.Tests.{ltb-true, lt-ltb}
use Rattle.words.specs.Bits.{bit, flag}
use Rattle.words.proofs.Packs.{bit_pack}
use Rattle.rules.specs.HeldLocks.{First, Second, E, S, R, N, Core}
use Rattle.rules.specs.Marks.{Marks, Level, hard_irq, soft_irq, Usage, safe, unsafe}
use Rattle.rules.specs.Graph.{Kind, Graph, Dependencies, lock, irq, dependency_by, dependency}
use Rattle.rules.proofs.Booleans.{and_cases, and_both}
use Rattle.layout.specs.Layout.{mark_of, kinds_of}
use Rattle.layout.specs.Encoding.{DeskBytes, SheetBytes}
use Rattle.layout.proofs.Flags.{mark_flags, kind_flags, mark_packed, kind_packed}
use Rattle.search.specs.Rows.{kind_index, Rows, Ranged}
use Rattle.successors.specs.Successors.{level_digit, usage_digit, dependency_digit, Filled, Successors}

flag_or : (a b : Bool) → max (flag a) (flag b) ≡ flag (a || b)
flag_or true true = refl
flag_or true false = refl
flag_or false true = refl
flag_or false false = refl

or_assoc : (a b c : Bool) → (a || (b || c)) ≡ (a || b || c)
or_assoc true b c = refl
or_assoc false b c = refl

flag_three : (a b c : Bool) → max (flag a) (max (flag b) (flag c)) ≡ flag (a || b || c)
flag_three a b c = ap (max (flag a)) (flag_or b c) ∙ flag_or a (b || c) ∙ ap flag (or_assoc a b c)

pub flag_and : (a b : Bool) → min (flag b) (flag a) ≡ flag (a && b)
flag_and true true = refl
flag_and true false = refl
flag_and false true = refl
flag_and false false = refl

pub flag_true : (a : Bool) → flag a ≡ 1 → a ≡ true
flag_true true h = refl
flag_true false h = absurd (omega arith)

mark_flag : (m : Marks) (c : ℕ) (l : Level) (u : Usage) → (usage_digit u + level_digit l < 8) × (get_or (mark_flags m c) (usage_digit u + level_digit l) false ≡ m c l u)
mark_flag m c hard_irq (safe N) = (omega arith, refl)
mark_flag m c hard_irq (safe R) = (omega arith, refl)
mark_flag m c hard_irq (unsafe E) = (omega arith, refl)
mark_flag m c hard_irq (unsafe S) = (omega arith, refl)
mark_flag m c soft_irq (safe N) = (omega arith, refl)
mark_flag m c soft_irq (safe R) = (omega arith, refl)
mark_flag m c soft_irq (unsafe E) = (omega arith, refl)
mark_flag m c soft_irq (unsafe S) = (omega arith, refl)

kind_flag : (d : Dependencies) (f t : ℕ) (a : First) (b : Second)
    → (kind_index (record { first = a; second = b }) < 4)
    × (get_or (kind_flags d f t) (kind_index (record { first = a; second = b })) false ≡ d f t (record { first = a; second = b }))
kind_flag d f t E R = (omega arith, refl)
kind_flag d f t E N = (omega arith, refl)
kind_flag d f t S R = (omega arith, refl)
kind_flag d f t S N = (omega arith, refl)

ranged_law : (desk sheet : List ℕ) (k : ℕ) (rows : List ℕ) → k ≤ 64 → Filled desk sheet k k rows → Ranged k rows
ranged_law desk sheet k rows h f =
    record {
      few = h;
      inside = λ c kd t l e. elim (dec_lt t k) [ yes i ↦ i | no o ↦ absurd (let z = (f.words c kd l).outside t (omega arith) in omega arith) ];
    }

module _ (K : ℕ) (is_closed : Bool) (cores : ℕ → Core) (marks : Marks) (locks : Dependencies) (desk sheet : List ℕ)
    (s : DeskBytes K is_closed cores marks desk) (m : SheetBytes K locks sheet) where
  pub mark_digit : (c : ℕ) (l : Level) (u : Usage) → c < 64 → bit (mark_of desk c) (usage_digit u + level_digit l) ≡ flag (marks c l u)
  mark_digit c l u h =
      let f = mark_flag marks c l u in
      ap (λ (x : ℕ). bit x (usage_digit u + level_digit l)) (s.usage c h)
      ∙ ap (λ (x : ℕ). bit x (usage_digit u + level_digit l)) (mark_packed marks c)
      ∙ bit_pack 8 (λ i. get_or (mark_flags marks c) i false) (usage_digit u + level_digit l) f.0 ∙ ap flag f.1

  pub kind_digit : (f t : ℕ) (a : First) (b : Second) → f < K → t < K
      → bit (kinds_of sheet K f t) (kind_index (record { first = a; second = b })) ≡ flag (locks f t (record { first = a; second = b }))
  kind_digit f t a b hf ht =
      let e = kind_flag locks f t a b in
      let d = kind_index (record { first = a; second = b }) in
      ap (λ (x : ℕ). bit x d) (m.kinds f t hf ht ∙ kind_packed locks f t) ∙ bit_pack 4 (λ i. get_or (kind_flags locks f t) i false) d e.0 ∙ ap flag e.1

  abbrev graph : Graph
  graph = record { locks = locks; marks = marks }

  abbrev some : (f t : ℕ) → Kind → Bool
  some f t kd = dependency_by lock graph f t kd || dependency_by (irq hard_irq) graph f t kd || dependency_by (irq soft_irq) graph f t kd

  some_digit : (f t : ℕ) (kd : Kind) → K ≤ 64 → f < K → t < K → dependency_digit desk sheet K f t kd.first kd.second ≡ flag (some f t kd)
  some_digit f t kd h hf ht =
      let a = kd.first in
      let b = kd.second in
      ap₂ max (kind_digit f t a b hf ht) (ap₂ max (both hard_irq) (both soft_irq))
      ∙ flag_three (dependency_by lock graph f t kd) (dependency_by (irq hard_irq) graph f t kd) (dependency_by (irq soft_irq) graph f t kd)
    where
      both : (l : Level)
          → min (bit (mark_of desk f) (usage_digit (unsafe kd.first) + level_digit l)) (bit (mark_of desk t) (usage_digit (safe kd.second) + level_digit l))
          ≡ flag (dependency_by (irq l) graph f t kd)
      both l =
          ap₂ min (mark_digit f l (unsafe kd.first) (omega arith)) (mark_digit t l (safe kd.second) (omega arith))
          ∙ flag_and (marks t l (safe kd.second)) (marks f l (unsafe kd.first))

  pub rows_law : (rows : List ℕ) → K ≤ 64 → Filled desk sheet K K rows → Rows K graph rows
  unfolding dependency
  rows_law rows h f =
      record {
        few = h;
        sound = λ c kd t l e.
            let i = (ranged_law desk sheet K rows h f).inside c kd t l e in
            and_both (and_both (lt-ltb c K l) (lt-ltb t K i))
            (flag_true (some c t kd) (sym (some_digit c t kd h l i) ∙ sym ((f.words c kd l).inside t i) ∙ e));
        complete = λ c kd t e.
            let p = and_cases (ltb c K && ltb t K) (some c t kd) e in
            let q = and_cases (ltb c K) (ltb t K) p.0 in
            let l = ltb-true c K q.0 in
            let i = ltb-true t K q.1 in
            (f.words c kd l).inside t i ∙ some_digit c t kd h l i ∙ ap flag p.1;
      }

pub successors_law : (desk sheet : List ℕ) (k : ℕ) (rows : List ℕ) → k ≤ 64 → Filled desk sheet k k rows → Successors desk sheet k rows
successors_law desk sheet k rows h f =
    record {
      graph = λ K is_closed cores marks locks e s m.
          rows_law K is_closed cores marks locks desk sheet s m rows (omega arith) (subst (λ (x : ℕ). Filled desk sheet x x rows) e f);
      ranged = ranged_law desk sheet k rows h f;
      size = f.size;
      rest = f.rest;
    }

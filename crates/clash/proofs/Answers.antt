-- The table's answers, computed once for the entire list, and what they say of the graph that the bytes are. Assumes nothing.
use mathlib.Core.Path.{◌≡◌, refl, sym, ap, ◌∙◌, fun_ext}
use mathlib.Core.Bool.{Bool, true, false, beq, false≢true}
use Rattle.std.specs.Bool.{then_some}
use Rattle.std.specs.Option.{IfSome}
use Rattle.std.specs.List.{list_any}
use Rattle.std.proofs.lemmas.List.{get_or-take, get_or-drop, get_or_default, length-drop, length-take-le}
use Rattle.std.proofs.lemmas.List.Folds.{Any-from_list_any, list_any_at}
use mathlib.Core.List.{List, [], ◌∷◌}
use Prim.Native.Nat.{ℕ, zero, suc, ◌+◌, ◌/◌, ◌%◌, ◌<◌, ◌≤◌}
use native.Mathlib.Omega.{arith}
use lib.Dec.{T, eqb, eqb→eq}
use lib.ListN.{length, get_or, take, drop}
use Rattle.words.proofs.Packs.{flag_back}
use Rattle.rules.specs.HeldLocks.{Core}
use Rattle.rules.specs.Marks.{Marks, mark_bit}
use Rattle.rules.specs.Graph.{Graph, empty_graph}
use Rattle.rules.specs.Cycle.{Entry, Cycle}
use Rattle.rules.proofs.Decided.{in_range, cyclic_sound}
use Rattle.rules.proofs.CycleExists.{cycle_exists}
use Rattle.layout.specs.Layout.{marks_at, mark_of}
use Rattle.layout.specs.Encoding.{DeskBytes}
use Rattle.layout.proofs.Flags.{mark_digit}
use Rattle.context.proofs.Table.{and_also, and_also_left, and_also_right, every, at}
use Rattle.search.specs.Rows.{Rows}
use Rattle.search.specs.Walk.{Decided}
use Rattle.clash.specs.Clash.{clash, marks_in, answer_of, mark_bytes, Answers, Clashing, Bounded, bound_number}
use Rattle.clash.proofs.OneCycle.{clash_exactly}

-- ---- The table.

same_eq : (a b : Bool) → T (beq a b) → a ≡ b
same_eq true true t = refl
same_eq true false t = absurd t
same_eq false true t = absurd t
same_eq false false t = refl

-- The list is as long as there are mark bytes, and each entry is the answer.
abbrev pub is_table : List Bool → Bool
is_table table = and_also (eqb (length table) mark_bytes) (every false (λ byte x. beq x (answer_of byte)) 0 table)

pub table_answers : (table : List Bool) → T (is_table table) → Answers table
table_answers table t =
    let rest = every false (λ byte x. beq x (answer_of byte)) 0 table in
    let long = eqb→eq (length table) mark_bytes (and_also_left (eqb (length table) mark_bytes) rest t) in
    record {
      are = λ byte l.
          same_eq (get_or table byte false) (answer_of byte)
          (at false (λ byte x. beq x (answer_of byte)) table (and_also_right (eqb (length table) mark_bytes) rest t) byte (omega arith));
    }

-- ---- The marks of a class.

marks_in_lem : {K : ℕ} {is_closed : Bool} {cores : ℕ → Core} {marks : Marks} {desk : List ℕ} → DeskBytes K is_closed cores marks desk → (c : ℕ) → c < 64
    → marks_in (mark_of desk c) ≡ marks c
marks_in_lem {marks = marks} s c h = fun_ext (λ l. fun_ext (λ u.
    ap (λ (x : ℕ). eqb (x / mark_bit l u % 2) 1) (s.usage c h) ∙ ap (λ (x : ℕ). eqb x 1) (mark_digit marks c l u) ∙ flag_back (marks c l u)))

-- ---- The marks of all classes.

not_true : {b : Bool} → (b ≡ true → ⊥) → b ≡ false
not_true {b = true} n = absurd (n refl)
not_true {b = false} n = refl

abbrev marks : List ℕ → ℕ → List ℕ
marks desk k = take k (drop marks_at desk)

module _ (desk : List ℕ) (k : ℕ) (long : marks_at + k ≤ length desk) where
  all_marks : length (marks desk k) ≡ k
  all_marks = length-take-le k (drop marks_at desk) (omega (arith, length-drop marks_at desk))

  mark_is : (c : ℕ) → c < k → get_or (marks desk k) c 0 ≡ mark_of desk c
  mark_is c l = get_or-take k (drop marks_at desk) c 0 l ∙ get_or-drop marks_at desk c 0

  by_marks : (b : Bool) → b ≡ list_any answer_of (marks desk k) → Clashing desk k b
  by_marks b e =
      record {
        some = λ q.
            let p = Any-from_list_any answer_of (marks desk k) (sym e ∙ q) in
            let l : p.0 < k = omega (arith, p.2, all_marks) in
            (p.0, l, ap answer_of (sym (mark_is p.0 l) ∙ get_or_default (marks desk k) p.0 0 p.1 p.2 ∙ p.3) ∙ p.4);
        none = λ q c l. not_true
            (λ y. false≢true (sym q ∙ e ∙ list_any_at answer_of (marks desk k) c 0 (omega (arith, all_marks)) (ap answer_of (mark_is c l) ∙ y)));
      }

  pub clashing : {n : ℕ} {b : Bool} → n ≡ k → b ≡ list_any answer_of (take n (drop marks_at desk)) → Clashing desk k b
  clashing {b = b} e h = by_marks b (rw e at h)

-- ---- The bound.

module _ {desk rows : List ℕ} {K : ℕ} (few : K ≤ 64) where
  pub clash_bound : {b : Bool} → Clashing desk K b → b ≡ true → Bounded desk rows K 1
  unfolding answer_of
  clash_bound t q =
      let f = t.some q in
      let l = f.1 in
      record {
        few = omega arith;
        one = λ _ _ _. refl;
        none = λ z. absurd (omega arith);
        some = λ _ is_closed cores g s w.
            let o = (clash_exactly f.0 l).1 (sym (ap clash (marks_in_lem s f.0 (omega arith))) ∙ f.2) in
            (o.entry ∷ [], o.cycle, omega arith);
      }

walk_cycle : {rows : List ℕ} {K : ℕ} {b : Bool} → Decided K rows b → b ≡ true → (g : Graph) → Rows K g rows → (es : List Entry) × Cycle K g es
walk_cycle {K = K} d q g w = cycle_exists (cyclic_sound K g (sym (d.is g w) ∙ q))

module _ {desk rows : List ℕ} {K : ℕ} {a b : Bool} (t : Clashing desk K a) (n : a ≡ false) (d : Decided K rows b) where
  no_yes : (c : ℕ) → c < K → answer_of (mark_of desk c) ≡ true → ⊥
  no_yes c l e = false≢true (sym (t.none n c l) ∙ e)

  pub walk_bound : b ≡ true → Bounded desk rows K K
  walk_bound q =
      record {
        few = omega arith;
        one = λ c l e. absurd (no_yes c l e);
        none = λ z g w. let c = walk_cycle d q g w in absurd (omega (arith, c.1.not_empty, c.1.at_most));
        some = λ _ is_closed cores g s w. let c = walk_cycle d q g w in (c.0, c.1, c.1.at_most);
      }

  pub no_bound : b ≡ false → Bounded desk rows K 0
  no_bound q = record { few = omega arith; one = λ c l e. absurd (no_yes c l e); none = λ _ g w. sym (d.is g w) ∙ q; some = λ l. absurd (omega arith) }

pub bounded : {desk rows : List ℕ} {K : ℕ} {a b : Bool} → Clashing desk K a → a ≡ false → Decided K rows b → Bounded desk rows K (bound_number (then_some b K))
bounded {b = true} t n d = walk_bound t n d refl
bounded {b = false} t n d = no_bound t n d refl

no_rows : (rows : List ℕ) → Rows 0 empty_graph rows
no_rows rows =
    record {
      few = omega arith;
      sound = λ c k t l. absurd (omega arith);
      complete = λ c k t d. let r : c < 0 = (in_range 0 empty_graph c t k d).0 in absurd (omega arith);
    }

-- A graph of no classes has no cycle, so a bound is not 0.
pub positive_bound : {rows : List ℕ} {K : ℕ} {b : Bool} → Decided K rows b → IfSome (then_some b K) (λ n. 0 < n)
positive_bound {b = false} d = tt
positive_bound {rows} {K = zero} {b = true} d = let c = walk_cycle d refl empty_graph (no_rows rows) in absurd (omega (arith, c.1.not_empty, c.1.at_most))
positive_bound {K = suc K} {b = true} d = omega arith

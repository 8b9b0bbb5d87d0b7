-- What a number means over a run: that of the accepted record that first drew a lock dependency at its pair. Assumes nothing.
use mathlib.Core.Path.{◌≡◌, refl, sym, ap, ◌∙◌}
use mathlib.Core.Bool.{Bool, true, false, cond, not, ◌&&◌, ◌||◌, false≢true}
use mathlib.Core.List.{List, [], ◌∷◌}
use Prim.Native.Nat.{ℕ, zero, suc, ◌+◌}
use native.Mathlib.Omega.{arith}
use lib.Dec.{eqb}
use lib.ListN.{length}
use borrow.Author.Tests.{ne_eqb}
use Rattle.rules.specs.Record.{Bytes, core_of}
use Rattle.rules.specs.Graph.{Kind, Dependencies}
use Rattle.rules.specs.KindNames.{ER, EN, SR, SN, some_kind}
use Rattle.rules.specs.Run.{Journal, with_record, State, drawn_with, Result, step, run}
use Rattle.rules.specs.Balance.{is_accepted}
use Rattle.rules.specs.FirstSeen.{drawings, one_later, first_drawn, number_after}
use Rattle.rules.specs.Join.{first_or}
use Rattle.rules.proofs.Steps.{StepCases, was_refused, was_clean, was_fault, stepped}

-- A journal with several records more.
abbrev with_records : Journal → List Dependencies → Journal
with_records j [] = j
with_records j (d ∷ ds) = with_records (with_record d j) ds

run_journal : (K : ℕ) (s : State) (rs : List Bytes) → (run K s rs).journal ≡ with_records s.journal (drawings K s rs)
run_journal K s [] = refl
run_journal K s (r ∷ rs) = by (step K s r) (stepped K s r) (run_journal K (step K s r).state rs)
  where
    by : (o : Result) → StepCases K s r o → (run K o.state rs).journal ≡ with_records o.state.journal (drawings K o.state rs)
        → (run K o.state rs).journal
        ≡ with_records s.journal (cond (is_accepted o.answer) (drawn_with (s.cores (core_of r)) s.cross r ∷ drawings K o.state rs) (drawings K o.state rs))
    by o (was_refused x e) h = h
    by o (was_clean e c) h = h
    by o (was_fault e c) h = h

-- ---- A list of drawings, over any journal.

count_drawn : (j : Journal) (ds : List Dependencies) → (with_records j ds).accepted ≡ j.accepted + length ds
count_drawn j [] = omega arith
count_drawn j (d ∷ ds) = let h = count_drawn (with_record d j) ds in omega arith

pub suc_not_zero : (n : ℕ) → eqb (suc n) 0 ≡ false
suc_not_zero n = ne_eqb (suc n) 0 (λ e. omega arith)

-- A pair that has a number keeps it.
number_kept : (j : Journal) (f t n : ℕ) (ds : List Dependencies) → j.seen f t ≡ suc n → (with_records j ds).seen f t ≡ suc n
number_kept j f t n [] h = h
number_kept j f t n (d ∷ ds) h = number_kept (with_record d j) f t n ds (rw (h, suc_not_zero n) refl)

-- A number counted from where a journal stands.
abbrev behind : ℕ → ℕ → ℕ
behind accepted zero = zero
behind accepted (suc n) = accepted + suc n

behind_later : (accepted n : ℕ) → behind (suc accepted) n ≡ behind accepted (one_later n)
behind_later accepted zero = refl
behind_later accepted (suc n) = omega arith

behind_none : (n : ℕ) → behind 0 n ≡ n
behind_none zero = refl
behind_none (suc n) = omega arith

number_first : (j : Journal) (f t : ℕ) (ds : List Dependencies) → j.seen f t ≡ 0 → (with_records j ds).seen f t ≡ behind j.accepted (first_drawn f t ds)
number_first j f t [] h = h
number_first j f t (d ∷ ds) h = by (some_kind (d f t)) refl (number_first (with_record d j) f t ds)
  where
    by : (b : Bool) → some_kind (d f t) ≡ b
        → ((with_record d j).seen f t ≡ 0 → (with_records (with_record d j) ds).seen f t ≡ behind (suc j.accepted) (first_drawn f t ds))
        → (with_records (with_record d j) ds).seen f t ≡ behind j.accepted (cond b 1 (one_later (first_drawn f t ds)))
    by true e ih = number_kept (with_record d j) f t j.accepted ds (rw (h, e) refl) ∙ omega arith
    by false e ih = ih (rw (h, e) refl) ∙ behind_later j.accepted (first_drawn f t ds)

-- ---- From a state with no record counted.

module _ (K : ℕ) (s : State) (fresh : s.journal.accepted ≡ 0) (rs : List Bytes) where
  -- The count is the number of accepted records.
  pub accepted_counted : (run K s rs).journal.accepted ≡ length (drawings K s rs)
  accepted_counted =
      let e = ap (λ (j : Journal). j.accepted) (run_journal K s rs) in
      let h = count_drawn s.journal (drawings K s rs) in
      omega arith

  -- A pair that has no number at the start gets that of the accepted record that first drew a lock dependency there, counted among the accepted ones
  -- from 1; one that has a number keeps it.
  pub first_seen : (f t : ℕ) → (run K s rs).journal.seen f t ≡ number_after K s rs f t
  first_seen f t = ap (λ (j : Journal). j.seen f t) (run_journal K s rs) ∙ by (s.journal.seen f t) refl
    where
      by : (n : ℕ) → s.journal.seen f t ≡ n → (with_records s.journal (drawings K s rs)).seen f t ≡ first_or n (first_drawn f t (drawings K s rs))
      by zero e =
          number_first s.journal f t (drawings K s rs) e
          ∙ ap (λ (a : ℕ). behind a (first_drawn f t (drawings K s rs))) fresh
          ∙ behind_none (first_drawn f t (drawings K s rs))
      by (suc n) e = number_kept s.journal f t n (drawings K s rs) e ∙ rw (suc_not_zero n) refl

-- ---- A number stands exactly where a lock dependency was drawn.

either_kind : (d e : Kind → Bool) → some_kind (λ k. d k || e k) ≡ (some_kind d || some_kind e)
either_kind d e = by (d ER) (d EN) (d SR) (d SN) (e ER) (e EN) (e SR) (e SN)
  where
    by : (a b c d p q r s : Bool) → (((a || p) || (b || q)) || ((c || r) || (d || s))) ≡ (((a || b) || (c || d)) || ((p || q) || (r || s)))
    by true b c d p q r s = refl
    by false true c d true q r s = refl
    by false true c d false q r s = refl
    by false false true d true q r s = refl
    by false false true d false true r s = refl
    by false false true d false false r s = refl
    by false false false true true q r s = refl
    by false false false true false true r s = refl
    by false false false true false false true s = refl
    by false false false true false false false s = refl
    by false false false false p q r s = refl

-- One record keeps that so.
pub numbered_kept : (j : Journal) (locks d : Dependencies) (f t : ℕ) → eqb (j.seen f t) 0 ≡ not (some_kind (locks f t))
    → eqb ((with_record d j).seen f t) 0 ≡ not (some_kind (λ k. locks f t k || d f t k))
numbered_kept j locks d f t h = by (eqb (j.seen f t) 0) refl (some_kind (d f t)) (some_kind (locks f t)) h ∙ ap not (sym (either_kind (locks f t) (d f t)))
  where
    by : (z : Bool) → eqb (j.seen f t) 0 ≡ z → (drawn old : Bool) → z ≡ not old
        → eqb (cond (z && drawn) (suc j.accepted) (j.seen f t)) 0 ≡ not (old || drawn)
    by true e true false q = suc_not_zero j.accepted
    by true e false false q = e
    by false e drawn true q = e
    by true e drawn true q = cc
    by false e drawn false q = cc

-- And of two joined benches.
pub numbered_joined : (n m : ℕ) (d e : Kind → Bool) → eqb n 0 ≡ not (some_kind d) → eqb m 0 ≡ not (some_kind e)
    → eqb (first_or n m) 0 ≡ not (some_kind (λ k. d k || e k))
numbered_joined n m d e p q = by (eqb n 0) refl (some_kind d) (some_kind e) p q ∙ ap not (sym (either_kind d e))
  where
    by : (z : Bool) → eqb n 0 ≡ z → (x y : Bool) → z ≡ not x → eqb m 0 ≡ not y → eqb (cond z m n) 0 ≡ not (x || y)
    by true h false y a b = b
    by false h true y a b = h
    by true h true y a b = absurd (false≢true (sym a))
    by false h false y a b = absurd (false≢true a)

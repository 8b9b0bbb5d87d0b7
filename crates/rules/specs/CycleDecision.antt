-- The least cycle, worked out by trying all lists of entries in their order. proofs/LeastCycles.antt shows that it is the least.
use Rattle.std.specs.Prelude.{Bool, true, cond, not, ◌&&◌, List, [], ◌∷◌, ℕ, zero, suc, ◌*◌, ltb, eqb, length}
use Rattle.std.proofs.Math.Option.{Option, none, some}
use Rattle.rules.specs.Graph.{Graph, dependency_by}
use Rattle.rules.specs.StrongPath.{strong_joint}
use Rattle.rules.specs.Cycle.{Entry, entry_at, following}
use Rattle.rules.specs.Ranks.{rank_count, numbered}

abbrev pub all_below : ℕ → (ℕ → Bool) → Bool
all_below zero test = true
all_below (suc n) test = test n && all_below n test

-- What `Cycle` asks of place i.
abbrev pub cycle_at : ℕ → Graph → List Entry → ℕ → Bool
cycle_at K g es i =
    let e = entry_at es i in
    let f = following es i in
    dependency_by e.source g e.class f.class e.kind
    && (strong_joint e.kind.second f.kind.first
    && (ltb e.class K && (ltb (entry_at es 0).class (suc e.class) && all_below i (λ j. not (eqb (entry_at es j).class e.class)))))

unfoldable pub is_cycle : ℕ → Graph → List Entry → Bool
is_cycle K g es = ltb 0 (length es) && (ltb (length es) (suc K) && all_below (length es) (cycle_at K g es))

abbrev pub or_else : Option (List Entry) → Option (List Entry) → Option (List Entry)
or_else none f = f
or_else (some es) f = some es

abbrev pub put_first : Entry → Option (List Entry) → Option (List Entry)
put_first e none = none
put_first e (some es) = some (e ∷ es)

-- The first that one of the n numbers from i on gives.
abbrev pub first_from : ℕ → ℕ → (ℕ → Option (List Entry)) → Option (List Entry)
first_from zero i try = none
first_from (suc n) i try = or_else (try i) (first_from n (suc i) try)

-- The first list of n entries of classes below K that passes the test.
abbrev pub first_list : ℕ → ℕ → (List Entry → Bool) → Option (List Entry)
first_list K zero test = cond (test []) (some []) none
first_list K (suc n) test = first_from (rank_count * K) 0 (λ i. put_first (numbered i) (first_list K n (λ es. test (numbered i ∷ es))))

unfoldable pub least_cycle : ℕ → Graph → Option (List Entry)
least_cycle K g = first_from K 1 (λ n. first_list K n (is_cycle K g))

-- What is chosen entry by entry from the right start is the least cycle. Assumes nothing.
use mathlib.Core.Path.{◌≡◌, refl, sym, ◌∙◌, subst}
use mathlib.Core.Bool.{true, false≢true}
use mathlib.Core.List.{List, [], ◌∷◌, ◌++◌}
use mathlib.Core.Logic.{⊎_elim}
use Prim.Native.Nat.{ℕ, suc, ◌<◌, ◌≤◌}
use native.Mathlib.Omega.{arith}
use native.Mathlib.Decide.{ℕ_discrete, dec_lt}
use lib.ListN.{length}
use borrow.Author.Tests.{lt-ltb, le-ltb}
use Rattle.rules.specs.HeldLocks.{First, Second, E, S, R, N}
use Rattle.rules.specs.Graph.{Graph}
use Rattle.rules.specs.StrongPath.{strong_joint}
use Rattle.rules.specs.Cycle.{Entry, entry_at, following, Cycle}
use Rattle.rules.specs.LeastCycle.{triples, NotAfter, ends, LeastCycle}
use Rattle.rules.specs.Ranks.{kind_place_by}
use Rattle.rules.specs.Rounds.{Route, stay, pass, Round}
use Rattle.rules.proofs.Rounds.{raise, repeats, turned}
use Rattle.rules.proofs.CycleExists.{following_at, Leads, first_entry, round_cycle}
use Rattle.rules.proofs.Ranks.{source_less, rank_less, number_before, number_same, same_entry}
use Rattle.search.proofs.Visits.{after_N}
use Rattle.routes.specs.Routes.{widest, Step, Home, Start, Greedy, done, choose}

pub after_E : (b : Second) → strong_joint b E ≡ true
after_E R = refl
after_E N = refl

pub covers : (b : Second) → strong_joint b (widest b) ≡ true
covers R = refl
covers N = refl

pub first_E : (a : First) → strong_joint R a ≡ true → a ≡ E
first_E E j = refl
first_E S j = absurd (false≢true j)

pub place_E : (a : First) (b : Second) → a ≡ E → kind_place_by a b ≤ 1
place_E a R q = rw q (omega arith)
place_E a N q = rw q (omega arith)

place_S : (a : First) (b : Second) → a ≡ S → 2 ≤ kind_place_by a b
place_S a R q = rw q (omega arith)
place_S a N q = rw q (omega arith)

-- E comes before S.
letters_before : (es fs : List Entry) → 1 ≤ length es → 1 ≤ length fs → (entry_at es 0).class ≡ (entry_at fs 0).class → (entry_at es 0).kind.first ≡ E
    → (entry_at fs 0).kind.first ≡ S → NotAfter (triples es) (triples fs)
letters_before [] fs l m p q u = absurd (omega arith)
letters_before (e ∷ es) [] l m p q u = absurd (omega arith)
letters_before (e ∷ es) (f ∷ fs) l m p q u =
    number_before e f es fs
    (omega (arith, source_less e.source, place_E e.kind.first e.kind.second q, place_S f.kind.first f.kind.second u))

-- Of two lists as long the one from the lower class is not after.
class_before : {z y : ℕ} (es fs : List Entry) → (1 ≤ length es → (entry_at es 0).class ≡ z) → (1 ≤ length fs → (entry_at fs 0).class ≡ y) → length fs ≡ length es
    → z < y → NotAfter (triples es) (triples fs)
class_before [] fs p q l k = ends
class_before (e ∷ es) [] p q l k = absurd (omega arith)
class_before (e ∷ es) (f ∷ fs) p q l k =
    let a = p (omega arith) in
    let b = q (omega arith) in
    number_before e f es fs (omega (arith, rank_less e.kind e.source))

module _ {K : ℕ} {g : Graph} where
  -- ---- Steps and routes.

  pub step : {x z y : ℕ} {b d : Second} {e : Entry} {es : List Entry} → Step K g x b e z → Route K g z e.kind.second es y d → Route K g x b (e ∷ es) y d
  step {y = y} {b} {d} {e} {es} s r = subst (λ (x : ℕ). Route K g x b (e ∷ es) y d) s.class (pass s.leg s.strong r)

  pub stays : {x y : ℕ} {b d : Second} {es : List Entry} → Route K g x b es y d → length es ≡ 0 → (x ≡ y) × (b ≡ d)
  stays stay l = (refl, refl)
  stays (pass s j w) l = absurd (omega arith)

  -- ---- Rounds, and what leads home from the start.

  route_round : {c : ℕ} {es : List Entry} (h d : Second) → Route K g c h es c d → strong_joint d (widest h) ≡ true → 1 ≤ length es → Round K g c es
  route_round R R r k m = record { letter = R; route = r; not_empty = m }
  route_round h N r k m = record { letter = N; route = raise r m; not_empty = m }
  route_round N R r k m = absurd (false≢true k)

  pub home_round : {c n : ℕ} {h : Second} (o : Home K g c h n c h) → 1 ≤ n → Round K g c o.entries
  home_round {h = h} o l = route_round h o.ends_by o.route o.closing (omega (arith, o.long))

  abbrev pub round_home : {c : ℕ} {es : List Entry} (r : Round K g c es) → Home K g c r.letter (length es) c r.letter
  round_home {es = es} r = record { entries = es; ends_by = r.letter; route = r.route; closing = covers r.letter; long = refl }

  -- The entries of a cycle lead home from its first class, as after any letter that its first may follow.
  along : (es : List Entry) (f : Entry) → ((i : ℕ) → i < length es → Leads K g (entry_at es i) (entry_at (es ++ f ∷ []) (suc i))) → (b : Second)
      → strong_joint b (entry_at (es ++ f ∷ []) 0).kind.first ≡ true
      → (d : Second) × Route K g (entry_at (es ++ f ∷ []) 0).class b es f.class d × (strong_joint d f.kind.first ≡ true)
  along [] f h b j = (b, stay, j)
  along (e ∷ es) f h b j =
      let l = h 0 (omega arith) in
      let r = along es f (λ i m. h (suc i) (omega arith)) e.kind.second l.strong.strong in
      (r.0, pass l.leg j r.1, r.2)

  cycle_leads : (es : List Entry) → Cycle K g es → (i : ℕ) → i < length es → Leads K g (entry_at es i) (entry_at (es ++ entry_at es 0 ∷ []) (suc i))
  cycle_leads es c i l =
      rw (following_at es i l)
      (record {
        leg = record { in_range = c.in_range i l; to_range = next_in_range; drawn = c.drawn i l };
        strong = c.strong i l;
      })
    where
      next_in_range : (following es i).class < K
      next_in_range = elim (dec_lt (suc i) (length es)) [
        | yes k ↦ rw (lt-ltb (suc i) (length es) k) (c.in_range (suc i) k)
        | no k ↦ rw (le-ltb (suc i) (length es) (omega arith)) (c.in_range 0 c.not_empty)
      ]

  cycle_route : (es : List Entry) → Cycle K g es → (b : Second) → strong_joint b (entry_at es 0).kind.first ≡ true
      → (d : Second) × Route K g (entry_at es 0).class b es (entry_at es 0).class d × (strong_joint d (entry_at es 0).kind.first ≡ true)
  cycle_route [] c b j = absurd (omega (arith, c.not_empty))
  cycle_route (e ∷ es) c b j = along (e ∷ es) e (cycle_leads (e ∷ es) c) b j

  pub cycle_round : (es : List Entry) → Cycle K g es → Round K g (entry_at es 0).class es
  cycle_round es c = by (entry_at es 0).kind.first refl
    where
      by : (a : First) → (entry_at es 0).kind.first ≡ a → Round K g (entry_at es 0).class es
      by E q = let r = cycle_route es c R (rw q refl) in route_round R r.0 r.1 (after_E r.0) c.not_empty
      by S q = let r = cycle_route es c N (after_N (entry_at es 0).kind.first) in
          route_round N r.0 r.1 (subst (λ (a : First). strong_joint r.0 a ≡ true) q r.2) c.not_empty

  begins : {x y : ℕ} {b d : Second} {es : List Entry} → Route K g x b es y d → 1 ≤ length es → (entry_at es 0).class ≡ x
  begins r l = (first_entry r l).0

  -- ---- Greedy choice.

  module _ {c : ℕ} {h : Second} where
    pub greedy_route : {x : ℕ} {b : Second} {es : List Entry} → Greedy K g c h x b es → (d : Second) × Route K g x b es c d × (strong_joint d (widest h) ≡ true)
    greedy_route (done {b = b} k) = (b, stay, k)
    greedy_route (choose p r) = let w = greedy_route r in (w.0, step p.step w.1, w.2)

    -- A route home that is as long is not before.
    pub greedy_first : {x : ℕ} {b d : Second} {es fs : List Entry} → Greedy K g c h x b es → Route K g x b fs c d → strong_joint d (widest h) ≡ true
        → length fs ≡ length es → NotAfter (triples es) (triples fs)
    greedy_first (done k) w j l = ends
    greedy_first (choose p r) stay j l = absurd (omega arith)
    greedy_first {d = d} (choose {z = z} {e = e} {es = es} p r) (pass {z = y} {e = f} {es = fs} s i w) j l =
        let m : length fs ≡ length es = omega arith in
        let same_Class = p.step.class in
        ⊎_elim (λ k. number_before e f es fs (omega arith))
        (λ k. let q : e ≡ f = number_same e f (let v = k.0 in omega arith) in
        let k1 = k.1 in
        same_entry es fs q (elim (ℕ_discrete z y) [
          | yes o ↦ greedy_first r (subst (λ (v : ℕ). Route K g v e.kind.second fs c d) (sym o)
              (subst (λ (v : Entry). Route K g y v.kind.second fs c d) (sym q) w)) j m
          | no o ↦ class_before es fs (begins (greedy_route r).1) (begins w) m (omega arith)
        ]))
        (p.first f y (record { class = refl; leg = s; strong = i }) (record { entries = fs; ends_by = d; route = w; closing = j; long = m }))

  -- ---- The least cycle.

  module _ {n c : ℕ} {b : Second} {es : List Entry} (t : Start K g n c b) (r : Greedy K g c b c b es) (long : length es ≡ n) where
    round : Round K g c es
    round = let w = greedy_route r in route_round b w.0 w.1 w.2 (omega (arith, t.some))

    -- A shortest round from the lowest class is a cycle.
    cycle : Cycle K g es
    cycle =
        round_cycle round
        (λ i j l m q. let s = repeats round i j l m q in let k = t.fewest s.at s.entries s.round in let o = s.less in absurd (omega arith))
        (λ i l k. let u = turned round i l in let o = t.lowest (entry_at es i).class u.0 u.1 (u.2 ∙ long) in omega arith)

    after_start : (fs : List Entry) (k : Cycle K g fs) → c ≡ (entry_at fs 0).class → length fs ≡ length es → (o : Second) → b ≡ o
        → (a : First) → (entry_at fs 0).kind.first ≡ a → NotAfter (triples es) (triples fs)
    after_start fs k p l o q a u = by o q a u
      where
        from_start : (h : Second) → b ≡ h → strong_joint h (entry_at fs 0).kind.first ≡ true → ((d : Second) → strong_joint d (entry_at fs 0).kind.first ≡ true → strong_joint d (widest h) ≡ true)
            → NotAfter (triples es) (triples fs)
        from_start h q j w =
            let v = cycle_route fs k h j in
            greedy_first r (subst (λ (x : ℕ). Route K g x b fs x v.0) (sym p) (subst (λ (y : Second). Route K g (entry_at fs 0).class y fs (entry_at fs 0).class v.0) (sym q) v.1))
            (subst (λ (y : Second). strong_joint v.0 (widest y) ≡ true) (sym q) (w v.0 v.2)) l

        by : (o : Second) → b ≡ o → (a : First) → (entry_at fs 0).kind.first ≡ a → NotAfter (triples es) (triples fs)
        by R q E u = from_start R q (rw u refl) (λ d z. after_E d)
        by N q S u = from_start N q (after_N (entry_at fs 0).kind.first) (λ d z. subst (λ (v : First). strong_joint d v ≡ true) u z)
        by N q E u = let v = cycle_route fs k R (rw u refl) in
            absurd (t.letter q (record { entries = fs; ends_by = v.0; route = subst (λ (x : ℕ). Route K g x R fs x v.0) (sym p) v.1; closing = after_E v.0; long = l ∙ long }))
        by R q S u = letters_before es fs round.not_empty k.not_empty (begins round.route round.not_empty ∙ p)
            (first_E (entry_at es 0).kind.first (subst (λ (y : Second). strong_joint y (entry_at es 0).kind.first ≡ true) q (first_entry (greedy_route r).1 round.not_empty).1)) u

    pub least_law : LeastCycle K g es
    least_law =
        record {
          cycle = cycle;
          fewest = λ fs k. rw long (t.fewest (entry_at fs 0).class fs (cycle_round fs k));
          first = λ fs k l. elim (ℕ_discrete c (entry_at fs 0).class) [
            | yes q ↦ after_start fs k q l b refl (entry_at fs 0).kind.first refl
            | no q ↦ class_before es fs (begins round.route) (λ _. refl) l (omega (arith, t.lowest (entry_at fs 0).class fs (cycle_round fs k) (l ∙ long)))
          ];
        }

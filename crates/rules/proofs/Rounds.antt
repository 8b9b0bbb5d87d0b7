-- Rounds of dependencies: one that passes a class twice has a shorter one in it, and one may begin at any of its classes. Assumes nothing.
use mathlib.Core.Path.{◌≡◌, ap, ◌∙◌}
use mathlib.Core.List.{List, ◌++◌}
use Prim.Native.Nat.{ℕ, zero, suc, ◌+◌, ◌<◌, ◌≤◌}
use native.Mathlib.Omega.{arith}
use lib.ListN.{length, take, drop, length-append, length-take, length-drop}
use lib.Seq.{get_or-take}
use Rattle.rules.specs.HeldLocks.{Second, R, N}
use Rattle.rules.specs.Graph.{Graph}
use Rattle.rules.specs.Cycle.{Entry, entry_at}
use Rattle.rules.specs.Rounds.{Route, stay, pass, Round}
use Rattle.rules.proofs.Decided.{joint_after_N}

-- A round of fewer than n entries.
pub record Shorter (K : ℕ) (g : Graph) (n : ℕ) : Type 0 where
  pub at : ℕ
  pub entries : List Entry
  pub round : Round K g at entries
  pub less : length entries < n

module _ {K : ℕ} {g : Graph} where
  pub connect : {x y z : ℕ} {b d f : Second} {es fs : List Entry} → Route K g x b es y d → Route K g y d fs z f → Route K g x b (es ++ fs) z f
  connect stay v = v
  connect (pass s j w) v = pass s j (connect w v)

  -- What goes on after R goes on after N.
  pub raise : {x y : ℕ} {b d : Second} {es : List Entry} → Route K g x b es y d → 1 ≤ length es → Route K g x N es y d
  raise stay l = absurd (omega arith)
  raise (pass {e = e} s j w) l = pass s (joint_after_N K g e.kind.first) w

  -- A route, cut before its entry i.
  pub cut : {x y : ℕ} {b d : Second} {es : List Entry} → Route K g x b es y d → (i : ℕ) → i < length es
      → (a : Second) × Route K g x b (take i es) (entry_at es i).class a × Route K g (entry_at es i).class a (drop i es) y d
  cut stay i l = absurd (omega arith)
  cut (pass {b = b} s j w) zero l = (b, stay, pass s j w)
  cut (pass s j w) (suc i) l = let u = cut w i (omega arith) in (u.0, pass s j u.1, u.2)

  shorter : {n c : ℕ} {b : Second} {es : List Entry} → Route K g c b es c b → 1 ≤ length es → length es < n → Shorter K g n
  shorter {c = c} {b} {es} u l k = record { at = c; entries = es; round = record { letter = b; route = u; not_empty = l }; less = k }

  -- A round through class z twice, arrived at first by b and then by d: without what lies between it is a round, or what lies between is one.
  shorten : {n c z : ℕ} {h : Second} {p q r : List Entry} (b d : Second) → Route K g c h p z b → Route K g z b q z d → Route K g z d r c h
      → 1 ≤ length q → 1 ≤ length r → length q < n → length p + length r < n → Shorter K g n
  shorten b N u v w lq lr k m = shorter (raise v lq) lq k
  shorten R R u v w lq lr k m = shorter v lq k
  shorten {p = p} {r = r} N R u v w lq lr k m = let l = length-append p r in shorter (connect u (raise w lr)) (omega arith) (omega arith)

  -- A round that passes a class twice has a shorter round in it.
  pub repeats : {c : ℕ} {es : List Entry} → Round K g c es → (i j : ℕ) → i < j → j < length es
      → (entry_at es i).class ≡ (entry_at es j).class → Shorter K g (length es)
  repeats {es = es} r i j l m q =
      let v = cut r.route j m in
      let u = cut v.1 i (rw length-take (omega arith)) in
      let same : (entry_at (take j es) i).class ≡ (entry_at es j).class = ap (λ (e : Entry). e.class) (get_or-take j es i _ l) ∙ q in
      shorten u.0 v.0 (rw same at u.1) (rw same at u.2) v.2 (simp (length-drop, length-take) (omega arith))
      (simp length-drop (omega arith)) (simp (length-drop, length-take) (omega arith)) (simp (length-drop, length-take) (omega arith))

  -- The round that begins at entry i instead.
  pub turned : {c : ℕ} {es : List Entry} → Round K g c es → (i : ℕ) → i < length es
      → (fs : List Entry) × Round K g (entry_at es i).class fs × (length fs ≡ length es)
  turned {es = es} r i l =
      let u = cut r.route i l in
      let n : length (drop i es ++ take i es) ≡ length es = simp (length-append, length-drop, length-take) (omega arith) in
      (drop i es ++ take i es, record { letter = u.0; route = connect u.2 u.1; not_empty = omega (arith, r.not_empty) }, n)

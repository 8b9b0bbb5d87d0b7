-- Laws of the sets of arrivals from which dependencies lead home. Assumes nothing.
use mathlib.Core.Path.{◌≡◌, refl, sym, ap, ◌∙◌, subst}
use mathlib.Core.Bool.{Bool, true, false, false≢true}
use mathlib.Core.Logic.{inl, inr, ⊎_elim}
use mathlib.Core.List.{List, [], ◌∷◌}
use Prim.Native.Nat.{ℕ, zero, suc, ◌+◌, ◌-◌, ◌*◌, ◌<◌, ◌≤◌}
use native.Mathlib.Omega.{arith}
use native.Mathlib.Decide.{ℕ_discrete, dec_le}
use lib.ListN.{get_or, set, length, drop, length-set, length-drop}
use lib.Seq.{get_or-set_same, get_or-set_other}
use Rattle.words.specs.Bits.{bit}
use Rattle.rules.specs.HeldLocks.{First, Second, E, S, R, N}
use Rattle.rules.specs.Graph.{Graph, dependency_by}
use Rattle.rules.specs.StrongPath.{strong_joint}
use Rattle.rules.specs.Cycle.{Entry, entry_at}
use Rattle.rules.specs.Rounds.{Route, stay, pass}
use Rattle.rules.proofs.Cycles.{some_source}
use Rattle.rules.proofs.CycleExists.{source_of}
use Rattle.rules.proofs.Decided.{in_range}
use Rattle.rules.proofs.Rounds.{cut}
use Rattle.search.specs.Rows.{Successor}
use Rattle.search.specs.Arrivals.{none, In, Put}
use Rattle.search.specs.Letters.{Successors, HasNone}
use Rattle.search.specs.Walk.{Meets}
use Rattle.search.specs.declared.Arrivals.{Arrivals}
use Rattle.search.proofs.Sets.{no_arrival}
use Rattle.routes.specs.Routes.{widest, Step, Home}
use Rattle.starts.specs.Levels.{LeadsInto, LeadsBy, Widened, Behind, AtHome, Above, stored, level_at, level_words, Level, NoneUpTo, Filled}
use Rattle.routes.proofs.Routes.{after_E, stays}

-- ---- One class.

pub leads_by : {rows : List ℕ} {x : ℕ} {f : First} {s t : Arrivals} {r : Bool} → Successors rows x f t → Meets t s r → LeadsBy rows x f s r
leads_by {rows} {x} {f} {s} {t} k m =
    record {
      yes' = λ e. let p = m.some e in (p.1, p.0, subst (λ (w : ℕ). bit w p.0 ≡ 1) (k p.1) p.2, p.3);
      no' = λ e b y h i. m.none e y b (subst (λ (w : ℕ). bit w y ≡ 1) (sym (k b)) h) i;
    }

module _ {rows : List ℕ} {x : ℕ} {s : Arrivals} where
  by_E : LeadsBy rows x E s true → (b : Second) → LeadsInto rows s x b
  by_E l b = let p = l.yes' refl in record { kind = record { first = E; second = p.0 }; to = p.1; strong = after_E b; drawn = p.2; into = p.3 }

  by_S : LeadsBy rows x S s true → LeadsInto rows s x N
  by_S l = let p = l.yes' refl in record { kind = record { first = S; second = p.0 }; to = p.1; strong = refl; drawn = p.2; into = p.3 }

  not_by : (f : First) → LeadsBy rows x f s false → (b : Second) (l : LeadsInto rows s x b) → l.kind.first ≡ f → ⊥
  not_by f n b l e =
      n.no' refl l.kind.second l.to
      (subst (λ (o : First). Successor rows x (record { first = o; second = l.kind.second }) l.to) e l.drawn) l.into

  not_R : LeadsBy rows x E s false → LeadsInto rows s x R → ⊥
  not_R n l = by l.kind.first refl
    where
      by : (a : First) → l.kind.first ≡ a → ⊥
      by E e = not_by E n R l e
      by S e = false≢true (subst (λ (o : First). strong_joint R o ≡ true) e l.strong)

  not_N : LeadsBy rows x E s false → LeadsBy rows x S s false → LeadsInto rows s x N → ⊥
  not_N n m l = by l.kind.first refl
    where
      by : (a : First) → l.kind.first ≡ a → ⊥
      by E e = not_by E n N l e
      by S e = not_by S m N l e

  pub widened_e : {out t r : Arrivals} → LeadsBy rows x E s true → Put x R out t → Put x N t r → Widened rows x s out r
  widened_e l p q =
      record {
        kept = λ j b h. q.kept j b (p.kept j b h);
        there = elim [ R ↦ λ _. q.kept x R p.there | N ↦ λ _. q.there ];
        only = λ j b h. ⊎_elim (λ y. ⊎_elim (λ z. inl z) (λ e. inr (e.0, by_E l b)) (p.only j b y)) (λ e. inr (e.0, by_E l b)) (q.only j b h);
      }

  pub widened_s : {out r : Arrivals} → LeadsBy rows x E s false → LeadsBy rows x S s true → Put x N out r → Widened rows x s out r
  widened_s z l p =
      record {
        kept = λ j b h. p.kept j b h;
        there = elim [ R ↦ λ k. absurd (not_R z k) | N ↦ λ _. p.there ];
        only = λ j b h. ⊎_elim (λ y. inl y) (λ e. inr (e.0, subst (λ (d : Second). LeadsInto rows s x d) (sym e.1) (by_S l))) (p.only j b h);
      }

  pub widened_none : {out : Arrivals} → LeadsBy rows x E s false → LeadsBy rows x S s false → Widened rows x s out out
  widened_none z l =
      record {
        kept = λ j b h. h;
        there = elim [ R ↦ λ k. absurd (not_R z k) | N ↦ λ k. absurd (not_N z l k) ];
        only = λ j b h. inl h;
      }

-- ---- All classes.

pub behind_none : {rows : List ℕ} {from : ℕ} {s : Arrivals} → Behind rows from from s none
behind_none = record { sound = λ x b h. absurd (no_arrival x b h); complete = λ x b l k. absurd (omega arith) }

pub behind_more : {rows : List ℕ} {from x : ℕ} {s out r : Arrivals} → Behind rows from x s out → Widened rows x s out r → Behind rows from (x + 1) s r
behind_more {rows} {from} {x} {s} {out} {r} o w =
    record {
      sound = λ j b h. ⊎_elim (λ y. let p = o.sound j b y in let l = p.0 in (omega arith, p.1))
          (λ y. let e = y.0 in (omega arith, subst (λ (i : ℕ). LeadsInto rows s i b) (sym y.0) y.1)) (w.only j b h);
      complete = λ j b u l h. elim (ℕ_discrete j x) [
        | yes e ↦ subst (λ (i : ℕ). In r i b) (sym e) (w.there b (subst (λ (i : ℕ). LeadsInto rows s i b) e h))
        | no n ↦ w.kept j b (o.complete j b u (omega arith) h)
      ];
    }

-- ---- Home.

put_one : {c j : ℕ} {a b : Second} {w : Arrivals} → Put c a none w → In w j b → (j ≡ c) × (b ≡ a)
put_one {j = j} {b = b} p h = ⊎_elim (λ y. absurd (no_arrival j b y)) (λ e. e) (p.only j b h)

pub home_r : {c : ℕ} {t w : Arrivals} → Put c N none t → Put c R t w → AtHome c R w
home_r p q =
    record {
      sound = λ x. elim [
        | R ↦ λ h. ⊎_elim (λ y. ((put_one {b = R} p y).0, refl)) (λ e. (e.0, refl)) (q.only x R h)
        | N ↦ λ h. ⊎_elim (λ y. ((put_one {b = N} p y).0, refl)) (λ e. (e.0, refl)) (q.only x N h)
      ];
      complete = elim [ R ↦ λ _. q.there | N ↦ λ _. q.kept _ N p.there ];
    }

pub home_n : {c : ℕ} {t : Arrivals} → Put c N none t → AtHome c N t
home_n p =
    record {
      sound = λ x b h. let e = put_one p h in (e.0, subst (λ (d : Second). strong_joint d (widest N) ≡ true) (sym e.1) refl);
      complete = elim [ R ↦ λ k. absurd (false≢true k) | N ↦ λ _. p.there ];
    }

-- ---- Levels.

pub level_zero : {rows : List ℕ} {K c : ℕ} {h : Second} {s : Arrivals} → AtHome c h s → Level rows K c h 0 s
level_zero {K = K} {c = c} {h = h} {s = s} a =
    record {
      sound = λ g r x b m. let p = a.sound x b m in
          record { entries = []; ends_by = b; route = subst (λ (o : ℕ). Route K g x b [] o b) p.0 stay; closing = p.1; long = refl };
      complete = λ g r x b o u. let p = stays o.route o.long in
          subst (λ (i : ℕ). In s i b) (sym p.0) (a.complete b (subst (λ (d : Second). strong_joint d (widest h) ≡ true) (sym p.1) o.closing));
    }

-- The first entry on a route home, and what leads home behind it.
pub record Ahead (K : ℕ) (g : Graph) (c : ℕ) (h : Second) (m x : ℕ) (b : Second) (es : List Entry) : Type 0 where
  pub entry : Entry
  pub to : ℕ
  pub goes : Step K g x b entry to
  pub home : Home K g c h m to entry.kind.second
  pub whole : es ≡ entry ∷ home.entries

pub home_first : {K : ℕ} {g : Graph} {c x m : ℕ} {h b d : Second} {es : List Entry} → Route K g x b es c d → strong_joint d (widest h) ≡ true
    → length es ≡ m + 1 → Ahead K g c h m x b es
home_first stay k l = absurd (omega arith)
home_first {d = d} (pass {z = z} {e = e} {es = fs} s j w) k l =
    record {
      entry = e;
      to = z;
      goes = record { class = refl; leg = s; strong = j };
      home = record { entries = fs; ends_by = d; route = w; closing = k; long = omega arith };
      whole = refl;
    }

above_rest : {c : ℕ} (e : Entry) (fs : List Entry) → Above c (e ∷ fs) → Above c fs
above_rest e fs a = record { above = λ i l. a.above (suc i) (omega arith) }

pub level_more : {rows : List ℕ} {K c m : ℕ} {h : Second} {s t : Arrivals} → Level rows K c h m s → Behind rows c K s t → Level rows K c h (m + 1) t
level_more {rows} {K} {c} {m} {h} {s} {t} v o =
    record {
      sound = λ g r x b q.
          let p = o.sound x b q in
          let l = p.1 in
          let d = r.sound x l.kind l.to p.0 l.drawn in
          let u = source_of K g x l.to l.kind d in
          let w = v.sound g r l.to l.kind.second l.into in
          let y = in_range K g x l.to l.kind d in
          record {
            entries = record { class = x; kind = l.kind; source = u.0 } ∷ w.entries;
            ends_by = w.ends_by;
            route = pass (record { in_range = y.0; to_range = y.1; drawn = u.1 }) l.strong w.route;
            closing = w.closing;
            long = omega (arith, w.long);
          };
      complete = λ g r x b q u.
          let f = home_first {h = h} q.route q.closing q.long in
          let a = subst (λ (es : List Entry). Above c es) f.whole u in
          let low = a.above 0 (omega arith) in
          let is = f.goes.class in
          let y : x < K = subst (λ (i : ℕ). i < K) is f.goes.leg.in_range in
          o.complete x b (omega arith) y
          record {
            kind = f.entry.kind;
            to = f.to;
            strong = f.goes.strong;
            drawn = r.complete x f.entry.kind f.to
                (some_source K g f.entry.source x f.to f.entry.kind y f.goes.leg.to_range
                (subst (λ (i : ℕ). dependency_by f.entry.source g i f.to f.entry.kind ≡ true) is f.goes.leg.drawn));
            into = v.complete g r f.to f.entry.kind.second f.home (above_rest f.entry f.home.entries a);
          };
    }

-- ---- The table of levels.

pub none_zero : {rows : List ℕ} {K c : ℕ} {h : Second} → NoneUpTo rows K c h 0
none_zero = record { none = λ g r m l k o u. omega arith }

pub none_more : {rows : List ℕ} {K c m : ℕ} {h : Second} {s : Arrivals} → NoneUpTo rows K c h m → Level rows K c h (m + 1) s → (In s c h → ⊥)
    → NoneUpTo rows K c h (m + 1)
none_more {K = K} {c = c} {m = m} {h = h} n v z =
    record {
      none = λ g r i l k o u. elim (ℕ_discrete i (m + 1)) [
        | yes e ↦ z (v.complete g r c h (record { entries = o.entries; ends_by = o.ends_by; route = o.route; closing = o.closing; long = o.long ∙ e }) u)
        | no q ↦ n.none g r i l (omega arith) o u
      ];
    }

above_drop : {c : ℕ} (n : ℕ) (es : List Entry) → Above c es → Above c (drop n es)
above_drop zero es a = a
above_drop (suc n) [] a = a
above_drop (suc n) (e ∷ es) a = above_drop n es (above_rest e es a)

-- An empty level: there is no longer way home either.
pub none_empty : {rows : List ℕ} {K c m limit : ℕ} {h : Second} {s : Arrivals} → 1 ≤ m → NoneUpTo rows K c h m → Level rows K c h m s
    → ((x : ℕ) (b : Second) → In s x b → ⊥) → NoneUpTo rows K c h limit
none_empty {c = c} {m = m} some n v z =
    record {
      none = λ g r i l k o u. elim (dec_le i m) [
        | yes e ↦ n.none g r i l e o u
        | no e ↦ let d : i - m < length o.entries = omega (arith, o.long) in
            let w = cut o.route (i - m) d in
            let size : length (drop (i - m) o.entries) ≡ m = rw length-drop (omega (arith, o.long)) in
            z (entry_at o.entries (i - m)).class w.0
            (v.complete g r (entry_at o.entries (i - m)).class w.0
            (record { entries = drop (i - m) o.entries; ends_by = o.ends_by; route = w.2; closing = o.closing; long = size })
            (above_drop (i - m) o.entries u))
      ];
    }

pub record Filling (rows : List ℕ) (K c : ℕ) (h : Second) (m : ℕ) (s : Arrivals) (levels : List ℕ) : Type 0 where
  pub level : Level rows K c h m s
  pub level_at_lem : (i : ℕ) → i < m → Level rows K c h i (level_at levels i)
  pub none : (i : ℕ) → i ≤ m → NoneUpTo rows K c h i

-- The level that was stored, and those that were before.
stored_level : (levels : List ℕ) (m : ℕ) (s : Arrivals) → 2 * m + 1 < length levels → level_at (stored levels m s) m ≡ s
stored_level levels m s l =
    let a : get_or (stored levels m s) (2 * m) 0 ≡ s.r = get_or-set_other (set levels (2 * m) s.r) (2 * m + 1) (2 * m) s.n 0 (λ e. omega arith) ∙ get_or-set_same levels (2 * m) s.r 0 (omega arith) in
    let b : get_or (stored levels m s) (2 * m + 1) 0 ≡ s.n = get_or-set_same (set levels (2 * m) s.r) (2 * m + 1) s.n 0 (rw (length-set levels (2 * m) s.r) l) in
    rw (a, b) refl

kept_level : (levels : List ℕ) (m i : ℕ) (s : Arrivals) → i < m → level_at (stored levels m s) i ≡ level_at levels i
kept_level levels m i s l =
    let a : get_or (stored levels m s) (2 * i) 0 ≡ get_or levels (2 * i) 0 =
    get_or-set_other (set levels (2 * m) s.r) (2 * m + 1) (2 * i) s.n 0 (λ e. omega arith) ∙ get_or-set_other levels (2 * m) (2 * i) s.r 0 (λ e. omega arith) in
    let b : get_or (stored levels m s) (2 * i + 1) 0 ≡ get_or levels (2 * i + 1) 0 =
    get_or-set_other (set levels (2 * m) s.r) (2 * m + 1) (2 * i + 1) s.n 0 (λ e. omega arith) ∙ get_or-set_other levels (2 * m) (2 * i + 1) s.r 0 (λ e. omega arith) in
    rw (a, b) refl

pub stored_long : (levels : List ℕ) (m : ℕ) (s : Arrivals) {after : List ℕ} → after ≡ stored levels m s → length levels ≡ 128 → length after ≡ 128
stored_long levels m s e l = rw (e, length-set (set levels (2 * m) s.r) (2 * m + 1) s.n, length-set levels (2 * m) s.r) l

-- ---- The levels' words.

pub words_length : (ls : List Arrivals) → length (level_words ls) ≡ 2 * length ls
unfolding level_words
words_length [] = refl
words_length (s ∷ ls) = let e = words_length ls in omega arith

pub words_set : (ls : List Arrivals) (m : ℕ) (s : Arrivals) → level_words (set ls m s) ≡ stored (level_words ls) m s
unfolding level_words
words_set [] m s = refl
words_set (x ∷ ls) zero s = refl
words_set (x ∷ ls) (suc m) s =
    let a : 2 * suc m ≡ suc (suc (2 * m)) = omega arith in
    let b : suc (suc (2 * m)) + 1 ≡ suc (suc (2 * m + 1)) = omega arith in
    rw (a, b) (ap (λ (ws : List ℕ). x.r ∷ x.n ∷ ws) (words_set ls m s))

pub words_at : (ls : List Arrivals) (m : ℕ) → get_or ls m none ≡ level_at (level_words ls) m
unfolding level_words
words_at [] m = refl
words_at (x ∷ ls) zero = refl
words_at (x ∷ ls) (suc m) =
    let a : 2 * suc m ≡ suc (suc (2 * m)) = omega arith in
    let b : suc (suc (2 * m)) + 1 ≡ suc (suc (2 * m + 1)) = omega arith in
    rw (a, b) (words_at ls m)

pub filling_none : {rows : List ℕ} {K c : ℕ} {h : Second} {s : Arrivals} {levels : List ℕ} → AtHome c h s → Filling rows K c h 0 s levels
filling_none a = record { level = level_zero a; level_at_lem = λ i l. absurd (omega arith); none = λ i l. let e : i ≡ 0 = omega arith in rw e none_zero }

module _ {rows : List ℕ} {K c m : ℕ} {h : Second} {s t : Arrivals} {levels after : List ℕ} (f : Filling rows K c h m s levels) (room : 2 * m + 1 < length levels)
    (o : Behind rows c K s t) (e : after ≡ stored levels m s) where
  levels_more : (i : ℕ) → i < m + 1 → Level rows K c h i (level_at after i)
  levels_more i l = rw e (elim (ℕ_discrete i m) [
    | yes q ↦ rw (q, stored_level levels m s room) f.level
    | no q ↦ let k : i < m = omega arith in rw (kept_level levels m i s k) (f.level_at_lem i k)
  ])

  pub filling_more : (In t c h → ⊥) → Filling rows K c h (m + 1) t after
  filling_more z =
      record {
        level = level_more f.level o;
        level_at_lem = levels_more;
        none = λ i l. elim (ℕ_discrete i (m + 1)) [
          | yes q ↦ rw q (none_more (f.none m (omega arith)) (level_more f.level o) z)
          | no q ↦ f.none i (omega arith)
        ];
      }

  pub filled_empty : {limit : ℕ} → length levels ≡ 128 → (In t c h → ⊥) → HasNone t → Filled rows K c h limit 0 after
  filled_empty size z y =
      let f' = filling_more z in
      record {
        size = stored_long levels m s e size;
        none = λ _. none_empty (omega arith) (f'.none (m + 1) (omega arith)) f'.level y;
        few = omega arith;
        shorter = λ i l. absurd (omega arith);
        level = λ i l. absurd (omega arith);
        home = λ l. absurd (omega arith);
      }

  pub filled_some : {limit : ℕ} → length levels ≡ 128 → m < limit → In t c h → Filled rows K c h limit (m + 1) after
  filled_some size l z =
      record {
        size = stored_long levels m s e size;
        none = λ q. absurd (omega arith);
        few = omega arith;
        shorter = λ i k. f.none i (omega arith);
        level = levels_more;
        home = λ _ g r. (level_more f.level o).sound g r c h z;
      }

pub filled_none : {rows : List ℕ} {K c limit : ℕ} {h : Second} {s : Arrivals} {levels : List ℕ} → Filling rows K c h limit s levels → length levels ≡ 128 → Filled rows K c h limit 0 levels
filled_none {limit = limit} f size =
    record { size = size; none = λ _. f.none limit (omega arith); few = omega arith; shorter = λ m l. absurd (omega arith); level = λ m l. absurd (omega arith); home = λ l. absurd (omega arith) }

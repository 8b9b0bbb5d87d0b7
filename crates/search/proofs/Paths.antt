-- The question's search against the rules' strong paths. Assumes nothing.
use mathlib.Core.Path.{◌≡◌, refl, subst}
use mathlib.Core.Bool.{Bool, true, false}
use mathlib.Core.Logic.{inl, inr, ⊎_elim}
use mathlib.Core.List.{List}
use Prim.Native.Nat.{ℕ, ◌<◌}
use native.Mathlib.Omega.{arith}
use Rattle.words.specs.Bits.{bit}
use Rattle.rules.specs.HeldLocks.{First, Second, E, S, R, N}
use Rattle.rules.specs.Graph.{Kind, Graph}
use Rattle.rules.specs.StrongPath.{strong_joint, StrongPath, one, more, Reaches}
use Rattle.search.specs.Rows.{Successor, Rows, Ranged, Reached}
use Rattle.search.specs.Arrivals.{none, In, Fits, Put, kind_by, Union, Onward, After, Next}
use Rattle.search.specs.Letters.{Successors, Joined, Less, HasNone}
use Rattle.search.specs.declared.Arrivals.{Arrivals}
use Rattle.search.proofs.Sets.{no_arrival, none_left, first_onward, onward_law}
use Rattle.search.proofs.Visits.{after_N, snoc}

-- Class t ends a strong path from class c, and is arrived at by a.
pub record Arrives (K : ℕ) (g : Graph) (c t : ℕ) (a : Second) : Type 0 where
  pub begins : Kind
  pub ends_by : Kind
  pub path : StrongPath K g c begins t ends_by
  pub arrival : ends_by.second ≡ a

pub after_r : {rows : List ℕ} {x : ℕ} {s t : Arrivals} → Onward rows x E s t → After rows x R s t
after_r o =
    record {
      kept = o.kept;
      all = λ j. elim [ E ↦ λ b _. o.all j b | S ↦ λ b z. let q : ◌≡◌ {A = Bool} false true = z in let w : ◌≡◌ {A = ℕ} 0 1 = cc in absurd (omega arith) ];
      only = λ j b h. ⊎_elim (λ y. inl y) (λ m. inr (E, refl, m)) (o.only j b h);
    }

pub after_n : {rows : List ℕ} {x : ℕ} {s t u : Arrivals} → Onward rows x E s t → Onward rows x S t u → After rows x N s u
after_n o p =
    record {
      kept = λ j b h. p.kept j b (o.kept j b h);
      all = λ j. elim [ E ↦ λ b _ h. p.kept j b (o.all j b h) | S ↦ λ b _. p.all j b ];
      only = λ j b h. ⊎_elim (λ y. ⊎_elim (λ z. inl z) (λ m. inr (E, refl, m)) (o.only j b y)) (λ m. inr (S, refl, m)) (p.only j b h);
    }

pub next_r : {rows : List ℕ} {x : ℕ} {t : Arrivals} → Successors rows x E t → Fits t → Next rows x R t
next_r e f = record { after = after_r (first_onward e); fits = f }

pub next_n : {rows : List ℕ} {x : ℕ} {t u v : Arrivals} → Successors rows x E t → Successors rows x S u → Joined t u v → Fits v → Next rows x N v
next_n e s h f = record { after = after_n (first_onward e) (onward_law s h); fits = f }

pub after_joined : {rows : List ℕ} {x : ℕ} {a : Second} {s t u : Arrivals} → Next rows x a t → Joined s t u → After rows x a s u
after_joined o h =
    record {
      kept = λ j b. (h b).left j;
      all = λ j f b z m. (h b).right j (o.after.all j f b z m);
      only = λ j b m. ⊎_elim (λ y. inl y) (λ y. ⊎_elim (λ z. absurd (no_arrival j b z)) (λ n. inr n) (o.after.only j b y)) ((h b).only j m);
    }

-- What is reached from class c so far, and what of it is expanded.
pub record Progress (rows : List ℕ) (K c : ℕ) (s e : Arrivals) : Type 0 where
  pub inside : (j : ℕ) (b : Second) → In s j b → j < K
  pub sound : (g : Graph) → Rows K g rows → (j : ℕ) (b : Second) → In s j b → Arrives K g c j b
  pub first : (j : ℕ) (f : First) (b : Second) → Successor rows c (kind_by f b) j → In s j b
  pub next_place : (i : ℕ) (a : Second) → In e i a → (j : ℕ) (f : First) (b : Second) → strong_joint a f ≡ true → Successor rows i (kind_by f b) j → In s j b
  pub fits : Fits e

module _ {rows : List ℕ} {K c : ℕ} (ranged : Ranged K rows) (less : c < K) where
  pub progress_none : {s : Arrivals} → After rows c N none s → Progress rows K c s none
  progress_none {s} o =
      record {
        inside = λ j b h. let m = new j b h in ranged.inside c (kind_by m.0 b) j less m.2;
        sound = λ g r j b h. let m = new j b h in
            record { begins = kind_by m.0 b; ends_by = kind_by m.0 b; path = one record { drawn = r.sound c (kind_by m.0 b) j less m.2 }; arrival = refl };
        first = λ j f b. o.all j f b (after_N f);
        next_place = λ i a h. absurd (no_arrival i a h);
        fits = record { r = omega arith; n = omega arith };
      }
    where
      new : (j : ℕ) (b : Second) → In s j b → (f : First) × (strong_joint N f ≡ true) × Successor rows c (kind_by f b) j
      new j b h = ⊎_elim (λ z. absurd (no_arrival j b z)) (λ m. m) (o.only j b h)

  pub progress_more : {s e t d : Arrivals} {i : ℕ} (a : Second) → Progress rows K c s e → In s i a → Put i a e d → After rows i a s t → Progress rows K c t d
  progress_more {s} {e} {t} {d} {i} a p h put o =
      record {
        inside = λ j b m. ⊎_elim (λ y. p.inside j b y) (λ n. ranged.inside i (kind_by n.0 b) j (p.inside i a h) n.2) (o.only j b m);
        sound = λ g r j b m. ⊎_elim (λ y. p.sound g r j b y)
            (λ n. let q = p.sound g r i a h in
            record {
              begins = q.begins;
              ends_by = kind_by n.0 b;
              arrival = refl;
              path = snoc q.path (record { strong = rw q.arrival n.1 }) (record { drawn = r.sound i (kind_by n.0 b) j (p.inside i a h) n.2 });
            })
            (o.only j b m);
        first = λ j f b m. o.kept j b (p.first j f b m);
        next_place = λ x b m j f v z n. ⊎_elim (λ y. o.kept j v (p.next_place x b y j f v z n))
            (λ q. o.all j f v (subst (λ (w : Second). strong_joint w f ≡ true) q.1 z) (subst (λ (w : ℕ). Successor rows w (kind_by f v) j) q.0 n)) (put.only x b m);
        fits = put.fits;
      }

module _ {rows : List ℕ} {K c : ℕ} where
  pub reached_law : {s e d : Arrivals} {w : ℕ} → Ranged K rows → Progress rows K c s e → Less s e d → HasNone d → Union s.r s.n w → Reached K rows c w
  reached_law {s} {e} {w = w} ranged p h z u =
      record {
        sound = λ g r t h. ⊎_elim (λ m. reaches g r t R m) (λ m. reaches g r t N m) (u.only t h);
        complete = λ g r t q. in_word t q.ends.second (along g r q.path (λ j b. p.first j q.begins.first b));
      }
    where
      all : (j : ℕ) (b : Second) → In s j b → In e j b
      all j b m = none_left h z j b (omega (arith, p.inside j b m, ranged.few)) m

      reaches : (g : Graph) → Rows K g rows → (t : ℕ) (b : Second) → In s t b → Reaches K g c t
      reaches g r t b m = let a = p.sound g r t b m in record { begins = a.begins; ends = a.ends_by; path = a.path }

      in_word : (t : ℕ) (b : Second) → In s t b → bit w t ≡ 1
      in_word t R m = u.left t m
      in_word t N m = u.right t m

      -- From a class whose successors by the path's first letter are reached.
      along : (g : Graph) → Rows K g rows → {x t : ℕ} {k l : Kind} → StrongPath K g x k t l
          → ((j : ℕ) (b : Second) → Successor rows x (kind_by k.first b) j → In s j b) → In s t l.second
      along g r (one {f = x} {t = t} {k = k} d) h = h t k.second (r.complete x k t d.drawn)
      along g r (more {f = x} {m = m} {k = k} {k' = k'} d i q) h =
          let b = k.second in
          let y = all m b (h m b (r.complete x k m d.drawn)) in
          along g r q (λ j v n. p.next_place m b y j k'.first v i.strong n)

-- Laws of a visit of a class in the walk, once for both letters of the arrival. Assumes nothing.
use mathlib.Core.Path.{◌≡◌, refl, sym, subst₂}
use mathlib.Core.Bool.{Bool, true, false, false≢true}
use mathlib.Core.Logic.{⊎_elim}
use mathlib.Core.List.{List}
use Prim.Native.Nat.{ℕ, ◌-◌, ◌^◌, ◌<◌}
use native.Mathlib.Omega.{arith}
use Rattle.words.specs.Bits.{bit}
use Rattle.words.proofs.Words.{bit_zero, bit_low}
use Rattle.rules.specs.HeldLocks.{First, Second, E, S, R, N}
use Rattle.rules.specs.Graph.{Kind, Graph}
use Rattle.rules.specs.StrongPath.{strong_joint, Dependency, Joint, StrongPath, one, more, ClosedStrongPath}
use Rattle.rules.specs.Decision.{cyclic}
use Rattle.rules.proofs.Decided.{in_range, cyclic_sound, cyclic_complete}
use Rattle.search.specs.Rows.{Successor, Rows}
use Rattle.search.specs.Arrivals.{word_by, none, In, size, Fits, Put, kind_by, Next}
use Rattle.search.specs.Letters.{Less, HasNone, Taken}
use Rattle.search.specs.Walk.{done_of, words_of, Words, Ends, ends, Settled, Grown, LeadsTo, Meets, Finished, Given, Visited, Decided}
use Rattle.search.specs.declared.Arrivals.{Arrivals}
use Rattle.search.proofs.Sets.{not_in, no_arrival, size_bound, grows, none_left, finished}

pub after_N : (f : First) → strong_joint N f ≡ true
after_N E = refl
after_N S = refl

module _ {K : ℕ} {g : Graph} where
  -- A strong path with one dependency more.
  pub snoc : {f t u : ℕ} {k l m : Kind} → StrongPath K g f k t l → Joint l m → Dependency K g t m u → StrongPath K g f k u m
  snoc (one d) j e = more d j (one e)
  snoc (more d i p) j e = more d i (snoc p j e)

  starts_in : {f t : ℕ} {k l : Kind} → StrongPath K g f k t l → f < K
  starts_in (one {f} {t} {k} d) = (in_range K g f t k d.drawn).0
  starts_in (more {f} {m} {k = k} d i p) = (in_range K g f m k d.drawn).0

-- ---- What follows a class.

-- A dependency goes on from class x, arrived at by a, and arrives at class y by b.
abbrev Follows : List ℕ → ℕ → Second → ℕ → Second → Type 0
Follows rows x a y b = (f : First) × (strong_joint a f ≡ true) × Successor rows x (kind_by f b) y

follows : {rows : List ℕ} {x : ℕ} {a : Second} {t : Arrivals} → Next rows x a t → (y : ℕ) (b : Second) → In t y b → Follows rows x a y b
follows o y b h = ⊎_elim (λ z. absurd (no_arrival y b z)) (λ m. m) (o.after.only y b h)

-- It was not done before.
pub record Undone (rows : List ℕ) (x : ℕ) (a : Second) (done : List ℕ) (y : ℕ) (b : Second) : Type 0 where
  pub small : y < 64
  pub goes : Follows rows x a y b
  pub new : bit (word_by (done_of done) b) y ≡ 0

pub undone_law : {rows : List ℕ} {done : Arrivals} {x y : ℕ} {a b : Second} {t d : Arrivals} → Next rows x a t → Less t done d → Taken d y b
    → Undone rows x a (words_of done) y b
undone_law {y = y} {b = b} o h l = record { small = l.small; goes = follows o y b ((h b).from y l.member); new = (h b).out y l.member }

fits_by : {t : Arrivals} → Fits t → (b : Second) → word_by t b < 2 ^ 64
fits_by f R = f.r
fits_by f N = f.n

-- Nothing that follows is undone.
pub all_done : {rows : List ℕ} {done : Arrivals} {x : ℕ} {a : Second} {t d : Arrivals} → Next rows x a t → Less t done d → HasNone d
    → (y : ℕ) (b : Second) → Follows rows x a y b → In done y b
all_done {t = t} o h e y b m = let i = o.after.all y m.0 b m.1 m.2 in none_left h e y b (bit_low (word_by t b) y (fits_by o.fits b) i) i

-- ---- A visit of class x, arrived at by a, which is put on the path.

-- No dependency goes back to the path.
pub record Visiting (rows : List ℕ) (x : ℕ) (a : Second) (on here : Arrivals) (done : List ℕ) (left : ℕ) : Type 0 where
  pub given : Given rows x a on done left
  pub pushed : Put x a on here
  pub none_back : (y : ℕ) (b : Second) → Follows rows x a y b → In here y b → ⊥

module _ {rows : List ℕ} where
  pub grown_trans : {s t u : List ℕ} → Grown rows s t → Grown rows t u → Grown rows s u
  grown_trans c d = record { settled = d.settled; kept = λ j b h. d.kept j b (c.kept j b h) }

  pub ends_r : {x : ℕ} → Ends rows x N → Ends rows x R
  ends_r (ends h) = ends (λ j k i s. h j k (after_N k.first) s)

  grown_more : {s t u : List ℕ} {x : ℕ} {a : Second} → Grown rows s t → Finished t x a u → Ends rows x a → Grown rows s u
  grown_more c f e =
      record {
        settled = record {
          words = f.words;
          over = λ j b h. ⊎_elim (λ o. c.settled.over j b o) (λ q. subst₂ (λ (i : ℕ) (d : Second). Ends rows i d) (sym q.0) (sym q.1) e)
              (f.put.only j b h);
        };
        kept = λ j b h. f.put.kept j b (c.kept j b h);
      }

  module _ {x : ℕ} {a : Second} {on here : Arrivals} where
    -- What leads to x leads on to what follows x.
    leads_on : {K y : ℕ} {b : Second} {g : Graph} → Put x a on here → Rows K g rows → x < K → Follows rows x a y b
        → ((j : ℕ) (c : Second) → In on j c → LeadsTo K g j c x a) → (j : ℕ) (c : Second) → In here j c → LeadsTo K g j c y b
    leads_on {K} {y} {b} {g} p r l m led j c h =
        ⊎_elim
        (λ o. let q = led j c o in
        record {
          begins = q.begins;
          ends_by = kind_by m.0 b;
          path = snoc q.path (record { strong = rw q.arrives m.1 }) d;
          goes_on = q.goes_on;
          arrives = refl;
        })
        (λ e. subst₂ (λ (i : ℕ) (v : Second). LeadsTo K g i v y b) (sym e.0) (sym e.1)
        (record { begins = kind_by m.0 b; ends_by = kind_by m.0 b; path = one d; goes_on = m.1; arrives = refl }))
        (p.only j c h)
      where
        d : Dependency K g x (kind_by m.0 b) y
        d = record { drawn = r.sound x (kind_by m.0 b) y l m.2 }

    pub back_law : {done done' : List ℕ} {t : Arrivals} {m : Bool} → Put x a on here → Next rows x a t → Meets t here m → m ≡ true
        → Visited rows x a on done true done'
    back_law p o h e =
        let s = h.some e in
        record {
          closed = λ _ K g r l led.
              let q = leads_on {b = s.1} p r l (follows o s.0 s.1 s.2) led s.0 s.1 s.3 in
              record { at = s.0; begins = q.begins; ends = q.ends_by; path = q.path; closing = record { strong = rw q.arrives q.goes_on } };
          settled = λ z. absurd (false≢true (sym z));
        }

    pub visiting : {done : List ℕ} {left : ℕ} {t : Arrivals} {m : Bool} → Given rows x a on done left → Put x a on here → Next rows x a t → Meets t here m
        → m ≡ false → Visiting rows x a on here done left
    visiting g p o h e = record { given = g; pushed = p; none_back = λ y b m k. h.none e y b (o.after.all y m.0 b m.1 m.2) k }

    module _ {done : List ℕ} {left : ℕ} (v : Visiting rows x a on here done left) where
      pub deeper : 128 - size here < 128 - size on
      deeper = omega (arith, v.pushed.more v.given.fresh, size_bound v.pushed.fits)

      pub call_given : {u : List ℕ} {y : ℕ} {b : Second} → Grown rows done u → Undone rows x a u y b → Given rows y b here u (128 - size here)
      call_given {y = y} {b} c n =
          record {
            class = n.small;
            fresh = not_in (word_by here b) y (v.none_back y b n.goes);
            fits = v.pushed.fits;
            enough = omega (arith, size_bound v.pushed.fits);
            settled = c.settled;
          }

      pub call_closed : {u u' done' : List ℕ} {y : ℕ} {b : Second} {m : Bool} → Undone rows x a u y b → Visited rows y b here u m u' → m ≡ true
          → Visited rows x a on done true done'
      call_closed {y = y} {b} n w e =
          record {
            closed = λ _ K g r l led.
                w.closed e K g r (in_range K g x y (kind_by n.goes.0 b) (r.sound x (kind_by n.goes.0 b) y l n.goes.2)).1
                (leads_on {b = b} v.pushed r l n.goes led);
            settled = λ z. absurd (false≢true (sym z));
          }

      ends_here : {u : List ℕ} → Grown rows done u → ((y : ℕ) (b : Second) → Follows rows x a y b → In (done_of u) y b) → Ends rows x a
      ends_here c all = ends (λ j k i s. c.settled.over j k.second (all j k.second (k.first, i, s)))

  pub call_less : {u u' : List ℕ} {x y : ℕ} {a b : Second} → Words u → Undone rows x a u y b
      → Grown rows u u' × In (done_of u') y b → 128 - size (done_of u') < 128 - size (done_of u)
  call_less {u} {u'} {b = b} w n q = omega (arith, grows (done_of u') b w.fits n.small q.0.kept n.new q.1, size_bound q.0.settled.words.fits)

  -- ---- The visit's end.

  pub finish_r : {x left : ℕ} {on here : Arrivals} {done : List ℕ} {u z : Arrivals} → Visiting rows x R on here done left → Grown rows done (words_of u)
      → ((y : ℕ) (b : Second) → Follows rows x R y b → In u y b) → Put x R u z → Visited rows x R on done false (words_of z)
  finish_r v c all f =
      record { closed = λ z. absurd (false≢true z); settled = λ _. (grown_more c (finished f) (ends_here v c all), f.there) }

  pub finish_n : {x left : ℕ} {on here : Arrivals} {done : List ℕ} {u w z : Arrivals} → Visiting rows x N on here done left
      → Grown rows done (words_of u) → ((y : ℕ) (b : Second) → Follows rows x N y b → In u y b) → Put x R u w → Put x N w z
      → Visited rows x N on done false (words_of z)
  finish_n v c all f l =
      let e = ends_here v c all in
      record { closed = λ z. absurd (false≢true z); settled = λ _. (grown_more (grown_more c (finished f) (ends_r e)) (finished l) e, l.there) }

-- ---- All classes.

pub start_given : {rows done : List ℕ} {x : ℕ} → x < 64 → Settled rows done → Given rows x N none done (128 - size none)
start_given {x = x} l s =
    let f : Fits none = record { r = omega arith; n = omega arith } in
    record { class = l; fresh = bit_zero x; fits = f; enough = omega (arith, size_bound f); settled = s }

pub already : {rows done : List ℕ} {x : ℕ} → Settled rows done → In (done_of done) x N → Visited rows x N none done false done
already s h = record { closed = λ z. absurd (false≢true z); settled = λ _. (record { settled = s; kept = λ j b m. m }, h) }

pub none_done : {rows : List ℕ} → Settled rows (words_of none)
none_done = record { words = record { long = refl; fits = record { r = omega arith; n = omega arith } }; over = λ j b h. absurd (no_arrival j b h) }

module _ {K : ℕ} {g : Graph} {rows : List ℕ} (r : Rows K g rows) where
  -- Where all strong paths end there is no closed one.
  no_closed : {x : ℕ} {a : Second} {k l : Kind} → Ends rows x a → StrongPath K g x k x l → l.second ≡ a → strong_joint a k.first ≡ true → ⊥
  no_closed {x} {a} {k} (ends h) (one d) e j = no_closed (h x k j (r.complete x k x d.drawn)) (one d) refl (rw e j)
  no_closed {x} {a} {k} {l} (ends h) (more {m = m} d i p) e j =
      no_closed (h m k j (r.complete x k m d.drawn)) (snoc p (record { strong = rw e j }) d) refl i.strong

  by_any : {x : ℕ} (a : Second) → Ends rows x N → Ends rows x a
  by_any N h = h
  by_any R h = ends_r h

  none_closed : ((j : ℕ) → j < K → Ends rows j N) → ClosedStrongPath K g → ⊥
  none_closed h c = no_closed (by_any c.ends.second (h c.at (starts_in c.path))) c.path refl c.closing.strong

pub cyclic_law : {K x : ℕ} {rows done done' : List ℕ} {m : Bool} → x < K → Visited rows x N none done m done' → m ≡ true → Decided K rows true
cyclic_law {K} {x} l v e = record { is = λ g r. sym (cyclic_complete K g (v.closed e K g r l (λ j b h. absurd (no_arrival j b h)))) }

pub acyclic_law : {K : ℕ} {rows done : List ℕ} → Settled rows done → ((j : ℕ) → j < K → In (done_of done) j N) → Decided K rows false
acyclic_law {K} {rows} s all = record { is = λ g r. by g r (cyclic K g) refl }
  where
    by : (g : Graph) → Rows K g rows → (b : Bool) → cyclic K g ≡ b → false ≡ cyclic K g
    by g r false e = sym e
    by g r true e = absurd (none_closed r (λ j l. s.over j N (all j l)) (cyclic_sound K g e))

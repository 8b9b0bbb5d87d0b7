-- Laws of where the least cycle starts. Assumes nothing.
use mathlib.Core.Path.{◌≡◌, refl, ap, ◌∙◌, subst}
use mathlib.Core.List.{List, [], ◌∷◌}
use Prim.Native.Nat.{ℕ, zero, suc, ◌+◌, ◌*◌, ◌/◌, ◌%◌, ◌<◌, ◌≤◌}
use native.Mathlib.Omega.{arith}
use native.Mathlib.Decide.{ℕ_discrete, dec_lt}
use lib.ListN.{length, get_or}
use Rattle.rules.specs.HeldLocks.{Second, R, N}
use Rattle.rules.specs.Graph.{Graph}
use Rattle.rules.specs.Cycle.{Entry, entry_at, Cycle}
use Rattle.rules.specs.Rounds.{Route, stay, pass, Round}
use Rattle.rules.proofs.Rounds.{turned}
use Rattle.rules.proofs.Pigeons.{some_below}
use Rattle.search.specs.Rows.{second_index, Rows}
use Rattle.routes.specs.Routes.{Start}
use Rattle.starts.specs.Levels.{letter_at, Above, NoneUpTo, Filled}
use Rattle.starts.specs.Starts.{start_of, Begin, begins, Better, Begun}
use Rattle.starts.specs.declared.Begin as code
use Rattle.std.specs.Prelude.{Option, None, Some, IfSome, ◌-◌}
use Rattle.search.specs.Letters.{second_letter}
use Rattle.search.specs.declared.SecondLetter.{SecondLetter}
use Rattle.search.specs.declared.SecondLetter.TheVariants as letter
use Rattle.routes.proofs.Routes.{home_round, round_home, cycle_round}

none_less : {rows : List ℕ} {K x m n : ℕ} {d : Second} → m ≤ n → NoneUpTo rows K x d n → NoneUpTo rows K x d m
none_less l o = record { none = λ g r i u v h a. o.none g r i u (omega arith) h a }

letter_index : (d : Second) → second_index d < 2
letter_index R = omega arith
letter_index N = omega arith

-- The start s is class s / 2 with letter s % 2.
pub same_start : (x s : ℕ) (d : Second) → start_of x d ≡ s → (x ≡ s / 2) × (d ≡ letter_at (s % 2))
same_start x s R e = (omega arith, (let z : s % 2 ≡ 0 = omega arith in rw z refl))
same_start x s N e = (omega arith, (let z : s % 2 ≡ 1 = omega arith in rw z refl))

pub begun_none : {rows : List ℕ} {K limit : ℕ} → limit ≤ K → Begun rows K limit 0 (record { n = 0; start = 0; limit = limit })
begun_none few = record {
  few = few;
  searched = λ x d l. absurd (omega arith);
  none = λ _. refl;
  exact = λ l. absurd (omega arith);
  within = λ l. absurd (omega arith);
  before = λ l. absurd (omega arith);
  earlier = λ l. absurd (omega arith);
  home = λ l. absurd (omega arith);
}

module _ {rows : List ℕ} {K limit s n : ℕ} {b r : Begin} {levels : List ℕ} (o : Begun rows K limit s b) (f : Filled rows K (s / 2) (letter_at (s % 2)) b.limit n levels) (t : Better b n s r) where
  not_found : n ≡ 0 → Begun rows K limit (s + 1) r
  not_found z =
      rw (t.none z) (record {
        few = o.few;
        searched = λ x d l. elim (ℕ_discrete (start_of x d) s) [
          | yes e ↦ let p = same_start x s d e in rw (p.0, p.1) (f.none z)
          | no q ↦ o.searched x d (omega arith)
        ];
        none = o.none;
        exact = o.exact;
        within = o.within;
        before = λ l. omega (arith, o.before l);
        earlier = o.earlier;
        home = o.home;
      })

  found : (n ≡ 0 → ⊥) → Begun rows K limit (s + 1) r
  found z =
      let e = t.some z in
      let en = e.0 in
      let es = e.1 in
      let el = e.2 in
      let fw = f.few in
      let ow = o.few in
      record {
        few = omega arith;
        searched = λ x d l. elim (ℕ_discrete (start_of x d) s) [
          | yes q ↦ let p = same_start x s d q in rw (p.0, p.1) (f.shorter r.limit (omega arith))
          | no q ↦ none_less {n = b.limit} (omega arith) (o.searched x d (omega arith))
        ];
        none = λ q. absurd (omega arith);
        exact = λ _. omega arith;
        within = λ _. omega arith;
        before = λ _. omega arith;
        earlier = λ _ x d l. none_less {n = b.limit} (omega arith) (o.searched x d (omega arith));
        home = λ _ g w. rw (es, en) (f.home (omega arith) g w);
      }

  pub begun_more : Begun rows K limit (s + 1) r
  begun_more = elim (ℕ_discrete n 0) [ yes z ↦ not_found z | no z ↦ found z ]

-- ---- The loop: the best start before s, and the most dependencies that a better one has.

pub record Trying (rows : List ℕ) (K limit s : ℕ) (best : Option code.Begin) (most : ℕ) : Type 0 where
  pub begun : Begun rows K limit s (begins limit best)
  pub most_is : most ≡ (begins limit best).limit
  pub some : IfSome best (λ b. (0 < b.n) × (b.class < K))

pub trying_none : {rows : List ℕ} {K limit : ℕ} → limit ≤ K → Trying rows K limit 0 None limit
trying_none few = record { begun = begun_none few; most_is = refl; some = tt }

pub letter_place : (i : ℕ) (d : SecondLetter) → i < 2 → second_index (second_letter (get_or (letter.R ∷ letter.N ∷ []) i d)) ≡ i
letter_place zero d l = refl
letter_place (suc zero) d l = refl
letter_place (suc (suc i)) d l = absurd (omega arith)

module _ (letter : SecondLetter) {rows : List ℕ} {K limit class s most n : ℕ} {best : Option code.Begin} {levels : List ℕ}
    (e : start_of class (second_letter letter) ≡ s) (o : Trying rows K limit s best most) (f : Filled rows K class (second_letter letter) most n levels) where
  as_start : Filled rows K (s / 2) (letter_at (s % 2)) (begins limit best).limit n levels
  as_start =
      let p = same_start class s (second_letter letter) e in
      subst (λ (x : ℕ). Filled rows K x (letter_at (s % 2)) (begins limit best).limit n levels) p.0
      (subst (λ (d : Second). Filled rows K class d (begins limit best).limit n levels) p.1 (rw o.most_is at f))

  pub tried_none : n ≡ 0 → Trying rows K limit (s + 1) best most
  tried_none z =
      record {
        begun = begun_more o.begun as_start (record { none = λ _. refl; some = λ y. absurd (y z) });
        most_is = o.most_is;
        some = o.some;
      }

  pub tried_some : 0 < n → class < K → Trying rows K limit (s + 1) (Some (record { n = n; class = class; letter = letter })) (n - 1)
  tried_some l k =
      record {
        begun = begun_more o.begun as_start (record { none = λ z. absurd (omega arith); some = λ _. (refl, e, omega arith) });
        most_is = refl;
        some = (l, k);
      }

-- ---- What the loop's end says.

inside : {K : ℕ} {g : Graph} {c : ℕ} {es : List Entry} → Round K g c es → c < K
inside r = route_in r.route r.not_empty
  where
    route_in : {K : ℕ} {g : Graph} {x y : ℕ} {b d : Second} {es : List Entry} → Route K g x b es y d → 1 ≤ length es → x < K
    route_in stay l = absurd (omega arith)
    route_in (pass s j w) l = s.in_range

-- A shortest round from the lowest class passes no class below.
pub above_round : {K : ℕ} {g : Graph} {n c : ℕ} {b : Second} {es : List Entry} → Start K g n c b → Round K g c es → length es ≡ n → Above c es
above_round {es = es} t r q = record { above = λ i l. let u = turned r i l in t.lowest (entry_at es i).class u.0 u.1 (u.2 ∙ q) }

-- A round, turned so that it passes no class below its first.
record Turned (K : ℕ) (g : Graph) (x n : ℕ) : Type 0 where
  class : ℕ
  entries : List Entry
  round : Round K g class entries
  long : length entries ≡ n
  above : Above class entries
  least : class ≤ x

turn_down : (fuel K : ℕ) (g : Graph) (x : ℕ) (es : List Entry) → Round K g x es → x < fuel → Turned K g x (length es)
turn_down zero K g x es r l = absurd (omega arith)
turn_down (suc fuel) K g x es r l = elim (some_below (λ i. dec_lt (entry_at es i).class x) (length es)) [
  | yes f ↦ let u = turned r f.0 f.1 in
      let t = turn_down fuel K g (entry_at es f.0).class u.0 u.1 (omega (arith, f.2)) in
      record { class = t.class; entries = t.entries; round = t.round; long = t.long ∙ u.2; above = t.above; least = omega (arith, t.least, f.2) }
  | no nil ↦ record {
    class = x;
    entries = es;
    round = r;
    long = refl;
    above = record { above = λ i k. elim (dec_lt (entry_at es i).class x) [ yes h ↦ absurd (nil (i, k, h)) | no h ↦ omega arith ] };
    least = omega arith;
  }
]

letter_after : (l : ℕ) → letter_at l ≡ N → l ≡ 0 → ⊥
letter_after zero e z = let q : ◌≡◌ {A = ℕ} 0 1 = ap second_index e in omega arith
letter_after (suc l) e z = omega arith

module _ {rows : List ℕ} {K limit : ℕ} {g : Graph} {b : Begin} (w : Rows K g rows) (o : Begun rows K limit (2 * K) b) where
  -- A round that was looked for from its lowest class.
  not_searched : {n x : ℕ} (s : ℕ) (t : Turned K g x n) → ((d : Second) → NoneUpTo rows K t.class d s) → s < n
  not_searched {n} s t none = elim (dec_lt s n) [
    | yes l ↦ l
    | no l ↦ absurd ((none t.round.letter).none g w (length t.entries) t.round.not_empty (omega (arith, t.long)) (round_home t.round) t.above)
  ]

  low : 0 < b.n → (x : ℕ) (es : List Entry) → Round K g x es → length es ≡ b.n → b.start / 2 ≤ x
  low l x es r q = elim (dec_lt x (b.start / 2)) [
    | yes k ↦ let t = turn_down (suc x) K g x es r (omega arith) in
        let s = not_searched b.n t (λ d. o.earlier l t.class d (omega (arith, t.least, letter_index d))) in
        absurd (omega arith)
    | no k ↦ omega arith
  ]

  searched_less : (x : ℕ) (es : List Entry) → Round K g x es → b.limit < length es
  searched_less x es r =
      let t = turn_down (suc x) K g x es r (omega arith) in
      let i = inside t.round in
      not_searched b.limit t (λ d. o.searched t.class d (omega (arith, letter_index d)))

  pub begun_start : 0 < b.n → Start K g b.n (b.start / 2) (letter_at (b.start % 2))
  begun_start l =
      record {
        some = l;
        fewest = λ x es r. omega (arith, searched_less x es r, o.exact l);
        lowest = low l;
        letter = λ e h.
            let z = letter_after (b.start % 2) e in
            let r = home_round h l in
            (o.earlier l (b.start / 2) R (omega arith)).none g w b.n l (omega arith) h
            (record { above = λ i k. let u = turned r i k in low l (entry_at h.entries i).class u.0 u.1 (u.2 ∙ h.long) });
      }

  -- With a cycle within the limit there is a start.
  pub begun_some : (es : List Entry) → Cycle K g es → length es ≤ limit → 0 < b.n
  begun_some es c l = elim (ℕ_discrete b.n 0) [
    | yes z ↦ let s = searched_less (entry_at es 0).class es (cycle_round es c) in
        let e = o.none z in
        absurd (omega arith)
    | no z ↦ omega arith
  ]

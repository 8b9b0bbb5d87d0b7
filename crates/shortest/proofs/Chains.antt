-- What is chosen class by class is the least cycle. Assumes nothing.
use mathlib.Core.Path.{◌≡◌, refl, sym, ap, ◌∙◌, subst}
use mathlib.Core.Bool.{true}
use mathlib.Core.List.{List, [], ◌∷◌, ◌++◌, append-nil}
use mathlib.Core.Logic.{inl, inr}
use Prim.Native.Nat.{ℕ, zero, suc, ◌+◌, ◌-◌, ◌*◌, ◌/◌, ◌%◌, ◌<◌, ◌≤◌}
use native.Mathlib.Omega.{arith}
use native.Mathlib.Decide.{ℕ_discrete, dec_lt}
use lib.ListN.{length, set, get_or, length-append}
use lib.Seq.{get_or-append-add, get_or-set_same, get_or-set_other}
use Rattle.words.specs.Bits.{bit}
use Rattle.rules.specs.HeldLocks.{Second, R, N}
use Rattle.rules.specs.Graph.{Kind, Graph, Source, dependency_by}
use Rattle.rules.specs.StrongPath.{strong_joint}
use Rattle.rules.specs.Decision.{tabulate}
use Rattle.rules.specs.Cycle.{Entry}
use Rattle.rules.specs.Ranks.{rank_count, rank, kind_at, source_at}
use Rattle.rules.specs.Rounds.{Route, stay}
use Rattle.rules.proofs.Closure.{length_tabulate}
use Rattle.rules.proofs.Rounds.{connect}
use Rattle.rules.proofs.Ranks.{source_less, rank_less, rank_at, kind_rank, source_rank}
use Rattle.search.specs.Rows.{Rows}
use Rattle.search.specs.Arrivals.{word_by}
use Rattle.search.specs.declared.Arrivals.{Arrivals}
use Rattle.search.proofs.Visits.{after_N}
use Rattle.routes.specs.Routes.{widest, Step, Home, rank_of, Chosen, Greedy, done, choose}
use Rattle.starts.specs.Levels.{letter_at, Above, level_at, Level, Filled}
use Rattle.starts.specs.Starts.{Begin, begins, Begun, start_of}
use Rattle.shortest.specs.Shortest.{Encoded, ByRank, RankWords, ranks_after, Hit, Picked, letter_number, found_entry, Written, Letter, Prepared, Chained, Shortest}
use Rattle.starts.specs.declared.Begin as code
use Rattle.shortest.specs.declared.Choice.{Choice}
use Rattle.shortest.specs.declared.Found.{Found}
use Rattle.shortest.specs.declared.Ranked.{Ranked}
use Rattle.std.specs.Prelude.{Some}
use Rattle.search.specs.Letters.{second_letter}
use Rattle.search.specs.declared.SecondLetter.{SecondLetter}
use Rattle.search.specs.declared.SecondLetter.TheVariants as letter
use Rattle.routes.proofs.Routes.{first_E, place_E, step, stays, home_round, least_law}
use Rattle.starts.proofs.Levels.{home_first}
use Rattle.starts.proofs.Starts.{same_start, above_round, begun_start, begun_some}
use Rattle.shortest.proofs.Words.{place_of_E}
use Rattle.shortest.proofs.Picks.{ranks_few}

pub letter_is_number : (l : SecondLetter) → letter_at (letter_number l) ≡ second_letter l
letter_is_number letter.R = refl
letter_is_number letter.N = refl

pub picked_by_number : {words : List ℕ} {s : Arrivals} {p : Choice} (l : SecondLetter) → Picked words (ranks_after (second_letter l)) s p
    → Picked words (ranks_after (letter_at (letter_number l))) s p
picked_by_number letter.R k = k
picked_by_number letter.N k = k

-- A rank is low enough exactly if its first letter may follow.
rank_after : (b : Second) (k : Kind) (o : Source) → strong_joint b k.first ≡ true → rank k o < ranks_after b
rank_after N k o h = rank_less k o
rank_after R k o h = omega (arith, source_less o, place_E k.first k.second (first_E k.first h))

after_rank : (b : Second) (j : ℕ) → j < ranks_after b → strong_joint b (kind_at j).first ≡ true
after_rank N j l = after_N (kind_at j).first
after_rank R j l = rw (place_of_E (j / 3) (omega arith)) refl

abbrev pub rank_entry : ℕ → ℕ → Entry
rank_entry x j = record { class = x; kind = kind_at j; source = source_at j }

module _ (b : Second) {rows : List ℕ} {K : ℕ} {g : Graph} {c m x : ℕ} {h : Second} {words : List ℕ} {s : Arrivals} {p : Choice}
    (w : Rows K g rows) (v : Level rows K c h m s) (k : ByRank K g x words) (o : Picked words (ranks_after b) s p) (less : x < K)
    (over : (f : Entry) (y : ℕ) → Step K g x b f y → (u : Home K g c h m y f.kind.second) → Above c u.entries) where
  as_hit : (f : Entry) (y : ℕ) → Step K g x b f y → Home K g c h m y f.kind.second → Hit words s (rank_of f) y
  as_hit f y t u =
      let a = kind_rank f.kind f.source in
      let z = source_rank f.kind f.source in (
        k.complete (rank_of f) y (rank_less f.kind f.source) t.leg.to_range
            (rw (a, z) (subst (λ (i : ℕ). dependency_by f.source g i y f.kind ≡ true) t.class t.leg.drawn)),
        subst (λ (q : Kind). bit (word_by s q.second) y ≡ 1) (sym a) (v.complete g w y f.kind.second u (over f y t u)),
      )

  some_picked : Home K g c h (m + 1) x b → p.rank ≡ rank_count → ⊥
  some_picked u z =
      let f = home_first {h = h} u.route u.closing u.long in
      o.none z (rank_of f.entry) f.to (rank_after b f.entry.kind f.entry.source f.goes.strong) (as_hit f.entry f.to f.goes f.home)

  module _ (n : p.rank ≡ rank_count → ⊥) where
    small : p.rank < rank_count
    small = omega (arith, o.below n, ranks_few b)

    picked_home : Home K g c h m p.to (kind_at p.rank).second
    picked_home = v.sound g w p.to (kind_at p.rank).second (o.hit n).1

    picked_chosen : Chosen K g c h m x b (rank_entry x p.rank) p.to
    picked_chosen =
        let d = k.sound p.rank p.to small (o.hit n).0 in
        record {
          step = record { class = refl; leg = record { in_range = less; to_range = d.0; drawn = d.1 }; strong = after_rank b p.rank (o.below n) };
          first = λ f y t u.
              let e = rank_at p.rank small in
              let hit = as_hit f y t u in
              elim (dec_lt (rank_of f) p.rank) [
                | yes l ↦ absurd (o.first (rank_of f) y l (rank_after b f.kind f.source t.strong) hit)
                | no l ↦ elim (ℕ_discrete (rank_of f) p.rank) [
                  | yes q ↦ inr (e ∙ sym q, (elim (dec_lt y p.to) [ yes r ↦ absurd (o.lowest n y r (subst (λ (i : ℕ). Hit words s i y) q hit)) | no r ↦ omega arith ]))
                  | no q ↦ inl (omega arith)
                ]
              ];
        }

-- ---- The entries so far, and then the rest.

tabulate_more : (i : ℕ) (e : ℕ → Entry) (rest : List Entry) → tabulate (suc i) e ++ rest ≡ tabulate i e ++ (e i ∷ rest)
tabulate_more zero e rest = refl
tabulate_more (suc i) e rest = ap (λ (es : List Entry). e 0 ∷ es) (tabulate_more i (λ j. e (suc j)) rest)

tabulate_same : (i : ℕ) (e f : ℕ → Entry) → ((j : ℕ) → j < i → e j ≡ f j) → tabulate i e ≡ tabulate i f
tabulate_same zero e f h = refl
tabulate_same (suc i) e f h = rw (h 0 (omega arith), tabulate_same i (λ j. e (suc j)) (λ j. f (suc j)) (λ j l. h (suc j) (omega arith))) refl

pub record Going (desk sheet : List ℕ) (K size start by : ℕ) (levels : List ℕ) (i : ℕ) (f : Found) (class letter : ℕ) : Type 0 where
  pub n : f.n ≡ size
  pub inside : class < K
  pub home : (g : Graph) (rows : List ℕ) → Prepared K g desk sheet rows size start by levels → Home K g start (letter_at by) (size - i) class (letter_at letter)
  pub route : (g : Graph) (rows : List ℕ) → Prepared K g desk sheet rows size start by levels
      → (es : List Entry) × Route K g start (letter_at by) es class (letter_at letter) × (length es ≡ i)
  pub on : (g : Graph) (rows : List ℕ) → Prepared K g desk sheet rows size start by levels → (rest : List Entry) → length rest ≡ size - i
      → Greedy K g start (letter_at by) class (letter_at letter) rest → Greedy K g start (letter_at by) start (letter_at by) (tabulate i (found_entry f) ++ rest)

pub going_none : {desk sheet : List ℕ} {K size start by : ℕ} {levels : List ℕ} {f : Found} → start < K → f.n ≡ size
    → Going desk sheet K size start by levels 0 f start by
going_none {size = size} l e =
    record {
      n = e;
      inside = l;
      home = λ g rows p. let z : size - 0 ≡ size = omega arith in rw z p.home;
      route = λ g rows p. ([], stay, refl);
      on = λ g rows p rest q r. r;
    }

module _ {desk sheet : List ℕ} {K size start by : ℕ} {levels : List ℕ} {i : ℕ} {f f' : Found} {class letter letter' m : ℕ} {words : List ℕ} {p : Choice}
    (o : Going desk sheet K size start by levels i f class letter) (l : i < size) (q : m ≡ size - 1 - i) (s : RankWords desk sheet K class words)
    (k : Picked words (ranks_after (letter_at letter)) (level_at levels m) p) (w : Written f i class p.rank f') (t : Letter p.rank letter') where
  module _ (g : Graph) (rows : List ℕ) (h : Prepared K g desk sheet rows size start by levels) where
    -- What leads home from here, and the route to here, are a shortest round.
    over : (f : Entry) (y : ℕ) → Step K g class (letter_at letter) f y → (u : Home K g start (letter_at by) m y f.kind.second) → Above start u.entries
    over f y t u =
        let v = o.route g rows h in
        let z : length (v.0 ++ (f ∷ u.entries)) ≡ size = rw length-append (omega (arith, v.2, u.long)) in
        let x = above_round h.begins
        (home_round (record { entries = v.0 ++ (f ∷ u.entries); ends_by = u.ends_by; route = connect v.1 (step t u.route); closing = u.closing; long = z }) h.begins.some) z in
        record {
          above = λ j d. subst (λ (e : Entry). start ≤ e.class) (get_or-append-add v.0 (f ∷ u.entries) (suc j) _)
              (x.above (length v.0 + suc j) (omega (arith, z, length-append v.0 (f ∷ u.entries))));
        }

    some : p.rank ≡ rank_count → ⊥
    some = let e : size - i ≡ m + 1 = omega arith in
        some_picked (letter_at letter) h.graph (h.level m (omega arith)) (s.graph g h.encoded) k o.inside over (rw e at (o.home g rows h))

    letter_is : letter_at letter' ≡ (kind_at p.rank).second
    letter_is = t.is (elim (ℕ_discrete p.rank rank_count) [ yes e ↦ absurd (some e) | no e ↦ omega (arith, k.small) ])

    next_home : Home K g start (letter_at by) (size - (i + 1)) p.to (letter_at letter')
    next_home = let e : size - (i + 1) ≡ m = omega arith in
        rw (e, letter_is) (picked_home (letter_at letter) h.graph (h.level m (omega arith)) (s.graph g h.encoded) k o.inside over some)

    next_chosen : Chosen K g start (letter_at by) m class (letter_at letter) (rank_entry class p.rank) p.to
    next_chosen = picked_chosen (letter_at letter) h.graph (h.level m (omega arith)) (s.graph g h.encoded) k o.inside over some

    next_route : (es : List Entry) × Route K g start (letter_at by) es p.to (letter_at letter') × (length es ≡ i + 1)
    next_route =
        let v = o.route g rows h in (
          v.0 ++ (rank_entry class p.rank ∷ []),
          rw letter_is (connect v.1 (step next_chosen.step stay)),
          rw length-append (omega (arith, v.2)),
        )

    next_on : (rest : List Entry) → length rest ≡ size - (i + 1) → Greedy K g start (letter_at by) p.to (letter_at letter') rest
        → Greedy K g start (letter_at by) start (letter_at by) (tabulate (i + 1) (found_entry f') ++ rest)
    next_on rest e r =
        let a : length rest ≡ m = omega arith in
        let z : Greedy K g start (letter_at by) class (letter_at letter) (rank_entry class p.rank ∷ rest) =
        choose (subst (λ (v : ℕ). Chosen K g start (letter_at by) v class (letter_at letter) (rank_entry class p.rank) p.to) (sym a) next_chosen)
        (subst (λ (v : Second). Greedy K g start (letter_at by) p.to v rest) letter_is r) in
        let y = o.on g rows h (rank_entry class p.rank ∷ rest) (omega arith) z in
        let last : found_entry f' i ≡ rank_entry class p.rank = rw (w.class_at, w.rank_at) refl in
        let front : tabulate i (found_entry f') ≡ tabulate i (found_entry f) = tabulate_same i (found_entry f') (found_entry f) (λ j u. rw (w.classes j u, w.ranks j u) refl) in
        let c : i + 1 ≡ suc i = omega arith in
        rw (c, tabulate_more i (found_entry f') rest, front, last) y

  to_less : p.to < K
  to_less = elim (ℕ_discrete p.rank rank_count) [
    | yes e ↦ omega (arith, k.zero e, o.inside)
    | no e ↦ s.ranged p.rank p.to (omega (arith, k.small)) (k.hit e).0
  ]

  pub going_more : Going desk sheet K size start by levels (i + 1) f' p.to letter'
  going_more = record { n = w.n ∙ o.n; inside = to_less; home = next_home; route = next_route; on = next_on }

pub written : (f : Found) (i class rank : ℕ) → i < length f.dependencies
    → Written f i class rank (record { n = f.n; dependencies = set f.dependencies i (record { class = class; rank = rank }) })
written f i class rank l =
    let e = get_or-set_same f.dependencies i (record { class = class; rank = rank }) (record { class = 0; rank = 0 }) l in
    record {
      n = refl;
      class_at = ap (λ (x : Ranked). x.class) e;
      rank_at = ap (λ (x : Ranked). x.rank) e;
      classes = λ j k. ap (λ (x : Ranked). x.class) (other j k);
      ranks = λ j k. ap (λ (x : Ranked). x.rank) (other j k);
    }
  where
    other : (j : ℕ) → j < i
        → get_or (set f.dependencies i (record { class = class; rank = rank })) j (record { class = 0; rank = 0 }) ≡ get_or f.dependencies j (record { class = 0; rank = 0 })
    other j k = get_or-set_other f.dependencies i j (record { class = class; rank = rank }) (record { class = 0; rank = 0 }) (λ e. omega arith)

-- With the graph there is always a choice.
pub lost : {desk sheet : List ℕ} {K size start by : ℕ} {levels : List ℕ} {i : ℕ} {f : Found} {class letter m : ℕ} {words : List ℕ} {p : Choice}
    → Going desk sheet K size start by levels i f class letter → i < size → m ≡ size - 1 - i → RankWords desk sheet K class words
    → Picked words (ranks_after (letter_at letter)) (level_at levels m) p → i < length f.dependencies → p.rank ≡ rank_count
    → Chained desk sheet K size start by levels f
lost {i = i} {f = f} {class = class} {p = p} o l q s k room z =
    record {
      n = o.n;
      greedy = λ g rows h. absurd (some {letter' = 0} o l q s k (written f i class p.rank room) (record { is = λ u. absurd (omega arith) }) g rows h z);
    }

pub chained : {desk sheet : List ℕ} {K size start by : ℕ} {levels : List ℕ} {i : ℕ} {f : Found} {class letter : ℕ}
    → Going desk sheet K size start by levels i f class letter → i ≡ size → Chained desk sheet K size start by levels f
chained {K = K} {size = size} {start = start} {by = by} {i = i} {f = f} {class = class} {letter = letter} o e =
    record {
      n = o.n;
      greedy = λ g rows h.
          let z : size - i ≡ 0 = omega arith in
          let u = o.home g rows h in
          let p = stays u.route (u.long ∙ z) in
          let k : Greedy K g start (letter_at by) class (letter_at letter) [] =
          subst (λ (x : ℕ). Greedy K g start (letter_at by) x (letter_at letter) []) (sym p.0)
          (done (subst (λ (d : Second). strong_joint d (widest (letter_at by)) ≡ true) (sym p.1) u.closing)) in
          let q : i ≡ f.n = e ∙ sym o.n in
          subst (λ (es : List Entry). Greedy K g start (letter_at by) start (letter_at by) es) (append-nil (tabulate i (found_entry f)) ∙ ap (λ (x : ℕ). tabulate x (found_entry f)) q)
          (o.on g rows h [] (sym z) k);
    }

-- ---- The least cycle.

pub positive : {n : ℕ} → (n ≡ 0 → ⊥) → 0 < n
positive {n} z = elim (ℕ_discrete n 0) [ yes e ↦ absurd (z e) | no e ↦ omega arith ]

pub none_found : {desk sheet rows : List ℕ} {K limit : ℕ} {b : Begin} {f : Found} → Begun rows K limit (2 * K) b → b.n ≡ 0 → f.n ≡ 0 → Shortest desk sheet rows K limit f
none_found o z e = record { few = omega arith; some = λ g w es c i. let l = begun_some w o es c i in absurd (omega arith); least = λ l. absurd (omega arith) }

module _ {desk sheet rows : List ℕ} {K limit n : ℕ} {b : Begin} {levels : List ℕ} {f : Found} (o : Begun rows K limit (2 * K) b) (some : b.n ≡ 0 → ⊥)
    (t : Filled rows K (b.start / 2) (letter_at (b.start % 2)) b.n n levels) (h : Chained desk sheet K b.n (b.start / 2) (b.start % 2) levels f) where
  -- The levels were filled to the end.
  filled : (g : Graph) → Rows K g rows → n ≡ b.n
  filled g w =
      let p = positive some in
      let u = o.home p g w in
      elim (ℕ_discrete n 0) [
        | yes z ↦ absurd ((t.none z).none g w b.n p (omega arith) u (above_round (begun_start w o p) (home_round u p) u.long))
        | no z ↦ let k : 0 < n = omega arith in
            let v = t.home k g w in
            omega (arith, v.long, (begun_start w o p).fewest (b.start / 2) v.entries (home_round v k), t.few)
      ]

  prepared : (g : Graph) → Encoded K g desk sheet → Rows K g rows → Prepared K g desk sheet rows b.n (b.start / 2) (b.start % 2) levels
  prepared g e w =
      record {
        encoded = e;
        graph = w;
        begins = begun_start w o (positive some);
        level = λ m l. t.level m (omega (arith, filled g w));
        home = o.home (positive some) g w;
      }

  pub some_found : Shortest desk sheet rows K limit f
  some_found =
      record {
        few = omega (arith, h.n, o.within (positive some));
        some = λ g w es c l. omega (arith, h.n, positive some);
        least = λ l g v w. least_law (begun_start w o (positive some)) (h.greedy g rows (prepared g v w)) (length_tabulate f.n (found_entry f) ∙ h.n);
      }

-- The same where the start is the code's.
pub found_law : {desk sheet rows : List ℕ} {K limit n : ℕ} {levels : List ℕ} {f : Found} (b : code.Begin) → Begun rows K limit (2 * K) (begins limit (Some b)) → 0 < b.n
    → Filled rows K b.class (second_letter b.letter) b.n n levels → Chained desk sheet K b.n b.class (letter_number b.letter) levels f → Shortest desk sheet rows K limit f
found_law {desk} {sheet} {rows} {K} {n = n} {levels = levels} {f = f} b o l t h =
    let s = start_of b.class (second_letter b.letter) in
    let p = same_start b.class s (second_letter b.letter) refl in
    let q : letter_number b.letter ≡ s % 2 = number_of b.letter in
    some_found o (λ z. omega (arith, l, z))
    (subst (λ (x : ℕ). Filled rows K x (letter_at (s % 2)) b.n n levels) p.0 (subst (λ (d : Second). Filled rows K b.class d b.n n levels) p.1 t))
    (subst (λ (x : ℕ). Chained desk sheet K b.n x (s % 2) levels f) p.0 (subst (λ (x : ℕ). Chained desk sheet K b.n b.class x levels f) q h))
  where
    number_of : (d : SecondLetter) → letter_number d ≡ start_of b.class (second_letter d) % 2
    number_of letter.R = omega arith
    number_of letter.N = omega arith

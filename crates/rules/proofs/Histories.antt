-- The histories of two runs of which the second has more records: what the first kept of a named core since a crosslock was acquired, the second kept too.
-- Assumes nothing.
use mathlib.Core.Path.{◌≡◌, refl, sym, ◌∙◌, ap}
use mathlib.Core.Bool.{Bool, true, false, not, cond, ◌&&◌, ◌||◌, false≢true}
use mathlib.Core.List.{[], ◌∷◌, ◌++◌, map}
use mathlib.Core.Logic.{◌⊎◌, inl, inr, ⊎_elim}
use mathlib.Core.Option.{Option, none, some}
use Prim.Native.Nat.{ℕ, zero, suc, ◌≤◌, ◌<◌, zero-le}
use native.Mathlib.Nat.{le_of_suc-le-suc, not-suc-le-zero, le_refl}
use native.Mathlib.Omega.{arith}
use lib.Dec.{eqb}
use lib.ListN.{length, drop, length-append, length-map, drop_of_length-le}
use borrow.Author.Tests.{eqb-true, ne_eqb}
use Rattle.rules.specs.Limits.{max_classes}
use Rattle.rules.specs.Record.{Event, acquire, release, interrupt, cross_acquire, commit, cross_release, is_cross}
use Rattle.rules.specs.Context.{Frame, frame_of, leaves_handler}
use Rattle.rules.specs.HeldLocks.{E, same_first, same_second, second_by, is_try, Core}
use Rattle.rules.specs.Graph.{Kind}
use Rattle.rules.specs.Crosslocks.{Kept, History, Crosslocks, count_below, is_idle, with, without, some_kept, drawn_by_commit, strike, is_kept, with_history, entered, ended, after_cross}
use Rattle.rules.proofs.Booleans.{or_cases, or_left, or_right, or_mono, and_cases, and_both, and_mono}

-- A set that counts none below n has none.
pub none_counted : (n : ℕ) (p : ℕ → Bool) → count_below n p ≡ 0 → (c : ℕ) → c < n → p c ≡ true → ⊥
unfolding count_below
none_counted zero p e c l h = not-suc-le-zero l
none_counted (suc n) p e zero l h = let z = rw h at e in omega arith
none_counted (suc n) p e (suc c) l h = none_counted n (λ d. p (suc d)) (by (p zero) e) c (le_of_suc-le-suc l) h
  where
    by : (b : Bool) → cond b (suc (count_below n (λ d. p (suc d)))) (count_below n (λ d. p (suc d))) ≡ 0 → count_below n (λ d. p (suc d)) ≡ 0
    by true z = absurd (omega arith)
    by false z = z

-- ---- One history.

pub kept_mono : {t t' : Kept → Bool} → ((e : Kept) → t e ≡ true → t' e ≡ true) → (h : History) → some_kept t h ≡ true → some_kept t' h ≡ true
kept_mono m [] x = absurd (false≢true x)
kept_mono m (none ∷ h) x = kept_mono m h x
kept_mono {t} {t'} m (some e ∷ h) x = or_mono (t e) (some_kept t h) (m e) (kept_mono m h) x

-- One more take: what was found since then, and the new one, and nothing else.
since_more : (t : Kept → Bool) (e : Option Kept) (n : ℕ) (h : History) → some_kept t (drop n h) ≡ true → some_kept t (drop n (h ++ (e ∷ []))) ≡ true
since_more t e zero [] x = absurd (false≢true x)
since_more t e (suc n) [] x = absurd (false≢true x)
since_more t e zero (none ∷ h) x = since_more t e zero h x
since_more t e zero (some a ∷ h) x = or_mono (t a) (some_kept t h) (λ y. y) (since_more t e zero h) x
since_more t e (suc n) (a ∷ h) x = since_more t e n h x

since_new : (t : Kept → Bool) (e : Kept) (n : ℕ) (h : History) → n ≤ length h → t e ≡ true → some_kept t (drop n (h ++ (some e ∷ []))) ≡ true
since_new t e zero [] l x = or_left false x
since_new t e (suc n) [] l x = absurd (not-suc-le-zero l)
since_new t e zero (none ∷ h) l x = since_new t e zero h zero-le x
since_new t e zero (some a ∷ h) l x = or_right (t a) (since_new t e zero h zero-le x)
since_new t e (suc n) (a ∷ h) l x = since_new t e n h (le_of_suc-le-suc l) x

pub since_only : (t : Kept → Bool) (e : Kept) (n : ℕ) (h : History) → some_kept t (drop n (h ++ (some e ∷ []))) ≡ true
    → (some_kept t (drop n h) ≡ true) ⊎ (t e ≡ true)
since_only t e zero [] x = ⊎_elim inr (λ y. absurd (false≢true y)) (or_cases (t e) false x)
since_only t e (suc zero) [] x = absurd (false≢true x)
since_only t e (suc (suc n)) [] x = absurd (false≢true x)
since_only t e zero (none ∷ h) x = since_only t e zero h x
since_only t e zero (some a ∷ h) x =
    let later : some_kept t (h ++ (some e ∷ [])) ≡ true → ((t a || some_kept t h) ≡ true) ⊎ (t e ≡ true) =
    λ y. ⊎_elim (λ z. inl (or_right (t a) z)) inr (since_only t e zero h y) in
    ⊎_elim (λ y. inl (or_left (some_kept t h) y)) later (or_cases (t a) (some_kept t (h ++ (some e ∷ []))) x)
since_only t e (suc n) (a ∷ h) x = since_only t e n h x

-- Striking out.
abbrev pub spared : ℕ → Frame → (Kept → Bool) → Kept → Bool
spared i f t e = t e && not (eqb i e.core && eqb f e.frame)

drop_map : (f : Option Kept → Option Kept) (n : ℕ) (h : History) → drop n (map f h) ≡ map f (drop n h)
drop_map f zero [] = refl
drop_map f (suc n) [] = refl
drop_map f zero (a ∷ h) = refl
drop_map f (suc n) (a ∷ h) = drop_map f n h

pub strike_only : (i : ℕ) (f : Frame) (t : Kept → Bool) (h : History) → some_kept t (map (strike i f) h) ≡ true → some_kept (spared i f t) h ≡ true
strike_only i f t [] x = absurd (false≢true x)
strike_only i f t (none ∷ h) x = strike_only i f t h x
strike_only i f t (some e ∷ h) x = by (eqb i e.core && eqb f e.frame) refl (strike_only i f t h)
  where
    by : (b : Bool) → (eqb i e.core && eqb f e.frame) ≡ b
        → (some_kept t (map (strike i f) h) ≡ true → some_kept (spared i f t) h ≡ true) → some_kept (spared i f t) (some e ∷ h) ≡ true
    by true q ih = or_right (spared i f t e) (ih (rw q at x))
    by false q ih =
        let y : (t e || some_kept t (map (strike i f) h)) ≡ true = rw q at x in
        or_mono (t e) (some_kept t (map (strike i f) h)) (λ z. and_both {b = not (eqb i e.core && eqb f e.frame)} z (rw q)) ih y

strike_spares : (i : ℕ) (f : Frame) (t : Kept → Bool) (h : History) → some_kept (spared i f t) h ≡ true → some_kept t (map (strike i f) h) ≡ true
strike_spares i f t [] x = absurd (false≢true x)
strike_spares i f t (none ∷ h) x = strike_spares i f t h x
strike_spares i f t (some e ∷ h) x = by (eqb i e.core && eqb f e.frame) refl (strike_spares i f t h)
  where
    by : (b : Bool) → (eqb i e.core && eqb f e.frame) ≡ b
        → (some_kept (spared i f t) h ≡ true → some_kept t (map (strike i f) h) ≡ true) → some_kept t (map (strike i f) (some e ∷ h)) ≡ true
    by true q ih =
        let no : spared i f t e ≡ true → some_kept t (map (strike i f) h) ≡ true =
        λ z. let w = (and_cases (t e) _ z).1 in absurd (false≢true (rw q at w)) in
        rw q (⊎_elim no ih (or_cases (spared i f t e) (some_kept (spared i f t) h) x))
    by false q ih =
        rw q (or_mono (spared i f t e) (some_kept (spared i f t) h) (λ z. (and_cases (t e) _ z).0) ih x)

-- ---- Two histories.

module _ (named : ℕ → Type 0) where
  abbrev pub about : ℕ → (Kept → Bool) → Kept → Bool
  about i t e = eqb i e.core && t e

  pub record Covered (h₁ h₂ : History) : Type 0 where
    pub covered : (i : ℕ) → named i → (t : Kept → Bool) → some_kept (about i t) h₁ ≡ true → some_kept (about i t) h₂ ≡ true

  covered_more : (e : Option Kept) {h : History} (h₂ : History) (n₂ : ℕ) → Covered h (drop n₂ h₂) → Covered h (drop n₂ (h₂ ++ (e ∷ [])))
  covered_more e h₂ n₂ c = record { covered = λ i n t x. since_more (about i t) e n₂ h₂ (c.covered i n t x) }

  covered_both : (e : Kept) (h₁ h₂ : History) (n₁ n₂ : ℕ) → n₂ ≤ length h₂ → Covered (drop n₁ h₁) (drop n₂ h₂)
      → Covered (drop n₁ (h₁ ++ (some e ∷ []))) (drop n₂ (h₂ ++ (some e ∷ [])))
  covered_both e h₁ h₂ n₁ n₂ l c =
      record {
        covered = λ i n t x.
            ⊎_elim (λ y. since_more (about i t) (some e) n₂ h₂ (c.covered i n t y)) (λ y. since_new (about i t) e n₂ h₂ l y)
            (since_only (about i t) e n₁ h₁ x);
      }

  -- A handler is left in both runs.
  struck_both : (j : ℕ) (f : Frame) (h₁ h₂ : History) → Covered h₁ h₂ → Covered (map (strike j f) h₁) (map (strike j f) h₂)
  struck_both j f h₁ h₂ c =
      record {
        covered = λ i n t x.
            let there : (e : Kept) → spared j f (about i t) e ≡ true → about i (spared j f t) e ≡ true =
            λ e y. let p = and_cases (about i t e) _ y in let q = and_cases (eqb i e.core) (t e) p.0 in and_both q.0 (and_both q.1 p.1) in
            let back : (e : Kept) → about i (spared j f t) e ≡ true → spared j f (about i t) e ≡ true =
            λ e y. let p = and_cases (eqb i e.core) _ y in let q = and_cases (t e) _ p.1 in and_both (and_both p.0 q.0) q.1 in
            strike_spares j f (about i t) h₂
            (kept_mono back h₂ (c.covered i n (spared j f t) (kept_mono there h₁ (strike_only j f (about i t) h₁ x))));
      }

  -- A handler of a foreign core is left in the second run.
  struck_aside : (j : ℕ) (f : Frame) {h₁ : History} (h₂ : History) → (named j → ⊥) → Covered h₁ h₂ → Covered h₁ (map (strike j f) h₂)
  struck_aside j f h₂ out c =
      record {
        covered = λ i n t x.
            let other : (e : Kept) → about i t e ≡ true → spared j f (about i t) e ≡ true =
            λ e y. let q = eqb-true i e.core (and_cases (eqb i e.core) (t e) y).0 in
            let no : eqb j e.core ≡ false = ne_eqb j e.core (λ z. out (rw (z ∙ sym q) n)) in
            and_both y (rw no) in
            strike_spares j f (about i t) h₂ (kept_mono other h₂ (c.covered i n t x));
      }

  -- ---- The crosslocks of two runs. The same classes are in progress in both, and what the first kept since, the second kept too.

  pub record CrossAlong (x₁ x₂ : Crosslocks) : Type 0 where
    pub declared : x₁.declared ≡ x₂.declared
    pub progress : x₁.progress ≡ x₂.progress
    pub shorter : length x₁.history ≤ length x₂.history
    pub inside : (c : ℕ) → c < max_classes → x₂.progress c ≡ true → x₂.since c ≤ length x₂.history
    pub covers : (c : ℕ) → c < max_classes → x₂.progress c ≡ true → Covered (drop (x₁.since c) x₁.history) (drop (x₂.since c) x₂.history)

  module _ {x₁ x₂ : Crosslocks} (a : CrossAlong x₁ x₂) where
    -- The histories change.
    moved : (h₁ h₂ : History) → length h₁ ≤ length h₂ → length x₂.history ≤ length h₂
        → ((n₁ n₂ : ℕ) → n₂ ≤ length x₂.history → Covered (drop n₁ x₁.history) (drop n₂ x₂.history) → Covered (drop n₁ h₁) (drop n₂ h₂))
        → CrossAlong (with_history x₁ h₁) (with_history x₂ h₂)
    moved h₁ h₂ shorter longer still =
        record {
          declared = a.declared;
          progress = a.progress;
          shorter = shorter;
          inside = λ c l h. let i = a.inside c l h in omega arith;
          covers = λ c l h. still (x₁.since c) (x₂.since c) (a.inside c l h) (a.covers c l h);
        }

    entered_both : (c : ℕ) → CrossAlong (entered c x₁) (entered c x₂)
    entered_both c =
        record {
          declared = a.declared;
          progress = ap (with c) a.progress;
          shorter = a.shorter;
          inside = λ d l. in_by d l (eqb d c);
          covers = λ d l. cover_by d l (eqb d c);
        }
      where
        in_by : (d : ℕ) → d < max_classes → (b : Bool) → (b || x₂.progress d) ≡ true → cond b (length x₂.history) (x₂.since d) ≤ length x₂.history
        in_by d l true h = le_refl (length x₂.history)
        in_by d l false h = a.inside d l h

        cover_by : (d : ℕ) → d < max_classes → (b : Bool) → (b || x₂.progress d) ≡ true
            → Covered (drop (cond b (length x₁.history) (x₁.since d)) x₁.history) (drop (cond b (length x₂.history) (x₂.since d)) x₂.history)
        cover_by d l true h =
            record { covered = λ i n t x. absurd (false≢true (rw (drop_of_length-le x₁.history (le_refl (length x₁.history))) at x)) }
        cover_by d l false h = a.covers d l h

    ended_both : (c : ℕ) → CrossAlong (ended c x₁) (ended c x₂)
    ended_both c = by (is_idle (without c x₁.progress)) (is_idle (without c x₂.progress)) (ap (λ (p : ℕ → Bool). is_idle (without c p)) a.progress) refl
      where
        after : Crosslocks → Bool → Crosslocks
        after x b = record { declared = x.declared; progress = without c x.progress; since = x.since; history = cond b [] x.history }

        still : (d : ℕ) → without c x₂.progress d ≡ true → x₂.progress d ≡ true
        still d h = (and_cases (not (eqb d c)) (x₂.progress d) h).1

        by : (b₁ b₂ : Bool) → b₁ ≡ b₂ → is_idle (without c x₂.progress) ≡ b₂ → CrossAlong (after x₁ b₁) (after x₂ b₂)
        by true true e idle =
            let no : (d : ℕ) → d < max_classes → without c x₂.progress d ≡ true → ⊥ =
            none_counted max_classes (without c x₂.progress) (eqb-true (count_below max_classes (without c x₂.progress)) 0 idle) in
            record {
              declared = a.declared;
              progress = ap (without c) a.progress;
              shorter = le_refl 0;
              inside = λ d l h. absurd (no d l h);
              covers = λ d l h. absurd (no d l h);
            }
        by false false e idle =
            record {
              declared = a.declared;
              progress = ap (without c) a.progress;
              shorter = a.shorter;
              inside = λ d l h. a.inside d l (still d h);
              covers = λ d l h. a.covers d l (still d h);
            }
        by true false e idle = absurd (false≢true (sym e))
        by false true e idle = absurd (false≢true e)

    kept_both : (e : Kept) (b₁ b₂ : Bool) → b₁ ≡ b₂
        → CrossAlong (with_history x₁ (cond b₁ (x₁.history ++ (some e ∷ [])) x₁.history)) (with_history x₂ (cond b₂ (x₂.history ++ (some e ∷ [])) x₂.history))
    kept_both e true true q =
        let s = a.shorter in
        let m₁ = length-append x₁.history (some e ∷ []) in
        let m₂ = length-append x₂.history (some e ∷ []) in
        let m : length x₂.history ≤ length (x₂.history ++ (some e ∷ [])) = omega arith in
        let n : length (x₁.history ++ (some e ∷ [])) ≤ length (x₂.history ++ (some e ∷ [])) = omega arith in
        moved _ _ n m (covered_both e x₁.history x₂.history)
    kept_both e false false q = a
    kept_both e true false q = absurd (false≢true (sym q))
    kept_both e false true q = absurd (false≢true q)

    kept_aside : (e : Kept) (b : Bool) → CrossAlong x₁ (with_history x₂ (cond b (x₂.history ++ (some e ∷ [])) x₂.history))
    kept_aside e true =
        let s = a.shorter in
        let m₂ = length-append x₂.history (some e ∷ []) in
        let m : length x₂.history ≤ length (x₂.history ++ (some e ∷ [])) = omega arith in
        let n : length x₁.history ≤ length (x₂.history ++ (some e ∷ [])) = omega arith in
        moved _ _ n m (λ n₁ n₂ l c. covered_more (some e) x₂.history n₂ c)
    kept_aside e false = a

    -- A record of the first list, in both runs.
    pub both_cross : (ev : Event) (i : ℕ) (core : Core) → CrossAlong (after_cross ev i core x₁) (after_cross ev i core x₂)
    both_cross (acquire c m) i core =
        kept_both (record { core = i; frame = frame_of core.state; class = c; mode = m }) (is_kept x₁ m) (is_kept x₂ m)
        (ap (λ (p : ℕ → Bool). not (is_idle p || is_try m)) a.progress)
    both_cross (release c m) i core = a
    both_cross (interrupt e) i core = by (leaves_handler e)
      where
        f : Frame
        f = frame_of core.state

        by : (b : Bool) → CrossAlong (with_history x₁ (cond b (map (strike i f) x₁.history) x₁.history)) (with_history x₂ (cond b (map (strike i f) x₂.history) x₂.history))
        by false = a
        by true =
            let s = a.shorter in
            let m₁ = length-map x₁.history (strike i f) in
            let m₂ = length-map x₂.history (strike i f) in
            let m : length x₂.history ≤ length (map (strike i f) x₂.history) = omega arith in
            let n : length (map (strike i f) x₁.history) ≤ length (map (strike i f) x₂.history) = omega arith in
            moved _ _ n m
            (λ n₁ n₂ l c. rw (drop_map (strike i f) n₁ x₁.history, drop_map (strike i f) n₂ x₂.history)
            (struck_both i f (drop n₁ x₁.history) (drop n₂ x₂.history) c))
    both_cross (cross_acquire c) i core = entered_both c
    both_cross (commit c) i core = a
    both_cross (cross_release c) i core = ended_both c

    -- An ordinary record of a foreign core, in the second run only.
    pub aside_cross : (ev : Event) (i : ℕ) (core : Core) → (named i → ⊥) → is_cross ev ≡ false → CrossAlong x₁ (after_cross ev i core x₂)
    aside_cross (acquire c m) i core out o = kept_aside (record { core = i; frame = frame_of core.state; class = c; mode = m }) (is_kept x₂ m)
    aside_cross (release c m) i core out o = a
    aside_cross (interrupt e) i core out o = by (leaves_handler e)
      where
        f : Frame
        f = frame_of core.state

        by : (b : Bool) → CrossAlong x₁ (with_history x₂ (cond b (map (strike i f) x₂.history) x₂.history))
        by false = a
        by true =
            let s = a.shorter in
            let m₂ = length-map x₂.history (strike i f) in
            let m : length x₂.history ≤ length (map (strike i f) x₂.history) = omega arith in
            let n : length x₁.history ≤ length (map (strike i f) x₂.history) = omega arith in
            moved _ _ n m (λ n₁ n₂ l c. rw (drop_map (strike i f) n₂ x₂.history) (struck_aside i f (drop n₂ x₂.history) out c))
    aside_cross (cross_acquire c) i core out o = absurd (false≢true (sym o))
    aside_cross (commit c) i core out o = absurd (false≢true (sym o))
    aside_cross (cross_release c) i core out o = absurd (false≢true (sym o))

    -- What a commit of a named core draws in the first run, it draws in the second.
    pub commit_mono : (c i : ℕ) (frame : Frame) → named i → c < max_classes → x₁.progress c ≡ true → (f t : ℕ) (k : Kind)
        → drawn_by_commit c i frame x₁ f t k ≡ true → drawn_by_commit c i frame x₂ f t k ≡ true
    commit_mono c i frame n l p f t k x =
        let test : Kept → Bool = λ e. eqb frame e.frame && (eqb t e.class && same_second k.second (second_by e.mode)) in
        let q : x₂.progress c ≡ true = sym (ap (λ (p : ℕ → Bool). p c) a.progress) ∙ p in
        and_mono (eqb f c) (same_first k.first E && some_kept (about i test) (drop (x₁.since c) x₁.history)) (λ y. y)
        (and_mono (same_first k.first E) (some_kept (about i test) (drop (x₁.since c) x₁.history)) (λ y. y) ((a.covers c l q).covered i n test)) x

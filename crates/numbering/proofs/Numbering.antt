-- Numbers given to pairs place by place. Assumes nothing.
use mathlib.Core.Path.{◌≡◌, refl, sym, ap, ◌∙◌, fun_ext, subst, subst₂}
use mathlib.Core.Bool.{Bool, true, false, cond, ◌&&◌, ◌||◌, and-true, and-false}
use mathlib.Core.List.{List, [], ◌∷◌}
use mathlib.Core.Logic.{inl, inr}
use Prim.Native.Nat.{ℕ, suc, ◌+◌, ◌*◌, ◌%◌, ◌<◌, ◌≤◌}
use native.Mathlib.Decide.{ℕ_discrete, dec_lt}
use native.Mathlib.Numerals.{add-one}
use native.Mathlib.Omega.{arith}
use lib.Dec.{eqb}
use lib.ListN.{length, get_or, take}
use borrow.Author.Tests.{le-leb, lt-leb, eq-eqb, ne_eqb, eqb-true}
use Rattle.rules.specs.Limits.{max_depth, max_accepted, held_modes}
use Rattle.rules.specs.HeldLocks.{First, E, S, Second, R, N, same_first, same_second, HeldLock, first_of, second_by, some_held, is_held}
use Rattle.rules.specs.Graph.{Dependencies}
use Rattle.rules.specs.KindNames.{some_kind}
use Rattle.rules.specs.Run.{Journal, with_record}
use Rattle.rules.proofs.Journals.{suc_not_zero}
use Rattle.layout.specs.Layout.{number_size, seen_size, held_of, depth_of, accepted_of, KeepsPast}
use Rattle.rules.specs.Number.{low_first}
use Rattle.layout.specs.Encoding.{NumberBytes, SeenBytes}
use Rattle.layout.proofs.Buffers.{cell_inside, cell_apart, keeps_self}
use Rattle.layout.proofs.Held.{unheld}
use Rattle.layout.proofs.Numbers.{number_is}
use Rattle.numbers.specs.Numbers.{NumberPut}
use Rattle.held.specs.Frames.{FrameBytes, SmallLocks}
use Rattle.update.specs.Update.{drawn_from}
use Rattle.numbering.specs.Numbering.{PairNumbered, Numbered}
use Rattle.held.proofs.Prefixes.{one_more, all_places, lock_at_lem}

-- ---- Where an acquire draws.

-- A lock is held, by its one letter or by the other.
held_by_letter : (c : ℕ) (hs : List HeldLock)
    → (some_held c (λ h. same_first E (first_of h)) hs || some_held c (λ h. same_first S (first_of h)) hs) ≡ is_held c hs
held_by_letter c [] = refl
held_by_letter c (h ∷ hs) = by (eqb c h.class) (first_of h) (some_held c (λ h. same_first E (first_of h)) hs) (some_held c (λ h. same_first S (first_of h)) hs) (held_by_letter c hs)
  where
    by : (here : Bool) (a : First) (e s : Bool) {rest : Bool} → (e || s) ≡ rest
        → (((here && same_first E a) || e) || ((here && same_first S a) || s)) ≡ ((here && true) || rest)
    by true E e s q = refl
    by true S true s q = refl
    by true S false s q = refl
    by false a e s q = q

-- An acquire that waits draws to its class from each class that is held, and nowhere else.
some_drawn : (hs : List HeldLock) (class mode f t : ℕ) → mode < held_modes → some_kind (drawn_from hs class mode f t) ≡ (eqb t class && is_held f hs)
some_drawn hs class mode f t l =
    rw (lt-leb held_modes mode l)
    (by (eqb t class) (second_by mode) (some_held f (λ h. same_first E (first_of h)) hs) (some_held f (λ h. same_first S (first_of h)) hs) (held_by_letter f hs))
  where
    by : (a : Bool) (w : Second) (e s : Bool) {held : Bool} → (e || s) ≡ held
        → ((((a && same_second R w) && e) || ((a && same_second N w) && e)) || (((a && same_second R w) && s) || ((a && same_second N w) && s))) ≡ (a && held)
    by true R true s q = q
    by true R false true q = q
    by true R false false q = q
    by true N true s q = q
    by true N false true q = q
    by true N false false q = q
    by false w e s q = refl

-- ---- One pair.

pub put_as : {before after : List ℕ} {at n m : ℕ} → n ≡ m → NumberPut before at n after → NumberPut before at m after
put_as {before} {after} {at} e P = subst (λ (v : ℕ). NumberPut before at v after) e P

pub pair_as : {before after : List ℕ} {at n m : ℕ} → n ≡ m → PairNumbered before at n after → PairNumbered before at m after
pair_as {before} {after} {at} e P = subst (λ (v : ℕ). PairNumbered before at v after) e P

pub same_seen : {K : ℕ} {buffer : List ℕ} (s s' : ℕ → ℕ → ℕ) → ((f t : ℕ) → s f t ≡ s' f t) → SeenBytes K s buffer → SeenBytes K s' buffer
same_seen {K} {buffer} s s' e b = subst (λ (x : ℕ → ℕ → ℕ). SeenBytes K x buffer) (fun_ext (λ f. fun_ext (λ t. e f t))) b

module _ (K from to number : ℕ) (lf : from < K) (lt : to < K) where
  abbrev pub put : (ℕ → ℕ → ℕ) → ℕ → ℕ → ℕ
  put s f t = cond (eqb f from && eqb t to) number (s f t)

  pub put_pair : (s : ℕ → ℕ → ℕ) (now after : List ℕ) → SeenBytes K s now → NumberPut now (number_size * (from * K + to)) number after
      → SeenBytes K (put s) after
  put_pair s now after b P =
      record { long = rw P.long b.long; numbers = λ f t l l'. at f t l l' (ℕ_discrete f from) (ℕ_discrete t to) }
    where
      apart : (f t : ℕ) → f < K → t < K → (f * K + t ≡ from * K + to → ⊥) → NumberBytes (s f t) after (number_size * (f * K + t))
      apart f t l l' n j h =
          P.else (number_size * (f * K + t) + j) (elim (dec_lt (f * K + t) (from * K + to)) [
            | yes q ↦ inl (omega arith)
            | no q ↦ inr (elim (dec_lt (from * K + to) (f * K + t)) [ yes r ↦ omega arith | no r ↦ absurd (n (omega arith)) ])
          ])
          ∙ b.numbers f t l l' j h

      at : (f t : ℕ) → f < K → t < K → Dec (f ≡ from) → Dec (t ≡ to) → NumberBytes (put s f t) after (number_size * (f * K + t))
      at f t l l' (yes e) (yes e') =
          let v : put s from to ≡ number = rw (eq-eqb from from refl, eq-eqb to to refl) refl in
          subst₂ (λ (x y : ℕ). NumberBytes (put s x y) after (number_size * (x * K + y))) (sym e) (sym e')
          (subst (λ (x : ℕ). NumberBytes x after (number_size * (from * K + to))) (sym v) P.there)
      at f t l l' (no n) q =
          let v : put s f t ≡ s f t = rw (ne_eqb f from n) refl in
          subst (λ (x : ℕ). NumberBytes x after (number_size * (f * K + t))) (sym v) (apart f t l l' (λ e. n (cell_apart K f t from to l' lt e)))
      at f t l l' (yes e) (no n) =
          let v : put s f t ≡ s f t = rw (ne_eqb t to n, and-false (eqb f from)) refl in
          subst (λ (x : ℕ). NumberBytes x after (number_size * (f * K + t))) (sym v)
          (apart f t l l' (λ q. n (let z : f * K ≡ from * K = ap (λ (x : ℕ). x * K) e in omega arith)))

-- ---- Place by place.

-- The pairs with the first p places have their numbers.
pub record Numbering (desk : List ℕ) (K n class : ℕ) (before : List ℕ) (p : ℕ) (now : List ℕ) : Type 0 where
  pub keeps : KeepsPast (seen_size K) before now
  pub numbered : (hs : List HeldLock) → FrameBytes desk n hs → SmallLocks hs → (seen : ℕ → ℕ → ℕ) → ((f t : ℕ) → seen f t ≤ max_accepted)
      → SeenBytes K seen before
      → SeenBytes K (λ f t. cond (eqb (seen f t) 0 && (eqb t class && is_held f (take p hs))) (suc (accepted_of desk)) (seen f t)) now

-- The count is that of the journal.
pub by_journal : (desk buffer : List ℕ) (K : ℕ) (d : Dependencies) (j : Journal) → j.accepted ≡ accepted_of desk
    → SeenBytes K (λ f t. cond (eqb (j.seen f t) 0 && some_kind (d f t)) (suc (accepted_of desk)) (j.seen f t)) buffer
    → SeenBytes K (with_record d j).seen buffer
by_journal desk buffer K d j e b =
    subst (λ (n : ℕ). SeenBytes K (λ f t. cond (eqb (j.seen f t) 0 && some_kind (d f t)) (suc n) (j.seen f t)) buffer) (sym e) b

-- A try gives no number.
pub numbered_none : (desk : List ℕ) (K n class mode : ℕ) (seen : List ℕ) → held_modes ≤ mode → Numbered desk K n class mode seen seen
numbered_none desk K n class mode buffer l =
    record {
      keeps = keeps_self (seen_size K) buffer;
      numbered = λ hs F small j e most b.
          same_seen j.seen (with_record (drawn_from hs class mode) j).seen
          (λ f t. sym (rw (le-leb held_modes mode l, and-false (eqb (j.seen f t) 0)) refl)) b;
    }

module _ (desk : List ℕ) (K n class : ℕ) (before : List ℕ) where
  pub numbering_start : Numbering desk K n class before 0 before
  numbering_start =
      record {
        keeps = keeps_self (seen_size K) before;
        numbered = λ hs F small seen most b.
            same_seen seen (λ f t. cond (eqb (seen f t) 0 && (eqb t class && is_held f (take 0 hs))) (suc (accepted_of desk)) (seen f t))
            (λ f t. sym (rw (and-false (eqb t class), and-false (eqb (seen f t) 0)) refl)) b;
      }

  -- A place more: the pair gets the number where it has none.
  one_pair : (old next : ℕ) (z : Bool) → eqb old 0 ≡ z → (here to held : Bool)
      → cond ((here && to) && eqb (cond (z && (to && held)) (suc next) old) 0) (suc next) (cond (z && (to && held)) (suc next) old)
      ≡ cond (z && (to && (held || (here && true)))) (suc next) old
  one_pair old next z e true true true = by z e
    where
      by : (z : Bool) → eqb old 0 ≡ z → cond (eqb (cond (z && true) (suc next) old) 0) (suc next) (cond (z && true) (suc next) old) ≡ cond (z && true) (suc next) old
      by true e = rw (suc_not_zero next) refl
      by false e = rw e refl
  one_pair old next true e true true false = rw e refl
  one_pair old next false e true true false = rw e refl
  one_pair old next z e true false held = refl
  one_pair old next z e false true true = refl
  one_pair old next z e false true false = refl
  one_pair old next z e false false held = refl

  module _ (p : ℕ) (now : List ℕ) (D : Numbering desk K n class before p now) (l : p < depth_of desk n) (m : p < max_depth) (lc : class < K)
      (lh : held_of desk n p % 64 < K) (room : accepted_of desk < max_accepted) where
    abbrev cell : ℕ
    cell = number_size * (held_of desk n p % 64 * K + class)

    module _ (hs : List HeldLock) (F : FrameBytes desk n hs) (small : SmallLocks hs) (seen : ℕ → ℕ → ℕ) (most : (f t : ℕ) → seen f t ≤ max_accepted)
        (b : SeenBytes K seen before) where
      abbrev sofar : ℕ → ℕ → ℕ
      sofar f t = cond (eqb (seen f t) 0 && (eqb t class && is_held f (take p hs))) (suc (accepted_of desk)) (seen f t)

      abbrev next : ℕ → ℕ → ℕ
      next f t = cond (eqb (seen f t) 0 && (eqb t class && is_held f (take (suc p) hs))) (suc (accepted_of desk)) (seen f t)

      abbrev held_class : ℕ
      held_class = (get_or hs p unheld).class

      inside : p < length hs
      inside = let d = F.depth in omega arith

      class_is : held_of desk n p % 64 ≡ held_class
      class_is = (lock_at_lem desk n hs F small p inside m).class

      grows : (f t : ℕ) → cond ((eqb f held_class && eqb t class) && eqb (sofar f t) 0) (suc (accepted_of desk)) (sofar f t) ≡ next f t
      grows f t =
          one_pair (seen f t) (accepted_of desk) (eqb (seen f t) 0) refl (eqb f held_class) (eqb t class) (is_held f (take p hs))
          ∙ ap (λ (x : Bool). cond (eqb (seen f t) 0 && (eqb t class && x)) (suc (accepted_of desk)) (seen f t)) (sym (one_more f (λ h. true) hs p inside))

      sofar_small : (f t : ℕ) → sofar f t ≤ max_accepted
      sofar_small f t = by (eqb (seen f t) 0 && (eqb t class && is_held f (take p hs)))
        where
          by : (x : Bool) → cond x (suc (accepted_of desk)) (seen f t) ≤ max_accepted
          by true = omega arith
          by false = most f t

      stands : low_first number_size now cell ≡ sofar held_class class
      stands =
          subst (λ (c : ℕ). low_first number_size now (number_size * (c * K + class)) ≡ sofar held_class class) (sym class_is)
          (number_is now (sofar held_class class) (number_size * (held_class * K + class)) (sofar_small held_class class)
          ((D.numbered hs F small seen most b).numbers held_class class (rw class_is at lh) lc))

      -- The pair at the place, and any other.
      put_there : eqb (sofar held_class class) 0 ≡ true → (f t : ℕ) → cond (eqb f held_class && eqb t class) (suc (accepted_of desk)) (sofar f t) ≡ next f t
      put_there z f t = by (eqb f held_class) refl (eqb t class) refl ∙ grows f t
        where
          by : (x : Bool) → eqb f held_class ≡ x → (y : Bool) → eqb t class ≡ y
              → cond (eqb f held_class && eqb t class) (suc (accepted_of desk)) (sofar f t)
              ≡ cond ((eqb f held_class && eqb t class) && eqb (sofar f t) 0) (suc (accepted_of desk)) (sofar f t)
          by true e true e' =
              let q : eqb (sofar f t) 0 ≡ true = subst₂ (λ (x y : ℕ). eqb (sofar x y) 0 ≡ true) (sym (eqb-true f held_class e)) (sym (eqb-true t class e')) z in
              ap (λ (x : Bool). cond x (suc (accepted_of desk)) (sofar f t)) (sym (and-true (eqb f held_class && eqb t class)))
              ∙ ap (λ (x : Bool). cond ((eqb f held_class && eqb t class) && x) (suc (accepted_of desk)) (sofar f t)) (sym q)
          by true e false e' = rw (e, e') refl
          by false e y e' = rw e refl

      kept_there : eqb (sofar held_class class) 0 ≡ false → (f t : ℕ) → sofar f t ≡ next f t
      kept_there z f t = by (eqb f held_class) refl (eqb t class) refl ∙ grows f t
        where
          by : (x : Bool) → eqb f held_class ≡ x → (y : Bool) → eqb t class ≡ y
              → sofar f t ≡ cond ((eqb f held_class && eqb t class) && eqb (sofar f t) 0) (suc (accepted_of desk)) (sofar f t)
          by true e true e' =
              let q : eqb (sofar f t) 0 ≡ false = subst₂ (λ (x y : ℕ). eqb (sofar x y) 0 ≡ false) (sym (eqb-true f held_class e)) (sym (eqb-true t class e')) z in
              sym (ap (λ (x : Bool). cond ((eqb f held_class && eqb t class) && x) (suc (accepted_of desk)) (sofar f t)) q ∙ ap (λ (x : Bool). cond x (suc (accepted_of desk)) (sofar f t)) (and-false (eqb f held_class && eqb t class)))
          by true e false e' = rw (e, e') refl
          by false e y e' = rw e refl

    numbering_put : (after : List ℕ) → low_first number_size now cell ≡ 0 → NumberPut now cell (suc (accepted_of desk)) after
        → Numbering desk K n class before (p + 1) after
    numbering_put after z P =
        record {
          keeps = record {
            long = P.long ∙ D.keeps.long;
            past = λ j out. P.else j (inr (let h = cell_inside K (held_of desk n p % 64) class lh lc in omega arith)) ∙ D.keeps.past j out;
          };
          numbered = λ hs F small seen most b.
              let c = class_is hs F small seen most b in
              let q : eqb (sofar hs F small seen most b (held_class hs F small seen most b) class) 0 ≡ true =
              eq-eqb _ 0 (sym (stands hs F small seen most b) ∙ z) in
              rw add-one
              (same_seen _ (next hs F small seen most b) (put_there hs F small seen most b q)
              (put_pair K (held_class hs F small seen most b) class (suc (accepted_of desk)) (rw c at lh) lc (sofar hs F small seen most b) now after
              (D.numbered hs F small seen most b) (rw c at P)));
        }

    numbering_kept : (low_first number_size now cell ≡ 0 → ⊥) → Numbering desk K n class before (p + 1) now
    numbering_kept z =
        record {
          keeps = D.keeps;
          numbered = λ hs F small seen most b.
              rw add-one
              (same_seen (sofar hs F small seen most b) (next hs F small seen most b)
              (kept_there hs F small seen most b (ne_eqb _ 0 (λ e. z (stands hs F small seen most b ∙ e)))) (D.numbered hs F small seen most b));
        }

    pub numbering_step : (after : List ℕ) → PairNumbered now cell (suc (accepted_of desk)) after → Numbering desk K n class before (p + 1) after
    numbering_step after P =
        elim (ℕ_discrete (low_first number_size now cell) 0) [
          | yes z ↦ numbering_put after z (P.numbered z)
          | no z ↦ subst (λ (s : List ℕ). Numbering desk K n class before (p + 1) s) (sym (P.had z)) (numbering_kept z)
        ]

  pub numbering_done : (mode : ℕ) → mode < held_modes → (d : ℕ) (now : List ℕ) → Numbering desk K n class before d now → d ≡ depth_of desk n
      → Numbered desk K n class mode before now
  numbering_done mode waits d now D e =
      record {
        keeps = D.keeps;
        numbered = λ hs F small j c most b.
            by_journal desk now K (drawn_from hs class mode) j c
            (same_seen (λ f t. cond (eqb (j.seen f t) 0 && (eqb t class && is_held f hs)) (suc (accepted_of desk)) (j.seen f t)) _
            (λ f t. ap (λ (x : Bool). cond (eqb (j.seen f t) 0 && x) (suc (accepted_of desk)) (j.seen f t)) (sym (some_drawn hs class mode f t waits)))
            (subst
            (λ (l : List HeldLock). SeenBytes K (λ f t. cond (eqb (j.seen f t) 0 && (eqb t class && is_held f l)) (suc (accepted_of desk)) (j.seen f t)) now)
            (ap (λ (i : ℕ). take i hs) (e ∙ F.depth) ∙ all_places hs) (D.numbered hs F small j.seen most b)));
      }

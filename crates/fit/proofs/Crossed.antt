-- The crosslocks of the desk with the history, and what they encode. Assumes nothing.
use mathlib.Core.Path.{◌≡◌, refl, sym, ap, ap₂, ◌∙◌, subst, fun_ext}
use mathlib.Core.Bool.{Bool, true, false, cond}
use mathlib.Core.List.{List, []}
use mathlib.Core.Option.{Option, none, some}
use Prim.Native.Nat.{ℕ, zero, suc, ◌+◌, ◌*◌, ◌/◌, ◌%◌, ◌^◌, ◌≤◌, ◌<◌}
use native.Mathlib.Nat.{pow-suc, le_of_suc-le-suc, not-suc-le-zero}
use native.Mathlib.Decide.{dec_lt}
use native.Mathlib.Omega.{arith}
use lib.Dec.{ltb, eqb}
use lib.Pow.{pow_pos}
use lib.Seq.{ext_get_or}
use lib.ListN.{length, get_or}
use borrow.Author.Tests.{ltb-true, eqb-true, lt-ltb, le-ltb}
use Rattle.words.specs.Bits.{bit}
use Rattle.words.specs.Pack.{pack}
use Rattle.words.proofs.Words.{bit_high}
use Rattle.words.proofs.Packs.{pack_lt, flag_le}
use Rattle.rules.specs.Limits.{max_classes, held_modes}
use Rattle.rules.specs.Decision.{tabulate}
use Rattle.rules.specs.Crosslocks.{Kept, History, Crosslocks}
use Rattle.rules.specs.Number.{low_first}
use Rattle.rules.specs.Log.{word_size}
use Rattle.rules.proofs.Booleans.{and_cases, and_both}
use Rattle.rules.proofs.Closure.{length_tabulate, get_d_tabulate}
use Rattle.layout.specs.Layout.{frames_per_core, frame_count, frame_number, number_size, declared_at, progress_at, kept_at, since_at, desk_size, classes_of, member_of, declared_of, progress_of, kept_of, since_of, place_of, lock_of, AreBytes}
use Rattle.layout.specs.Fit.{entry_fits, entries_fit}
use Rattle.layout.specs.Encoding.{word_of, place_byte, lock_byte, NumberBytes, WordBytes, CrossBytes}
use Rattle.layout.specs.Decoding.{kept_by, view_cross}
use Rattle.layout.proofs.AllBelow.{all_none, all_at, all_of}
use Rattle.layout.proofs.Numbers.{value_small, bytes_of_lem}
use Rattle.layout.proofs.Cross.{member_word, word_member, declared_word, declared_at_lem, progress_word, progress_at_lem, progress_size, kept_is, since_is}
use Rattle.validity.specs.Valid.{ValidEntry, struck, counts, ValidCross}
use Rattle.fit.proofs.Facts.{CrossFacts}

outside : (b : Bool) → (b ≡ true → ⊥) → b ≡ false
outside true h = absurd (h refl)
outside false h = refl

-- ---- One entry of the history.

place_back : (place held : ℕ) → place ≡ place_byte (kept_by place held)
place_back zero held = refl
place_back (suc n) held = omega arith

lock_back : (K place held : ℕ) → entry_fits K place held ≡ true → held ≡ lock_byte (kept_by place held)
unfolding entry_fits
lock_back K zero held e = eqb-true held 0 e
lock_back K (suc n) held e = omega arith

entry_valid : (K place held : ℕ) → entry_fits K place held ≡ true → ValidEntry K (kept_by place held)
unfolding entry_fits
entry_valid K zero held e = struck
entry_valid K (suc n) held e =
    let a = and_cases (ltb n frame_count) _ e in
    let b = and_cases (ltb (held % 64) K) _ a.1 in
    let l = ltb-true n frame_count a.0 in
    counts {e = record { core = n / frames_per_core; frame = n % frames_per_core; class = held % 64; mode = held / 64 }} (omega arith) (omega arith) (ltb-true (held % 64) K b.0) (ltb-true (held / 64) held_modes b.1)

entry_fits_lem : (K : ℕ) → K ≤ max_classes → (a : Option Kept) → ValidEntry K a → entry_fits K (place_byte a) (lock_byte a) ≡ true
unfolding entry_fits
entry_fits_lem K few none struck = refl
entry_fits_lem K few (some e) (counts c f l m) =
    and_both (lt-ltb (frame_number e.core e.frame) frame_count (omega arith))
    (and_both (lt-ltb ((e.class + 64 * e.mode) % 64) K (omega arith)) (lt-ltb ((e.class + 64 * e.mode) / 64) held_modes (omega arith)))

entry_is : (K : ℕ) → K ≤ max_classes → (a : Option Kept) → ValidEntry K a → kept_by (place_byte a) (lock_byte a) ≡ a
entry_is K few none struck = refl
entry_is K few (some e) (counts c f l m) =
    ap some
    (ap₂ (λ (i g : ℕ). record { core = i; frame = g; class = (e.class + 64 * e.mode) % 64; mode = (e.class + 64 * e.mode) / 64 }) (omega arith) (omega arith)
    ∙ ap₂ (λ (a b : ℕ). record { core = e.core; frame = e.frame; class = a; mode = b }) (omega arith) (omega arith))

-- ---- Fit crosslocks encode their view, and are valid.

-- With no history at hand every entry reads as struck out.
pub no_entries : (desk : List ℕ) → entries_fit desk [] ≡ true
unfolding entries_fit entry_fits
no_entries desk = all_of (kept_of desk) (λ i. entry_fits (classes_of desk) (place_of [] i) (lock_of [] i)) (λ i l. refl)

module _ (desk history : List ℕ) where
  abbrev entry_at : ℕ → Option Kept
  entry_at i = kept_by (place_of history i) (lock_of history i)

  abbrev fits_at : ℕ → Bool
  fits_at i = entry_fits (classes_of desk) (place_of history i) (lock_of history i)

  entry_at_lem : (i : ℕ) → i < length (view_cross desk history).history → (i < kept_of desk) × (get_or (view_cross desk history).history i none ≡ entry_at i)
  entry_at_lem i l = let k = rw (length_tabulate (kept_of desk) entry_at) at l in (k, get_d_tabulate (kept_of desk) entry_at none i k)

  module _ (bytes : AreBytes desk_size desk) (e : entries_fit desk history ≡ true) where
    fit_at : (i : ℕ) → i < kept_of desk → fits_at i ≡ true
    unfolding entries_fit
    fit_at i l = all_at (kept_of desk) fits_at e i l

    pub fit_cross : CrossBytes (view_cross desk history) desk history
    fit_cross =
        record {
          declared = word declared_at (omega arith);
          progress = word progress_at (omega arith);
          kept = subst (λ (n : ℕ). NumberBytes n desk kept_at) (sym (length_tabulate (kept_of desk) entry_at))
              (bytes_of_lem desk number_size kept_at (λ j l. bytes (kept_at + j) (omega arith)));
          since = λ c l. subst (λ (b : Bool). NumberBytes (cond b (since_of desk c) 0) desk (since_at + number_size * c)) (sym (lt-ltb c max_classes l))
              (bytes_of_lem desk number_size (since_at + number_size * c) (λ j h. bytes (since_at + number_size * c + j) (omega arith)));
          entries = record {
            places = λ i l. let p = entry_at_lem i l in place_back (place_of history i) (lock_of history i) ∙ ap place_byte (sym p.1);
            locks = λ i l. let p = entry_at_lem i l in
                lock_back (classes_of desk) (place_of history i) (lock_of history i) (fit_at i p.0) ∙ ap lock_byte (sym p.1);
          };
        }
      where
        word : (at : ℕ) → at + word_size ≤ desk_size → WordBytes (word_of (member_of (low_first word_size desk at))) desk at
        word at h =
            let small : (j : ℕ) → j < word_size → get_or desk (at + j) 0 < 256 = λ j l. bytes (at + j) (omega arith) in
            subst (λ (n : ℕ). WordBytes n desk at) (sym (word_member (low_first word_size desk at) (value_small desk word_size at small)))
            (bytes_of_lem desk word_size at small)

    pub cross_valid : CrossFacts desk → ValidCross (classes_of desk) (view_cross desk history)
    cross_valid f =
        record {
          declared = λ c h. elim (dec_lt c (classes_of desk)) [
            | yes l ↦ l
            | no l ↦ absurd (let z = bit_high (classes_of desk) (declared_of desk) c f.declared (omega arith) in let o = eqb-true (bit (declared_of desk) c) 1 h in omega arith)
          ];
          progress = λ c h. elim (dec_lt c max_classes) [
            | yes l ↦ f.progress c l h
            | no l ↦ absurd (let z = bit_high max_classes (progress_of desk) c (value_small desk word_size progress_at (λ j l. bytes (progress_at + j) (omega arith))) (omega arith) in let o = eqb-true (bit (progress_of desk) c) 1 h in omega arith)
          ];
          few = f.few;
          kept = rw (length_tabulate (kept_of desk) entry_at) f.kept;
          since = λ c. elim (dec_lt c max_classes) [
            | yes l ↦ rw (lt-ltb c max_classes l)
                (let v = value_small desk number_size (since_at + number_size * c) (λ j h. bytes (since_at + number_size * c + j) (omega arith)) in omega arith)
            | no l ↦ let h : max_classes ≤ c = omega arith in rw (le-ltb c max_classes h) (omega arith)
          ];
          no_more = λ c l. rw (le-ltb c max_classes l);
          entries = λ i l. let p = entry_at_lem i l in
              subst (ValidEntry (classes_of desk)) (sym p.1) (entry_valid (classes_of desk) (place_of history i) (lock_of history i) (fit_at i p.0));
        }

-- ---- Where nothing is kept, no history is read.

pub nothing_kept : (desk history : List ℕ) → (view_cross desk history).history ≡ [] → kept_of desk ≡ 0
nothing_kept desk history e = sym (length_tabulate (kept_of desk) (entry_at desk history)) ∙ ap length e

pub entries_unread : (desk history : List ℕ) → kept_of desk ≡ 0 → entries_fit desk history ≡ true
unfolding entries_fit
entries_unread desk history e = rw e (all_none (fits_at desk history))

pub cross_unread : (desk history other : List ℕ) → kept_of desk ≡ 0 → view_cross desk history ≡ view_cross desk other
cross_unread desk history other e =
    ap (λ (h : History). record { declared = (view_cross desk history).declared; progress = (view_cross desk history).progress; since = (view_cross desk history).since; history = h })
    (none_of history ∙ sym (none_of other))
  where
    none_of : (h : List ℕ) → (view_cross desk h).history ≡ []
    none_of h = ap (λ (n : ℕ). tabulate n (entry_at desk h)) e

-- ---- And back.

-- A set of classes below K is a word below 2 ^ K.
pack_within : (n K : ℕ) (p : ℕ → Bool) → ((c : ℕ) → p c ≡ true → c < K) → pack n p < 2 ^ K
unfolding pack
pack_within zero K p h = pow_pos K
pack_within (suc n) zero p h =
    let r = pack_within n zero (λ c. p (suc c)) (λ c t. absurd (not-suc-le-zero (h (suc c) t))) in
    let z : p zero ≡ false = outside (p zero) (λ t. not-suc-le-zero (h zero t)) in
    rw z (omega arith)
pack_within (suc n) (suc K) p h =
    let q : 2 ^ suc K ≡ 2 ^ K * 2 = pow-suc 2 K in
    let r = pack_within n K (λ c. p (suc c)) (λ c t. le_of_suc-le-suc (h (suc c) t)) in
    let b = flag_le (p zero) in
    omega arith

-- A set of classes is that of its word.
member_is : (p : ℕ → Bool) (w : ℕ) → w ≡ word_of p → ((c : ℕ) → p c ≡ true → c < max_classes) → member_of w ≡ p
member_is p w e h =
    fun_ext (λ c. elim (dec_lt c max_classes) [
      | yes l ↦ ap (λ (w : ℕ). member_of w c) e ∙ member_word p c l
      | no l ↦
          let z : bit w c ≡ 0 = bit_high max_classes w c (rw e (pack_lt max_classes p)) (omega arith) in
          ap (λ (b : ℕ). eqb b 1) z ∙ sym (outside (p c) (λ t. let q = h c t in omega arith))
    ])

module _ (desk history : List ℕ) (few : classes_of desk ≤ max_classes) (x : Crosslocks) (v : ValidCross (classes_of desk) x) (e : CrossBytes x desk history) where
  declared_is : member_of (declared_of desk) ≡ x.declared
  declared_is = member_is x.declared (declared_of desk) (declared_word e) (λ c h. let l = v.declared c h in omega arith)

  progress_is : member_of (progress_of desk) ≡ x.progress
  progress_is = member_is x.progress (progress_of desk) (progress_word e) (λ c h. let l = v.declared c (v.progress c h) in omega arith)

  kept_count : kept_of desk ≡ length x.history
  kept_count = kept_is e v.kept

  since_all : (c : ℕ) → cond (ltb c max_classes) (since_of desk c) 0 ≡ x.since c
  since_all c =
      elim (dec_lt c max_classes) [
        | yes l ↦ rw (lt-ltb c max_classes l) (since_is e c l (v.since c))
        | no l ↦ let h : max_classes ≤ c = omega arith in rw (le-ltb c max_classes h) (sym (v.no_more c h))
      ]

  entries_are : (view_cross desk history).history ≡ x.history
  entries_are =
      let long : length (view_cross desk history).history ≡ length x.history = length_tabulate (kept_of desk) (entry_at desk history) ∙ kept_count in
      ext_get_or none (view_cross desk history).history x.history long
      (λ i l.
      let h : i < length x.history = rw long at l in
      (entry_at_lem desk history i l).1
      ∙ ap₂ kept_by (e.entries.places i h) (e.entries.locks i h)
      ∙ entry_is (classes_of desk) few (get_or x.history i none) (v.entries i h))

  pub cross_is : view_cross desk history ≡ x
  cross_is =
      ap₂ (λ (d p : ℕ → Bool). record { declared = d; progress = p; since = (view_cross desk history).since; history = (view_cross desk history).history }) declared_is progress_is
      ∙ ap₂ (λ (s : ℕ → ℕ) (h : History). record { declared = x.declared; progress = x.progress; since = s; history = h }) (fun_ext since_all) entries_are

  pub cross_fact : CrossFacts desk
  cross_fact =
      record {
        declared = rw (declared_word e) (pack_within max_classes (classes_of desk) x.declared v.declared);
        progress = λ c l h. declared_at_lem e c l ∙ v.progress c (sym (progress_at_lem e c l) ∙ h);
        few = rw (progress_size e) v.few;
        kept = rw kept_count v.kept;
      }

  pub entries_fact : entries_fit desk history ≡ true
  unfolding entries_fit
  entries_fact =
      all_of (kept_of desk) (fits_at desk history)
      (λ i l.
      let h : i < length x.history = rw kept_count at l in
      ap₂ (entry_fits (classes_of desk)) (e.entries.places i h) (e.entries.locks i h)
      ∙ entry_fits_lem (classes_of desk) few (get_or x.history i none) (v.entries i h))

-- The numbers of the crosslocks, written one by one. Assumes nothing.
use mathlib.Core.Path.{◌≡◌, sym, ap, ◌∙◌, subst}
use mathlib.Core.Bool.{Bool, true, false, cond}
use mathlib.Core.List.{List, []}
use mathlib.Core.Logic.{inl, inr, ⊎_elim}
use Prim.Native.Nat.{ℕ, ◌+◌, ◌*◌, ◌^◌, ◌<◌, ◌≤◌}
use native.Mathlib.Nat.{not-suc-le-zero}
use native.Mathlib.Decide.{dec_lt}
use native.Mathlib.Omega.{arith}
use lib.Dec.{eqb}
use lib.ListN.{length}
use borrow.Author.Tests.{eq-eqb, ne_eqb}
use Rattle.words.specs.Bits.{With, Without}
use Rattle.rules.specs.Limits.{max_classes}
use Rattle.rules.specs.Crosslocks.{History, Crosslocks, is_idle, with, without, with_history}
use Rattle.rules.specs.Log.{word_size}
use Rattle.layout.specs.Layout.{number_size, declared_at, progress_at, kept_at, since_at, desk_size, member_of, progress_of, kept_of}
use Rattle.layout.specs.Encoding.{NumberBytes, word_of, HistoryBytes, CrossBytes}
use Rattle.layout.proofs.Cross.{progress_word, progress_size, kept_is}
use Rattle.numbers.specs.Numbers.{WidePut, NumberPut, WordPut}
use Rattle.crosslocks.specs.Progress.{KeepsUncrossed, Entered, Ended}
use Rattle.crosslocks.proofs.Sets.{with_word, without_word}

pub keeps_put : (size at n : ℕ) (before after : List ℕ) → declared_at ≤ at → at + size ≤ desk_size → WidePut size before at n after
    → KeepsUncrossed before after
keeps_put size at n before after low high p =
    record {
      long = p.long;
      else = λ j o. p.else j (⊎_elim (λ l. inl (omega arith)) (λ l. inr (omega arith)) o);
    }

pub keeps_then : {a b c : List ℕ} → KeepsUncrossed a b → KeepsUncrossed b c → KeepsUncrossed a c
keeps_then p q = record { long = q.long ∙ p.long; else = λ j o. q.else j o ∙ p.else j o }

-- The crosslocks with another set in progress, or another number of a class.
abbrev pub in_progress : (ℕ → Bool) → Crosslocks → Crosslocks
in_progress p x = record { declared = x.declared; progress = p; since = x.since; history = x.history }

abbrev pub since_now : (class n : ℕ) → Crosslocks → Crosslocks
since_now c n x = record { declared = x.declared; progress = x.progress; since = λ d. cond (eqb d c) n (x.since d); history = x.history }

module _ {x : Crosslocks} {before after history : List ℕ} (e : CrossBytes x before history) where
  pub progress_put : (p : ℕ → Bool) → WordPut before progress_at (word_of p) after → CrossBytes (in_progress p x) after history
  progress_put p w =
      record {
        declared = λ j l. w.else (declared_at + j) (inl (omega arith)) ∙ e.declared j l;
        progress = w.there;
        kept = λ j l. w.else (kept_at + j) (inr (omega arith)) ∙ e.kept j l;
        since = λ c h j l. w.else (since_at + number_size * c + j) (inr (omega arith)) ∙ e.since c h j l;
        entries = e.entries;
      }

  pub since_put : (class n : ℕ) → class < max_classes → NumberPut before (since_at + number_size * class) n after → CrossBytes (since_now class n x) after history
  since_put class n inside w =
      record {
        declared = λ j l. w.else (declared_at + j) (inl (omega arith)) ∙ e.declared j l;
        progress = λ j l. w.else (progress_at + j) (inl (omega arith)) ∙ e.progress j l;
        kept = λ j l. w.else (kept_at + j) (inl (omega arith)) ∙ e.kept j l;
        since = number;
        entries = e.entries;
      }
    where
      by : (c : ℕ) (t : Bool) → eqb c class ≡ t → NumberBytes (cond t n (x.since c)) after (since_at + number_size * c)
          → NumberBytes (cond (eqb c class) n (x.since c)) after (since_at + number_size * c)
      by c t q h = subst (λ (b : Bool). NumberBytes (cond b n (x.since c)) after (since_at + number_size * c)) (sym q) h

      number : (c : ℕ) → c < max_classes → NumberBytes (cond (eqb c class) n (x.since c)) after (since_at + number_size * c)
      number c h =
          elim (dec_lt c class) [
            | yes l ↦
                by c false (ne_eqb c class (λ q. omega arith)) (λ j m. w.else (since_at + number_size * c + j) (inl (omega arith)) ∙ e.since c h j m)
            | no a ↦
                elim (dec_lt class c) [
                  | yes l ↦
                      by c false (ne_eqb c class (λ q. omega arith)) (λ j m. w.else (since_at + number_size * c + j) (inr (omega arith)) ∙ e.since c h j m)
                  | no b ↦
                      let q : c ≡ class = omega arith in
                      by c true (eq-eqb c class q) (subst (λ (d : ℕ). NumberBytes n after (since_at + number_size * d)) (sym q) w.there)
                ]
          ]

  pub kept_put : (es : History) (history' : List ℕ) → NumberPut before kept_at (length es) after → HistoryBytes es history'
      → CrossBytes (with_history x es) after history'
  kept_put es history' w h =
      record {
        declared = λ j l. w.else (declared_at + j) (inl (omega arith)) ∙ e.declared j l;
        progress = λ j l. w.else (progress_at + j) (inl (omega arith)) ∙ e.progress j l;
        kept = w.there;
        since = λ c h j l. w.else (since_at + number_size * c + j) (inr (omega arith)) ∙ e.since c h j l;
        entries = h;
      }

-- A crosslock is acquired.
pub enters : (before half after : List ℕ) (class word r kept : ℕ) → class < max_classes → word ≡ progress_of before → r < 2 ^ 64 → With word class r
    → WordPut before progress_at r half → kept ≡ kept_of half → NumberPut half (since_at + number_size * class) kept after → Entered before class after
enters before half after class word r kept inside is s w p k q =
    record {
      keeps =
          keeps_then (keeps_put word_size progress_at r before half (omega arith) (omega arith) p)
          (keeps_put number_size (since_at + number_size * class) kept half after (omega arith) (omega arith) q);
      entered = λ x history l e.
          let u : With (word_of x.progress) class r = subst (λ (v : ℕ). With v class r) (is ∙ progress_word e) w in
          let put = subst (λ (v : ℕ). WordPut before progress_at v half) (with_word x.progress class r s u) p in
          let h = progress_put e (with class x.progress) put in
          let n = k ∙ kept_is h l in
          since_put h class (length x.history) inside (subst (λ (v : ℕ). NumberPut half (since_at + number_size * class) v after) n q);
    }

-- One is released, and those that are left decide whether the history stays.
module _ (before half : List ℕ) (class word v r : ℕ) (is : word ≡ progress_of before) (s : r < 2 ^ 64) (u : With 0 class v) (w : Without word v r)
    (p : WordPut before progress_at r half) where
  left : (x : Crosslocks) (history : List ℕ) → CrossBytes x before history → CrossBytes (in_progress (without class x.progress) x) half history
  left x history e =
      let t : Without (word_of x.progress) v r = subst (λ (n : ℕ). Without n v r) (is ∙ progress_word e) w in
      progress_put e (without class x.progress) (subst (λ (n : ℕ). WordPut before progress_at n half) (without_word x.progress class v r s u t) p)

  -- The code's test is the rules'.
  test : (x : Crosslocks) (history : List ℕ) → CrossBytes x before history
      → is_idle (without class x.progress) ≡ is_idle (member_of (progress_of half))
  test x history e = ap (λ (n : ℕ). eqb n 0) (sym (progress_size (left x history e)))

  keeps_half : KeepsUncrossed before half
  keeps_half = keeps_put word_size progress_at r before half (omega arith) (omega arith) p

  pub ends_some : false ≡ is_idle (member_of (progress_of half)) → Ended before class half
  ends_some idle =
      record {
        keeps = keeps_half;
        ended = λ x history e. rw (test x history e ∙ sym idle) (left x history e);
      }

  pub ends_last : (after : List ℕ) → true ≡ is_idle (member_of (progress_of half)) → NumberPut half kept_at 0 after → Ended before class after
  ends_last after idle q =
      record {
        keeps = keeps_then keeps_half (keeps_put number_size kept_at 0 half after (omega arith) (omega arith) q);
        ended = λ x history e.
            rw (test x history e ∙ sym idle)
            (kept_put (left x history e) [] history q (record { places = λ i l. absurd (not-suc-le-zero l); locks = λ i l. absurd (not-suc-le-zero l) }));
      }

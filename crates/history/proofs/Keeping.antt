-- An acquire that is kept, and one that is not. Assumes nothing.
use mathlib.Core.Path.{◌≡◌, refl, sym, ap, ◌∙◌, subst}
use mathlib.Core.Bool.{Bool, true, false, cond, or-true}
use mathlib.Core.List.{List, [], ◌∷◌, ◌++◌}
use mathlib.Core.Option.{none, some}
use Prim.Native.Nat.{ℕ, suc, ◌+◌, ◌*◌, ◌<◌, ◌≤◌}
use native.Mathlib.Decide.{dec_lt}
use native.Mathlib.Omega.{arith}
use lib.Dec.{eqb}
use lib.ListN.{length, get_or, set, length-set, length-append, get_or-append}
use lib.Seq.{get_or-set_same, get_or-set_other, get_or-append_seam}
use borrow.Author.Tests.{le-leb, lt-leb}
use Rattle.rules.specs.Limits.{held_modes, max_kept}
use Rattle.rules.specs.Crosslocks.{Kept, History, Crosslocks, is_idle, is_kept, with_history}
use Rattle.layout.specs.Layout.{number_size, kept_size, kept_at, member_of, progress_of, kept_of, KeepsPast}
use Rattle.layout.specs.Encoding.{place_byte, lock_byte, HistoryBytes, CrossBytes}
use Rattle.layout.proofs.Buffers.{keeps_self}
use Rattle.layout.proofs.Cross.{progress_size, kept_is}
use Rattle.numbers.specs.Numbers.{NumberPut}
use Rattle.crosslocks.proofs.Putting.{keeps_put, kept_put}
use Rattle.history.specs.Histories.{HistoryRoom, KeptAs, KeptIn}

-- Where a crosslock is in progress and the acquire is no try, there is room.
pub room_is : {desk history : List ℕ} {mode kept : ℕ} → mode < held_modes → is_idle (member_of (progress_of desk)) ≡ false → kept ≡ kept_of desk
    → HistoryRoom desk history mode → kept < max_kept
room_is {desk} {history} {mode} {kept} waits busy is h = rw is (h.room (rw (busy, lt-leb held_modes mode waits) refl))

module _ (desk history : List ℕ) (n class mode : ℕ) where
  -- The desk's test is the rules'.
  idle_is : (x : Crosslocks) → CrossBytes x desk history → is_idle x.progress ≡ is_idle (member_of (progress_of desk))
  idle_is x e = ap (λ (n : ℕ). eqb n 0) (sym (progress_size e))

  unkept : ((x : Crosslocks) → CrossBytes x desk history → is_kept x mode ≡ false) → KeptIn desk history n class mode desk history
  unkept not_kept =
      record {
        keeps = record { long = refl; else = λ j o. refl };
        kept = λ x core frame e l b.
            subst
            (λ (t : Bool).
            KeptAs
            (with_history x (cond t (x.history ++ (some (record { core = core; frame = frame; class = class; mode = mode }) ∷ [])) x.history)) history desk history)
            (sym (not_kept x b))
            (record {
              bytes = record { declared = b.declared; progress = b.progress; kept = b.kept; since = b.since; entries = b.entries };
              past = keeps_self (kept_size * length x.history) history;
            });
      }

  pub kept_try : held_modes ≤ mode → KeptIn desk history n class mode desk history
  kept_try l = unkept (λ x b. rw (le-leb held_modes mode l, or-true (is_idle x.progress)) refl)

  pub kept_idle : is_idle (member_of (progress_of desk)) ≡ true → KeptIn desk history n class mode desk history
  kept_idle idle = unkept (λ x b. rw (idle_is x b ∙ idle) refl)

  module _ (waits : mode < held_modes) (busy : is_idle (member_of (progress_of desk)) ≡ false) (kept : ℕ) (is : kept ≡ kept_of desk) where
    module _ (place lock : ℕ) (is_place : place ≡ suc n) (is_lock : lock ≡ class + 64 * mode) (inside : kept_size * kept + 1 < length history) where
      abbrev one : List ℕ
      one = set history (kept_size * kept) place

      abbrev two : List ℕ
      two = set one (kept_size * kept + 1) lock

      other : (j : ℕ) → (j ≡ kept_size * kept → ⊥) → (j ≡ kept_size * kept + 1 → ⊥) → get_or two j 0 ≡ get_or history j 0
      other j m o = get_or-set_other one (kept_size * kept + 1) j lock 0 o ∙ get_or-set_other history (kept_size * kept) j place 0 m

      past_two : (m : ℕ) → m ≡ kept + 1 → KeepsPast (kept_size * m) history two
      past_two m e = record { long = simp length-set; past = λ j h. other j (λ s. omega arith) (λ s. omega arith) }

      appended : (es : History) (e : Kept) → length es ≡ kept → place_byte (some e) ≡ place → lock_byte (some e) ≡ lock → HistoryBytes es history
          → HistoryBytes (es ++ (some e ∷ [])) two
      appended es e long p q h =
          let k : length (es ++ (some e ∷ [])) ≡ suc (length es) = length-append es (some e ∷ []) ∙ omega arith in
          record {
            places = λ i l.
                elim (dec_lt i (length es)) [
                  | yes o ↦ other (kept_size * i) (λ s. omega arith) (λ s. omega arith) ∙ h.places i o ∙ sym (ap place_byte (get_or-append es (some e ∷ []) none i o))
                  | no o ↦
                      let s : i ≡ length es = omega arith in
                      rw s
                      (rw long
                      (get_or-set_other one (kept_size * kept + 1) (kept_size * kept) lock 0 (λ s. omega arith)
                      ∙ get_or-set_same history (kept_size * kept) place 0 (omega arith)) ∙ sym p ∙ sym (ap place_byte (get_or-append_seam es (some e) [] none)))
                ];
            locks = λ i l.
                elim (dec_lt i (length es)) [
                  | yes o ↦ other (kept_size * i + 1) (λ s. omega arith) (λ s. omega arith) ∙ h.locks i o ∙ sym (ap lock_byte (get_or-append es (some e ∷ []) none i o))
                  | no o ↦
                      let s : i ≡ length es = omega arith in
                      rw s
                      (rw long (get_or-set_same one (kept_size * kept + 1) lock 0 (simp length-set (omega arith))) ∙ sym q ∙ sym (ap lock_byte (get_or-append_seam es (some e) [] none)))
                ];
          }

      pub kept_now : (desk' : List ℕ) → NumberPut desk kept_at (kept + 1) desk' → KeptIn desk history n class mode desk' two
      kept_now desk' P =
          record {
            keeps = keeps_put number_size kept_at (kept + 1) desk desk' (omega arith) (omega arith) P;
            kept = λ x core frame e l b.
                let ent : Kept = record { core = core; frame = frame; class = class; mode = mode } in
                let es : History = x.history ++ (some ent ∷ []) in
                let k : kept ≡ length x.history = is ∙ kept_is b l in
                let long : length es ≡ kept + 1 = length-append x.history (some ent ∷ []) ∙ omega arith in
                let is_kept_lem : is_kept x mode ≡ true = rw (idle_is x b ∙ busy, lt-leb held_modes mode waits) refl in
                subst (λ (t : Bool). KeptAs (with_history x (cond t es x.history)) history desk' two)
                (sym is_kept_lem)
                (record {
                  bytes =
                      kept_put b es two (subst (λ (v : ℕ). NumberPut desk kept_at v desk') (sym long) P)
                      (appended x.history ent (sym k) (ap suc (sym e) ∙ sym is_place) (sym is_lock) b.entries);
                  past = past_two (length es) long;
                });
          }

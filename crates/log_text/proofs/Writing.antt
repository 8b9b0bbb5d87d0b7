-- A text put behind another. Assumes nothing.
use mathlib.Core.Path.{◌≡◌, refl, sym, ap, ◌∙◌}
use mathlib.Core.List.{List, [], ◌∷◌, ◌++◌}
use Prim.Native.Nat.{ℕ, suc, ◌+◌, ◌/◌, ◌%◌, ◌<◌, ◌≤◌}
use native.Mathlib.Nat.{add-zero, add-suc, suc-add}
use native.Mathlib.Omega.{arith}
use lib.ListN.{length, set, length-append, length-set}
use lib.Seq.{sets, sets-eq, length-sets, take-length}
use borrow.Rule.Slice.PartMut.{put_mid}
use Rattle.std.proofs.lemmas.Slice.{put_mid-paste}
use Rattle.log_text.specs.Text.{digits, Appended}
use Rattle.log_text.proofs.Digits.{digits_one, digits_more}

pub sets_append : (b : List ℕ) (at : ℕ) (x y : List ℕ) → sets (sets b at x) (at + length x) y ≡ sets b at (x ++ y)
sets_append b at [] y = rw add-zero refl
sets_append b at (v ∷ x) y = rw (add-suc, ← suc-add) (sets_append (set b at v) (suc at) x y)

pub appended_both : {before middle after x y : List ℕ} {at e f : ℕ} → Appended before at x middle e → Appended middle e y after f
    → Appended before at (x ++ y) after f
appended_both {before} {middle} {after} {x} {y} {at} {e} {f} p q =
    record {
      end_is = omega (arith, p.end_is, q.end_is, length-append x y);
      bytes = q.bytes ∙ rw (p.bytes, p.end_is) (sets_append before at x y);
      inside = q.inside;
    }

-- A word copied into the part of its length.
pub copied : (b : List ℕ) (at : ℕ) (word now : List ℕ) (k : ℕ) → now ≡ word → k ≡ length word → at + length word ≤ length b
    → Appended b at word (put_mid at k b now) (at + length word)
copied b at word now k e l h =
    let bytes : put_mid at k b now ≡ sets b at word = put_mid-paste at k b now word (length word) e (sym l) refl ∙ rw take-length (sym (sets-eq word b at h)) in
    record { end_is = refl; bytes = bytes; inside = rw (bytes, length-sets) h }

-- The buffer keeps its length.
pub kept : {before text after : List ℕ} {at end : ℕ} → Appended before at text after end → length after ≡ length before
kept {before} {text} {at = at} p = ap length p.bytes ∙ length-sets before at text

-- A number of one digit.
pub one_placed : (b : List ℕ) (at n v : ℕ) → n < 10 → at + length (digits n) ≤ length b → v ≡ 48 + n → Appended b at (digits n) (set b at v) (at + 1)
one_placed b at n v h room e =
    let d = digits_one n h in
    let l : length (digits n) ≡ 1 = ap length d in
    record { end_is = omega (arith, l); bytes = rw (d, e) refl; inside = rw length-set (omega (arith, l)) }

-- A number of more digits: the last stands behind the others.
pub more_placed : (b middle : List ℕ) (at end n v : ℕ) → 10 ≤ n → Appended b at (digits (n / 10)) middle end → end < length middle
    → v ≡ 48 + n % 10 → Appended b at (digits n) (set middle end v) (end + 1)
more_placed b middle at end n v h p room e =
    rw (digits_more n h, e)
    (appended_both p (record { end_is = refl; bytes = refl; inside = rw length-set (omega arith) }))

pub as_text : {before after x y : List ℕ} {at end : ℕ} → y ≡ x → Appended before at x after end → Appended before at y after end
as_text e p = rw e p

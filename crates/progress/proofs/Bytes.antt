-- The bytes of a feed, and the loose ones in an array. Assumes nothing.
use mathlib.Core.Path.{◌≡◌, refl, ap, ap₂, ◌∙◌}
use mathlib.Core.Bool.{Bool, true, false}
use mathlib.Core.List.{List, [], ◌∷◌, ◌++◌, append_assoc}
use Prim.Native.Nat.{ℕ, zero, suc, ◌+◌, ◌*◌, ◌-◌, ◌/◌, ◌%◌, ◌^◌, ◌≤◌, ◌<◌}
use native.Mathlib.Nat.{not-suc-le-zero, le_of_suc-le-suc}
use native.Mathlib.Omega.{arith}
use lib.Dec.{eqb}
use lib.ListN.{length, get_or, set, take, drop, replicate, length-drop, length-append}
use borrow.Rule.Slice.PartMut.{put_mid}
use Rattle.std.proofs.Common.{w64}
use Rattle.std.specs.Int.{from_bool, to_le_bytes}
use lib.Seq.{drop-drop, take-take, take_at, take-append-le, length-take-le}
use borrow.Author.Tests.{eq-eqb, ne_eqb, lt-ltb, le-ltb}
use Rattle.words.specs.Bits.{flag}
use Rattle.rules.specs.Decision.{tabulate}
use Rattle.rules.specs.Number.{low_first}
use Rattle.progress.specs.Feed.{Feed, longest, most_loose, answer_at, opened_at, count_at, loose_at, number_at, number_size, feed_size, view, byte_of, bytes_of}
use Rattle.progress.specs.Code.{LooseIn}

-- ---- Byte i of a feed, by its place.

module _ (f : Feed) (i : ℕ) where
  pub answer_byte : i ≡ answer_at → f.answer ≡ byte_of f i
  unfolding byte_of
  answer_byte e = simp (eq-eqb i 0 e)

  module _ (n0 : i ≡ answer_at → ⊥) where
    pub opened_byte : {b : Bool} → i ≡ opened_at → f.opened ≡ b → flag b ≡ byte_of f i
    unfolding byte_of
    opened_byte e o = simp (ne_eqb i 0 n0, eq-eqb i 1 e, o)

    module _ (n1 : i ≡ opened_at → ⊥) where
      pub count_byte : i ≡ count_at → length f.loose ≡ byte_of f i
      unfolding byte_of
      count_byte e = simp (ne_eqb i 0 n0, ne_eqb i 1 n1, eq-eqb i 2 e)

      module _ (n2 : i ≡ count_at → ⊥) where
        pub loose_byte : i < number_at → get_or f.loose (i - loose_at) 0 ≡ byte_of f i
        unfolding byte_of
        loose_byte h = simp (ne_eqb i 0 n0, ne_eqb i 1 n1, ne_eqb i 2 n2, lt-ltb i number_at h)

        pub number_byte : number_at ≤ i → f.number / 2 ^ (8 * (i - number_at)) % 256 ≡ byte_of f i
        unfolding byte_of
        number_byte h = simp (ne_eqb i 0 n0, ne_eqb i 1 n1, ne_eqb i 2 n2, le-ltb i number_at h)

-- ---- Written part by part.

-- The first three bytes.
first_three : (feed : List ℕ) (a o n : ℕ) → 3 ≤ length feed → set (set (set feed 0 a) 1 o) 2 n ≡ a ∷ o ∷ n ∷ drop 3 feed
first_three [] a o n h = absurd (omega arith)
first_three (x ∷ []) a o n h = absurd (omega arith)
first_three (x ∷ y ∷ []) a o n h = absurd (omega arith)
first_three (x ∷ y ∷ z ∷ feed) a o n h = refl

-- The loose bytes over zeros.
only_zeros : (m : ℕ) (r : List ℕ) → replicate m 0 ++ r ≡ tabulate m (λ j. get_or [] j 0) ++ r
only_zeros zero r = refl
only_zeros (suc m) r = ap (λ (t : List ℕ). 0 ∷ t) (only_zeros m r)

over_zeros : (l : List ℕ) (m : ℕ) (r : List ℕ) → length l ≤ m → l ++ drop (length l) (replicate m 0 ++ r) ≡ tabulate m (λ j. get_or l j 0) ++ r
over_zeros [] m r h = only_zeros m r
over_zeros (x ∷ l) zero r h = absurd (not-suc-le-zero h)
over_zeros (x ∷ l) (suc m) r h = ap (λ (t : List ℕ). x ∷ t) (over_zeros l m r (le_of_suc-le-suc h))

-- The number's bytes.
digits : (n : ℕ) → to_le_bytes w64 n ≡ tabulate number_size (λ i. n / 2 ^ (8 * i) % 256)
digits n = let e : n / 1 ≡ n = omega arith in rw e refl

parts_written : (f : Feed) (feed : List ℕ) → feed_size ≤ length feed → length f.loose ≤ most_loose
    → put_mid number_at number_size (put_mid loose_at (length f.loose) (put_mid loose_at most_loose (set (set (set feed answer_at f.answer) opened_at (flag f.opened)) count_at (length f.loose)) (replicate most_loose 0)) f.loose) (to_le_bytes w64 f.number)
    ≡ bytes_of f ++ drop feed_size feed
unfolding byte_of
parts_written f feed long few =
    let l = f.loose in
    let r = drop 11 (drop 3 feed) in
    ap (λ (t : List ℕ). put_mid 14 8 (put_mid 3 (length l) (put_mid 3 11 t (replicate 11 0)) l) (to_le_bytes w64 f.number)) (first_three feed f.answer (flag f.opened) (length l) (omega arith))
    ∙ ap (λ (t : List ℕ). put_mid 14 8 (f.answer ∷ flag f.opened ∷ length l ∷ t) (to_le_bytes w64 f.number)) (over_zeros l 11 r few)
    ∙ ap₂ (λ (d t : List ℕ). f.answer ∷ flag f.opened ∷ length l ∷ (tabulate 11 (λ j. get_or l j 0) ++ (d ++ t))) (digits f.number) (drop-drop 8 11 (drop 3 feed) ∙ drop-drop 19 3 feed)

from_flag : (b : Bool) → from_bool b ≡ flag b
from_flag true = refl
from_flag false = refl

pub written : (f : Feed) (feed zeros digits : List ℕ) (o n k : ℕ) → feed_size ≤ length feed → n ≡ length f.loose → n ≤ most_loose → k ≡ n → o ≡ from_bool f.opened → zeros ≡ replicate most_loose 0 → digits ≡ to_le_bytes w64 f.number
    → put_mid number_at number_size (put_mid loose_at k (put_mid loose_at most_loose (set (set (set feed answer_at f.answer) opened_at o) count_at n) zeros) f.loose) digits
    ≡ bytes_of f ++ drop feed_size feed
written f feed zeros digits o n k long e few same p z d = rw (same, e, p, from_flag f.opened, z, d) (parts_written f feed long (omega arith))

-- ---- The loose bytes.

pub length_loose : (array : List ℕ) (count : ℕ) → length array ≡ longest → count ≤ most_loose → length (take count array) ≡ count
length_loose array count l h = length-take-le count array (omega arith)

-- Past the loose bytes a feed's byte is 0.
pub past_end : (l : List ℕ) (i : ℕ) → length l ≤ i → 0 ≡ get_or l i 0
past_end [] i h = refl
past_end (x ∷ l) zero h = absurd (not-suc-le-zero h)
past_end (x ∷ l) (suc i) h = past_end l i (le_of_suc-le-suc h)

-- A part copied behind the loose bytes.
pub part_behind : (array part rest : List ℕ) (count : ℕ) → count ≤ length array
    → take (count + length part) (take count array ++ (part ++ rest)) ≡ take count array ++ part
part_behind array part rest count h =
    let e : length (take count array) ≡ count = length-take-le count array h in
    rw (← append_assoc) (take_at (take count array ++ part) rest (count + length part) (omega (arith, length-append (take count array) part)))

-- The loose bytes of a buffer, copied into an array.
loose_in : (feed behind : List ℕ) → feed_size ≤ length feed → LooseIn feed (take most_loose (drop loose_at feed) ++ behind)
loose_in feed behind h =
    let l : length (take most_loose (drop loose_at feed)) ≡ most_loose = length-take-le most_loose (drop loose_at feed) (simp length-drop (omega arith)) in
    record {
      same = λ n m.
          let s : n ≤ length (take most_loose (drop loose_at feed)) = omega arith in
          take-append-le n (take most_loose (drop loose_at feed)) behind s ∙ take-take n most_loose (drop loose_at feed) m;
    }

pub copied_in : (feed last behind : List ℕ) → last ≡ take most_loose (drop loose_at feed) → feed_size ≤ length feed → LooseIn feed (last ++ behind)
copied_in feed last behind e h = rw e (loose_in feed behind h)

-- ---- A feed by its parts.

pub with_loose : (f : Feed) (l l' : List ℕ) → l ≡ l'
    → ◌≡◌ {A = Feed} (record { answer = f.answer; opened = f.opened; loose = l; number = f.number })
    (record { answer = f.answer; opened = f.opened; loose = l'; number = f.number })
with_loose f l l' e = rw e refl

pub viewed : (feed l : List ℕ) (n : ℕ) → l ≡ take (get_or feed count_at 0) (drop loose_at feed) → n ≡ low_first number_size feed number_at
    → ◌≡◌ {A = Feed} (record { answer = get_or feed answer_at 0; opened = eqb (get_or feed opened_at 0) 1; loose = l; number = n }) (view feed)
viewed feed l n e h = rw (e, h) refl

-- A feed's bytes and what they stand for, both ways. Assumes nothing.
use mathlib.Core.Path.{◌≡◌, refl, sym, ap, ◌∙◌}
use mathlib.Core.Bool.{Bool, true, false}
use mathlib.Core.List.{List, [], ◌∷◌, ◌++◌}
use Prim.Native.Nat.{ℕ, zero, suc, ◌+◌, ◌*◌, ◌-◌, ◌/◌, ◌%◌, ◌^◌, ◌≤◌, ◌<◌}
use native.Mathlib.Nat.{not-suc-le-zero, le_of_suc-le-suc, div-div-eq-div-mul, add-zero}
use native.Mathlib.Decide.{ℕ_discrete, dec_lt}
use native.Mathlib.Omega.{arith}
use lib.Dec.{eqb}
use lib.Pow.{pow-add}
use lib.ListN.{length, get_or, take, drop, length-append, length-drop, get_or-append}
use lib.Seq.{ext_get_or, get_or-append-add, get_or-drop, get_or-take, length-take-le}
use borrow.Author.Tests.{le-leb}
use Rattle.words.specs.Bits.{flag}
use Rattle.rules.specs.Decision.{tabulate}
use Rattle.rules.proofs.Booleans.{and_both}
use Rattle.rules.proofs.Closure.{length_tabulate, get_d_tabulate}
use Rattle.layout.specs.Layout.{AreBytes}
use Rattle.layout.proofs.AllBelow.{all_of}
use Rattle.rules.specs.Number.{low_first}
use Rattle.progress.specs.Feed.{Feed, most_loose, answer_at, opened_at, count_at, loose_at, number_at, number_size, feed_size, view, byte_of, bytes_of, well_formed, unused_zero, fits}
use Rattle.progress.proofs.Bytes.{answer_byte, opened_byte, count_byte, loose_byte, number_byte, past_end}
use Rattle.progress.proofs.Fitness.{fit_facts, used_zero, is_zero}

-- ---- The number in eight bytes.

-- One byte more: r is the number that the higher ones make.
higher : (x y r : ℕ) → r ≡ y → x / 256 ≡ y → x % 256 + 256 * r ≡ x
higher x y r e d = omega arith

-- The bytes of a number make it again.
pub number_back : (n : ℕ) → n < 2 ^ 64
    → n / 2 ^ 0 % 256 + 256 * (n / 2 ^ 8 % 256 + 256 * (n / 2 ^ 16 % 256 + 256 * (n / 2 ^ 24 % 256
    + 256 * (n / 2 ^ 32 % 256 + 256 * (n / 2 ^ 40 % 256 + 256 * (n / 2 ^ 48 % 256 + 256 * (n / 2 ^ 56 % 256 + 256 * 0)))))))
    ≡ n
number_back n h =
    higher (n / 2 ^ 0) (n / 2 ^ 8) _
    (higher (n / 2 ^ 8) (n / 2 ^ 16) _
    (higher (n / 2 ^ 16) (n / 2 ^ 24) _
    (higher (n / 2 ^ 24) (n / 2 ^ 32) _
    (higher (n / 2 ^ 32) (n / 2 ^ 40) _
    (higher (n / 2 ^ 40) (n / 2 ^ 48) _
    (higher (n / 2 ^ 48) (n / 2 ^ 56) _
    (higher (n / 2 ^ 56) 0 0 refl (omega arith))
    (div-div-eq-div-mul n (2 ^ 48) 256))
    (div-div-eq-div-mul n (2 ^ 40) 256))
    (div-div-eq-div-mul n (2 ^ 32) 256))
    (div-div-eq-div-mul n (2 ^ 24) 256))
    (div-div-eq-div-mul n (2 ^ 16) 256))
    (div-div-eq-div-mul n (2 ^ 8) 256))
    (div-div-eq-div-mul n (2 ^ 0) 256)
    ∙ omega arith

-- A byte of the number that bytes make.
pub digit : (bytes : List ℕ) (m k at : ℕ) → k < m → ((j : ℕ) → j < at + m → get_or bytes j 0 < 256)
    → low_first m bytes at / 2 ^ (8 * k) % 256 ≡ get_or bytes (at + k) 0
digit bytes zero k at h small = absurd (not-suc-le-zero h)
digit bytes (suc m) zero at h small = let b = small at (omega arith) in let l = low_first m bytes (suc at) in rw add-zero (omega arith)
digit bytes (suc m) (suc k) at h small =
    let b = small at (omega arith) in
    let l = low_first m bytes (suc at) in
    let s : (get_or bytes at 0 + 256 * l) / 256 ≡ l = omega arith in
    let p : 2 ^ (8 * suc k) ≡ 256 * 2 ^ (8 * k) = ap (λ (e : ℕ). 2 ^ e) (omega arith) ∙ pow-add 2 8 (8 * k) in
    ap (λ (d : ℕ). (get_or bytes at 0 + 256 * l) / d % 256) p
    ∙ ap (λ (q : ℕ). q % 256) (sym (div-div-eq-div-mul (get_or bytes at 0 + 256 * l) 256 (2 ^ (8 * k))) ∙ ap (λ (q : ℕ). q / 2 ^ (8 * k)) s)
    ∙ digit bytes m k (suc at) (le_of_suc-le-suc h) (λ j i. small j (omega arith))
    ∙ ap (λ (i : ℕ). get_or bytes i 0) (omega arith)

-- ---- From a feed to its bytes and back.

-- The loose bytes, with zeros behind them.
padded : (l : List ℕ) (m : ℕ) (behind : List ℕ) → length l ≤ m → take (length l) (tabulate m (λ j. get_or l j 0) ++ behind) ≡ l
padded [] m behind h = refl
padded (x ∷ l) zero behind h = absurd (not-suc-le-zero h)
padded (x ∷ l) (suc m) behind h = ap (λ (t : List ℕ). x ∷ t) (padded l m behind (le_of_suc-le-suc h))

flag_back : (b : Bool) → eqb (flag b) 1 ≡ b
flag_back true = refl
flag_back false = refl

flag_small : (b : Bool) → flag b ≤ 1
flag_small true = omega arith
flag_small false = omega arith

module _ (f : Feed) (behind : List ℕ) (few : length f.loose ≤ most_loose) where
  pub view_back : f.number < 2 ^ 64 → view (bytes_of f ++ behind) ≡ f
  unfolding byte_of
  view_back h = rw (flag_back f.opened, padded f.loose most_loose _ few, number_back f.number h) refl

  byte_at : (i : ℕ) → i < feed_size → get_or (bytes_of f ++ behind) i 0 ≡ byte_of f i
  byte_at i h = get_or-append (bytes_of f) behind 0 i (rw (length_tabulate feed_size (byte_of f)) h) ∙ get_d_tabulate feed_size (byte_of f) 0 i h

  unused_back : (j : ℕ) → j < most_loose → unused_zero (bytes_of f ++ behind) j ≡ true
  unused_back j h =
      let c : get_or (bytes_of f ++ behind) count_at 0 ≡ length f.loose =
      byte_at count_at (omega arith) ∙ sym (count_byte f count_at (omega arith) (omega arith) refl) in
      elim (dec_lt j (length f.loose)) [
        | yes l ↦ used_zero (bytes_of f ++ behind) j (omega arith)
        | no n ↦
            let p : loose_at + j - loose_at ≡ j = omega arith in
            is_zero (bytes_of f ++ behind) j
            (byte_at (loose_at + j) (omega arith)
            ∙ sym (loose_byte f (loose_at + j) (omega arith) (omega arith) (omega arith) (omega arith))
            ∙ ap (λ (i : ℕ). get_or f.loose i 0) p
            ∙ sym (past_end f.loose j (omega arith)))
      ]

  -- A feed that can be is fit.
  pub fits_back : f.number < 2 ^ 64 → well_formed f ≡ true → fits (bytes_of f ++ behind) ≡ true
  unfolding fits byte_of
  fits_back h w =
      and_both (le-leb feed_size (length (bytes_of f ++ behind)) (omega arith))
      (and_both (le-leb _ 1 (flag_small f.opened))
      (and_both (le-leb _ most_loose few)
      (and_both (all_of most_loose (unused_zero (bytes_of f ++ behind)) unused_back)
      (rw (view_back h) w))))

-- ---- From bytes to the feed and back.

bit_back : (n : ℕ) → n ≤ 1 → flag (eqb n 1) ≡ n
bit_back zero h = refl
bit_back (suc zero) h = refl
bit_back (suc (suc n)) h = absurd (omega arith)

module _ (feed : List ℕ) (e : fits feed ≡ true) (bytes : AreBytes feed_size feed) where
  same_byte : (i : ℕ) → i < feed_size → byte_of (view feed) i ≡ get_or feed i 0
  same_byte i h =
      let F = fit_facts feed e in
      let n = get_or feed count_at 0 in
      let l : length (take n (drop loose_at feed)) ≡ n = length-take-le n (drop loose_at feed) (simp length-drop (omega (arith, F.long, F.few))) in
      elim (ℕ_discrete i answer_at) [
        | yes z ↦ sym (answer_byte (view feed) i z) ∙ ap (λ (k : ℕ). get_or feed k 0) (sym z)
        | no n0 ↦ elim (ℕ_discrete i opened_at) [
          | yes z ↦ sym (opened_byte (view feed) i n0 z refl) ∙ bit_back (get_or feed opened_at 0) F.bit ∙ ap (λ (k : ℕ). get_or feed k 0) (sym z)
          | no n1 ↦ elim (ℕ_discrete i count_at) [
            | yes z ↦ sym (count_byte (view feed) i n0 n1 z) ∙ l ∙ ap (λ (k : ℕ). get_or feed k 0) (sym z)
            | no n2 ↦ elim (dec_lt i number_at) [
              | yes p ↦ sym (loose_byte (view feed) i n0 n1 n2 p) ∙ elim (dec_lt (i - loose_at) n) [
                | yes q ↦ get_or-take n (drop loose_at feed) (i - loose_at) 0 q ∙ get_or-drop loose_at feed (i - loose_at) 0 ∙ ap (λ (k : ℕ). get_or feed k 0) (omega arith)
                | no q ↦
                    sym (past_end (take n (drop loose_at feed)) (i - loose_at) (omega arith))
                    ∙ sym (F.unused (i - loose_at) (omega arith) (omega arith))
                    ∙ ap (λ (k : ℕ). get_or feed k 0) (omega arith)
              ]
              | no p ↦
                  sym (number_byte (view feed) i n0 n1 n2 (omega arith))
                  ∙ digit feed number_size (i - number_at) number_at (omega arith) bytes
                  ∙ ap (λ (k : ℕ). get_or feed k 0) (omega arith)
            ]
          ]
        ]
      ]

  pub bytes_back : bytes_of (view feed) ++ drop feed_size feed ≡ feed
  bytes_back =
      let F = fit_facts feed e in
      let t = length_tabulate feed_size (byte_of (view feed)) in
      let m : length (bytes_of (view feed) ++ drop feed_size feed) ≡ length feed =
      length-append (bytes_of (view feed)) (drop feed_size feed) ∙ simp (t, length-drop) (omega (arith, F.long)) in
      ext_get_or 0 (bytes_of (view feed) ++ drop feed_size feed) feed m
      (λ i h. elim (dec_lt i feed_size) [
        | yes p ↦
            get_or-append (bytes_of (view feed)) (drop feed_size feed) 0 i (rw t p)
            ∙ get_d_tabulate feed_size (byte_of (view feed)) 0 i p ∙ same_byte i p
        | no p ↦
            let q : feed_size + (i - feed_size) ≡ i = omega arith in
            ap (λ (k : ℕ). get_or (bytes_of (view feed) ++ drop feed_size feed) k 0) (sym q)
            ∙ get_or-append-add (bytes_of (view feed)) (drop feed_size feed) (i - feed_size) 0
            ∙ get_or-drop feed_size feed (i - feed_size) 0 ∙ ap (λ (k : ℕ). get_or feed k 0) q
      ])

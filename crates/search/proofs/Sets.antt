-- Laws of sets of arrivals. Assumes nothing.
use mathlib.Core.Path.{◌≡◌, refl, sym}
use mathlib.Core.Bool.{Bool, true, false, not, false≢true}
use Rattle.std.proofs.Common.{nat_eq}
use Rattle.std.proofs.Math.Dec.{eqb-suc-zero}
use mathlib.Core.Logic.{inl, inr, ⊎_elim}
use mathlib.Core.List.{List}
use Prim.Native.Nat.{ℕ, zero, suc, ◌+◌, ◌^◌, ◌<◌, ◌≤◌}
use native.Mathlib.Omega.{arith}
use lib.Bits.{bit_or}
use lib.Count.{ones-le}
use Rattle.words.specs.Bits.{bit, Both}
use Rattle.words.proofs.Words.{bit_zero, bit_cases, bit_two, bit_or_lem, some_bit, ones_mono, ones_more}
use Rattle.rules.specs.HeldLocks.{First, Second, R, N}
use Rattle.search.specs.Arrivals.{word_by, none, In, size, Fits, Put, Union, Onward}
use Rattle.search.specs.Letters.{Successors, Joined, Less, HasNone}
use Rattle.search.specs.Walk.{words_of, Meets, Finished}
use Rattle.search.specs.declared.Arrivals.{Arrivals}

-- ---- Words and sets of arrivals.

pub not_in : (w j : ℕ) → (bit w j ≡ 1 → ⊥) → bit w j ≡ 0
not_in w j n = ⊎_elim (λ y. absurd (n y)) (λ y. y) (bit_cases w j)

pub empty : {w : ℕ} (j : ℕ) → w ≡ 0 → bit w j ≡ 1 → ⊥
empty {w} j e h = let z : bit w j ≡ 0 = rw e (bit_zero j) in omega arith

pub no_member : (w : ℕ) → w < 2 ^ 64 → ((j : ℕ) → bit w j ≡ 1 → ⊥) → w ≡ 0
no_member zero l n = refl
no_member (suc w) l n = let m = some_bit 64 (suc w) (omega arith) l in absurd (n m.0 m.2)

pub no_arrival : (j : ℕ) (b : Second) → In none j b → ⊥
no_arrival j R h = empty j refl h
no_arrival j N h = empty j refl h

pub size_bound : {s : Arrivals} → Fits s → size s ≤ 128
size_bound {s} f = omega (arith, ones-le 64 s.r f.r, ones-le 64 s.n f.n)

-- A new member makes a set larger.
pub grows : {s : Arrivals} (t : Arrivals) {c : ℕ} (a : Second) → Fits s → c < 64 → ((j : ℕ) (b : Second) → In s j b → In t j b) → bit (word_by s a) c ≡ 0 → In t c a
    → size s + 1 ≤ size t
grows {s} t {c} R f l k o m =
    omega (arith, ones_more s.r t.r c f.r l (λ j h. k j R h) o m, ones_mono 64 s.n t.n f.n (λ j h. k j N h))
grows {s} t {c} N f l k o m =
    omega (arith, ones_more s.n t.n c f.n l (λ j h. k j N h) o m, ones_mono 64 s.r t.r f.r (λ j h. k j R h))

pub none_left : {s t d : Arrivals} → Less s t d → HasNone d → (j : ℕ) (b : Second) → j < 64 → In s j b → In t j b
none_left {t = t} h e j b l m = ⊎_elim (λ y. y) (λ y. absurd (e j b ((h b).all j l m y))) (bit_cases (word_by t b) j)

pub union_law : (w v : ℕ) → Union w v (bit_or w v)
union_law w v =
    record {
      left = λ j h. let e = bit_or_lem w v j in let b = bit_two v j in omega arith;
      right = λ j h. let e = bit_or_lem w v j in let b = bit_two w j in omega arith;
      only = λ j h. ⊎_elim (λ y. inl y) (λ z. inr (let e = bit_or_lem w v j in omega arith)) (bit_cases w j);
    }

-- ---- The words of a class.

pub onward_law : {rows : List ℕ} {x : ℕ} {f : First} {s t u : Arrivals} → Successors rows x f t → Joined s t u → Onward rows x f s u
onward_law e h = record { kept = λ j b. (h b).left j; all = λ j b m. (h b).right j (rw e m); only = λ j b m. ⊎_elim (λ y. inl y) (λ y. inr (rw e at y)) ((h b).only j m) }

pub first_onward : {rows : List ℕ} {x : ℕ} {f : First} {t : Arrivals} → Successors rows x f t → Onward rows x f none t
first_onward e = record { kept = λ j b h. absurd (no_arrival j b h); all = λ j b m. rw e m; only = λ j b m. inr (rw e at m) }

-- ---- The walk's sets.

-- A test for 0, both ways.
pub by_zero : (P : Bool → Type 0) (w : ℕ) → ((w ≡ 0 → ⊥) → P true) → (w ≡ 0 → P false) → P (not (nat_eq w 0))
by_zero P zero f t = t refl
by_zero P (suc w) f t = rw eqb-suc-zero (f (λ e. omega arith))

pub meets_by : {s t : Arrivals} {w : ℕ} (b : Second) → Both (word_by s b) (word_by t b) w → w < 2 ^ 64 → (w ≡ 0 → ⊥) → Meets s t true
meets_by {w = w} b h l n =
    let m = some_bit 64 w (omega arith) l in
    record { some = λ _. (m.0, b, h.left m.0 m.2, h.right m.0 m.2); none = λ z. absurd (false≢true (sym z)) }

pub meets_not : {s t : Arrivals} {r n : ℕ} → Both s.r t.r r → r ≡ 0 → Both s.n t.n n → n ≡ 0 → Meets s t false
meets_not hr zr hn zn =
    record { some = λ z. absurd (false≢true z); none = λ _ j. elim [ R ↦ λ x y. empty j zr (hr.all j x y) | N ↦ λ x y. empty j zn (hn.all j x y) ] }

pub finished : {s t : Arrivals} {c : ℕ} {a : Second} → Put c a s t → Finished (words_of s) c a (words_of t)
finished p = record { words = record { long = refl; fits = p.fits }; put = p }

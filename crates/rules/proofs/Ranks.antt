-- The order of the slip's bytes is that of the entries' numbers. Assumes nothing.
use mathlib.Core.Path.{◌≡◌, refl, sym, ap, ◌∙◌, subst₂}
use mathlib.Core.List.{List, [], ◌∷◌}
use Prim.Native.Nat.{ℕ, zero, suc, ◌/◌, ◌%◌, ◌^◌, ◌<◌}
use native.Mathlib.Omega.{arith}
use native.Mathlib.Decide.{dec_lt}
use lib.Pow.{pow-lt}
use Rattle.rules.specs.HeldLocks.{First, Second, E, S, R, N}
use Rattle.rules.specs.Marks.{hard_irq, soft_irq}
use Rattle.rules.specs.Graph.{Kind, kind_bit, kind_bit_by, Source, lock, irq, source_number}
use Rattle.rules.specs.Cycle.{Entry}
use Rattle.rules.specs.LeastCycle.{triples, NotAfter, before, same}
use Rattle.rules.specs.Ranks.{kind_of_byte, source_of_byte, kind_place_by, kind_place, kind_of_place, rank_count, rank, kind_at, source_at, entry_number, numbered}

-- ---- Kinds and sources by their numbers.

pub source_less : (o : Source) → source_number o < 3
source_less lock = omega arith
source_less (irq hard_irq) = omega arith
source_less (irq soft_irq) = omega arith

place_less : (a : First) (b : Second) → kind_place_by a b < 4
place_less E R = omega arith
place_less E N = omega arith
place_less S R = omega arith
place_less S N = omega arith

bit_place : (a : First) (b : Second) → kind_bit_by a b ≡ 2 ^ kind_place_by a b
bit_place E R = refl
bit_place E N = refl
bit_place S R = refl
bit_place S N = refl

kind_byte_lem : (a : First) (b : Second) → kind_of_byte (kind_bit_by a b) ≡ record { first = a; second = b }
kind_byte_lem E R = refl
kind_byte_lem E N = refl
kind_byte_lem S R = refl
kind_byte_lem S N = refl

pub byte_kind : (k : Kind) → kind_of_byte (kind_bit k) ≡ k
byte_kind k = kind_byte_lem k.first k.second

pub byte_source : (o : Source) → source_of_byte (source_number o) ≡ o
byte_source lock = refl
byte_source (irq hard_irq) = refl
byte_source (irq soft_irq) = refl

pub rank_less : (k : Kind) (o : Source) → rank k o < rank_count
rank_less k o = omega (arith, source_less o, place_less k.first k.second)

pub kind_rank : (k : Kind) (o : Source) → kind_at (rank k o) ≡ k
kind_rank k o =
    let e : rank k o / 3 ≡ kind_place k = omega (arith, source_less o) in
    ap kind_of_place e ∙ ap kind_of_byte (sym (bit_place k.first k.second)) ∙ byte_kind k

pub source_rank : (k : Kind) (o : Source) → source_at (rank k o) ≡ o
source_rank k o = let e : rank k o % 3 ≡ source_number o = omega (arith, source_less o) in ap source_of_byte e ∙ byte_source o

place_byte : (p : ℕ) → p < 4 → kind_place (kind_of_place p) ≡ p
place_byte zero l = refl
place_byte (suc zero) l = refl
place_byte (suc (suc zero)) l = refl
place_byte (suc (suc (suc zero))) l = refl
place_byte (suc (suc (suc (suc p)))) l = absurd (omega arith)

pub source_byte : (n : ℕ) → n < 3 → source_number (source_of_byte n) ≡ n
source_byte zero l = refl
source_byte (suc zero) l = refl
source_byte (suc (suc zero)) l = refl
source_byte (suc (suc (suc n))) l = absurd (omega arith)

pub rank_at : (j : ℕ) → j < rank_count → rank (kind_at j) (source_at j) ≡ j
rank_at j l = omega (arith, place_byte (j / 3) (omega arith), source_byte (j % 3) (omega arith))

pub entry_number_lem : (n : ℕ) → entry_number (numbered n) ≡ n
entry_number_lem n = omega (arith, rank_at (n % rank_count) (omega arith))

pub number_entry : (e : Entry) → numbered (entry_number e) ≡ e
number_entry e =
    let l = rank_less e.kind e.source in
    let c : entry_number e / rank_count ≡ e.class = omega arith in
    let r : entry_number e % rank_count ≡ rank e.kind e.source = omega arith in
    rw (c, r, kind_rank e.kind e.source, source_rank e.kind e.source) refl

-- ---- Lists of entries.

-- The rank decides at kind and source, and the number at the triple.
rank_before : (k l : Kind) (o u : Source) {ms ns : List ℕ} → rank k o < rank l u → NotAfter (kind_bit k ∷ source_number o ∷ ms) (kind_bit l ∷ source_number u ∷ ns)
rank_before k l o u h =
    let ko = source_less o in
    let lu = source_less u in
    let bk = bit_place k.first k.second in
    let bl = bit_place l.first l.second in
    elim (dec_lt (kind_place k) (kind_place l)) [
      | yes p ↦ before (subst₂ (λ (x y : ℕ). x < y) (sym bk) (sym bl) (pow-lt p))
      | no p ↦ let q : kind_place k ≡ kind_place l = omega arith in
          let z : source_number o < source_number u = omega arith in
          same (bk ∙ ap (λ (i : ℕ). 2 ^ i) q ∙ sym bl) (before z)
    ]

pub number_before : (e f : Entry) (es fs : List Entry) → entry_number e < entry_number f → NotAfter (triples (e ∷ es)) (triples (f ∷ fs))
number_before e f es fs h =
    let re = rank_less e.kind e.source in
    let rf = rank_less f.kind f.source in
    elim (dec_lt e.class f.class) [
      | yes l ↦ before l
      | no l ↦ let q : e.class ≡ f.class = omega arith in
          let z : rank e.kind e.source < rank f.kind f.source = omega arith in
          same q (rank_before e.kind f.kind e.source f.source z)
    ]

pub number_same : (e f : Entry) → entry_number e ≡ entry_number f → e ≡ f
number_same e f q = sym (number_entry e) ∙ ap numbered q ∙ number_entry f

pub same_entry : {e f : Entry} (es fs : List Entry) → e ≡ f → NotAfter (triples es) (triples fs) → NotAfter (triples (e ∷ es)) (triples (f ∷ fs))
same_entry es fs q n = same (ap (λ (e : Entry). e.class) q) (same (ap (λ (e : Entry). kind_bit e.kind) q) (same (ap (λ (e : Entry). source_number e.source) q) n))

-- ---- Triples say which list it is.

untripled : List ℕ → List Entry
untripled [] = []
untripled (c ∷ []) = []
untripled (c ∷ k ∷ []) = []
untripled (c ∷ k ∷ o ∷ ns) = record { class = c; kind = kind_of_byte k; source = source_of_byte o } ∷ untripled ns

untripled_triples : (es : List Entry) → untripled (triples es) ≡ es
unfolding untripled
untripled_triples [] = refl
untripled_triples (e ∷ es) = rw (byte_kind e.kind, byte_source e.source, untripled_triples es) refl

pub same_triples : (es fs : List Entry) → triples es ≡ triples fs → es ≡ fs
same_triples es fs q = sym (untripled_triples es) ∙ ap untripled q ∙ untripled_triples fs

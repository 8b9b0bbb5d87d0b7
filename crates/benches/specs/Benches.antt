-- Document 02, i: two benches, and when they are not joined.
use Rattle.std.specs.Prelude.{Bool, cond, not, ◌&&◌, ◌||◌, List, [], ℕ, leb, ltb, eqb}
use Rattle.rules.specs.Verdict.{unfit}
use Rattle.rules.specs.Run.{State}
use Rattle.rules.specs.Join.{other_classes, bench_closed}
use Rattle.layout.specs.Layout.{desk_size, sheet_size, seen_size, slip_size, classes_of, closed_of, declared_of}
use Rattle.layout.specs.Fit.{fits}
use Rattle.layout.specs.Decoding.{view}

-- A bench: a desk and its two sheets. It is only read.
pub record Bench : Type 0 where
  pub desk : List ℕ
  pub sheet : List ℕ
  pub seen : List ℕ

abbrev pub bench : (desk sheet seen : List ℕ) → Bench
bench desk sheet seen = record { desk = desk; sheet = sheet; seen = seen }

abbrev pub bench_fits : Bench → Bool
bench_fits b = fits b.desk b.sheet b.seen

-- What it stands for, but for a history, which a join does not read: every entry counts as struck out.
abbrev pub bench_state : Bench → State
bench_state b = view b.desk b.sheet b.seen []

abbrev pub bench_classes : Bench → ℕ
bench_classes b = classes_of b.desk

abbrev pub is_closed : Bench → Bool
is_closed b = eqb (closed_of b.desk) 1

abbrev pub larger : ℕ → ℕ → ℕ
larger k k' = cond (ltb k k') k' k

-- One K, and the same classes declared crosslocks.
unfoldable pub same_classes : (desk₁ desk₂ : List ℕ) → Bool
same_classes desk₁ desk₂ = eqb (classes_of desk₁) (classes_of desk₂) && eqb (declared_of desk₁) (declared_of desk₂)

-- Buffers of these lengths can be written for K classes, the slip too.
unfoldable pub has_room : (K desk sheet seen slip : ℕ) → Bool
has_room K desk sheet seen slip = leb desk_size desk && (leb (sheet_size K) sheet && (leb (seen_size K) seen && leb (slip_size K) slip))

-- "either bench is unfit or a buffer to be written is too short for the larger K"
unfoldable pub join_unfit : (one two : Bench) (desk sheet seen slip : ℕ) → Bool
join_unfit one two desk sheet seen slip =
    not (bench_fits one) || (not (bench_fits two) || not (has_room (larger (bench_classes one) (bench_classes two)) desk sheet seen slip))

-- "It refuses with 11 if .., then 12 for different K, then 13 for a closed desk"; "12 for different declarations too": the number, or 0 if it does not.
unfoldable pub join_refusal : (one two : Bench) (desk sheet seen slip : ℕ) → ℕ
join_refusal one two desk sheet seen slip =
    cond (join_unfit one two desk sheet seen slip) unfit
    (cond (not (same_classes one.desk two.desk)) other_classes
    (cond (is_closed one || is_closed two) bench_closed 0))

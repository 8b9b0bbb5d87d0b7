-- A feed that takes bytes in pieces takes them as it takes all at once. Assumes nothing.
use mathlib.Core.Path.{◌≡◌, refl, sym, ap, subst, ◌∙◌}
use mathlib.Core.Bool.{Bool, true}
use mathlib.Core.List.{List, [], ◌∷◌, ◌++◌, append_assoc, append-nil}
use Prim.Native.Nat.{ℕ, zero, suc, ◌+◌, ◌-◌, ◌≤◌, ◌<◌}
use native.Mathlib.Decide.{ℕ_discrete}
use native.Mathlib.Omega.{arith}
use lib.Dec.{eqb}
use lib.ListN.{length, take, drop, length-take, length-drop}
use lib.Seq.{take-add}
use Rattle.rules.specs.Log.{unit_size}
use Rattle.validator.specs.Calls.{Buffers}
use Rattle.progress.specs.Feed.{Feed, unit_begun, with_part}
use Rattle.progress.proofs.UnitSizes.{unit_least}
use Rattle.unit.specs.Units.{UnitValidated, header, a_record}
use Rattle.feed.specs.Fed.{Fed, stopped, kept, completed}
use Rattle.unit.specs.Parts.{PartTaken, not_yet, complete}

pub some_unit : (opened : Bool) (bytes : List ℕ) → 0 < unit_size opened bytes
some_unit opened bytes = let l = unit_least opened bytes in omega arith

-- ---- No bytes.

more_of_none : (f : Feed) → with_part f [] ≡ f
more_of_none f = ap (λ (l : List ℕ). record { answer = f.answer; opened = f.opened; loose = l; number = f.number }) (append-nil f.loose)

pub fed_none : (f : Feed) (b : Buffers) → length f.loose < unit_size f.opened f.loose → Fed f b [] f b
fed_none f b h = elim (ℕ_discrete f.answer 0) [
  | yes e ↦ subst (λ (g : Feed). Fed f b [] g b) (more_of_none f) (kept e (rw append-nil h))
  | no n ↦ stopped n
]

unit_none : {o : Bool} {n : ℕ} {b b' : Buffers} {u : List ℕ} {f : Feed} → UnitValidated o n b u f b' → Fed f b' [] f b'
unit_none (header {answer} {b'} o p s) = fed_none (unit_begun answer (eqb answer 0) _) b' (some_unit (eqb answer 0) [])
unit_none (a_record {answer} {b'} o t) = fed_none (unit_begun answer true _) b' (some_unit true [])

-- ---- Bytes, and then more.

still_stopped : {f f₂ : Feed} {b b₂ : Buffers} (xs : List ℕ) {ys : List ℕ} → (f.answer ≡ 0 → ⊥) → Fed f b ys f₂ b₂ → Fed f b (xs ++ ys) f₂ b₂
still_stopped xs n (stopped m) = stopped m
still_stopped xs n (kept e h) = absurd (n e)
still_stopped xs n (completed unit rest e q l j r) = absurd (n e)

behind_kept : (f : Feed) {f₂ : Feed} {b b₂ : Buffers} (xs : List ℕ) {ys : List ℕ} → f.answer ≡ 0 → Fed (with_part f xs) b ys f₂ b₂
    → Fed f b (xs ++ ys) f₂ b₂
behind_kept f xs e (stopped m) = absurd (m e)
behind_kept f {b = b} xs {ys} e (kept d h) =
    subst (λ (l : List ℕ). Fed f b (xs ++ ys) (record { answer = f.answer; opened = f.opened; loose = l; number = f.number }) b)
    (sym (append_assoc f.loose xs ys)) (kept e (rw (← append_assoc) h))
behind_kept f xs {ys} e (completed unit rest d q l j r) = completed unit rest e (sym (append_assoc f.loose xs ys) ∙ q) l j r

pub fed_append : {f f₁ f₂ : Feed} {b b₁ b₂ : Buffers} {xs ys : List ℕ} → Fed f b xs f₁ b₁ → Fed f₁ b₁ ys f₂ b₂ → Fed f b (xs ++ ys) f₂ b₂
fed_append {xs = xs} (stopped n) s = still_stopped xs n s
fed_append {f = f} {xs = xs} (kept e h) s = behind_kept f xs e s
fed_append {f = f} {xs = xs} {ys = ys} (completed unit rest e q l j r) s =
    completed unit (rest ++ ys) e (sym (append_assoc f.loose xs ys) ∙ ap (λ (t : List ℕ). t ++ ys) q ∙ append_assoc unit rest ys) l j (fed_append r s)

-- ---- A turn of the loop over a piece.

part_fed : {f f' : Feed} {b b' : Buffers} {part : List ℕ} → f.answer ≡ 0 → PartTaken f b part f' b' → Fed f b part f' b'
part_fed e (not_yet h) = kept e h
part_fed {f = f} {part = part} e (complete l j) = completed (f.loose ++ part) [] e (sym (append-nil _)) l j (unit_none j)

-- What a part of the piece has.
front_length : (n : ℕ) (l : List ℕ) → take (length (take n l)) l ≡ take n l
front_length zero l = refl
front_length (suc n) [] = refl
front_length (suc n) (x ∷ l) = ap (λ (t : List ℕ). x ∷ t) (front_length n l)

module _ (piece part : List ℕ) (at wanted : ℕ) (e : part ≡ take wanted (drop at piece)) where
  pub part_length : (length part ≤ wanted) × (length part ≤ length piece - at)
  part_length = rw (e, length-take, length-drop) (omega arith, omega arith)

  pub part_some : at < length piece → 0 < wanted → 0 < length part
  part_some h w = rw (e, length-take, length-drop) (omega arith)

  pub part_taken : take (at + length part) piece ≡ take at piece ++ part
  part_taken = take-add at (length part) piece ∙ ap (λ (t : List ℕ). take at piece ++ t) (rw e (front_length wanted (drop at piece)))

  pub fed_part : {f f₁ f₂ : Feed} {b b₁ b₂ : Buffers} → Fed f b (take at piece) f₁ b₁ → f₁.answer ≡ 0 → PartTaken f₁ b₁ part f₂ b₂
      → Fed f b (take (at + length part) piece) f₂ b₂
  fed_part {f} {f₂ = f₂} {b} {b₂ = b₂} w z t = rw part_taken (fed_append w (part_fed z t))

-- ---- What is kept is less than a unit.

unit_loose : {o : Bool} {n : ℕ} {b b' : Buffers} {u : List ℕ} {f : Feed} → UnitValidated o n b u f b' → length f.loose < unit_size f.opened f.loose
unit_loose (header {answer} o p s) = some_unit (eqb answer 0) []
unit_loose (a_record o t) = some_unit true []

pub part_loose : {f f' : Feed} {b b' : Buffers} {part : List ℕ} → PartTaken f b part f' b' → length f'.loose < unit_size f'.opened f'.loose
part_loose (not_yet h) = h
part_loose (complete l j) = unit_loose j

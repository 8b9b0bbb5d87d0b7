-- Document 02, b and j: what becomes of a feed and of the lent buffers when it takes bytes, and at the end of the log.
use Rattle.std.specs.Prelude.{◌≡◌, true, false, List, [], ◌++◌, ℕ, ◌<◌, length}
use Rattle.rules.specs.Verdict.{bad_opening}
use Rattle.rules.specs.Log.{unit_size}
use Rattle.validator.specs.Calls.{Buffers}
use Rattle.progress.specs.Feed.{Feed, unit_begun, with_part}
use Rattle.unit.specs.Units.{UnitValidated}

-- "Header and records are judged when complete": bytes that do not complete the unit are kept; else it is validated and the bytes behind it are taken.
-- "Once an answer but 0 has come, further pieces change nothing."
pub data Fed : Feed → Buffers → List ℕ → Feed → Buffers → Type 0 where
  stopped : {f : Feed} {b : Buffers} {bytes : List ℕ} → (f.answer ≡ 0 → ⊥) → Fed f b bytes f b
  kept : {f : Feed} {b : Buffers} {bytes : List ℕ} → f.answer ≡ 0 → length (f.loose ++ bytes) < unit_size f.opened (f.loose ++ bytes)
      → Fed f b bytes (with_part f bytes) b
  completed : {f f₁ f₂ : Feed} {b b₁ b₂ : Buffers} {bytes : List ℕ} (unit rest : List ℕ) → f.answer ≡ 0 → f.loose ++ bytes ≡ unit ++ rest
      → length unit ≡ unit_size f.opened unit → UnitValidated f.opened f.number b unit f₁ b₁ → Fed f₁ b₁ rest f₂ b₂ → Fed f b bytes f₂ b₂

-- "An end call refuses a missing or short header with 2 at record 0, and after it loose bytes, as a short next record; after an earlier answer but 0
-- it repeats that one; else it gives 0 and pieces may follow."
pub data Ended (f : Feed) (b : Buffers) : Feed → Buffers → Type 0 where
  stands : (f.answer ≡ 0 → ⊥) → Ended f b f b
  no_header : f.answer ≡ 0 → f.opened ≡ false → Ended f b (unit_begun bad_opening false f.number) b
  between : f.answer ≡ 0 → f.opened ≡ true → f.loose ≡ [] → Ended f b f b
  short : {f' : Feed} {b' : Buffers} → f.answer ≡ 0 → f.opened ≡ true → 0 < length f.loose → UnitValidated true f.number b f.loose f' b'
      → Ended f b f' b'

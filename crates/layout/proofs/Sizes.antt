-- The offsets and sizes of the desk and the history, in the numbers of document 02 and of docs/FORMATS.md. Assumes nothing.
use mathlib.Core.Path.{◌≡◌, refl, ap₂}
use mathlib.Core.List.{List}
use Prim.Native.Nat.{ℕ, ◌+◌, ◌*◌, ◌/◌, ◌%◌, ◌^◌, ◌<◌}
use native.Mathlib.Omega.{arith}
use lib.ListN.{get_or}
use Rattle.rules.specs.Limits.{max_depth}
use Rattle.layout.specs.Layout.{states_at, depths_at, marks_at, held_at, place_count, origins_at, origin_bytes, accepted_at, declared_at, progress_at, kept_at, since_at, desk_size, history_size, origin_of}

-- "The holds take 1,152 bytes and the origin bits 144, so the desk is 1,398 bytes", and behind them the crosslocks.
pub desk_offsets : (states_at ≡ 2) × (depths_at ≡ 10) × (marks_at ≡ 34) × (held_at ≡ 98) × (place_count ≡ 1152) × (origins_at ≡ 1250) × (origin_bytes ≡ 144) × (accepted_at ≡ 1394) × (declared_at ≡ 1398)
desk_offsets = (refl, refl, refl, refl, refl, refl, refl, refl, refl)

pub cross_offsets : (progress_at ≡ 1406) × (kept_at ≡ 1414) × (since_at ≡ 1418) × (desk_size ≡ 1674) × (history_size ≡ 512)
cross_offsets = (refl, refl, refl, refl, refl)

-- The origin bits of a frame are six bytes of their own.
pub six_bytes : (desk : List ℕ) (frame p : ℕ) → p < max_depth → origin_of desk frame p ≡ get_or desk (origins_at + 6 * frame + p / 8) 0 / 2 ^ (p % 8) % 2
six_bytes desk frame p l = ap₂ (λ (byte bit : ℕ). get_or desk byte 0 / 2 ^ bit % 2) (omega arith) (omega arith)

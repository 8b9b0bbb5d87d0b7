-- Document 02, i: what the joiner promises, for every input.
use Rattle.std.specs.Prelude.{◌≡◌, List, [], ℕ, ◌<◌, length}
use Rattle.rules.specs.Join.{join}
use Rattle.layout.specs.Decoding.{CarriedOut}
use Rattle.benches.specs.Benches.{Bench, bench_state, bench_classes, join_refusal}

-- The joiner, over the buffers to be written. A refusal "changes nothing"; else the rules' join of what the two benches stand for is carried out, with no
-- history: nothing is kept.
pub record Joined (one two : Bench) (desk sheet seen slip : List ℕ) (answer : ℕ) (desk' sheet' seen' slip' : List ℕ) : Type 0 where
  pub is_refused : 0 < join_refusal one two (length desk) (length sheet) (length seen) (length slip)
      → (answer ≡ join_refusal one two (length desk) (length sheet) (length seen) (length slip)) × (desk' ≡ desk) × (sheet' ≡ sheet) × (seen' ≡ seen) × (slip' ≡ slip)
  pub is_joined : join_refusal one two (length desk) (length sheet) (length seen) (length slip) ≡ 0
      → CarriedOut (bench_classes one) (join (bench_classes one) (bench_state one) (bench_state two)) desk sheet seen [] slip answer desk' sheet' seen' [] slip'

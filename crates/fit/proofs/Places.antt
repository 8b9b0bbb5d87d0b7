-- Every byte of the desk, of the sheets and of the entries of a history has a name: what holds at each named place holds of every byte. Assumes nothing.
use mathlib.Core.Path.{◌≡◌, subst}
use Prim.Native.Nat.{ℕ, ◌+◌, ◌-◌, ◌*◌, ◌/◌, ◌%◌, ◌≤◌, ◌<◌}
use native.Mathlib.Nat.{mod-lt, div-add-mod', div-lt_iff_lt-mul}
use native.Mathlib.Decide.{dec_lt}
use native.Mathlib.Omega.{arith}
use Rattle.rules.specs.Limits.{core_count, max_classes, max_depth}
use Rattle.rules.specs.Context.{Frame}
use Rattle.rules.specs.Log.{word_size}
use Rattle.layout.specs.Layout.{frames_per_core, frame_count, classes_at, closed_at, states_at, depths_at, marks_at, held_at, origins_at, place_count, origin_bytes, accepted_at, number_size, declared_at, progress_at, kept_at, since_at, desk_size, sheet_size, seen_size, kept_size, frame_number}

-- Every frame is one of a core's.
pub by_frame : (P : ℕ → Type 0) → ((i : ℕ) (f : Frame) → i < core_count → f < frames_per_core → P (frame_number i f))
    → (n : ℕ) → n < frame_count → P n
by_frame P a n l =
    let e : frame_number (n / frames_per_core) (n % frames_per_core) ≡ n = omega arith in
    subst P e (a (n / frames_per_core) (n % frames_per_core) (omega arith) (omega arith))

-- What holds at each named place of the desk.
pub record AtPlaces (P : ℕ → Type 0) : Type 0 where
  pub classes : P classes_at
  pub closed : P closed_at
  pub states : (i : ℕ) → i < core_count → P (states_at + i)
  pub depths : (i : ℕ) (f : Frame) → i < core_count → f < frames_per_core → P (depths_at + frame_number i f)
  pub usage : (c : ℕ) → c < max_classes → P (marks_at + c)
  pub held : (i : ℕ) (f : Frame) (p : ℕ) → i < core_count → f < frames_per_core → p < max_depth
      → P (held_at + max_depth * frame_number i f + p)
  pub origins : (b : ℕ) → b < origin_bytes → P (origins_at + b)
  pub accepted : (b : ℕ) → b < number_size → P (accepted_at + b)
  pub declared : (b : ℕ) → b < word_size → P (declared_at + b)
  pub progress : (b : ℕ) → b < word_size → P (progress_at + b)
  pub kept : (b : ℕ) → b < number_size → P (kept_at + b)
  pub since : (c b : ℕ) → c < max_classes → b < number_size → P (since_at + number_size * c + b)

-- Every byte below desk_size has a named place.
before_count : (P : ℕ → Type 0) → AtPlaces P → (j : ℕ) → j < accepted_at → P j
before_count P a j l =
    elim (dec_lt j closed_at) [
      | yes h ↦ let e : classes_at ≡ j = omega arith in subst P e a.classes
      | no h₀ ↦ elim (dec_lt j states_at) [
        | yes h ↦ let e : closed_at ≡ j = omega arith in subst P e a.closed
        | no h₁ ↦ elim (dec_lt j depths_at) [
          | yes h ↦ let e : states_at + (j - states_at) ≡ j = omega arith in subst P e (a.states (j - states_at) (omega arith))
          | no h₂ ↦ elim (dec_lt j marks_at) [
            | yes h ↦
                let e : depths_at + (j - depths_at) ≡ j = omega arith in
                subst P e (by_frame (λ n. P (depths_at + n)) a.depths (j - depths_at) (omega arith))
            | no h₃ ↦ elim (dec_lt j held_at) [
              | yes h ↦ let e : marks_at + (j - marks_at) ≡ j = omega arith in subst P e (a.usage (j - marks_at) (omega arith))
              | no h₄ ↦ elim (dec_lt j origins_at) [
                | yes h ↦
                    let q = j - held_at in
                    let e : held_at + max_depth * (q / max_depth) + q % max_depth ≡ j = omega arith in
                    subst P e
                    (by_frame (λ n. P (held_at + max_depth * n + q % max_depth)) (λ i f h g. a.held i f (q % max_depth) h g (omega arith))
                    (q / max_depth) (omega arith))
                | no h₅ ↦ let e : origins_at + (j - origins_at) ≡ j = omega arith in subst P e (a.origins (j - origins_at) (omega arith))
              ]
            ]
          ]
        ]
      ]
    ]

pub by_place : (P : ℕ → Type 0) → AtPlaces P → (j : ℕ) → j < desk_size → P j
by_place P a j l =
    elim (dec_lt j accepted_at) [
      | yes h ↦ before_count P a j h
      | no h₀ ↦ elim (dec_lt j declared_at) [
        | yes h ↦ let e : accepted_at + (j - accepted_at) ≡ j = omega arith in subst P e (a.accepted (j - accepted_at) (omega arith))
        | no h₁ ↦ elim (dec_lt j progress_at) [
          | yes h ↦ let e : declared_at + (j - declared_at) ≡ j = omega arith in subst P e (a.declared (j - declared_at) (omega arith))
          | no h₂ ↦ elim (dec_lt j kept_at) [
            | yes h ↦ let e : progress_at + (j - progress_at) ≡ j = omega arith in subst P e (a.progress (j - progress_at) (omega arith))
            | no h₃ ↦ elim (dec_lt j since_at) [
              | yes h ↦ let e : kept_at + (j - kept_at) ≡ j = omega arith in subst P e (a.kept (j - kept_at) (omega arith))
              | no h₄ ↦
                  let q = j - since_at in
                  let e : since_at + number_size * (q / number_size) + q % number_size ≡ j = omega arith in
                  subst P e (a.since (q / number_size) (q % number_size) (omega arith) (omega arith))
            ]
          ]
        ]
      ]
    ]

-- Every origin bit is that of a place of a frame.
pub by_origin : (P : ℕ → Type 0) → ((i : ℕ) (f : Frame) (p : ℕ) → i < core_count → f < frames_per_core → p < max_depth → P (max_depth * frame_number i f + p))
    → (k : ℕ) → k < place_count → P k
by_origin P a k l =
    let e : max_depth * (k / max_depth) + k % max_depth ≡ k = omega arith in
    subst P e (by_frame (λ n. P (max_depth * n + k % max_depth)) (λ i f h g. a i f (k % max_depth) h g (omega arith)) (k / max_depth) (omega arith))

-- Every byte below K x K is that of a pair of classes.
pub by_pair : (K : ℕ) → 1 ≤ K → (P : ℕ → Type 0) → ((from to : ℕ) → from < K → to < K → P (from * K + to))
    → (j : ℕ) → j < sheet_size K → P j
by_pair K some P a j l = subst P (div-add-mod' j K) (a (j / K) (j % K) ((div-lt_iff_lt-mul some).1 l) (mod-lt j some))

-- Every byte of the second sheet is one of the number of a pair.
pub by_number : (K : ℕ) → 1 ≤ K → (P : ℕ → Type 0)
    → ((from to b : ℕ) → from < K → to < K → b < number_size → P (number_size * (from * K + to) + b)) → (j : ℕ) → j < seen_size K → P j
by_number K some P a j l =
    let e : number_size * (j / number_size) + j % number_size ≡ j = omega arith in
    subst P e
    (by_pair K some (λ i. P (number_size * i + j % number_size)) (λ from to lf lt. a from to (j % number_size) lf lt (omega arith)) (j / number_size) (omega arith))

-- Every byte of the entries of the history is the first or the second of one.
pub by_entry : (n : ℕ) (P : ℕ → Type 0) → ((i : ℕ) → i < n → P (kept_size * i)) → ((i : ℕ) → i < n → P (kept_size * i + 1))
    → (j : ℕ) → j < kept_size * n → P j
by_entry n P a b j l =
    elim (dec_lt (j % kept_size) 1) [
      | yes h ↦ let e : kept_size * (j / kept_size) ≡ j = omega arith in subst P e (a (j / kept_size) (omega arith))
      | no h ↦ let e : kept_size * (j / kept_size) + 1 ≡ j = omega arith in subst P e (b (j / kept_size) (omega arith))
    ]

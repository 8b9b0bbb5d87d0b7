-- The held locks of a frame in the bytes of the desk, and what the calls over them do.
use Rattle.std.specs.Prelude.{◌≡◌, Bool, cond, List, [], ◌∷◌, ◌++◌, ◌⊎◌, ℕ, zero, suc, ◌+◌, ◌-◌, ◌*◌, ◌%◌, ◌/◌, ◌<◌, ◌≤◌, eqb, length, get_or, Option, None, Some}
use Rattle.rules.specs.Limits.{max_depth, held_modes, mode_count}
use Rattle.rules.specs.HeldLocks.{HeldLock}
use Rattle.layout.specs.Layout.{frame_count, depths_at, held_at, origins_at, accepted_at, desk_size, depth_of, held_of, origin_bit, origin_of}
use Rattle.layout.specs.Encoding.{held_byte_at, origin_at, EightBits}

-- The bytes and the origin bits of frame n are the held locks hs.
pub record FrameBytes (desk : List ℕ) (n : ℕ) (hs : List HeldLock) : Type 0 where
  pub depth : depth_of desk n ≡ length hs
  pub held : (p : ℕ) → p < max_depth → held_of desk n p ≡ held_byte_at hs p
  pub origins : (p : ℕ) → p < max_depth → origin_of desk n p ≡ origin_at hs p

-- The held bytes of frame n, one for each of its locks.
pub record HeldBytes (desk : List ℕ) (n : ℕ) (bytes : List ℕ) : Type 0 where
  pub long : length bytes ≡ depth_of desk n
  pub byte : (p : ℕ) → p < depth_of desk n → get_or bytes p 0 ≡ held_of desk n p

-- Each lock fits a held byte and an origin bit.
pub record SmallLock (h : HeldLock) : Type 0 where
  pub class : h.class < 64
  pub mode : h.mode < mode_count

abbrev pub SmallLocks : List HeldLock → Type 0
SmallLocks hs = (p : ℕ) (d : HeldLock) → p < length hs → SmallLock (get_or hs p d)

-- Only the bytes of frame n, and its bits among the origins, may differ.
pub record KeepsElse (n : ℕ) (before after : List ℕ) : Type 0 where
  pub long : length after ≡ length before
  pub else : (j : ℕ) → (j ≡ depths_at + n → ⊥) → (j < held_at + max_depth * n) ⊎ (held_at + max_depth * n + max_depth ≤ j)
      → (j < origins_at) ⊎ (accepted_at ≤ j) → get_or after j 0 ≡ get_or before j 0
  pub origins : (k : ℕ) → (k < max_depth * n) ⊎ (max_depth * n + max_depth ≤ k) → origin_bit after k ≡ origin_bit before k
  pub eight : EightBits before → EightBits after

pub record Pushed (before : List ℕ) (n class mode : ℕ) (after : List ℕ) : Type 0 where
  pub keeps : KeepsElse n before after
  pub frame : (hs : List HeldLock) → FrameBytes before n hs → FrameBytes after n (hs ++ (record { class = class; mode = mode } ∷ []))

-- The number of a place that may be missing, in the words of what follows: one more than the place, or 0.
abbrev pub place_number : Option ℕ → ℕ
place_number None = 0
place_number (Some p) = suc p

-- One more than the last place below d at which the test holds, or 0.
unfoldable pub last_below : (ℕ → Bool) → ℕ → ℕ
last_below test zero = 0
last_below test (suc d) = cond (test d) (suc d) (last_below test d)

unfoldable pub newest_of : List ℕ → ℕ → ℕ → ℕ
newest_of desk n class = last_below (λ p. eqb (held_of desk n p % 64) class) (depth_of desk n)

-- The mode in which the lock at place p of frame n was acquired.
abbrev pub taken_in : List ℕ → ℕ → ℕ → ℕ
taken_in desk n p = held_of desk n p / 64 + held_modes * origin_of desk n p

-- One more than the place of the newest lock of the class, if it was acquired in this mode, else 0.
unfoldable pub fitting_of : List ℕ → ℕ → (class mode : ℕ) → ℕ
fitting_of desk n class mode = cond (eqb mode (taken_in desk n (newest_of desk n class - 1))) (newest_of desk n class) 0

-- A list without its element at a place.
abbrev pub remove_at : ℕ → List HeldLock → List HeldLock
remove_at q [] = []
remove_at zero (h ∷ hs) = hs
remove_at (suc q) (h ∷ hs) = h ∷ remove_at q hs

-- From place q of frame n on the origin bits move down one, the bit of the last place is 0, and nothing else changes.
pub record OriginsMoved (before : List ℕ) (n q last : ℕ) (after : List ℕ) : Type 0 where
  pub long : length after ≡ length before
  pub else : (j : ℕ) → (j < origins_at) ⊎ (accepted_at ≤ j) → get_or after j 0 ≡ get_or before j 0
  pub moved : (p : ℕ) → q ≤ p → p < last → origin_of after n p ≡ origin_of before n (suc p)
  pub freed : origin_of after n last ≡ 0
  pub kept : (k : ℕ) → (k < max_depth * n + q) ⊎ (max_depth * n + last < k) → origin_bit after k ≡ origin_bit before k
  pub eight : EightBits before → EightBits after

pub record Removed (before : List ℕ) (n place : ℕ) (after : List ℕ) : Type 0 where
  pub keeps : KeepsElse n before after
  pub frame : (hs : List HeldLock) → FrameBytes before n hs → FrameBytes after n (remove_at place hs)

-- What the frame's bytes must be for the loops over them: every held byte is a class below K and a mode.
pub record HeldIn (desk : List ℕ) (n K : ℕ) : Type 0 where
  pub long : desk_size ≤ length desk
  pub frame : n < frame_count
  pub depth : depth_of desk n ≤ max_depth
  pub class : (p : ℕ) → p < depth_of desk n → held_of desk n p % 64 < K
  pub mode : (p : ℕ) → p < depth_of desk n → held_of desk n p / 64 < held_modes

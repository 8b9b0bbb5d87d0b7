-- What valid cores say of the bytes. Assumes nothing.
use mathlib.Core.Path.{◌≡◌, sym, ap, subst}
use mathlib.Core.List.{List}
use Prim.Native.Nat.{ℕ, ◌-◌, ◌<◌, ◌≤◌}
use native.Mathlib.Omega.{arith}
use lib.ListN.{length, get_or}
use Rattle.rules.specs.Limits.{core_count, max_classes, max_depth}
use Rattle.rules.specs.Context.{Frame, frame_of}
use Rattle.rules.specs.HeldLocks.{Core, current}
use Rattle.validity.specs.Valid.{ValidLock, ValidCore}
use Rattle.layout.specs.Layout.{frame_count, frame_number, classes_of, state_of, depth_of}
use Rattle.context.proofs.Frames.{frame_less}
use Rattle.layout.proofs.Held.{unheld}
use Rattle.held.specs.Frames.{FrameBytes, SmallLocks, HeldIn, fitting_of}
use Rattle.held.proofs.Prefixes.{Lock, lock_at_lem}
use Rattle.held.proofs.Releases.{found_at, fitting_is}
use Rattle.update.proofs.Cores.{frame_bytes}
use Rattle.cores.specs.Cores.{Cored}

module _ {K : ℕ} (few : K ≤ max_classes) (core : Core) (valid : ValidCore K core) where
  pub small_locks : (f : Frame) → SmallLocks (core.held f)
  small_locks f p d l = let h = valid.locks f p d l in record { class = let c = h.class in omega arith; mode = h.mode }

-- What valid cores say of a core's bytes.
module _ (desk : List ℕ) (c : Cored desk) (i : ℕ) (li : i < core_count) where
  pub state_less : state_of desk i < 9
  state_less = let e = c.encodes.states i li in let v = (c.valid i).states in omega arith

  pub now_is : frame_of (state_of desk i) ≡ frame_of (c.cores i).state
  now_is = ap frame_of (c.encodes.states i li)

  pub number_less : frame_number i (frame_of (state_of desk i)) < frame_count
  number_less = let l = frame_less (state_of desk i) state_less in omega arith

  -- The current frame's bytes are its locks.
  pub current_bytes : FrameBytes desk (frame_number i (frame_of (state_of desk i))) (current (c.cores i))
  current_bytes =
      subst (λ (f : Frame). FrameBytes desk (frame_number i f) (current (c.cores i))) (sym now_is)
      (frame_bytes c.encodes i (frame_of (c.cores i).state) li (frame_less (c.cores i).state (let e = c.encodes.states i li in let v = (c.valid i).states in omega arith)))

  pub current_small : SmallLocks (current (c.cores i))
  current_small = small_locks c.few (c.cores i) (c.valid i) (frame_of (c.cores i).state)

  pub current_few : length (current (c.cores i)) ≤ max_depth
  current_few = (c.valid i).depths (frame_of (c.cores i).state)

  pub held_in : HeldIn desk (frame_number i (frame_of (state_of desk i))) (classes_of desk)
  held_in =
      let n = frame_number i (frame_of (state_of desk i)) in
      let hs = current (c.cores i) in
      let F = current_bytes in
      let d = F.depth in
      let few = current_few in
      let at : (p : ℕ) → p < depth_of desk n → Lock desk n p (get_or hs p unheld) = λ p l. lock_at_lem desk n hs F current_small p (omega arith) (omega arith) in
      let ok : (p : ℕ) → p < depth_of desk n → ValidLock (classes_of desk) (get_or hs p unheld) = λ p l. (c.valid i).locks (frame_of (c.cores i).state) p unheld (omega arith) in
      record {
        long = c.encodes.long;
        frame = number_less;
        depth = omega arith;
        class = λ p l. rw (at p l).class (ok p l).class;
        mode = λ p l. rw (at p l).held_as_lem (omega arith);
      }

  -- A lock that was found stands in the frame.
  pub fitting_inside : (class mode : ℕ) → (fitting_of desk (frame_number i (frame_of (state_of desk i))) class mode ≡ 0 → ⊥)
      → fitting_of desk (frame_number i (frame_of (state_of desk i))) class mode - 1 < depth_of desk (frame_number i (frame_of (state_of desk i)))
  fitting_inside class mode ne =
      let n = frame_number i (frame_of (state_of desk i)) in
      let q = (found_at (fitting_is desk n (current (c.cores i)) current_bytes current_small current_few class mode) ne).1.inside in
      let d = current_bytes.depth in
      omega arith

-- Usage marks ("marks"): in which interrupt contexts a lock class was ever held (002).
use Rattle.std.specs.Prelude.{Bool, not, ◌&&◌, ◌||◌, ℕ, eqb}
use Rattle.rules.specs.Context.{CoreState, task_both_on, task_soft_off, soft_hard_on, soft_hard_off, may_hold_hard}
use Rattle.rules.specs.HeldLocks.{First, Second, E, S, R, N, same_first, same_second, HeldLock, is_try, first_of, second_of, some_held, Core, current}

-- Hard or soft interrupts.
pub data Level : Type 0 where
  hard_irq soft_irq : Level

-- Safe: held in a handler of the level, by how it waits. Unsafe: held with the level enabled, by what it blocks.
pub data Usage : Type 0 where
  safe : Second → Usage
  unsafe : First → Usage

-- "Hard-safe in 6-8; soft-safe in 4-5; hard-unsafe in 0, 1, 4; soft-unsafe in 0 only"
abbrev pub set_in : Level → Usage → CoreState → Bool
set_in hard_irq (safe b) s = may_hold_hard s
set_in soft_irq (safe b) s = eqb s soft_hard_on || eqb s soft_hard_off
set_in hard_irq (unsafe a) s = eqb s task_both_on || eqb s task_soft_off || eqb s soft_hard_on
set_in soft_irq (unsafe a) s = eqb s task_both_on

-- "N, R, E, S follow the hold's mode." A try "sets no safe mark then or later, as it never waits".
abbrev pub letter_fits : Usage → HeldLock → Bool
letter_fits (safe b) h = not (is_try h.mode) && same_second b (second_of h)
letter_fits (unsafe a) h = same_first a (first_of h)

abbrev pub Marks : Type 0
Marks = ℕ → Level → Usage → Bool

-- "every hold of that core's current frame is marked by the core's state"
abbrev pub marks_of : Core → Marks
marks_of core c l u = set_in l u core.state && some_held c (letter_fits u) (current core)

-- The mark's bit in a class's mark byte: 1 hard-safe N, 2 hard-safe R, 4 hard-unsafe E, 8 hard-unsafe S; 16, 32, 64, 128 the same for soft.
abbrev pub mark_bit : Level → Usage → ℕ
mark_bit hard_irq (safe N) = 1
mark_bit hard_irq (safe R) = 2
mark_bit hard_irq (unsafe E) = 4
mark_bit hard_irq (unsafe S) = 8
mark_bit soft_irq (safe N) = 16
mark_bit soft_irq (safe R) = 32
mark_bit soft_irq (unsafe E) = 64
mark_bit soft_irq (unsafe S) = 128

-- What an acquire and a release ask of the class.
use Rattle.std.specs.Prelude.{cond, List, ℕ, leb}
use Rattle.layout.specs.Layout.{classes_of, declared_of, member_of}

-- Refusals 4 and 15 of an acquire and a release, 0 for neither.
abbrev pub not_lock : List ℕ → ℕ → ℕ
not_lock desk c = cond (leb (classes_of desk) c) 4 (cond (member_of (declared_of desk) c) 15 0)

-- The refusals of a commit and of a crosslock's release.
use Rattle.std.specs.Prelude.{cond, not, List, ℕ, leb}
use Rattle.rules.specs.Limits.{max_accepted}
use Rattle.layout.specs.Layout.{classes_of, declared_of, progress_of, accepted_of, member_of}

-- 4 and 15, then 17 of a crosslock that is not in progress, then 9; 0 for none of them.
abbrev pub not_going : List ℕ → ℕ → ℕ
not_going desk c =
    cond (leb (classes_of desk) c) 4
    (cond (not (member_of (declared_of desk) c)) 15
    (cond (not (member_of (progress_of desk) c)) 17 (cond (leb max_accepted (accepted_of desk)) 9 0)))

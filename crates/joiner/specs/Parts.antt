-- What the join asks for and leaves in the bytes before the search.
use Rattle.std.specs.Prelude.{List, ℕ, ◌+◌, ◌≤◌, length}
use Rattle.rules.specs.Limits.{max_classes}
use Rattle.layout.specs.Layout.{marks_at, desk_size, sheet_size, seen_size, classes_of, declared_of}
use Rattle.opening.specs.Open.{opened_desk}
use Rattle.uniting.specs.United.{United, NumbersJoined}
use Rattle.benches.specs.Benches.{Bench}

-- All that is read and written is long enough for one number of classes.
pub record Ready (one two : Bench) (desk sheet seen : List ℕ) : Type 0 where
  pub few : classes_of one.desk ≤ max_classes
  pub desk_one : desk_size ≤ length one.desk
  pub desk_two : desk_size ≤ length two.desk
  pub desk_room : desk_size ≤ length desk
  pub sheet_one : sheet_size (classes_of one.desk) ≤ length one.sheet
  pub sheet_two : sheet_size (classes_of one.desk) ≤ length two.sheet
  pub sheet_room : sheet_size (classes_of one.desk) ≤ length sheet
  pub seen_one : seen_size (classes_of one.desk) ≤ length one.seen
  pub seen_two : seen_size (classes_of one.desk) ≤ length two.seen
  pub seen_room : seen_size (classes_of one.desk) ≤ length seen

-- Desk and sheets as the join writes them, before the search: a fresh desk with the marks, the kinds, the numbers.
pub record DrawnOfBoth (one two : Bench) (desk sheet seen desk' sheet' seen' : List ℕ) : Type 0 where
  pub marks : United one.desk two.desk marks_at (marks_at + max_classes) (opened_desk (classes_of one.desk) (declared_of one.desk) desk) desk'
  pub kinds : United one.sheet two.sheet 0 (sheet_size (classes_of one.desk)) sheet sheet'
  pub numbers : NumbersJoined one.seen two.seen (sheet_size (classes_of one.desk)) seen seen'

-- Fit buffers hold valid cores and crosslocks. Assumes nothing.
use mathlib.Core.Path.{◌≡◌}
use mathlib.Core.Bool.{true}
use mathlib.Core.List.{List}
use Prim.Native.Nat.{ℕ, ◌≤◌}
use lib.ListN.{length}
use Rattle.layout.specs.Layout.{desk_size, seen_size, history_size, classes_of, AreBytes}
use Rattle.layout.specs.Fit.{fits, entries_fit}
use Rattle.layout.specs.Decoding.{view}
use Rattle.fit.proofs.Facts.{facts}
use Rattle.fit.proofs.Fitting.{fit_encodes, fit_valid}
use Rattle.cores.specs.Cores.{Cored}
use Rattle.acting.specs.Action.{Crossed}

module _ (desk sheet seen history : List ℕ) (f : fits desk sheet seen ≡ true) (h : entries_fit desk history ≡ true) (bytes : AreBytes desk_size desk)
    (numbers : AreBytes (seen_size (classes_of desk)) seen) where
  pub fit_cored : Cored desk
  fit_cored =
      let s = view desk sheet seen history in
      record {
        few = (facts desk sheet seen f).few;
        is_closed = s.is_closed;
        cores = s.cores;
        marks = s.graph.marks;
        encodes = (fit_encodes desk sheet seen history f h bytes numbers).in_desk;
        valid = (fit_valid desk sheet seen history f h bytes numbers).cores;
      }

  pub fit_crossed : history_size ≤ length history → Crossed desk history
  fit_crossed long =
      record {
        long = long;
        cross = (view desk sheet seen history).cross;
        encodes = (fit_encodes desk sheet seen history f h bytes numbers).in_cross;
        valid = (fit_valid desk sheet seen history f h bytes numbers).cross;
      }

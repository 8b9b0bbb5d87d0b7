-- What the program's reads and calls come to. Assumes nothing.
use Rattle.std.proofs.Common.{◌≡◌, refl, ap, subst, ◌∙◌, Bool, true, cond, List, [], ◌∷◌, ◌++◌, ℕ, zero, suc, ◌^◌, ◌≤◌, ◌<◌, length, le-leb}
use Rattle.std.proofs.lemmas.List.{append-nil}
use Rattle.rules.specs.Limits.{max_classes}
use Rattle.rules.specs.Verdict.{bad_opening}
use Rattle.layout.specs.Layout.{count_of}
use Rattle.validator.specs.Calls.{Buffers}
use Rattle.progress.specs.Feed.{feed_size}
use Rattle.feed.specs.Calls.{Started, FedPiece}
use Rattle.plungerowl.specs.Logs.{WholeLog, joined, FeedRan, no_piece, piece, end_between, the_end}
use Rattle.plungerowl.proofs.Feeds.{log_in_pieces, ended_run, run_shown}
use Rattle.outcome.specs.Outcomes.{outcome_of}
use Rattle.outcome.specs.declared.Outcome.{Outcome}
use Rattle.log_text.specs.Text.{Showable}
use Rattle.files.specs.Replayed.{Taken, ReadToEnd, Replayed, unread, whole}

-- ---- A turn of the loop.

pub none_taken : (feed : List ℕ) (b : Buffers) → Taken feed b feed b
none_taken feed b = record { pieces = []; ran = no_piece }

ran_more : {feed feed' feed'' p : List ℕ} {b b' b'' : Buffers} {ps : List (List ℕ)} {answer number : ℕ} → FeedRan feed b ps feed' b'
    → FedPiece feed' b' p answer number feed'' b'' → FeedRan feed b (ps ++ p ∷ []) feed'' b''
ran_more no_piece t = piece t no_piece
ran_more (piece u w) t = piece u (ran_more w t)
ran_more (end_between u w) t = end_between u (ran_more w t)

pub one_taken : {feed feed' feed'' p : List ℕ} {b b' b'' : Buffers} {answer number : ℕ} → Taken feed b feed' b' → FedPiece feed' b' p answer number feed'' b''
    → Taken feed b feed'' b''
one_taken {p = p} w t = record { pieces = w.pieces ++ p ∷ []; ran = ran_more w.ran t }

-- ---- The whole log.

pub started_well : {feed feed' : List ℕ} {answer : ℕ} → feed_size ≤ length feed → Started feed answer feed' → Started feed 0 feed'
started_well {feed} {feed'} h s =
    subst (λ (a : ℕ). Started feed a feed') (s.number_is ∙ ap (λ (t : Bool). cond t 0 bad_opening) (le-leb feed_size (length feed) h)) s

-- What came of the log is what its bytes say, if they are under 2 to the 64.
pub record OfLog (b : Buffers) (log : List ℕ) (o : Outcome) (b' : Buffers) : Type 0 where
  pub answer : ℕ
  pub number : ℕ
  pub outcome_is : o ≡ outcome_of answer number
  pub validated : length log < 2 ^ 64 → WholeLog b log true answer number b'

pub read_whole : {b b' : Buffers} {o : Outcome} (r : ReadToEnd b o b') → OfLog b (joined r.taken.pieces) o b'
read_whole {b} {b'} r =
    record {
      answer = r.answer;
      number = r.number;
      outcome_is = r.outcome_is;
      validated = λ small.
          rw append-nil at (log_in_pieces r.started r.taken.ran (the_end r.ended) (rw append-nil small));
    }

showable : (b : Buffers) (a n : ℕ) → (a ≡ 1 → count_of b.slip ≤ max_classes) → Showable (outcome_of a n) b.slip
showable b zero n h = tt
showable b (suc zero) n h = h refl
showable b (suc (suc a)) n h = tt

pub shown : {b b' : Buffers} {o : Outcome} → Replayed b o b' → Showable o b'.slip
shown unread = tt
shown {b' = b'} (whole r) =
    rw r.outcome_is (showable b' r.answer r.number (run_shown (ended_run r.started r.taken.ran r.ended)))

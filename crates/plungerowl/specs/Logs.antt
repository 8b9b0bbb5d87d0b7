-- Document 02, b: what comes of a log, from its bytes alone; and a log in pieces, over the calls of the feed.
use Rattle.std.specs.Prelude.{◌≡◌, Bool, true, false, cond, List, [], ◌∷◌, ◌++◌, ◌⊎◌, ℕ, ◌*◌, ◌≤◌, ◌<◌, leb, length, get_or, take, drop}
use Rattle.rules.specs.Record.{Bytes}
use Rattle.rules.specs.Verdict.{closed, malformed, refusal_number, bad_opening, unfit}
use Rattle.rules.specs.Run.{start}
use Rattle.rules.specs.Log.{header_size, header_classes, header_word, records_of, loose_of, short_record, Outcome, validate}
use Rattle.layout.specs.Layout.{desk_size, sheet_size, seen_size, kept_size, history_size, slip_size, kept_of, member_of, KeepsPast}
use Rattle.layout.specs.Decoding.{StandFor, Reported}
use Rattle.opening.specs.Open.{opens}
use Rattle.validator.specs.Calls.{Buffers}
use Rattle.progress.specs.Feed.{view}
use Rattle.feed.specs.Calls.{FedPiece, FedEnd}
use Rattle.plungerowl.specs.Demands.{SameStep}

-- ---- A log, from its bytes.

-- The number of classes that a log's header gives, and the word that declares crosslocks. The header is of the size that its third byte tells.
abbrev pub classes_in : (log : List ℕ) → ℕ
classes_in log = header_classes (take (header_size log) log)

abbrev pub word_in : (log : List ℕ) → ℕ
word_in log = header_word (take (header_size log) log)

-- The records behind the header, at the end of the log with the loose bytes as a short one.
abbrev pub records_in : (log : List ℕ) (ended : Bool) → List Bytes
records_in log ended = records_of (drop (header_size log) log) ++ short_record ended (loose_of (drop (header_size log) log))

-- Opening does not see the slip: where that is too short, the first record gets 11 and nothing is drawn.
abbrev pub refuse_first : (word : ℕ) → List Bytes → Outcome
refuse_first word [] = record { answer = 0; at = 0; state = start (member_of word) }
refuse_first word (r ∷ rs) = record { answer = unfit; at = 1; state = start (member_of word) }

-- The records are validated by the rules, from the state that opening gives.
abbrev pub outcome_for : (K word : ℕ) (room : Bool) → List Bytes → Outcome
outcome_for K word true rs = validate K (start (member_of word)) 0 rs
outcome_for K word false rs = refuse_first word rs

-- The buffers then: desk, sheets and history stand for the rules' state, and no byte past the sizes is touched; the slip is written with a fault only. (What
-- the history has behind the entries that it keeps then is not told here; SameStep settles it, call by call and for any cuts.)
pub record LeftBy (K : ℕ) (o : Outcome) (b b' : Buffers) : Type 0 where
  pub stands : StandFor K o.state b'.desk b'.sheet b'.seen b'.history
  pub keeps_desk : KeepsPast desk_size b.desk b'.desk
  pub keeps_sheet : KeepsPast (sheet_size K) b.sheet b'.sheet
  pub keeps_seen : KeepsPast (seen_size K) b.seen b'.seen
  pub keeps_history : KeepsPast history_size b.history b'.history
  pub unreported : (o.answer ≡ 1 → ⊥) → b'.slip ≡ b.slip
  pub reported : o.answer ≡ 1 → Reported K o.state.graph o.state.journal.seen b.slip b'.slip

-- The whole log: a short header is refused at the end and not before, a bad one or too little room for opening at once, each with 2 at record 0 and
-- nothing changed; behind a good one the records are completed, up to the first answer but 0.
pub data WholeLog (b : Buffers) (log : List ℕ) (ended : Bool) : (answer number : ℕ) → Buffers → Type 0 where
  short_header : length log < header_size log → WholeLog b log ended (cond ended bad_opening 0) 0 b
  bad_header : header_size log ≤ length log → opens (classes_in log) (word_in log) b.desk b.sheet b.seen b.history ≡ false
      → WholeLog b log ended bad_opening 0 b
  by_rules : {b' : Buffers} (o : Outcome) → header_size log ≤ length log → opens (classes_in log) (word_in log) b.desk b.sheet b.seen b.history ≡ true
      → o ≡ outcome_for (classes_in log) (word_in log) (leb (slip_size (classes_in log)) (length b.slip)) (records_in log ended) → LeftBy (classes_in log) o b b'
      → WholeLog b log ended o.answer o.at b'

-- ---- A log in pieces.

-- The pieces put together.
abbrev pub joined : List (List ℕ) → List ℕ
joined [] = []
joined (p ∷ ps) = p ++ joined ps

-- Calls of the feed, one piece a call, each handed the buffers as the last left them; an end call that answers 0 may stand anywhere among them.
pub data FeedRan : (feed : List ℕ) → Buffers → List (List ℕ) → (feed' : List ℕ) → Buffers → Type 0 where
  no_piece : {feed : List ℕ} {b : Buffers} → FeedRan feed b [] feed b
  piece : {feed feed' feed'' p : List ℕ} {b b' b'' : Buffers} {ps : List (List ℕ)} {answer number : ℕ} → FedPiece feed b p answer number feed' b'
      → FeedRan feed' b' ps feed'' b'' → FeedRan feed b (p ∷ ps) feed'' b''
  end_between : {feed feed' feed'' : List ℕ} {b b' b'' : Buffers} {ps : List (List ℕ)} {number : ℕ} → FedEnd feed b 0 number feed' b'
      → FeedRan feed' b' ps feed'' b'' → FeedRan feed b ps feed'' b''

-- The last call, and what it adds to the log: a piece, or its end.
pub data LastCall (feed : List ℕ) (b : Buffers) : (bytes : List ℕ) (ended : Bool) (answer number : ℕ) (feed' : List ℕ) → Buffers → Type 0 where
  a_piece : {p feed' : List ℕ} {b' : Buffers} {answer number : ℕ} → FedPiece feed b p answer number feed' b' → LastCall feed b p false answer number feed' b'
  the_end : {feed' : List ℕ} {b' : Buffers} {answer number : ℕ} → FedEnd feed b answer number feed' b' → LastCall feed b [] true answer number feed' b'

-- ---- What the calls of the feed leave as it was, and what they settle.

-- A step with a short record: "11, 10 or else 3"; no byte changes.
pub record ShortRefused (answer : ℕ) (b b' : Buffers) : Type 0 where
  pub number_is : (answer ≡ unfit) ⊎ ((answer ≡ refusal_number closed) ⊎ (answer ≡ refusal_number malformed))
  pub same : b' ≡ b

-- A call that repeats what stands, and changes no byte of the six buffers.
pub record Repeated (feed : List ℕ) (b : Buffers) (answer number : ℕ) (feed' : List ℕ) (b' : Buffers) : Type 0 where
  pub answer_is : answer ≡ (view feed).answer
  pub number_is : number ≡ (view feed).number
  pub same_feed : feed' ≡ feed
  pub same : b' ≡ b

-- Two results of one log, as its bytes alone settle them: the number and every byte, but in the history those behind the entries that it keeps.
pub record SameLeft (answer answer' : ℕ) (b b' : Buffers) : Type 0 where
  pub number_is : answer ≡ answer'
  pub desk_is : b.desk ≡ b'.desk
  pub sheet_is : b.sheet ≡ b'.sheet
  pub seen_is : b.seen ≡ b'.seen
  pub history_long : length b.history ≡ length b'.history
  pub history_is : (j : ℕ) → (j < kept_size * kept_of b.desk) ⊎ (history_size ≤ j) → get_or b.history j 0 ≡ get_or b'.history j 0
  pub slip_is : b.slip ≡ b'.slip

-- Two results of one call of the feed: the numbers and every byte of the six buffers are the same.
pub record SameFeed (answer answer' number number' : ℕ) (feed feed' : List ℕ) (b b' : Buffers) : Type 0 where
  pub step : SameStep answer answer' b b'
  pub record_is : number ≡ number'
  pub feed_is : feed ≡ feed'

-- The calls of the feed settle the number, the record's number and every byte, and a log's bytes settle what comes of it. Assumes nothing.
use mathlib.Core.Path.{◌≡◌, refl, sym, ap, subst, subst₂, ◌∙◌}
use mathlib.Core.Bool.{Bool, true, false, false≢true}
use mathlib.Core.List.{List, [], ◌++◌, append-nil}
use mathlib.Core.Logic.{⊎_elim}
use Prim.Native.Nat.{ℕ, ◌≤◌, ◌<◌}
use native.Mathlib.Decide.{ℕ_discrete}
use native.Mathlib.Omega.{arith}
use lib.Dec.{eqb}
use lib.ListN.{length, get_or, take, drop, length-append}
use lib.Seq.{take_at, drop_at}
use Rattle.rules.specs.Verdict.{bad_opening}
use Rattle.rules.specs.Log.{unit_size, Outcome}
use Rattle.layout.specs.Layout.{AreBytes}
use Rattle.layout.proofs.Cross.{kept_is}
use Rattle.fit.proofs.Facts.{facts}
use Rattle.fit.proofs.Fitting.{stand_encodes, stand_valid}
use Rattle.fit.proofs.Places.{by_entry}
use Rattle.fit.proofs.Settled.{settled_desk_after, settled_sheet_after, settled_seen_after}
use Rattle.validator.specs.Calls.{Buffers}
use Rattle.progress.specs.Feed.{Feed, fresh, feed_size, view, fits, unit_begun, with_part}
use Rattle.progress.proofs.Kept.{bytes_back}
use Rattle.unit.specs.Units.{more, UnitValidated, header, a_record}
use Rattle.feed.specs.Fed.{Fed, stopped, kept, completed, Ended, stands, no_header, between, short}
use Rattle.feed.specs.Calls.{holding, Started, FeedCall, FedPiece, FedEnd}
use Rattle.validator.proofs.Reports.{reported_one}
use Rattle.plungerowl.specs.Demands.{SameStep}
use Rattle.plungerowl.specs.Logs.{classes_in, LeftBy, WholeLog, short_header, bad_header, by_rules, joined, FeedRan, LastCall, a_piece, the_end, SameLeft, Repeated, SameFeed}
use Rattle.plungerowl.proofs.Demands.{step_settles}
use Rattle.plungerowl.proofs.Logs.{same_buffers, takes_nothing}
use Rattle.plungerowl.proofs.Wholes.{repeats, whole_unit}
use Rattle.plungerowl.proofs.Feeds.{FedRun, EndedRun, fed_run, ended_run}

same_step : (a : ℕ) (b : Buffers) → SameStep a a b b
same_step a b = record { number_is = refl; desk_is = refl; sheet_is = refl; seen_is = refl; history_is = refl; slip_is = refl }

-- Two results of a feed.
record Same (f f' : Feed) (b b' : Buffers) : Type 0 where
  feed_is : f ≡ f'
  step : SameStep f.answer f'.answer b b'

same_all : (f : Feed) (b : Buffers) → Same f f b b
same_all f b = record { feed_is = refl; step = same_step f.answer b }

unit_settles : {o : Bool} {n : ℕ} {b b₁ b₂ : Buffers} {u : List ℕ} {f₁ f₂ : Feed} → UnitValidated o n b u f₁ b₁ → UnitValidated o n b u f₂ b₂ → Same f₁ f₂ b₁ b₂
unit_settles {n = n} (header {answer = x} {b' = b₁} e p s) (header {answer = y} {b' = b₂} e' q r) =
    let a : x ≡ y = p.answer ∙ sym q.answer in
    record {
      feed_is = ap (λ (k : ℕ). unit_begun k (eqb k 0) n) a;
      step = record {
        number_is = a;
        desk_is = p.desk ∙ sym q.desk;
        sheet_is = p.sheet ∙ sym q.sheet;
        seen_is = p.seen ∙ sym q.seen;
        history_is = p.history ∙ sym q.history;
        slip_is = s ∙ sym r;
      };
    }
unit_settles (header e p s) (a_record e' t) = absurd (false≢true (sym e ∙ e'))
unit_settles (a_record e t) (header e' p s) = absurd (false≢true (sym e' ∙ e))
unit_settles {n = n} {b = b} (a_record {b' = b₁} e t) (a_record {b' = b₂} e' t') =
    let s = step_settles {b = b} {b₁ = b₁} {b₂ = b₂} t t' in
    record { feed_is = ap (λ (k : ℕ). unit_begun k true (more n)) s.number_is; step = s }

same_front : (u u' rest rest' : List ℕ) (n : ℕ) → u ++ rest ≡ u' ++ rest' → length u ≡ n → length u' ≡ n → (u ≡ u') × (rest ≡ rest')
same_front u u' rest rest' n e l m = (
  sym (take_at u rest n l) ∙ ap (take n) e ∙ take_at u' rest' n m,
  sym (drop_at u rest n l) ∙ ap (drop n) e ∙ drop_at u' rest' n m,
)

buffers_same : {f f' : Feed} {b b' : Buffers} → Same f f' b b' → b' ≡ b
buffers_same {b = b} {b'} s =
    let t = s.step in
    same_buffers b b' (sym t.desk_is) (sym t.sheet_is) (sym t.seen_is) (sym t.history_is) (sym t.slip_is)

-- The two ways go on alike, from the same buffers.
after_same : {f₁ f₂ g₁ g₂ : Feed} {b₁ b₂ c₁ c₂ : Buffers} {rest : List ℕ} → Same f₁ f₂ b₁ b₂ → Fed f₂ b₂ rest g₂ c₂
    → ((g : Feed) (c : Buffers) → Fed f₁ b₁ rest g c → Same g₁ g c₁ c) → Same g₁ g₂ c₁ c₂
after_same {g₂ = g₂} {c₂ = c₂} {rest} s q go =
    go g₂ c₂ (subst₂ (λ (f : Feed) (b : Buffers). Fed f b rest g₂ c₂) (sym s.feed_is) (buffers_same s) q)

kept_settles : {f g : Feed} {b c : Buffers} {bytes : List ℕ} → f.answer ≡ 0 → length (f.loose ++ bytes) < unit_size f.opened (f.loose ++ bytes) → Fed f b bytes g c
    → Same (with_part f bytes) g b c
kept_settles e h (stopped n) = absurd (n e)
kept_settles {f} {b = b} {bytes = bytes} e h (kept e' h') = same_all (with_part f bytes) b
kept_settles {f} e h (completed unit rest e' q l j r) =
    absurd (let n = ap length q ∙ length-append unit rest in let k = ap (unit_size f.opened) q ∙ whole_unit f.opened unit rest l in omega arith)

unit_then : {f f₁ g₁ g₂ : Feed} {b b₁ c₁ c₂ : Buffers} {bytes unit rest : List ℕ} → f.answer ≡ 0 → f.loose ++ bytes ≡ unit ++ rest
    → length unit ≡ unit_size f.opened unit → UnitValidated f.opened f.number b unit f₁ b₁ → Fed f₁ b₁ rest g₁ c₁
    → ((g : Feed) (c : Buffers) → Fed f₁ b₁ rest g c → Same g₁ g c₁ c) → Fed f b bytes g₂ c₂ → Same g₁ g₂ c₁ c₂
unit_then e q l j r go (stopped n) = absurd (n e)
unit_then {f} {unit = unit} {rest} e q l j r go (kept e' h) =
    absurd (let n = ap length q ∙ length-append unit rest in let k = ap (unit_size f.opened) q ∙ whole_unit f.opened unit rest l in omega arith)
unit_then {f} {g₂ = g₂} {b = b} {c₂ = c₂} {unit = unit} {rest} e q l j r go (completed {f₁ = f₂} {b₁ = b₂} unit' rest' e' q' l' j' r') =
    let o = f.opened in
    let n : unit_size o unit' ≡ unit_size o unit = sym (whole_unit o unit' rest' l') ∙ ap (unit_size o) (sym q' ∙ q) ∙ whole_unit o unit rest l in
    let s = same_front unit unit' rest rest' (unit_size o unit) (sym q ∙ q') l (l' ∙ n) in
    after_same (unit_settles j (subst (λ (u : List ℕ). UnitValidated f.opened f.number b u f₂ b₂) (sym s.0) j'))
    (subst (λ (x : List ℕ). Fed f₂ b₂ x g₂ c₂) (sym s.1) r') go

fed_settles : {f g₁ g₂ : Feed} {b c₁ c₂ : Buffers} {bytes : List ℕ} → Fed f b bytes g₁ c₁ → Fed f b bytes g₂ c₂ → Same g₁ g₂ c₁ c₂
fed_settles {f} {b = b} (stopped n) w = let x = takes_nothing n w in rw (x.0, x.1) (same_all f b)
fed_settles (kept e h) w = kept_settles e h w
fed_settles (completed unit rest e q l j r) w = unit_then e q l j r (λ g c z. fed_settles r z) w

short_settles : {f f₁ g : Feed} {b c₁ c₂ : Buffers} → f.answer ≡ 0 → f.opened ≡ true → 0 < length f.loose → UnitValidated true f.number b f.loose f₁ c₁
    → Ended f b g c₂ → Same f₁ g c₁ c₂
short_settles e o l j (stands n) = absurd (n e)
short_settles e o l j (no_header e' o') = absurd (false≢true (sym o' ∙ o))
short_settles e o l j (between e' o' l') = absurd (let n = ap length l' in omega arith)
short_settles e o l j (short e' o' l' j') = unit_settles j j'

opened_settles : {f g : Feed} {b c : Buffers} → f.answer ≡ 0 → f.opened ≡ true → f.loose ≡ [] → Ended f b g c → Same f g b c
opened_settles e o l (stands n) = absurd (n e)
opened_settles e o l (no_header e' o') = absurd (false≢true (sym o' ∙ o))
opened_settles {f} {b = b} e o l (between e' o' l') = same_all f b
opened_settles e o l (short e' o' l' j') = absurd (let n = ap length l in omega arith)

header_settles : {f g : Feed} {b c : Buffers} → f.answer ≡ 0 → f.opened ≡ false → Ended f b g c → Same (unit_begun bad_opening false f.number) g b c
header_settles e o (stands n) = absurd (n e)
header_settles {f} {b = b} e o (no_header e' o') = same_all (unit_begun bad_opening false f.number) b
header_settles e o (between e' o' l') = absurd (false≢true (sym o ∙ o'))
header_settles e o (short e' o' l' j') = absurd (false≢true (sym o ∙ o'))

ended_settles : {f g₁ g₂ : Feed} {b c₁ c₂ : Buffers} → Ended f b g₁ c₁ → Ended f b g₂ c₂ → Same g₁ g₂ c₁ c₂
ended_settles {f} {b = b} (stands n) w = let x = repeats n w in rw (x.0, x.1) (same_all f b)
ended_settles (no_header e o) w = header_settles e o w
ended_settles (between e o l) w = opened_settles e o l w
ended_settles (short e o l j) w = short_settles e o l j w

-- A call of the feed, whichever it is.
call_settles : {feed feed₁ feed₂ : List ℕ} {b b₁ b₂ : Buffers} {a n a' n' : ℕ} (Next : Feed → Buffers → Type 0)
    → ((f g : Feed) (c d : Buffers) → Next f c → Next g d → Same f g c d) → FeedCall feed b Next a n feed₁ b₁ → FeedCall feed b Next a' n' feed₂ b₂
    → SameFeed a a' n n' feed₁ feed₂ b₁ b₂
call_settles {feed} {feed₁} {feed₂} {b} {b₁} {b₂} {a} {n} {a'} {n'} Next settles p q = by (fits feed) refl
  where
    by : (t : Bool) → fits feed ≡ t → SameFeed a a' n n' feed₁ feed₂ b₁ b₂
    by false e =
        let u = p.is_unfit e in
        let v = q.is_unfit e in
        record {
          step = rw (u.0, v.0, u.3, v.3) (same_step _ b);
          record_is = u.1 ∙ sym v.1;
          feed_is = u.2 ∙ sym v.2;
        }
    by true e =
        let u = p.goes_on e in
        let v = q.goes_on e in
        let s = settles u.after v.after b₁ b₂ u.next v.next in
        record {
          step = rw (u.answer_is, v.answer_is) s.step;
          record_is = u.number_is ∙ ap (λ (f : Feed). f.number) s.feed_is ∙ sym v.number_is;
          feed_is = u.bytes ∙ ap (λ (f : Feed). holding f feed) s.feed_is ∙ sym v.bytes;
        }

pub feed_settles : {feed feed₁ feed₂ piece : List ℕ} {b b₁ b₂ : Buffers} {a n a' n' : ℕ} → FedPiece feed b piece a n feed₁ b₁
    → FedPiece feed b piece a' n' feed₂ b₂ → SameFeed a a' n n' feed₁ feed₂ b₁ b₂
feed_settles {feed} {piece = piece} {b = b} p q = call_settles (Fed (view feed) b piece) (λ f g c d x y. fed_settles x y) p q

pub end_settles : {feed feed₁ feed₂ : List ℕ} {b b₁ b₂ : Buffers} {a n a' n' : ℕ} → FedEnd feed b a n feed₁ b₁
    → FedEnd feed b a' n' feed₂ b₂ → SameFeed a a' n n' feed₁ feed₂ b₁ b₂
end_settles {feed} {b = b} p q = call_settles (Ended (view feed) b) (λ f g c d x y. ended_settles x y) p q

-- ---- A standing answer but 0, and an end call that answers 0, change nothing.

repeated : {feed feed' : List ℕ} {b b' : Buffers} {a n : ℕ} (Next : Feed → Buffers → Type 0) → fits feed ≡ true → AreBytes feed_size feed
    → ((f : Feed) → Next f b' → (f ≡ view feed) × (b' ≡ b)) → FeedCall feed b Next a n feed' b' → Repeated feed b a n feed' b'
repeated {feed} Next e bytes same t =
    let g = t.goes_on e in
    let s = same g.after g.next in
    record {
      answer_is = g.answer_is ∙ ap (λ (f : Feed). f.answer) s.0;
      number_is = g.number_is ∙ ap (λ (f : Feed). f.number) s.0;
      same_feed = g.bytes ∙ ap (λ (f : Feed). holding f feed) s.0 ∙ bytes_back feed e bytes;
      same = s.1;
    }

pub piece_repeats : {feed feed' piece : List ℕ} {b b' : Buffers} {a n : ℕ} → fits feed ≡ true → AreBytes feed_size feed → ((view feed).answer ≡ 0 → ⊥)
    → FedPiece feed b piece a n feed' b' → Repeated feed b a n feed' b'
piece_repeats {feed} {piece = piece} {b = b} e bytes n t = repeated (Fed (view feed) b piece) e bytes (λ f x. takes_nothing n x) t

pub end_repeats : {feed feed' : List ℕ} {b b' : Buffers} {a n : ℕ} → fits feed ≡ true → AreBytes feed_size feed → ((view feed).answer ≡ 0 → ⊥)
    → FedEnd feed b a n feed' b' → Repeated feed b a n feed' b'
end_repeats {feed} {b = b} e bytes n t = repeated (Ended (view feed) b) e bytes (λ f x. repeats n x) t

-- ---- The log.

same_left : (a : ℕ) (b : Buffers) → SameLeft a a b b
same_left a b =
    record { number_is = refl; desk_is = refl; sheet_is = refl; seen_is = refl; history_long = refl; history_is = λ j h. refl; slip_is = refl }

module _ {b b₁ b₂ : Buffers} (K : ℕ) (o : Outcome) (u : LeftBy K o b b₁) (v : LeftBy K o b b₂) where
  left_settles : SameLeft o.answer o.answer b₁ b₂
  left_settles =
      let s = o.state in
      let p = stand_encodes u.stands in
      let q = stand_encodes v.stands in
      let some : 1 ≤ K = rw (← u.stands.classes) (facts b₁.desk b₁.sheet b₁.seen u.stands.fit).some in
      record {
        number_is = refl;
        desk_is = settled_desk_after K s.is_closed s.cores s.graph.marks s.journal.accepted s.cross b₁.desk b₂.desk b₁.history b₂.history
            p.in_desk q.in_desk p.in_count q.in_count p.in_cross q.in_cross b.desk u.keeps_desk v.keeps_desk;
        sheet_is = settled_sheet_after K some s.graph.locks b₁.sheet b₂.sheet p.in_sheet q.in_sheet b.sheet u.keeps_sheet v.keeps_sheet;
        seen_is = settled_seen_after K some s.journal.seen b₁.seen b₂.seen p.in_seen q.in_seen b.seen u.keeps_seen v.keeps_seen;
        history_long = u.keeps_history.long ∙ sym v.keeps_history.long;
        history_is = λ j h. ⊎_elim
            (λ l. by_entry (length s.cross.history) (λ i. get_or b₁.history i 0 ≡ get_or b₂.history i 0)
            (λ i m. p.in_cross.entries.places i m ∙ sym (q.in_cross.entries.places i m))
            (λ i m. p.in_cross.entries.locks i m ∙ sym (q.in_cross.entries.locks i m)) j
            (let k = kept_is p.in_cross (stand_valid u.stands).cross.kept in omega arith))
            (λ l. u.keeps_history.past j l ∙ sym (v.keeps_history.past j l)) h;
        slip_is = elim (ℕ_discrete o.answer 1) [ yes z ↦ reported_one (u.reported z) (v.reported z) | no h ↦ u.unreported h ∙ sym (v.unreported h) ];
      }

pub whole_settles : {b b₁ b₂ : Buffers} {log : List ℕ} {ended : Bool} {a n a' n' : ℕ} → WholeLog b log ended a n b₁ → WholeLog b log ended a' n' b₂
    → SameLeft a a' b₁ b₂ × (n ≡ n')
whole_settles {b} (short_header h) (short_header k) = (same_left _ b, refl)
whole_settles (short_header h) (bad_header k e) = absurd (omega arith)
whole_settles (short_header h) (by_rules o k e q w) = absurd (omega arith)
whole_settles (bad_header h e) (short_header k) = absurd (omega arith)
whole_settles {b} (bad_header h e) (bad_header k d) = (same_left _ b, refl)
whole_settles (bad_header h e) (by_rules o k d q w) = absurd (false≢true (sym e ∙ d))
whole_settles (by_rules o h e q w) (short_header k) = absurd (omega arith)
whole_settles (by_rules o h e q w) (bad_header k d) = absurd (false≢true (sym d ∙ e))
whole_settles {b} {b₁} {b₂} {log} (by_rules o h e q w) (by_rules o' k d r x) =
    let s : o' ≡ o = r ∙ sym q in
    subst (λ (y : Outcome). SameLeft o.answer y.answer b₁ b₂ × (o.at ≡ y.at)) (sym s)
    (left_settles (classes_in log) o w (subst (λ (y : Outcome). LeftBy (classes_in log) y b b₂) s x), refl)

-- The calls settle more.
fed_runs : {b b₁ b₂ : Buffers} {log log' : List ℕ} {a n a' n' : ℕ} → log ≡ log' → FedRun b log a n b₁ → FedRun b log' a' n' b₂ → SameStep a a' b₁ b₂ × (n ≡ n')
fed_runs {b} {b₂ = b₂} e r q =
    let s = fed_settles r.fed (subst (λ (log : List ℕ). Fed fresh b log q.after b₂) (sym e) q.fed) in
    (rw (r.answer_is, q.answer_is) s.step, r.number_is ∙ ap (λ (f : Feed). f.number) s.feed_is ∙ sym q.number_is)

ended_runs : {b b₁ b₂ : Buffers} {log log' : List ℕ} {a n a' n' : ℕ} → log ≡ log' → EndedRun b log a n b₁ → EndedRun b log' a' n' b₂ → SameStep a a' b₁ b₂ × (n ≡ n')
ended_runs {b} {b₂ = b₂} e r q =
    let t = fed_settles r.fed (subst (λ (log : List ℕ). Fed fresh b log q.going q.between) (sym e) q.fed) in
    let s = ended_settles r.ended (subst₂ (λ (f : Feed) (c : Buffers). Ended f c q.after b₂) (sym t.feed_is) (buffers_same t) q.ended) in
    (rw (r.answer_is, q.answer_is) s.step, r.number_is ∙ ap (λ (f : Feed). f.number) s.feed_is ∙ sym q.number_is)

-- Two ways to cut one log, both without its end or both with it: the same answer, the same record number, and every byte of the buffers.
pub cut_anywhere : {feed₀ feed feed₁ feed₂ feed₀' feed' feed₁' feed₂' : List ℕ} {b b₁ b₂ b₁' b₂' : Buffers} {ps ps' : List (List ℕ)} {last last' : List ℕ}
    {ended : Bool} {a n a' n' : ℕ} → Started feed₀ 0 feed → FeedRan feed b ps feed₁ b₁ → LastCall feed₁ b₁ last ended a n feed₂ b₂ → Started feed₀' 0 feed'
    → FeedRan feed' b ps' feed₁' b₁' → LastCall feed₁' b₁' last' ended a' n' feed₂' b₂' → joined ps ++ last ≡ joined ps' ++ last' → SameStep a a' b₂ b₂' × (n ≡ n')
cut_anywhere s w (a_piece t) s' w' (a_piece t') e = fed_runs e (fed_run s w t) (fed_run s' w' t')
cut_anywhere {ps = ps} {ps'} s w (the_end t) s' w' (the_end t') e =
    ended_runs (sym (append-nil (joined ps)) ∙ e ∙ append-nil (joined ps')) (ended_run s w t) (ended_run s' w' t')

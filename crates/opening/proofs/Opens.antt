-- What opening leaves encodes the state in which every run starts, and no byte past the stated sizes is changed. Assumes nothing.
use mathlib.Core.Path.{◌≡◌, refl, sym, ap, ◌∙◌}
use mathlib.Core.Bool.{true, false}
use mathlib.Core.List.{List, [], ◌∷◌, ◌++◌}
use mathlib.Core.Logic.{◌⊎◌, inl, inr, ⊎_elim}
use Prim.Native.Nat.{ℕ, zero, suc, ◌+◌, ◌-◌, ◌*◌, ◌/◌, ◌^◌, ◌≤◌, ◌<◌}
use native.Mathlib.Nat.{not-suc-le-zero}
use native.Mathlib.Decide.{dec_lt}
use native.Mathlib.Omega.{arith}
use lib.Dec.{leb}
use lib.ListN.{length, get_or, set, take, drop, replicate, length-append, length-drop, length-replicate, length-set, get_or-replicate, get_or-append}
use lib.Pow.{pow_mono}
use lib.Seq.{ext_get_or, length-take-le, get_or-append-add, get_or-drop, get_or-set_same, get_or-set_other}
use borrow.Author.Tests.{ltb-true, leb-true, eqb-true}
use Rattle.words.specs.Bits.{bit}
use Rattle.words.specs.Pack.{pack}
use Rattle.words.proofs.Words.{bit_high}
use Rattle.rules.specs.Limits.{max_classes, max_depth}
use Rattle.rules.specs.Number.{bytes_of}
use Rattle.rules.specs.Log.{word_size}
use Rattle.rules.specs.HeldLocks.{fresh_core}
use Rattle.rules.specs.Graph.{empty_graph}
use Rattle.rules.specs.Crosslocks.{declaring}
use Rattle.rules.specs.Run.{empty_journal, start}
use Rattle.rules.proofs.Booleans.{and_cases}
use Rattle.layout.proofs.Buffers.{cell_inside}
use Rattle.layout.proofs.Held.{zero_bit}
use Rattle.layout.proofs.Cross.{word_member}
use Rattle.layout.specs.Layout.{classes_at, closed_at, states_at, depths_at, marks_at, held_at, origins_at, accepted_at, declared_at, progress_at, kept_at, since_at, number_size, desk_size, sheet_size, seen_size, history_size, frame_number, member_of, KeepsPast}
use Rattle.layout.specs.Encoding.{mark_byte, kind_byte, DeskBytes, SheetBytes, NumberBytes, SeenBytes, CrossBytes, Encodes}
use Rattle.layout.specs.Fit.{classes_fit, word_fits}
use Rattle.numbers.specs.Numbers.{WordPut}
use Rattle.opening.specs.Open.{opens, zeroed, written_at, opened_desk, opened_sheet, opened_seen, opened_history}

module _ (n : ℕ) (bytes : List ℕ) (long : n ≤ length bytes) where
  pub zeroed_length : length (zeroed n bytes) ≡ length bytes
  zeroed_length = simp (length-append, length-replicate, length-drop) (omega arith)

  pub zeroed_below : (j : ℕ) → j < n → get_or (zeroed n bytes) j 0 ≡ 0
  zeroed_below j l =
      get_or-append (replicate n 0) (drop n bytes) 0 j (rw (length-replicate {A = ℕ} n 0) l) ∙ get_or-replicate n j 0 0 l

  zeroed_add : (k : ℕ) → get_or (zeroed n bytes) (n + k) 0 ≡ get_or bytes (n + k) 0
  zeroed_add k =
      (rw (length-replicate {A = ℕ} n 0) at (get_or-append-add (replicate n 0) (drop n bytes) k 0)) ∙ get_or-drop n bytes k 0

  zeroed_past : (j : ℕ) → n ≤ j → get_or (zeroed n bytes) j 0 ≡ get_or bytes j 0
  zeroed_past j l = let e : n + (j - n) ≡ j = omega arith in rw e at (zeroed_add (j - n))

  -- A front that was filled as a part, and has come back.
  pub zeroed_front : (m : ℕ) (part : List ℕ) → m ≡ n → part ≡ replicate (length (take m bytes)) 0 → part ++ drop m bytes ≡ zeroed n bytes
  zeroed_front m part e q = rw (q, e, length-take-le n bytes long)

-- ---- Bytes written at a place.

pub written_length : (at : ℕ) (bs buffer : List ℕ) → length (written_at at bs buffer) ≡ length buffer
written_length at [] buffer = refl
written_length at (b ∷ bs) buffer = written_length (suc at) bs (set buffer at b) ∙ length-set buffer at b

pub written_else : (at : ℕ) (bs buffer : List ℕ) (j : ℕ) → (j < at) ⊎ (at + length bs ≤ j) → get_or (written_at at bs buffer) j 0 ≡ get_or buffer j 0
written_else at [] buffer j o = refl
written_else at (b ∷ bs) buffer j o =
    written_else (suc at) bs (set buffer at b) j (⊎_elim (λ l. inl (omega arith)) (λ l. inr (omega arith)) o)
    ∙ get_or-set_other buffer at j b 0 (λ e. ⊎_elim (λ l. omega arith) (λ l. omega arith) o)

pub written_there : (at : ℕ) (bs buffer : List ℕ) (j : ℕ) → at + length bs ≤ length buffer → j < length bs → get_or (written_at at bs buffer) (at + j) 0 ≡ get_or bs j 0
written_there at [] buffer j room l = absurd (not-suc-le-zero l)
written_there at (b ∷ bs) buffer zero room l =
    let z : at + 0 ≡ at = omega arith in
    rw z (written_else (suc at) bs (set buffer at b) at (inl (omega arith)) ∙ get_or-set_same buffer at b 0 (omega arith))
written_there at (b ∷ bs) buffer (suc j) room l =
    let e : at + suc j ≡ suc at + j = omega arith in
    rw e (written_there (suc at) bs (set buffer at b) j (rw (length-set buffer at b) (omega arith)) (omega arith))

length_bytes : (n number : ℕ) → length (bytes_of n number) ≡ n
length_bytes zero number = refl
length_bytes (suc n) number = ap suc (length_bytes n (number / 256))

-- A word that was put at a place is its bytes, written there.
pub word_written : (before after : List ℕ) (at word : ℕ) → at + word_size ≤ length before → WordPut before at word after
    → after ≡ written_at at (bytes_of word_size word) before
word_written before after at word room w =
    ext_get_or 0 after (written_at at (bytes_of word_size word) before) (w.long ∙ sym (written_length at (bytes_of word_size word) before))
    (λ j l. elim (dec_lt j at) [
      | yes h ↦ w.else j (inl h) ∙ sym (written_else at (bytes_of word_size word) before j (inl h))
      | no h ↦ elim (dec_lt j (at + word_size)) [
        | yes k ↦
            let e : at + (j - at) ≡ j = omega arith in
            let there : get_or after (at + (j - at)) 0 ≡ get_or (written_at at (bytes_of word_size word) before) (at + (j - at)) 0 =
            w.there (j - at) (omega arith) ∙ sym (written_there at (bytes_of word_size word) before (j - at) room (omega arith)) in
            rw e at there
        | no k ↦ w.else j (inr (omega arith)) ∙ sym (written_else at (bytes_of word_size word) before j (inr (omega arith)))
      ]
    ])

-- All bytes of the number 0 are 0.
zero_bytes : (n j : ℕ) → get_or (bytes_of n 0) j 0 ≡ 0
zero_bytes zero j = refl
zero_bytes (suc n) zero = refl
zero_bytes (suc n) (suc j) = zero_bytes n j

module _ (K declared : ℕ) (desk : List ℕ) (long : desk_size ≤ length desk) where
  abbrev first : List ℕ
  first = set (zeroed desk_size desk) classes_at K

  first_length : length first ≡ length desk
  first_length = length-set (zeroed desk_size desk) classes_at K ∙ zeroed_length desk_size desk long

  pub desk_length : length (opened_desk K declared desk) ≡ length desk
  desk_length = written_length declared_at (bytes_of word_size declared) first ∙ first_length

  -- The word put into a zeroed desk with its first byte.
  module _ (seated : List ℕ) (e : seated ≡ zeroed desk_size desk) where
    pub word_room : declared_at + word_size ≤ length (set seated classes_at K)
    word_room = rw (e, first_length) (omega arith)

    pub desk_opened : (after : List ℕ) → WordPut (set seated classes_at K) declared_at declared after → after ≡ opened_desk K declared desk
    desk_opened after w =
        word_written (set seated classes_at K) after declared_at declared word_room w
        ∙ ap (λ (l : List ℕ). written_at declared_at (bytes_of word_size declared) (set l classes_at K)) e

  -- But for the declared word.
  desk_else : (j : ℕ) → (j < declared_at) ⊎ (progress_at ≤ j) → get_or (opened_desk K declared desk) j 0 ≡ get_or first j 0
  desk_else = written_else declared_at (bytes_of word_size declared) first

  desk_first : get_or (opened_desk K declared desk) classes_at 0 ≡ K
  desk_first =
      desk_else classes_at (inl (omega arith)) ∙ get_or-set_same (zeroed desk_size desk) classes_at K 0 (rw (zeroed_length desk_size desk long) (omega arith))

  desk_below : (j : ℕ) → 0 < j → j < desk_size → (j < declared_at) ⊎ (progress_at ≤ j) → get_or (opened_desk K declared desk) j 0 ≡ 0
  desk_below j p l o =
      desk_else j o ∙ get_or-set_other (zeroed desk_size desk) classes_at j K 0 (λ e. omega arith) ∙ zeroed_below desk_size desk long j l

  pub desk_keeps : KeepsPast desk_size desk (opened_desk K declared desk)
  desk_keeps =
      record {
        long = desk_length;
        past = λ j l. desk_else j (inr (omega arith)) ∙ get_or-set_other (zeroed desk_size desk) classes_at j K 0 (λ e. omega arith)
            ∙ zeroed_past desk_size desk long j l;
      }

  pub opened_desk_lem : DeskBytes K false (λ i. fresh_core) empty_graph.marks (opened_desk K declared desk)
  unfolding mark_byte
  opened_desk_lem =
      record {
        long = rw desk_keeps.long long;
        classes = desk_first;
        closed = early closed_at (omega arith) (omega arith);
        states = λ i l. early (states_at + i) (omega arith) (omega arith);
        depths = λ i f l h. early (depths_at + frame_number i f) (omega arith) (omega arith);
        usage = λ c l. early (marks_at + c) (omega arith) (omega arith);
        held = λ i f p l h q. early (held_at + max_depth * frame_number i f + p) (omega arith) (omega arith);
        origins = λ i f p l h q.
            let k = max_depth * frame_number i f + p in
            zero_bit (opened_desk K declared desk) k (early (origins_at + k / 8) (omega arith) (omega arith));
        eight = λ b l. rw (early (origins_at + b) (omega arith) (omega arith)) (omega arith);
      }
    where
      early : (j : ℕ) → 0 < j → j < declared_at → get_or (opened_desk K declared desk) j 0 ≡ 0
      early j p l = desk_below j p (omega arith) (inl l)

  pub opened_count : NumberBytes 0 (opened_desk K declared desk) accepted_at
  opened_count j l = desk_below (accepted_at + j) (omega arith) (omega arith) (inl (omega arith)) ∙ sym (zero_bytes number_size j)

  -- With any history, since it keeps nothing.
  pub opened_cross : declared < 2 ^ 64 → (history : List ℕ) → CrossBytes (declaring (member_of declared)) (opened_desk K declared desk) history
  unfolding pack
  opened_cross small history =
      record {
        declared = λ j l.
            written_there declared_at (bytes_of word_size declared) first j (rw first_length (omega arith)) (omega arith)
            ∙ ap (λ (w : ℕ). get_or (bytes_of word_size w) j 0) (sym (word_member declared small));
        progress = λ j l. late (progress_at + j) (omega arith) (omega arith) ∙ sym (zero_bytes word_size j);
        kept = λ j l. late (kept_at + j) (omega arith) (omega arith) ∙ sym (zero_bytes number_size j);
        since = λ c h j l. late (since_at + number_size * c + j) (omega arith) (omega arith) ∙ sym (zero_bytes number_size j);
        entries = record { places = λ i l. absurd (not-suc-le-zero l); locks = λ i l. absurd (not-suc-le-zero l) };
      }
    where
      late : (j : ℕ) → progress_at ≤ j → j < desk_size → get_or (opened_desk K declared desk) j 0 ≡ 0
      late j p l = desk_below j (omega arith) l (inr p)

module _ (K : ℕ) (sheet : List ℕ) (square : sheet_size K ≤ length sheet) where
  sheet_keeps : KeepsPast (sheet_size K) sheet (opened_sheet K sheet)
  sheet_keeps =
      record { long = zeroed_length (sheet_size K) sheet square; past = zeroed_past (sheet_size K) sheet square }

  opened_sheet_lem : SheetBytes K empty_graph.locks (opened_sheet K sheet)
  unfolding kind_byte
  opened_sheet_lem =
      record {
        long = rw sheet_keeps.long square;
        kinds = λ from to l h. zeroed_below (sheet_size K) sheet square (from * K + to) (cell_inside K from to l h);
      }

module _ (K : ℕ) (seen : List ℕ) (room : seen_size K ≤ length seen) where
  seen_keeps : KeepsPast (seen_size K) seen (opened_seen K seen)
  seen_keeps = record { long = zeroed_length (seen_size K) seen room; past = zeroed_past (seen_size K) seen room }

  opened_seen_lem : SeenBytes K empty_journal.seen (opened_seen K seen)
  opened_seen_lem =
      record {
        long = rw seen_keeps.long room;
        numbers = λ from to l h j k.
            let c = cell_inside K from to l h in
            zeroed_below (seen_size K) seen room (number_size * (from * K + to) + j) (omega arith) ∙ sym (zero_bytes number_size j);
      }

-- The classes of a word that fits are below K.
pub member_below : (K word : ℕ) → word_fits K word ≡ true → (c : ℕ) → member_of word c ≡ true → c < K
unfolding word_fits
member_below K word e c h =
    elim (dec_lt c K) [
      | yes l ↦ l
      | no l ↦ absurd (let z = bit_high K word c (ltb-true word (2 ^ K) e) (omega arith) in let o = eqb-true (bit word c) 1 h in omega arith)
    ]

pub word_small : (K word : ℕ) → K ≤ max_classes → word_fits K word ≡ true → word < 2 ^ 64
unfolding word_fits
word_small K word few e = let l = ltb-true word (2 ^ K) e in let p = pow_mono {i = K} {j = max_classes} few in omega arith

pub record FreshBuffers (K declared : ℕ) (desk sheet seen history : List ℕ) : Type 0 where
  pub below : (c : ℕ) → member_of declared c ≡ true → c < K
  pub encodes : Encodes K (start (member_of declared)) (opened_desk K declared desk) (opened_sheet K sheet) (opened_seen K seen) (opened_history history)
  pub keeps_desk : KeepsPast desk_size desk (opened_desk K declared desk)
  pub keeps_sheet : KeepsPast (sheet_size K) sheet (opened_sheet K sheet)
  pub keeps_seen : KeepsPast (seen_size K) seen (opened_seen K seen)
  pub keeps_history : KeepsPast history_size history (opened_history history)

pub open_encodes : (K declared : ℕ) (desk sheet seen history : List ℕ) → opens K declared desk sheet seen history ≡ true
    → FreshBuffers K declared desk sheet seen history
unfolding opens
open_encodes K declared desk sheet seen history e =
    let a = and_cases (classes_fit K) _ e in
    let w = and_cases (word_fits K declared) _ a.1 in
    let b = and_cases (leb desk_size (length desk)) _ w.1 in
    let c = and_cases (leb (sheet_size K) (length sheet)) _ b.1 in
    let d = and_cases (leb (seen_size K) (length seen)) _ c.1 in
    let few : K ≤ max_classes = leb-true _ _ (and_cases (leb 1 K) _ a.0).1 in
    let long : desk_size ≤ length desk = leb-true _ _ b.0 in
    let square : sheet_size K ≤ length sheet = leb-true _ _ c.0 in
    let room : seen_size K ≤ length seen = leb-true _ _ d.0 in
    let whole : history_size ≤ length history = leb-true _ _ d.1 in
    record {
      below = member_below K declared w.0;
      encodes = record {
        in_desk = opened_desk_lem K declared desk long;
        in_count = opened_count K declared desk long;
        in_sheet = opened_sheet_lem K sheet square;
        in_cross = opened_cross K declared desk long (word_small K declared few w.0) (opened_history history);
        in_seen = opened_seen_lem K seen room;
      };
      keeps_desk = desk_keeps K declared desk long;
      keeps_sheet = sheet_keeps K sheet square;
      keeps_seen = seen_keeps K seen room;
      keeps_history = record { long = zeroed_length history_size history whole; past = zeroed_past history_size history whole };
    }

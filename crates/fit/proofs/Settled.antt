-- The encoding settles every byte of the stated sizes: two buffers that encode the same and agree past it are equal. Assumes nothing.
use mathlib.Core.Path.{◌≡◌, sym, ◌∙◌}
use mathlib.Core.Bool.{Bool}
use mathlib.Core.List.{List}
use Prim.Native.Nat.{ℕ, ◌+◌, ◌*◌, ◌/◌, ◌%◌, ◌^◌, ◌≤◌, ◌<◌}
use native.Mathlib.Decide.{dec_lt}
use native.Mathlib.Omega.{arith}
use lib.ListN.{length, get_or}
use lib.Seq.{ext_get_or}
use Rattle.words.proofs.Words.{bits_same, bit_shift, bit_high}
use Rattle.rules.specs.HeldLocks.{Core}
use Rattle.rules.specs.Marks.{Marks}
use Rattle.rules.specs.Graph.{Dependencies}
use Rattle.rules.specs.Crosslocks.{History, Crosslocks}
use Rattle.layout.specs.Layout.{origins_at, place_count, accepted_at, desk_size, sheet_size, seen_size, kept_size, origin_bit, KeepsPast}
use Rattle.layout.specs.Encoding.{DeskBytes, SheetBytes, NumberBytes, SeenBytes, HistoryBytes, CrossBytes}
use Rattle.fit.proofs.Places.{AtPlaces, by_place, by_origin, by_pair, by_number, by_entry}

-- Two lists of one length are equal if they are below n and from n on.
meets : (n : ℕ) (x y : List ℕ) → length x ≡ length y → ((j : ℕ) → j < n → get_or x j 0 ≡ get_or y j 0)
    → ((j : ℕ) → n ≤ j → get_or x j 0 ≡ get_or y j 0) → x ≡ y
meets n x y long below past =
    ext_get_or 0 x y long (λ j l. elim (dec_lt j n) [ yes h ↦ below j h | no h ↦ past j (omega arith) ])

-- So are two that one buffer became, where only the first n bytes may differ.
pub both_keep : (n : ℕ) (before x y : List ℕ) → ((j : ℕ) → j < n → get_or x j 0 ≡ get_or y j 0) → KeepsPast n before x → KeepsPast n before y → x ≡ y
both_keep n before x y below a b = meets n x y (a.long ∙ sym b.long) below (λ j l. a.past j l ∙ sym (b.past j l))

-- Two bytes of the same digits are equal.
same_byte : (w v : ℕ) → w < 256 → v < 256 → ((t : ℕ) → t < 8 → w / 2 ^ t % 2 ≡ v / 2 ^ t % 2) → w ≡ v
same_byte w v l h e =
    bits_same 256 w v (omega arith) (omega arith)
    (λ t. elim (dec_lt t 8) [
      | yes q ↦ sym (bit_shift w t) ∙ e t q ∙ bit_shift v t
      | no q ↦ bit_high 8 w t l (omega arith) ∙ sym (bit_high 8 v t h (omega arith))
    ])

module _ (K : ℕ) (is_closed : Bool) (cores : ℕ → Core) (marks : Marks) (accepted : ℕ) (cross : Crosslocks) (x y history₁ history₂ : List ℕ)
    (a : DeskBytes K is_closed cores marks x) (b : DeskBytes K is_closed cores marks y) (n : NumberBytes accepted x accepted_at)
    (m : NumberBytes accepted y accepted_at) (c : CrossBytes cross x history₁) (d : CrossBytes cross y history₂) where
  same_origins : (k : ℕ) → k < place_count → origin_bit x k ≡ origin_bit y k
  same_origins = by_origin (λ k. origin_bit x k ≡ origin_bit y k) (λ i f p l h q. a.origins i f p l h q ∙ sym (b.origins i f p l h q))

  same_places : AtPlaces (λ j. get_or x j 0 ≡ get_or y j 0)
  same_places =
      record {
        classes = a.classes ∙ sym b.classes;
        closed = a.closed ∙ sym b.closed;
        states = λ i l. a.states i l ∙ sym (b.states i l);
        depths = λ i f l h. a.depths i f l h ∙ sym (b.depths i f l h);
        usage = λ i l. a.usage i l ∙ sym (b.usage i l);
        held = λ i f p l h q. a.held i f p l h q ∙ sym (b.held i f p l h q);
        origins = λ k l.
            same_byte (get_or x (origins_at + k) 0) (get_or y (origins_at + k) 0) (a.eight k l) (b.eight k l)
            (λ t h.
            let e : (8 * k + t) / 8 ≡ k = omega arith in
            let r : (8 * k + t) % 8 ≡ t = omega arith in
            rw (e, r) at (same_origins (8 * k + t) (omega arith)));
        accepted = λ j l. n j l ∙ sym (m j l);
        declared = λ j l. c.declared j l ∙ sym (d.declared j l);
        progress = λ j l. c.progress j l ∙ sym (d.progress j l);
        kept = λ j l. c.kept j l ∙ sym (d.kept j l);
        since = λ i j h l. c.since i h j l ∙ sym (d.since i h j l);
      }

  pub same_desk : (j : ℕ) → j < desk_size → get_or x j 0 ≡ get_or y j 0
  same_desk = by_place _ same_places

  pub settled_desk : length x ≡ length y → ((j : ℕ) → desk_size ≤ j → get_or x j 0 ≡ get_or y j 0) → x ≡ y
  settled_desk long past = meets desk_size x y long same_desk past

  pub settled_desk_after : (before : List ℕ) → KeepsPast desk_size before x → KeepsPast desk_size before y → x ≡ y
  settled_desk_after before = both_keep desk_size before x y same_desk

module _ (K : ℕ) (some : 1 ≤ K) (locks : Dependencies) (x y : List ℕ) (a : SheetBytes K locks x) (b : SheetBytes K locks y) where
  pub same_sheet : (j : ℕ) → j < sheet_size K → get_or x j 0 ≡ get_or y j 0
  same_sheet = by_pair K some (λ j. get_or x j 0 ≡ get_or y j 0) (λ from to l h. a.kinds from to l h ∙ sym (b.kinds from to l h))

  pub settled_sheet : length x ≡ length y → ((j : ℕ) → sheet_size K ≤ j → get_or x j 0 ≡ get_or y j 0) → x ≡ y
  settled_sheet long past = meets (sheet_size K) x y long same_sheet past

  pub settled_sheet_after : (before : List ℕ) → KeepsPast (sheet_size K) before x → KeepsPast (sheet_size K) before y → x ≡ y
  settled_sheet_after before = both_keep (sheet_size K) before x y same_sheet

module _ (K : ℕ) (some : 1 ≤ K) (seen : ℕ → ℕ → ℕ) (x y : List ℕ) (a : SeenBytes K seen x) (b : SeenBytes K seen y) where
  pub settled_seen_after : (before : List ℕ) → KeepsPast (seen_size K) before x → KeepsPast (seen_size K) before y → x ≡ y
  settled_seen_after before =
      both_keep (seen_size K) before x y
      (by_number K some (λ j. get_or x j 0 ≡ get_or y j 0) (λ from to i l h k. a.numbers from to l h i k ∙ sym (b.numbers from to l h i k)))

-- Of the history that is the bytes of its entries.
module _ (entries : History) (x y : List ℕ) (a : HistoryBytes entries x) (b : HistoryBytes entries y) where
  pub settled_history_after : (before : List ℕ) → KeepsPast (kept_size * length entries) before x → KeepsPast (kept_size * length entries) before y → x ≡ y
  settled_history_after before =
      both_keep (kept_size * length entries) before x y
      (by_entry (length entries) (λ j. get_or x j 0 ≡ get_or y j 0) (λ i l. a.places i l ∙ sym (b.places i l)) (λ i l. a.locks i l ∙ sym (b.locks i l)))

-- The balances of the first records of a piece. Assumes nothing.
use mathlib.Core.Path.{◌≡◌, refl, sym, ap, ◌∙◌}
use mathlib.Core.List.{List, [], ◌∷◌, ◌++◌, append-nil, append_assoc}
use Prim.Native.Nat.{ℕ, ◌%◌, ◌<◌, ◌≤◌}
use native.Mathlib.Omega.{arith}
use lib.IntN.{ℤ, pos, ◌+ℤ◌}
use lib.ListN.{length, length-append}
use lib.Seq.{ext_get_or}
use Rattle.std.proofs.lemmas.List.{nil_from_length}
use Rattle.rules.specs.Limits.{max_classes}
use Rattle.rules.specs.Record.{Bytes, record_size}
use Rattle.rules.specs.Log.{records_of}
use Rattle.rules.proofs.Cutting.{no_records, first_record, cut_length, joined_records}
use Rattle.balance.specs.Piece.{most_bytes, balance, for_each_class, balances_of, zeros}
use Rattle.balance.specs.Code.{Room, counted}
use Rattle.balance.proofs.Adding.{length_each, get_or_each, balance_append, balance_small}

each_same : (f g : ℕ → ℤ) → ((c : ℕ) → c < max_classes → f c ≡ g c) → for_each_class f ≡ for_each_class g
each_same f g h =
    ext_get_or (pos 0) (for_each_class f) (for_each_class g) (length_each f ∙ sym (length_each g))
    (λ c l. let k : c < max_classes = rw (length_each f) at l in get_or_each f c k ∙ h c k ∙ sym (get_or_each g c k))

one_record : (r : List ℕ) → length r ≡ record_size → records_of r ≡ r ∷ []
one_record r l = ap records_of (sym (append-nil r)) ∙ first_record r [] l ∙ ap (λ (rs : List Bytes). r ∷ rs) (no_records [] (omega arith))

pub room_of : (bytes : List ℕ) → length bytes ≤ most_bytes → Room (balances_of (records_of bytes))
room_of bytes h =
    record {
      long = length_each _;
      room = λ c l. rw (get_or_each (λ c. balance c (records_of bytes)) c l) (omega (arith, balance_small c (records_of bytes), cut_length bytes));
    }

-- A piece is walked up to the bytes that are left: those before them are whole records, and counted.
pub record Walked (piece rest : List ℕ) (balances : List ℤ) : Type 0 where
  pub passed : List ℕ
  pub joined : piece ≡ passed ++ rest
  pub whole : length passed % record_size ≡ 0
  pub counts : balances ≡ balances_of (records_of passed)

module _ (piece : List ℕ) where
  pub none_walked : Walked piece piece zeros
  unfolding balance
  none_walked = record { passed = []; joined = refl; whole = refl; counts = ap balances_of (sym (no_records [] (omega arith))) }

  -- The next record is counted.
  pub one_more : (r : List ℕ) {rest left : List ℕ} {balances : List ℤ} → Walked piece left balances → left ≡ r ++ rest → length r ≡ record_size
      → Walked piece rest (counted balances r)
  one_more r {rest = rest} w e l =
      let p = w.passed in
      let more : records_of (p ++ r) ≡ records_of p ++ (r ∷ []) =
      joined_records p r w.whole ∙ ap (λ (rs : List Bytes). records_of p ++ rs) (one_record r l)
      in
      record {
        passed = p ++ r;
        joined = w.joined ∙ ap (λ (bs : List ℕ). p ++ bs) e ∙ sym (append_assoc p r rest);
        whole = omega (arith, length-append p r, l, w.whole);
        counts =
            rw w.counts
            (each_same _ _
            (λ c k.
            ap (λ (x : ℤ). x +ℤ balance c (r ∷ [])) (get_or_each (λ c. balance c (records_of p)) c k)
            ∙ sym (ap (balance c) more ∙ balance_append c (records_of p) (r ∷ []))));
      }

  module _ {rest : List ℕ} {balances : List ℤ} (w : Walked piece rest balances) where
    pub walked_room : length piece ≤ most_bytes → Room balances
    walked_room h = rw w.counts (room_of w.passed (omega (arith, h, ap length w.joined, length-append w.passed rest)))

    -- A whole number of records leaves no loose bytes.
    pub all_walked : length piece % record_size ≡ 0 → length rest < record_size → balances ≡ balances_of (records_of piece)
    all_walked h l =
        let none : rest ≡ [] = nil_from_length rest (omega (arith, h, l, w.whole, ap length w.joined, length-append w.passed rest)) in
        w.counts ∙ ap (λ (bs : List ℕ). balances_of (records_of bs)) (sym (append-nil w.passed) ∙ ap (λ (bs : List ℕ). w.passed ++ bs) (sym none) ∙ sym w.joined)

-- A log's bytes cut into records. Assumes nothing.
use mathlib.Core.Path.{◌≡◌, refl, sym, ap, ◌∙◌}
use mathlib.Core.List.{List, [], ◌∷◌, ◌++◌, append_assoc}
use Prim.Native.Nat.{ℕ, zero, suc, ◌+◌, ◌*◌, ◌/◌, ◌%◌, ◌<◌}
use native.Mathlib.Omega.{arith}
use lib.ListN.{length, take, drop, length-append, length-drop, take-append-drop}
use lib.Seq.{take_at, drop_at, drop-drop, length-take-le}
use Rattle.rules.specs.Record.{Bytes, record_size}
use Rattle.rules.specs.Log.{first_records, records_of, loose_of}

pub no_records : (bytes : List ℕ) → length bytes < record_size → records_of bytes ≡ []
unfolding records_of
no_records bytes h = let z : length bytes / record_size ≡ 0 = omega arith in rw z refl

pub all_loose : (bytes : List ℕ) → length bytes < record_size → loose_of bytes ≡ bytes
unfolding loose_of
all_loose bytes h = let z : record_size * (length bytes / record_size) ≡ 0 = omega arith in rw z refl

module _ (r rest : List ℕ) (e : length r ≡ record_size) where
  one_more_record : length (r ++ rest) / record_size ≡ suc (length rest / record_size)
  one_more_record = let l = length-append r rest in omega arith

  pub first_record : records_of (r ++ rest) ≡ r ∷ records_of rest
  unfolding records_of
  first_record = rw (one_more_record, take_at r rest record_size e, drop_at r rest record_size e) refl

  pub same_loose : loose_of (r ++ rest) ≡ loose_of rest
  unfolding loose_of
  same_loose =
      let q : record_size * (length (r ++ rest) / record_size) ≡ record_size + record_size * (length rest / record_size) = let m = one_more_record in omega arith in
      rw q (sym (drop-drop (record_size * (length rest / record_size)) record_size (r ++ rest)) ∙ rw (drop_at r rest record_size e) refl)

first_length : (n : ℕ) (bytes : List ℕ) → length (first_records n bytes) ≡ n
first_length zero bytes = refl
first_length (suc n) bytes = ap suc (first_length n (drop record_size bytes))

-- Every byte is in a record or loose.
pub cut_length : (bytes : List ℕ) → record_size * length (records_of bytes) + length (loose_of bytes) ≡ length bytes
unfolding records_of loose_of
cut_length bytes = rw (first_length (length bytes / record_size) bytes, length-drop) (omega arith)

-- Whole records and what follows them.
joined_by : (n : ℕ) (one two : List ℕ) → length one ≡ record_size * n → records_of (one ++ two) ≡ records_of one ++ records_of two
joined_by zero [] two h = ap (λ (rs : List Bytes). rs ++ records_of two) (sym (no_records [] (omega arith)))
joined_by zero (x ∷ one) two h = absurd (omega arith)
joined_by (suc n) one two h =
    let r = take record_size one in
    let rest = drop record_size one in
    let l : length r ≡ record_size = length-take-le record_size one (omega arith) in
    let k : length rest ≡ record_size * n = length-drop record_size one ∙ omega arith in
    let q : records_of one ≡ r ∷ records_of rest = ap records_of (sym (take-append-drop record_size one)) ∙ first_record r rest l in
    ap (λ (x : List ℕ). records_of (x ++ two)) (sym (take-append-drop record_size one))
    ∙ ap records_of (append_assoc r rest two)
    ∙ first_record r (rest ++ two) l
    ∙ ap (λ (rs : List Bytes). r ∷ rs) (joined_by n rest two k)
    ∙ ap (λ (rs : List Bytes). rs ++ records_of two) (sym q)

pub joined_records : (one two : List ℕ) → length one % record_size ≡ 0 → records_of (one ++ two) ≡ records_of one ++ records_of two
joined_records one two h = joined_by (length one / record_size) one two (omega arith)

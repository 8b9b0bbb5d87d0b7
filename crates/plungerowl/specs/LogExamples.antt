-- Document 01, "Logs for the bench": logs as bytes, with what comes of them, in buffers with room. proofs/LogExamples.antt computes them.
use Rattle.std.specs.Prelude.{Bool, true, false, ◌&&◌, List, [], ◌∷◌, ◌++◌, ℕ, eqb, take}
use Rattle.plungerowl.specs.Logs.{classes_in, word_in, records_in, outcome_for}

-- The document's P2 with K = 3: "4C 48 01 03, 4C 4B 00 00 01 00, .."
unfoldable pub p2_log : List ℕ
p2_log =
    0x4C ∷ 0x48 ∷ 1 ∷ 3
    ∷ 0x4C ∷ 0x4B ∷ 0 ∷ 0 ∷ 1 ∷ 0
    ∷ 0x4C ∷ 0x4B ∷ 0 ∷ 0 ∷ 2 ∷ 0
    ∷ 0x4C ∷ 0x4B ∷ 0 ∷ 1 ∷ 2 ∷ 0
    ∷ 0x4C ∷ 0x4B ∷ 0 ∷ 1 ∷ 1 ∷ 0
    ∷ 0x4C ∷ 0x4B ∷ 1 ∷ 0 ∷ 2 ∷ 0
    ∷ 0x4C ∷ 0x4B ∷ 1 ∷ 0 ∷ 1 ∷ 0
    ∷ []

-- Core 0 acquires 1 and then crosslock 3; core 1 acquires 1 and commits 3.
unfoldable pub completion : List ℕ
completion =
    0x4C ∷ 0x4B ∷ 0 ∷ 0 ∷ 1 ∷ 0
    ∷ 0x4C ∷ 0x4B ∷ 0 ∷ 10 ∷ 3 ∷ 0
    ∷ 0x4C ∷ 0x4B ∷ 1 ∷ 0 ∷ 1 ∷ 0
    ∷ 0x4C ∷ 0x4B ∷ 1 ∷ 11 ∷ 3 ∷ 0
    ∷ []

-- A log, with or without its end, and what comes of it: the classes, the answer and the record's number.
abbrev pub comes_to : (log : List ℕ) (ended : Bool) (classes answer number : ℕ) → Bool
comes_to log ended classes answer number =
    let o = outcome_for (classes_in log) (word_in log) true (records_in log ended) in
    eqb (classes_in log) classes && (eqb o.answer answer && eqb o.at number)

unfoldable pub log_table : Bool
log_table =
    -- the fault, with the end and without it, and with bytes behind it that are no record
    comes_to p2_log true 3 1 6
    && (comes_to p2_log false 3 1 6
    && (comes_to (p2_log ++ 1 ∷ 2 ∷ []) true 3 1 6
    -- a record less is clean; five of its bytes are nothing before the end, and a short record then
    && (comes_to (take 34 p2_log) true 3 0 5
    && (comes_to (take 39 p2_log) false 3 0 5
    && (comes_to (take 39 p2_log) true 3 3 6
    -- the header alone, and with one loose byte
    && (comes_to (take 4 p2_log) true 3 0 0
    && (comes_to (take 5 p2_log) false 3 0 0
    && (comes_to (take 5 p2_log) true 3 3 1
    -- a header with its word: the completion, whose commit is the fault; with less of its word it gives no class, and without it kinds 10 to 12 are 15
    && (comes_to (0x4C ∷ 0x48 ∷ 2 ∷ 4 ∷ 8 ∷ 0 ∷ 0 ∷ 0 ∷ 0 ∷ 0 ∷ 0 ∷ 0 ∷ completion) true 4 1 4
    && (eqb (word_in (0x4C ∷ 0x48 ∷ 2 ∷ 64 ∷ 1 ∷ 2 ∷ 0 ∷ 0 ∷ 0 ∷ 0 ∷ 0 ∷ 128 ∷ completion)) 9223372036854776321
    && (eqb (classes_in (0x4C ∷ 0x48 ∷ 2 ∷ 4 ∷ 8 ∷ 0 ∷ 0 ∷ 0 ∷ 0 ∷ 0 ∷ 0 ∷ [])) 0
    && (comes_to (0x4C ∷ 0x48 ∷ 1 ∷ 4 ∷ completion) true 4 15 2
    -- headers that give no class: version 3, K = 0, K = 65
    && (eqb (classes_in (0x4C ∷ 0x48 ∷ 3 ∷ 3 ∷ [])) 0
    && (eqb (classes_in (0x4C ∷ 0x48 ∷ 1 ∷ 0 ∷ [])) 0
    && eqb (classes_in (0x4C ∷ 0x48 ∷ 1 ∷ 65 ∷ [])) 0))))))))))))))

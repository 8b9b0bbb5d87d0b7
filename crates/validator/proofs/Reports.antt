-- What is reported settles every byte of the slip. Assumes nothing.
use mathlib.Core.Path.{◌≡◌, sym, ◌∙◌, subst}
use mathlib.Core.List.{List}
use Prim.Native.Nat.{ℕ, zero, suc, ◌+◌, ◌*◌, ◌/◌, ◌%◌, ◌<◌}
use native.Mathlib.Omega.{arith}
use lib.ListN.{length, get_or}
use Rattle.rules.specs.Graph.{Graph}
use Rattle.rules.specs.Cycle.{Entry}
use Rattle.rules.proofs.LeastCycles.{least_one}
use Rattle.layout.specs.Layout.{entries_at, entry_size, slip_size, KeepsPast}
use Rattle.layout.specs.Decoding.{SlipBytes, Reported}
use Rattle.fit.proofs.Settled.{both_keep}

-- Two slips with the same entries have the same first bytes.
same_byte : {numbers : ℕ → ℕ → ℕ} {es : List Entry} {a b : List ℕ} → SlipBytes numbers es a → SlipBytes numbers es b → (j : ℕ) → j < slip_size (length es) → get_or a j 0 ≡ get_or b j 0
same_byte p q zero l = p.count ∙ sym q.count
same_byte {numbers} {es} {a} {b} p q (suc j) l =
    let e : entries_at + entry_size * (j / entry_size) + j % entry_size ≡ suc j = omega arith in
    let i : j / entry_size < length es = omega arith in
    let k : j % entry_size < entry_size = omega arith in
    subst (λ (x : ℕ). get_or a x 0 ≡ get_or b x 0) e (p.entries (j / entry_size) (j % entry_size) i k ∙ sym (q.entries (j / entry_size) (j % entry_size) i k))

-- There is one least cycle only.
pub reported_one : {K : ℕ} {g : Graph} {numbers : ℕ → ℕ → ℕ} {slip a b : List ℕ} → Reported K g numbers slip a → Reported K g numbers slip b → a ≡ b
reported_one {numbers = numbers} {slip = slip} {a} {b} p q =
    let e = least_one p.least q.least in
    let r = subst (λ (es : List Entry). SlipBytes numbers es b × KeepsPast (slip_size (length es)) slip b) (sym e) (q.bytes, q.keeps) in
    both_keep (slip_size (length p.entries)) slip a b (same_byte p.bytes r.0) p.keeps r.1

-- The crosslocks in the bytes of the desk: sets of classes as words, what the numbers are, and which bytes count. Assumes nothing.
use mathlib.Core.Path.{◌≡◌, refl, ap, ap₂, ◌∙◌}
use mathlib.Core.Bool.{Bool, cond}
use mathlib.Core.List.{List}
use Prim.Native.Nat.{ℕ, zero, suc, ◌+◌, ◌*◌, ◌/◌, ◌%◌, ◌^◌, ◌<◌, ◌≤◌}
use native.Mathlib.Nat.{pow-suc}
use native.Mathlib.Omega.{arith}
use lib.Dec.{eqb}
use lib.ListN.{length, get_or}
use lib.Count.{ones, ones_step, ones-le}
use Rattle.words.specs.Bits.{bit}
use Rattle.words.proofs.Packs.{pack_lt, bit_pack, pack_bits, flag_back}
use Rattle.rules.specs.Limits.{max_classes, max_accepted, max_kept}
use Rattle.rules.specs.Crosslocks.{Crosslocks, History, count_below, size_of}
use Rattle.rules.specs.Log.{word_size}
use Rattle.layout.specs.Layout.{number_size, declared_at, progress_at, kept_at, since_at, desk_size, kept_size, member_of, declared_of, progress_of, kept_of, since_of}
use Rattle.layout.specs.Encoding.{word_of, HistoryBytes, CrossBytes}
use Rattle.layout.proofs.Numbers.{value_of, number_is}

-- Sets and words.
pub member_word : (p : ℕ → Bool) (c : ℕ) → c < max_classes → member_of (word_of p) c ≡ p c
member_word p c l = rw (bit_pack max_classes p c l) (flag_back (p c))

pub word_member : (w : ℕ) → w < 2 ^ 64 → word_of (member_of w) ≡ w
word_member w l = pack_bits max_classes w l

count_ext : (n : ℕ) (p q : ℕ → Bool) → ((c : ℕ) → c < n → p c ≡ q c) → count_below n p ≡ count_below n q
unfolding count_below
count_ext zero p q h = refl
count_ext (suc n) p q h =
    ap₂ (λ (b : Bool) (r : ℕ). cond b (suc r) r) (h zero (omega arith)) (count_ext n (λ c. p (suc c)) (λ c. q (suc c)) (λ c l. h (suc c) (omega arith)))

pub size_ext : (p q : ℕ → Bool) → ((c : ℕ) → c < max_classes → p c ≡ q c) → size_of p ≡ size_of q
size_ext p q h = count_ext max_classes p q h

-- The ones of a word are its classes.
count_ones : (n w : ℕ) → w < 2 ^ n → ones w ≡ count_below n (member_of w)
unfolding count_below bit
count_ones zero w l = let o = ones-le 0 w l in omega arith
count_ones (suc n) w l =
    let p : 2 ^ suc n ≡ 2 ^ n * 2 = pow-suc 2 n in
    let s = ones_step w in
    let r = count_ones n (w / 2) (omega arith) in
    let d = digit (w % 2) (count_below n (member_of (w / 2))) (omega arith) in
    omega arith
  where
    digit : (b rest : ℕ) → b < 2 → cond (eqb b 1) (suc rest) rest ≡ b + rest
    digit zero rest l = omega arith
    digit (suc zero) rest l = omega arith
    digit (suc (suc b)) rest l = absurd (omega arith)

pub size_ones : (w : ℕ) → w < 2 ^ 64 → ones w ≡ size_of (member_of w)
size_ones w l = count_ones max_classes w l

-- What the bytes say of crosslocks that they encode.
module _ {x : Crosslocks} {desk history : List ℕ} (e : CrossBytes x desk history) where
  pub declared_word : declared_of desk ≡ word_of x.declared
  declared_word = value_of desk word_size (word_of x.declared) declared_at (pack_lt max_classes x.declared) e.declared

  pub progress_word : progress_of desk ≡ word_of x.progress
  progress_word = value_of desk word_size (word_of x.progress) progress_at (pack_lt max_classes x.progress) e.progress

  pub declared_at_lem : (c : ℕ) → c < max_classes → member_of (declared_of desk) c ≡ x.declared c
  declared_at_lem c l = ap (λ (w : ℕ). member_of w c) declared_word ∙ member_word x.declared c l

  pub progress_at_lem : (c : ℕ) → c < max_classes → member_of (progress_of desk) c ≡ x.progress c
  progress_at_lem c l = ap (λ (w : ℕ). member_of w c) progress_word ∙ member_word x.progress c l

  pub progress_size : size_of (member_of (progress_of desk)) ≡ size_of x.progress
  progress_size = size_ext (member_of (progress_of desk)) x.progress progress_at_lem

  pub kept_is : length x.history ≤ max_kept → kept_of desk ≡ length x.history
  kept_is l = number_is desk (length x.history) kept_at (omega arith) e.kept

  pub since_is : (c : ℕ) → c < max_classes → x.since c ≤ max_accepted → since_of desk c ≡ x.since c
  since_is c l h = number_is desk (x.since c) (since_at + number_size * c) h (e.since c l)

-- Only the desk's bytes from the declared word on count, and of the history only those of its entries.
pub cross_kept : (x : Crosslocks) (desk desk' history : List ℕ) → ((j : ℕ) → declared_at ≤ j → j < desk_size → get_or desk' j 0 ≡ get_or desk j 0)
    → CrossBytes x desk history → CrossBytes x desk' history
cross_kept x desk desk' history same e =
    record {
      declared = λ j l. same (declared_at + j) (omega arith) (omega arith) ∙ e.declared j l;
      progress = λ j l. same (progress_at + j) (omega arith) (omega arith) ∙ e.progress j l;
      kept = λ j l. same (kept_at + j) (omega arith) (omega arith) ∙ e.kept j l;
      since = λ c h j l. same (since_at + number_size * c + j) (omega arith) (omega arith) ∙ e.since c h j l;
      entries = e.entries;
    }

pub entries_kept : (es : History) (history history' : List ℕ) → ((j : ℕ) → j < kept_size * length es → get_or history' j 0 ≡ get_or history j 0)
    → HistoryBytes es history → HistoryBytes es history'
entries_kept es history history' same e =
    record {
      places = λ i l. same (kept_size * i) (omega arith) ∙ e.places i l;
      locks = λ i l. same (kept_size * i + 1) (omega arith) ∙ e.locks i l;
    }

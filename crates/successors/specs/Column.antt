-- Words made of one binary digit of each of several bytes.
use Rattle.std.specs.Prelude.{◌≡◌, List, ℕ, zero, suc, ◌+◌, ◌*◌, ◌<◌, get_or}
use Rattle.words.specs.Bits.{bit}
use Rattle.rules.specs.HeldLocks.{First, Second, E, S, R, N}
use Rattle.successors.specs.declared.KindWords.{KindWords}

-- The digit d of the n bytes from a place on, the first byte's in the lowest bit.
unfoldable pub column : List ℕ → (at d n : ℕ) → ℕ
column bytes at d zero = 0
column bytes at d (suc n) = bit (get_or bytes at 0) d + 2 * column bytes (suc at) d n

-- The digits 0 to 3 of a byte, each at the bottom of 16 bits.
abbrev pub spread_of : ℕ → ℕ
spread_of byte = bit byte 0 + 65536 * bit byte 1 + 4294967296 * bit byte 2 + 281474976710656 * bit byte 3

-- The columns of the digits 0 to 3, each in 16 bits of one word.
abbrev pub lanes : List ℕ → (at n : ℕ) → ℕ
lanes bytes at n =
    column bytes at 0 n + 65536 * column bytes at 1 n + 4294967296 * column bytes at 2 n + 281474976710656 * column bytes at 3 n

-- The word of a kind.
abbrev pub kind_word : KindWords → First → Second → ℕ
kind_word w E R = w.er
kind_word w E N = w.en
kind_word w S R = w.sr
kind_word w S N = w.sn

-- The words are the columns of the digits 0 to 3: "ER 1, EN 2, SR 4, SN 8".
pub record Columns (bytes : List ℕ) (at n : ℕ) (w : KindWords) : Type 0 where
  pub er : w.er ≡ column bytes at 0 n
  pub en : w.en ≡ column bytes at 1 n
  pub sr : w.sr ≡ column bytes at 2 n
  pub sn : w.sn ≡ column bytes at 3 n

-- Words below 2 ^ 48, and words below 2 ^ 16.
pub record Narrow (high low : KindWords) : Type 0 where
  pub high_er : high.er < 281474976710656
  pub high_en : high.en < 281474976710656
  pub high_sr : high.sr < 281474976710656
  pub high_sn : high.sn < 281474976710656
  pub low_er : low.er < 65536
  pub low_en : low.en < 65536
  pub low_sr : low.sr < 65536
  pub low_sn : low.sn < 65536

pub record Joined (high low r : KindWords) : Type 0 where
  pub er : r.er ≡ high.er * 65536 + low.er
  pub en : r.en ≡ high.en * 65536 + low.en
  pub sr : r.sr ≡ high.sr * 65536 + low.sr
  pub sn : r.sn ≡ high.sn * 65536 + low.sn

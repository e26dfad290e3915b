-- The index: page p is the bit of weight 2^(p mod 8) in byte p / 8; 1 means stored.
use Rattle.std.specs.Prelude.{Bool, not, cond, List, ℕ, zero, suc, ◌+◌, ◌-◌, ◌*◌, ◌/◌, ◌%◌, ◌^◌, eqb, length, set}
use Rattle.protocol.specs.Bytes.{byte_at}
use Rattle.protocol.specs.Tests.{every, count_below}

-- the bit of weight 2^k in a byte
unfoldable pub bit : ℕ → ℕ → ℕ
bit b k = b / 2 ^ k % 2

unfoldable pub stored : List ℕ → ℕ → Bool
stored x p = eqb (bit (byte_at x (p / 8)) (p % 8)) 1

-- page p's bit set; cleared; and n bits from p on cleared
unfoldable pub set_bit : List ℕ → ℕ → List ℕ
set_bit x p = cond (stored x p) x (set x (p / 8) (byte_at x (p / 8) + 2 ^ (p % 8)))

unfoldable pub clear_bit : List ℕ → ℕ → List ℕ
clear_bit x p = cond (stored x p) (set x (p / 8) (byte_at x (p / 8) - 2 ^ (p % 8))) x

unfoldable pub clear_bits : List ℕ → ℕ → ℕ → List ℕ
clear_bits x p zero = x
clear_bits x p (suc n) = clear_bits (clear_bit x p) (suc p) n

-- the pages that an index of this length has bits for
abbrev pub bits : List ℕ → ℕ
bits x = 8 * length x

-- the number of set bits
unfoldable pub set_bits : List ℕ → ℕ
set_bits x = count_below (stored x) (bits x)

-- no bit at or above c is set
unfoldable pub clear_from : List ℕ → ℕ → Bool
clear_from x c = every (λ q. not (stored x (c + q))) (bits x - c)

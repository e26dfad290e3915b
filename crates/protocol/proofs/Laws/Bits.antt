-- A byte's bits: set, cleared, read by shift and mask, and counted. Each law is a test that the checker computes at every byte.
use mathlib.Core.Bool.{Bool, true, false, cond}
use mathlib.Core.Path.{◌≡◌}
use Prim.Native.Nat.{ℕ, ◌+◌, ◌-◌, ◌*◌, ◌/◌, ◌%◌, ◌^◌, ◌<◌}
use lib.Dec.{T, eqb, ltb, eqb→eq, ltb→lt}
use lib.Bits.{bit_and, bit_or, and_mask}
use Rattle.protocol.specs.Tests.{every}
use Rattle.protocol.specs.Index.{bit}
use Rattle.protocol.proofs.Laws.Logic.{every_at}

-- a test at every byte and every place of a bit
unfoldable pub every_bit : (ℕ → ℕ → Bool) → Bool
unfolding every
every_bit f = every (λ b. every (f b) 8) 256

pub every_bit_lem : (f : ℕ → ℕ → Bool) → T (every_bit f) → (b k : ℕ) → b < 256 → k < 8 → T (f b k)
unfolding every_bit
every_bit_lem f t b k h l = every_at (f b) 8 (every_at (λ (c : ℕ). every (f c) 8) 256 t b h) k l

-- ---- shift and mask

or_test : ℕ → ℕ → Bool
or_test b k = eqb (bit_or b (2 ^ k)) (cond (eqb (bit b k) 1) b (b + 2 ^ k))

pub or_bit : (b k : ℕ) → b < 256 → k < 8 → bit_or b (2 ^ k) ≡ cond (eqb (bit b k) 1) b (b + 2 ^ k)
unfolding or_test every_bit bit
or_bit b k h l = eqb→eq (bit_or b (2 ^ k)) (cond (eqb (bit b k) 1) b (b + 2 ^ k)) (every_bit_lem or_test tt b k h l)

and_test : ℕ → ℕ → Bool
and_test b k = eqb (bit_and b (255 - 2 ^ k)) (cond (eqb (bit b k) 1) (b - 2 ^ k) b)

pub and_bit : (b k : ℕ) → b < 256 → k < 8 → bit_and b (255 - 2 ^ k) ≡ cond (eqb (bit b k) 1) (b - 2 ^ k) b
unfolding and_test every_bit bit
and_bit b k h l = eqb→eq (bit_and b (255 - 2 ^ k)) (cond (eqb (bit b k) 1) (b - 2 ^ k) b) (every_bit_lem and_test tt b k h l)

pub shift_bit : (b k : ℕ) → bit_and (b / 2 ^ k) 1 ≡ bit b k
unfolding bit
shift_bit b k = and_mask (b / 2 ^ k) 1

pub shift_byte : (k : ℕ) → k < 8 → 1 * 2 ^ k % 2 ^ 8 ≡ 2 ^ k
unfolding every
shift_byte k h = eqb→eq (1 * 2 ^ k % 2 ^ 8) (2 ^ k) (every_at (λ j. eqb (1 * 2 ^ j % 2 ^ 8) (2 ^ j)) 8 tt k h)

-- ---- bit j of b with its clear bit k set, and with its set bit k cleared

change_test : ℕ → ℕ → ℕ → Bool
change_test b k j = cond (eqb (bit b k) 1) (eqb (bit (b - 2 ^ k) j) (cond (eqb k j) 0 (bit b j))) (eqb (bit (b + 2 ^ k) j) (cond (eqb k j) 1 (bit b j)))

change_all : T (every_bit (λ b k. every (change_test b k) 8))
unfolding change_test every_bit every bit
change_all = tt

module _ (b k j : ℕ) (h : b < 256) (l : k < 8) (m : j < 8) where
  changed : T (change_test b k j)
  changed = every_at (change_test b k) 8 (every_bit_lem (λ b k. every (change_test b k) 8) change_all b k h l) j m

  pub bit_less : eqb (bit b k) 1 ≡ true → bit (b - 2 ^ k) j ≡ cond (eqb k j) 0 (bit b j)
  unfolding change_test
  bit_less e = eqb→eq (bit (b - 2 ^ k) j) (cond (eqb k j) 0 (bit b j)) (rw e at changed)

  pub bit_more : eqb (bit b k) 1 ≡ false → bit (b + 2 ^ k) j ≡ cond (eqb k j) 1 (bit b j)
  unfolding change_test
  bit_more e = eqb→eq (bit (b + 2 ^ k) j) (cond (eqb k j) 1 (bit b j)) (rw e at changed)

-- ---- a clear bit set leaves a byte

more_test : ℕ → ℕ → Bool
more_test b k = cond (eqb (bit b k) 1) true (ltb (b + 2 ^ k) 256)

pub more_byte : (b k : ℕ) → b < 256 → k < 8 → eqb (bit b k) 1 ≡ false → b + 2 ^ k < 256
unfolding more_test every_bit bit
more_byte b k h l e = ltb→lt (b + 2 ^ k) 256 (rw e at (every_bit_lem more_test tt b k h l))

-- The index's bits by shift and mask, and the loops over bits and bytes.
use Rattle.std.proofs.Common.{◌≡◌, ℕ, zero, suc, ◌+◌, ◌-◌, ◌*◌, ◌/◌, ◌%◌, ◌^◌, ◌<◌, ◌≤◌, Bool, true, false, not, ◌&&◌, T, eqb, List, length, get_or, drop, set, sym, refl, ap, ◌∙◌, ap₂, add-zero, add-suc, div-one, arith, lit<, drop_of_length-le, drop-cons, w8, Fits, eq-eqb, ne_eqb, eqb-true}
use mathlib.Core.Bool.{beq}
use lib.Bits.{bit_or, bit_and, or_add_and, and_le_l, and_le_r}
use lib.Count.{ones, ones-le}
use lib.ListN.{get_or-eq_default}
use lib.Seq.{set_out}
use borrow.Author.Tests.{eqb-false}
use Rattle.protocol.specs.Bytes.{Bytes, byte_at}
use Rattle.protocol.specs.Tests.{every, count_below}
use Rattle.protocol.specs.Index.{bit, stored, set_bit, clear_bit, clear_bits, bits, set_bits, clear_from}
use Rattle.protocol.proofs.Laws.Bits.{every_bit, every_bit_lem, shift_byte}
use Rattle.protocol.proofs.Laws.Count.{ones_first}
use Rattle.protocol.proofs.Laws.Index.{bit_zero, set_or, clear_and}

-- ---- one bit

-- what is known of a slice's bytes, as the definitions say it
bytes : (x : List ℕ) → ((i : ℕ) → Fits w8 (get_or x i 0)) → Bytes x
unfolding Bytes
bytes x h i = (h i).fits

module _ (x : List ℕ) (p : ℕ) (h : (i : ℕ) → Fits w8 (get_or x i 0)) where
  pub set_mask : set x (p / 8) (bit_or (byte_at x (p / 8)) (1 * 2 ^ (p % 8) % 256)) ≡ set_bit x p
  set_mask = ap (λ (m : ℕ). set x (p / 8) (bit_or (byte_at x (p / 8)) m)) (shift_byte (p % 8) (omega arith)) ∙ sym (set_or x p (bytes x h))

  pub clear_mask : set x (p / 8) (bit_and (byte_at x (p / 8)) (255 - 1 * 2 ^ (p % 8) % 256)) ≡ clear_bit x p
  clear_mask = ap (λ (m : ℕ). set x (p / 8) (bit_and (byte_at x (p / 8)) (255 - m))) (shift_byte (p % 8) (omega arith)) ∙ sym (clear_and x p (bytes x h))

-- a page that the index has no byte for
module _ (x : List ℕ) (p : ℕ) (h : length x ≤ p / 8) where
  pub not_stored : false ≡ stored x p
  unfolding stored
  not_stored =
      let e : byte_at x (p / 8) ≡ 0 = get_or-eq_default x 0 {n = p / 8} h in
      sym (ap (λ (b : ℕ). eqb (bit b (p % 8)) 1) e ∙ ap (λ (b : ℕ). eqb b 1) (bit_zero (p % 8)))

  pub not_set : x ≡ set_bit x p
  unfolding set_bit
  not_set = sym (rw (← not_stored) (set_out x (p / 8) _ h))

  pub not_cleared : x ≡ clear_bit x p
  unfolding clear_bit
  not_cleared = rw (← not_stored) refl

-- ---- n bits cleared, one by one

-- z is what is to come of x, by the pages from p to before e
module _ (z x : List ℕ) (p e : ℕ) (f : z ≡ clear_bits x p (e - p)) where
  pub clear_more : (y : List ℕ) → p < e → y ≡ clear_bit x p → z ≡ clear_bits y (p + 1) (e - (p + 1))
  unfolding clear_bits
  clear_more y h g =
      let a : e - p ≡ suc (e - (p + 1)) = omega arith in
      let b : p + 1 ≡ suc p = omega arith in
      rw (b, g) (rw (a, b) at f)

  pub clear_none : e ≤ p → x ≡ z
  unfolding clear_bits
  clear_none h = let none : e - p ≡ 0 = omega arith in sym (rw none at f)

-- ---- the set bits, byte by byte

-- n counts those of the bytes before place i
module _ (x : List ℕ) (n i : ℕ) (e : n + set_bits (drop i x) ≡ set_bits x) where
  pub ones_more : ((k : ℕ) → Fits w8 (get_or x k 0)) → i < length x → n + ones (byte_at x i) + set_bits (drop (i + 1) x) ≡ set_bits x
  ones_more h l =
      let s : i + 1 ≡ suc i = omega arith in
      let f : set_bits (drop i x) ≡ ones (byte_at x i) + set_bits (drop (suc i) x) = ap set_bits (drop-cons x i 0 l) ∙ ones_first (byte_at x i) (drop (suc i) x) (h i).fits in
      rw s (omega (arith, f, e))

  pub ones_all : length x ≤ i → n ≡ set_bits x
  unfolding set_bits count_below
  ones_all m =
      let f : set_bits (drop i x) ≡ 0 = ap set_bits (drop_of_length-le x m) in
      omega (arith, e, f)

-- any byte has at most 8
module _ (n i b : ℕ) (h : Fits w8 b) (m : n ≤ 8 * i) where
  pub ones_most : n + ones b ≤ 8 * (i + 1)
  ones_most = omega (arith, ones-le 8 b h.fits)

-- ---- the bits from c on, byte by byte

every_ext : (f g : ℕ → Bool) (n : ℕ) → ((q : ℕ) → q < n → f q ≡ g q) → every f n ≡ every g n
unfolding every
every_ext f g zero h = refl
every_ext f g (suc n) h = ap₂ ◌&&◌ (h n (omega arith)) (every_ext f g n (λ q l. h q (omega arith)))

swap : (a b c : Bool) → (a && (b && c)) ≡ (b && (a && c))
swap true b c = refl
swap false true c = refl
swap false false c = refl

and_true : (a : Bool) → (a && true) ≡ a
and_true true = refl
and_true false = refl

every_add : (f : ℕ → Bool) (n m : ℕ) → every f (n + m) ≡ (every f n && every (λ q. f (n + q)) m)
unfolding every
every_add f n zero = ap (every f) (add-zero n) ∙ sym (and_true (every f n))
every_add f n (suc m) = ap (every f) (add-suc n m) ∙ ap (λ (t : Bool). f (n + m) && t) (every_add f n m) ∙ swap (f (n + m)) (every f n) (every (λ q. f (n + q)) m)

same_bool : (a b : Bool) → T (beq a b) → a ≡ b
same_bool true true t = refl
same_bool true false t = absurd t
same_bool false true t = absurd t
same_bool false false t = refl

-- a byte shifted down by k is 0 just where its bits from k on are
high_test : ℕ → ℕ → Bool
high_test b k = beq (eqb (b / 2 ^ k) 0) (every (λ j. not (eqb (bit b (k + j)) 1)) (8 - k))

high_bits : (b k : ℕ) → b < 256 → k < 8 → eqb (b / 2 ^ k) 0 ≡ every (λ j. not (eqb (bit b (k + j)) 1)) (8 - k)
unfolding high_test every_bit every bit
high_bits b k h l = same_bool (eqb (b / 2 ^ k) 0) (every (λ j. not (eqb (bit b (k + j)) 1)) (8 - k)) (every_bit_lem high_test tt b k h l)

all_bits : (b : ℕ) → b < 256 → eqb b 0 ≡ every (λ j. not (eqb (bit b j) 1)) 8
unfolding every bit
all_bits b h = ap (λ (n : ℕ). eqb n 0) (sym (div-one b)) ∙ high_bits b 0 h (lit< tt)

pub or_none : (a b : ℕ) → eqb (bit_or a b) 0 ≡ (eqb a 0 && eqb b 0)
or_none a b = go (eqb a 0) (eqb b 0) refl refl
  where
    go : (s t : Bool) → eqb a 0 ≡ s → eqb b 0 ≡ t → eqb (bit_or a b) 0 ≡ (s && t)
    go true true e f = let x : a ≡ 0 = eqb-true a 0 e in let y : b ≡ 0 = eqb-true b 0 f in eq-eqb (bit_or a b) 0 (omega (arith, or_add_and a b, and_le_l a b))
    go true false e f = ne_eqb (bit_or a b) 0 (λ z. eqb-false b 0 f (omega (arith, or_add_and a b, and_le_l a b)))
    go false t e f = ne_eqb (bit_or a b) 0 (λ z. eqb-false a 0 e (omega (arith, or_add_and a b, and_le_r a b)))

-- the bits from page c on, up to byte i
abbrev pub clear_to : List ℕ → ℕ → ℕ → Bool
clear_to x c i = every (λ q. not (stored x (c + q))) (8 * i - c)

-- the rest of c's byte
pub clear_first : (x : List ℕ) (c : ℕ) → ((i : ℕ) → Fits w8 (get_or x i 0)) → eqb (byte_at x (c / 8) / 2 ^ (c % 8)) 0 ≡ clear_to x c (c / 8 + 1)
unfolding stored
clear_first x c h =
    let n : 8 * (c / 8 + 1) - c ≡ 8 - c % 8 = omega arith in
    high_bits (byte_at x (c / 8)) (c % 8) (h (c / 8)).fits (omega arith)
    ∙ every_ext (λ j. not (eqb (bit (byte_at x (c / 8)) (c % 8 + j)) 1)) (λ q. not (stored x (c + q))) (8 - c % 8)
    (λ q l.
    let d : (c + q) / 8 ≡ c / 8 = omega arith in
    let m : (c + q) % 8 ≡ c % 8 + q = omega arith in
    rw (d, m) refl)
    ∙ ap (every (λ q. not (stored x (c + q)))) (sym n)

-- one byte more
pub clear_next : (x : List ℕ) (c i f : ℕ) → ((k : ℕ) → Fits w8 (get_or x k 0)) → c ≤ 8 * i → eqb f 0 ≡ clear_to x c i → eqb (bit_or f (byte_at x i)) 0 ≡ clear_to x c (i + 1)
unfolding stored
clear_next x c i f h l e =
    let n : 8 * (i + 1) - c ≡ 8 * i - c + 8 = omega arith in
    or_none f (byte_at x i)
    ∙ ap₂ ◌&&◌ e
    (all_bits (byte_at x i) (h i).fits
    ∙ every_ext (λ j. not (eqb (bit (byte_at x i) j) 1)) (λ q. not (stored x (c + (8 * i - c + q)))) 8
    (λ q l.
    let d : (c + (8 * i - c + q)) / 8 ≡ i = omega arith in
    let m : (c + (8 * i - c + q)) % 8 ≡ q = omega arith in
    rw (d, m) refl))
    ∙ sym (every_add (λ q. not (stored x (c + q))) (8 * i - c) 8)
    ∙ ap (every (λ q. not (stored x (c + q)))) (sym n)

-- no bit at all
pub clear_past : (x : List ℕ) (c : ℕ) → length x ≤ c / 8 → true ≡ clear_from x c
unfolding clear_from every
clear_past x c h = let n : bits x - c ≡ 0 = omega arith in rw n refl

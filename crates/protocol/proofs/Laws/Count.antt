-- Counting: how many numbers below n have a property, and so how many bits of an index are set.
use mathlib.Core.Bool.{Bool, true, false, cond}
use mathlib.Core.Path.{◌≡◌, refl, sym, ap, ap₂, ◌∙◌}
use mathlib.Core.List.{List, [], ◌∷◌, ◌++◌, foldr}
use Prim.Native.Nat.{ℕ, zero, suc, ◌+◌, ◌-◌, ◌*◌, ◌/◌, ◌%◌, ◌^◌, ◌≤◌, ◌<◌}
use native.Mathlib.Nat.{add-zero, add-suc, div-one}
use native.Mathlib.Omega.{arith}
use lib.Dec.{T, eqb}
use lib.Arith.{lt-one}
use lib.Pow.{shr_lt, shr-shr}
use lib.Count.{ones, ones_step}
use lib.ListN.{length}
use Rattle.protocol.specs.Bytes.{Bytes, byte_at, zeros}
use Rattle.protocol.specs.Tests.{count_below}
use Rattle.protocol.specs.Index.{bit, stored, bits, set_bits, clear_from}
use Rattle.protocol.proofs.Laws.Index.{clear_from_lem, length_over, stored_over, stored_past}

pub count_ext : (f g : ℕ → Bool) (n : ℕ) → ((q : ℕ) → q < n → f q ≡ g q) → count_below f n ≡ count_below g n
unfolding count_below
count_ext f g zero h = refl
count_ext f g (suc n) h = ap₂ (λ (b : Bool) (m : ℕ). cond b 1 0 + m) (h n (omega arith)) (count_ext f g n (λ q l. h q (omega arith)))

pub count_add : (f : ℕ → Bool) (n m : ℕ) → count_below f (n + m) ≡ count_below f n + count_below (λ q. f (n + q)) m
unfolding count_below
count_add f n zero = ap (count_below f) (add-zero n) ∙ omega arith
count_add f n (suc m) = ap (count_below f) (add-suc n m) ∙ ap (λ (k : ℕ). cond (f (n + m)) 1 0 + k) (count_add f n m) ∙ omega arith

pub count_none : (f : ℕ → Bool) (n : ℕ) → ((q : ℕ) → q < n → f q ≡ false) → count_below f n ≡ 0
unfolding count_below
count_none f zero h = refl
count_none f (suc n) h = rw (h n (omega arith)) (omega (arith, count_none f n (λ q l. h q (omega arith))))

pub count_le : (f : ℕ → Bool) (n : ℕ) → count_below f n ≤ n
unfolding count_below
count_le f zero = omega arith
count_le f (suc n) = go (f n) (count_le f n)
  where
    go : (b : Bool) → count_below f n ≤ n → cond b 1 0 + count_below f n ≤ suc n
    go true h = omega arith
    go false h = omega arith

pub count_all : (f : ℕ → Bool) (n : ℕ) → ((q : ℕ) → q < n → f q ≡ true) → count_below f n ≡ n
unfolding count_below
count_all f zero h = refl
count_all f (suc n) h = rw (h n (omega arith)) (omega (arith, count_all f n (λ q l. h q (omega arith))))

-- the first k of n
pub count_first : (f : ℕ → Bool) (k n : ℕ) → k ≤ n → ((q : ℕ) → q < k → f q ≡ true) → ((q : ℕ) → k ≤ q → q < n → f q ≡ false) → count_below f n ≡ k
count_first f k n h a b =
    let e : n ≡ k + (n - k) = omega arith in
    ap (count_below f) e ∙ count_add f k (n - k)
    ∙ ap₂ (λ (i j : ℕ). i + j) (count_all f k a) (count_none (λ q. f (k + q)) (n - k) (λ q l. b (k + q) (omega arith) (omega arith))) ∙ omega arith

-- where no bit at or above c is set, the set bits are the stored pages below c
pub below_capacity : (x : List ℕ) (c : ℕ) → c ≤ bits x → T (clear_from x c) → set_bits x ≡ count_below (stored x) c
unfolding set_bits
below_capacity x c h t =
    let e : c + (bits x - c) ≡ bits x = omega arith in
    let z : count_below (λ q. stored x (c + q)) (bits x - c) ≡ 0 =
    count_none (λ q. stored x (c + q)) (bits x - c) (λ q l. clear_from_lem x c t (c + q) (omega arith) (omega arith))
    in
    ap (count_below (stored x)) (sym e) ∙ count_add (stored x) c (bits x - c) ∙ omega arith

-- zero bytes added to an index add nothing to the count
pub count_over : (x : List ℕ) (n : ℕ) → set_bits (x ++ zeros n) ≡ set_bits x
unfolding set_bits
count_over x n =
    let long : bits (x ++ zeros n) ≡ bits x + 8 * n = omega (arith, length_over x n) in
    let none : count_below (λ q. stored x (bits x + q)) (8 * n) ≡ 0 =
    count_none (λ q. stored x (bits x + q)) (8 * n) (λ q l. stored_past x (bits x + q) (omega arith))
    in
    ap (count_below (stored (x ++ zeros n))) long
    ∙ count_ext (stored (x ++ zeros n)) (stored x) (bits x + 8 * n) (λ q l. stored_over x n q)
    ∙ count_add (stored x) (bits x) (8 * n)
    ∙ omega arith

-- ---- a number's ones

-- how many of a number's d lowest bits are set
abbrev pub set_in : ℕ → ℕ → ℕ
set_in d b = count_below (λ k. eqb (bit b k) 1) d

as_number : (n : ℕ) → cond (eqb (n % 2) 1) 1 0 ≡ n % 2
as_number n = go (n % 2) (omega arith)
  where
    go : (k : ℕ) → k < 2 → cond (eqb k 1) 1 0 ≡ k
    go zero h = refl
    go (suc zero) h = refl
    go (suc (suc k)) h = absurd (omega arith)

-- the lowest bit, and those above it
set_in_lem : (d b : ℕ) → set_in (suc d) b ≡ b % 2 + set_in d (b / 2)
unfolding count_below bit
set_in_lem d b =
    let e : suc d ≡ 1 + d = omega arith in
    ap (count_below (λ k. eqb (bit b k) 1)) e
    ∙ count_add (λ k. eqb (bit b k) 1) 1 d
    ∙ ap₂ (λ (m n : ℕ). m + n)
    (add-zero _ ∙ as_number (b / 1) ∙ ap (λ (n : ℕ). n % 2) (div-one b))
    (count_ext (λ k. eqb (bit b (1 + k)) 1) (λ k. eqb (bit (b / 2) k) 1) d (λ k l. ap (λ (n : ℕ). eqb (n % 2) 1) (sym (shr-shr b 1 k))))

-- the ones of a number of d bits are its bits that are set
pub ones_set : (d b : ℕ) → b < 2 ^ d → ones b ≡ set_in d b
unfolding ones count_below
ones_set zero b h = ap ones (lt-one h)
ones_set (suc d) b h =
    let e : suc d ≡ d + 1 = omega arith in
    ones_step b ∙ ap (λ (n : ℕ). b % 2 + n) (ones_set d (b / 2) (shr_lt d 1 (rw e at h))) ∙ sym (set_in_lem d b)

-- ---- the set bits of an index, byte by byte

behind_byte : (b : ℕ) (x : List ℕ) (q : ℕ) → stored (b ∷ x) (8 + q) ≡ stored x q
unfolding stored
behind_byte b x q =
    let d : (8 + q) / 8 ≡ suc (q / 8) = omega arith in
    let m : (8 + q) % 8 ≡ q % 8 = omega arith in
    rw (d, m) refl

-- those of the first byte, and of the others
set_first : (b : ℕ) (x : List ℕ) → set_bits (b ∷ x) ≡ set_in 8 b + set_bits x
unfolding set_bits stored count_below
set_first b x =
    let e : 8 * suc (length x) ≡ 8 + bits x = omega arith in
    ap (count_below (stored (b ∷ x))) e
    ∙ count_add (stored (b ∷ x)) 8 (bits x)
    ∙ ap (λ (n : ℕ). set_in 8 b + n) (count_ext (λ q. stored (b ∷ x) (8 + q)) (stored x) (bits x) (λ q l. behind_byte b x q))

-- the same by the first byte's ones
pub ones_first : (b : ℕ) (x : List ℕ) → b < 256 → set_bits (b ∷ x) ≡ ones b + set_bits x
ones_first b x h = set_first b x ∙ ap (λ (n : ℕ). n + set_bits x) (sym (ones_set 8 b h))

-- whatever gives the set bits of each byte: added over the bytes
set_added : (f : ℕ → ℕ) (x : List ℕ) → ((i : ℕ) → set_in 8 (byte_at x i) ≡ f (byte_at x i)) → set_bits x ≡ foldr (λ b n. f b + n) 0 x
unfolding set_bits count_below
set_added f [] e = refl
set_added f (b ∷ x) e = set_first b x ∙ ap₂ (λ (m n : ℕ). m + n) (e 0) (set_added f x (λ i. e (suc i)))

-- the bits of weight 1, 2, 4, ... 128 of a byte
abbrev pub weights : ℕ → ℕ
weights b = b % 2 + b / 2 % 2 + b / 4 % 2 + b / 8 % 2 + b / 16 % 2 + b / 32 % 2 + b / 64 % 2 + b / 128 % 2

pub eight : (b : ℕ) → set_in 8 b ≡ weights b
unfolding count_below bit
eight b = simp as_number (omega arith)

pub set_weights : (x : List ℕ) → set_bits x ≡ foldr (λ b n. weights b + n) 0 x
set_weights x = set_added weights x (λ i. eight (byte_at x i))

-- the ones of a byte
pub set_ones : (x : List ℕ) → Bytes x → set_bits x ≡ foldr (λ b n. ones b + n) 0 x
unfolding Bytes
set_ones x h = set_added ones x (λ i. sym (ones_set 8 (byte_at x i) (h i)))

-- The first bits of an index byte by byte: eight of them are a byte of 255, and j of the next byte's are 2 ^ j - 1.
use mathlib.Core.Path.{◌≡◌, refl, sym, ap, ap₂, ◌∙◌}
use mathlib.Core.List.{List, [], ◌∷◌, ◌++◌, append_assoc}
use Prim.Native.Nat.{ℕ, zero, suc, ◌+◌, ◌-◌, ◌*◌, ◌/◌, ◌%◌, ◌^◌, ◌≤◌, ◌<◌}
use native.Mathlib.Nat.{pow-suc}
use native.Mathlib.Omega.{arith}
use lib.Pow.{pow_pos}
use lib.ListN.{length, take, drop, set, get_or, replicate, length-replicate, replicate-append-replicate}
use lib.Seq.{set-set, set-get_or, get_or-set_same, get_or-set_other, length-take-le, drop-cons, set-append_seam}
use borrow.Author.Tests.{le-ltb}
use Rattle.protocol.specs.Bytes.{byte_at, zeros}
use Rattle.protocol.specs.Index.{set_bit}
use Rattle.protocol.proofs.Laws.Index.{byte_zeros}
use Rattle.protocol.proofs.Laws.Bits.{shift_byte}
use Rattle.offline.specs.CloseGaps.{first_bits}
use Rattle.offline.proofs.Laws.Gaps.{fine_first, stored_first}

module _ (m : ℕ) where
  -- one bit more, where the index has a byte for it
  one_more : (k : ℕ) → k < 8 * m → first_bits m (suc k) ≡ set (first_bits m k) (k / 8) (byte_at (first_bits m k) (k / 8) + 2 ^ (k % 8))
  unfolding first_bits set_bit
  one_more k h = rw (stored_first m k (omega arith) k ∙ le-ltb k k (omega arith)) refl

  -- a byte whose bits come later
  ahead : (k i : ℕ) → k ≤ 8 * i → k ≤ 8 * m → byte_at (first_bits m k) i ≡ 0
  unfolding first_bits
  ahead zero i h l = byte_zeros m i
  ahead (suc k) i h l =
      ap (λ (x : List ℕ). get_or x i 0) (one_more k (omega arith))
      ∙ get_or-set_other (first_bits m k) (k / 8) i (byte_at (first_bits m k) (k / 8) + 2 ^ (k % 8)) 0 (λ e. omega arith) ∙ ahead k i (omega arith) (omega arith)

  module _ (i : ℕ) (low : i < m) where
    abbrev before : List ℕ
    before = first_bits m (8 * i)

    some_bits : (j : ℕ) → j ≤ 8 → first_bits m (8 * i + j) ≡ set before i (2 ^ j - 1)
    some_bits zero h =
        let e : 8 * i + 0 ≡ 8 * i = omega arith in
        ap (first_bits m) e ∙ sym (ap (set before i) (sym (ahead (8 * i) i (omega arith) (omega arith))) ∙ set-get_or before i 0)
    some_bits (suc j) h =
        let k : ℕ = 8 * i + j in
        let e : 8 * i + suc j ≡ suc k = omega arith in
        let at : k / 8 ≡ i = omega arith in
        let bit : k % 8 ≡ j = omega arith in
        let so_far : first_bits m k ≡ set before i (2 ^ j - 1) = some_bits j (omega arith) in
        let here : byte_at (first_bits m k) i ≡ 2 ^ j - 1 =
        ap (λ (x : List ℕ). get_or x i 0) so_far ∙ get_or-set_same before i (2 ^ j - 1) 0 (omega (arith, (fine_first m (8 * i)).long))
        in
        let sum : 2 ^ j - 1 + 2 ^ j ≡ 2 ^ suc j - 1 = omega (arith, pow_pos j, pow-suc 2 j) in
        ap (first_bits m) e ∙ one_more k (omega arith)
        ∙ ap₂ (λ (a b : ℕ). set (first_bits m k) a (byte_at (first_bits m k) a + 2 ^ b)) at bit
        ∙ ap₂ (λ (x : List ℕ) (n : ℕ). set x i (n + 2 ^ j)) so_far here
        ∙ set-set before i (2 ^ j - 1) (2 ^ j - 1 + 2 ^ j) ∙ ap (set before i) sum

-- whole bytes of 255 over the front of zeros
whole_bytes : (m i : ℕ) → i ≤ m → first_bits m (8 * i) ≡ replicate i 255 ++ drop i (zeros m)
unfolding first_bits
whole_bytes m zero h = refl
whole_bytes m (suc i) h =
    let k : 8 * suc i ≡ 8 * i + 8 = omega arith in
    let rest : List ℕ = drop (suc i) (zeros m) in
    let next : drop i (zeros m) ≡ get_or (zeros m) i 0 ∷ rest = drop-cons (zeros m) i 0 (omega (arith, length-replicate {A = ℕ} m 0)) in
    let n : i + 1 ≡ suc i = omega arith in
    ap (first_bits m) k
    ∙ some_bits m i (omega arith) 8 (omega arith)
    ∙ ap (λ (x : List ℕ). set x i 255) (whole_bytes m i (omega arith) ∙ ap (λ (x : List ℕ). replicate i 255 ++ x) next)
    ∙ ap (λ (j : ℕ). set (replicate i 255 ++ (get_or (zeros m) i 0 ∷ rest)) j 255) (sym (length-replicate i 255))
    ∙ set-append_seam (replicate i 255) (get_or (zeros m) i 0) rest 255
    ∙ sym (append_assoc (replicate i 255) (255 ∷ []) rest)
    ∙ ap (λ (x : List ℕ). x ++ rest) (replicate-append-replicate i 1 255 ∙ ap (λ (j : ℕ). replicate j 255) n)

-- and behind them one byte more
pub bits_set : (m count : ℕ) (z f : List ℕ) → count < 8 * m → z ≡ zeros m → f ≡ replicate (length (take (count / 8) z)) 255
    → set (f ++ drop (count / 8) z) (count / 8) (1 * 2 ^ (count % 8) % 256 - 1) ≡ first_bits m count
bits_set m count z f h e g =
    let n : 8 * (count / 8) + count % 8 ≡ count = omega arith in
    let low : count / 8 ≤ length z = omega (arith, ap length e, length-replicate {A = ℕ} m 0) in
    let many : length (take (count / 8) z) ≡ count / 8 = length-take-le (count / 8) z low in
    let front : f ++ drop (count / 8) z ≡ first_bits m (8 * (count / 8)) =
    ap₂ (λ (x y : List ℕ). x ++ y) (g ∙ ap (λ (j : ℕ). replicate j 255) many) (ap (drop (count / 8)) e) ∙ sym (whole_bytes m (count / 8) (omega arith))
    in
    ap₂ (λ (w : List ℕ) (b : ℕ). set w (count / 8) (b - 1)) front (shift_byte (count % 8) (omega arith))
    ∙ sym (some_bits m (count / 8) (omega arith) (count % 8) (omega arith)) ∙ ap (first_bits m) n

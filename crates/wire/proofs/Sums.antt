-- Sums byte by byte, and four bytes compared as one number.
use Rattle.std.proofs.Common.{◌≡◌, ℕ, ◌+◌, ◌%◌, ◌<◌, Bool, true, false, eqb, true≢false, List, [], ◌∷◌, length, get_or, sym, refl, ◌∙◌, ap, add_assoc, add-zero, mod-eq_of_lt, arith, w32, eq-eqb, ne_eqb}
use Rattle.std.specs.Int.{from_le_bytes, to_le_bytes}
use Rattle.std.specs.List.{fold}
use Rattle.std.proofs.lemmas.Nat.{le_bytes_4}
use native.Mathlib.Nat.{mod-add-mod}
use Rattle.protocol.specs.Numbers.{four_bytes}
use Rattle.protocol.specs.Bytes.{total, same}
use Rattle.protocol.proofs.Laws.Lists.{same_refl, same_eq}

-- summed modulo 65536 at each byte, or once at the end
pub total_folded : (s : List ℕ) (a : ℕ) → a < 65536 → fold (λ n b. (n + b) % 65536) a s ≡ (a + total s) % 65536
unfolding total
total_folded [] a h = sym (rw add-zero (mod-eq_of_lt h))
total_folded (b ∷ s) a h = total_folded s ((a + b) % 65536) (omega arith) ∙ rw (mod-add-mod, add_assoc)

same_of : (a b : List ℕ) → a ≡ b → same a b ≡ true
same_of a b e = rw e (same_refl b)

-- as one number, four bytes are equal just where all four are the same
pub same_four : (a b : List ℕ) (x y : ℕ) → length a ≡ four_bytes → length b ≡ four_bytes → ((i : ℕ) → get_or a i 0 < 256) → ((i : ℕ) → get_or b i 0 < 256)
    → x ≡ from_le_bytes w32 a → y ≡ from_le_bytes w32 b → eqb x y ≡ same a b
same_four a b x y la lb ha hb ex ey = go (same a b) refl
  where
    go : (t : Bool) → same a b ≡ t → eqb x y ≡ t
    go true e = eq-eqb x y (ex ∙ ap (from_le_bytes w32) (same_eq a b e) ∙ sym ey)
    go false e = ne_eqb x y (λ k. absurd (true≢false (sym (same_of a b (sym (le_bytes_4 a x la ha ex) ∙ ap (to_le_bytes w32) k ∙ le_bytes_4 b y lb hb ey)) ∙ e)))

-- The index: what setting and clearing bits does to the pages stored. Every law is over any index of bytes.
use mathlib.Core.Bool.{Bool, true, false, ◌&&◌, ◌||◌, not, cond}
use mathlib.Core.Path.{◌≡◌, refl, sym, ap, ◌∙◌}
use mathlib.Core.Logic.{◌≢◌}
use mathlib.Core.List.{List, [], ◌∷◌, ◌++◌}
use Prim.Native.Nat.{ℕ, zero, suc, ◌+◌, ◌-◌, ◌*◌, ◌/◌, ◌%◌, ◌^◌, ◌≤◌, ◌<◌}
use native.Mathlib.Nat.{zero-div}
use native.Mathlib.Omega.{arith}
use native.Mathlib.Decide.{ℕ_discrete, dec_le, dec_lt}
use lib.Dec.{T, eqb, lit<}
use borrow.Author.Tests.{le-leb, lt-leb, lt-ltb, le-ltb, ne_eqb}
use lib.Bits.{bit_and, bit_or}
use lib.ListN.{length, set, length-set, length-replicate, length-append, get_or-eq_default}
use lib.Seq.{get_or-set_same, get_or-set_other, set_out, set-get_or}
use Rattle.protocol.specs.Bytes.{Bytes, byte_at, zeros}
use Rattle.protocol.specs.Tests.{among}
use Rattle.protocol.specs.Index.{bit, stored, set_bit, clear_bit, clear_bits, bits, clear_from}
use Rattle.protocol.proofs.Laws.Logic.{T→false, eqb_same, every_at, every_of}
use Rattle.protocol.proofs.Laws.Bits.{or_bit, and_bit, bit_less, bit_more, more_byte}

-- an index of n bytes
pub record Fine (n : ℕ) (x : List ℕ) : Type 0 where
  pub long : length x ≡ n
  pub bytes : Bytes x

-- ---- one byte changed in one bit alone

module _ (x : List ℕ) (p v c : ℕ) (h : p / 8 < length x) (bits : (j : ℕ) → j < 8 → bit v j ≡ cond (eqb (p % 8) j) c (bit (byte_at x (p / 8)) j)) where
  stored_set : (q : ℕ) → stored (set x (p / 8) v) q ≡ cond (eqb p q) (eqb c 1) (stored x q)
  unfolding stored
  stored_set q = go (ℕ_discrete p q)
    where
      here : stored (set x (p / 8) v) p ≡ eqb c 1
      here =
          ap (λ (b : ℕ). eqb (bit b (p % 8)) 1) (get_or-set_same x (p / 8) v 0 h)
          ∙ ap (λ (b : ℕ). eqb b 1) (bits (p % 8) (omega arith) ∙ ap (λ (t : Bool). cond t c (bit (byte_at x (p / 8)) (p % 8))) (eqb_same (p % 8)))

      there : p ≢ q → Dec (q / 8 ≡ p / 8) → stored (set x (p / 8) v) q ≡ stored x q
      there d (yes e) =
          ap (λ (i : ℕ). eqb (bit (byte_at (set x (p / 8) v) i) (q % 8)) 1) e
          ∙ ap (λ (b : ℕ). eqb (bit b (q % 8)) 1) (get_or-set_same x (p / 8) v 0 h)
          ∙ ap (λ (b : ℕ). eqb b 1)
          (bits (q % 8) (omega arith) ∙ ap (λ (t : Bool). cond t c (bit (byte_at x (p / 8)) (q % 8))) (ne_eqb (p % 8) (q % 8) (λ f. d (omega arith))))
          ∙ ap (λ (i : ℕ). eqb (bit (byte_at x i) (q % 8)) 1) (sym e)
      there d (no f) = ap (λ (b : ℕ). eqb (bit b (q % 8)) 1) (get_or-set_other x (p / 8) (q / 8) v 0 f)

      go : Dec (p ≡ q) → stored (set x (p / 8) v) q ≡ cond (eqb p q) (eqb c 1) (stored x q)
      go (yes e) = rw (← e, eqb_same p) here
      go (no d) = rw (ne_eqb p q d) (there d (ℕ_discrete (q / 8) (p / 8)))

-- ---- page p's bit set: p is stored, and every other page as it was

same_or : (f : ℕ → Bool) (p q : ℕ) → f p ≡ true → f q ≡ (eqb p q || f q)
same_or f p q t = go (ℕ_discrete p q)
  where
    go : Dec (p ≡ q) → f q ≡ (eqb p q || f q)
    go (yes e) = rw (← e, eqb_same p, t) refl
    go (no d) = rw (ne_eqb p q d) refl

cond_or : (a b : Bool) → cond a true b ≡ (a || b)
cond_or true b = refl
cond_or false b = refl

pub stored_with : (x : List ℕ) → Bytes x → (p : ℕ) → p / 8 < length x → (q : ℕ) → stored (set_bit x p) q ≡ (eqb p q || stored x q)
unfolding set_bit Bytes bit stored
stored_with x hb p h q = go (stored x p) refl
  where
    b : ℕ
    b = byte_at x (p / 8)

    go : (s : Bool) → stored x p ≡ s → stored (set_bit x p) q ≡ (eqb p q || stored x q)
    go true e = rw e (same_or (stored x) p q e)
    go false e =
        rw e (stored_set x p (b + 2 ^ (p % 8)) 1 h (λ j l. bit_more b (p % 8) j (hb (p / 8)) (omega arith) l e) q ∙ cond_or (eqb p q) (stored x q))

-- ---- page p's bit cleared

same_less : (f : ℕ → Bool) (p q : ℕ) → f p ≡ false → f q ≡ (not (eqb p q) && f q)
same_less f p q t = go (ℕ_discrete p q)
  where
    go : Dec (p ≡ q) → f q ≡ (not (eqb p q) && f q)
    go (yes e) = rw (← e, eqb_same p, t) refl
    go (no d) = rw (ne_eqb p q d) refl

cond_less : (a b : Bool) → cond a false b ≡ (not a && b)
cond_less true b = refl
cond_less false b = refl

pub stored_less : (x : List ℕ) → Bytes x → (p : ℕ) → p / 8 < length x → (q : ℕ) → stored (clear_bit x p) q ≡ (not (eqb p q) && stored x q)
unfolding clear_bit Bytes bit stored
stored_less x hb p h q = go (stored x p) refl
  where
    b : ℕ
    b = byte_at x (p / 8)

    go : (s : Bool) → stored x p ≡ s → stored (clear_bit x p) q ≡ (not (eqb p q) && stored x q)
    go false e = rw e (same_less (stored x) p q e)
    go true e =
        rw e (stored_set x p (b - 2 ^ (p % 8)) 0 h (λ j l. bit_less b (p % 8) j (hb (p / 8)) (omega arith) l e) q ∙ cond_less (eqb p q) (stored x q))

-- ---- an index keeps its length and its bytes

bytes_set : (x : List ℕ) (i v : ℕ) → Bytes x → v < 256 → Bytes (set x i v)
unfolding Bytes
bytes_set x i v h l j = go (ℕ_discrete j i) (dec_lt i (length x))
  where
    go : Dec (j ≡ i) → Dec (i < length x) → byte_at (set x i v) j < 256
    go (yes e) (yes m) = rw (e, get_or-set_same x i v 0) l
    go (yes e) (no m) = rw (set_out x i v (omega arith)) (h j)
    go (no d) m = rw (get_or-set_other x i j v 0 d) (h j)

pub fine_with : {n : ℕ} (x : List ℕ) (p : ℕ) → Fine n x → Fine n (set_bit x p)
unfolding set_bit stored Bytes
fine_with {n} x p f = go (stored x p) refl
  where
    b : ℕ
    b = byte_at x (p / 8)

    go : (s : Bool) → stored x p ≡ s → Fine n (set_bit x p)
    go true e = rw e f
    go false e =
        rw e
        record {
          long = length-set x (p / 8) (b + 2 ^ (p % 8)) ∙ f.long;
          bytes = bytes_set x (p / 8) (b + 2 ^ (p % 8)) f.bytes (more_byte b (p % 8) (f.bytes (p / 8)) (omega arith) e);
        }

pub fine_less : {n : ℕ} (x : List ℕ) (p : ℕ) → Fine n x → Fine n (clear_bit x p)
unfolding clear_bit Bytes
fine_less {n} x p f = go (stored x p) refl
  where
    b : ℕ
    b = byte_at x (p / 8)

    go : (s : Bool) → stored x p ≡ s → Fine n (clear_bit x p)
    go false e = rw e f
    go true e =
        rw e
        record {
          long = length-set x (p / 8) (b - 2 ^ (p % 8)) ∙ f.long;
          bytes = bytes_set x (p / 8) (b - 2 ^ (p % 8)) f.bytes (omega (arith, f.bytes (p / 8)));
        }

-- ---- n bits from p on cleared

pub in_among : (p n q : ℕ) → p ≤ q → q < p + n → among p n q ≡ true
in_among p n q a b = rw (le-leb p q a, lt-ltb q (p + n) b) refl

pub not_among : (p n q : ℕ) → (p ≤ q → q < p + n → ⊥) → among p n q ≡ false
not_among p n q o = go (dec_le p q) (dec_lt q (p + n))
  where
    go : Dec (p ≤ q) → Dec (q < p + n) → among p n q ≡ false
    go (yes a) (yes b) = absurd (o a b)
    go (yes a) (no b) = rw (le-leb p q a, le-ltb q (p + n) (omega arith)) refl
    go (no a) b = rw (lt-leb p q (omega arith)) refl

among_more : (p n q : ℕ) → (not (among (suc p) n q) && not (eqb p q)) ≡ not (among p (suc n) q)
among_more p n q = go (dec_le (suc p) q) (ℕ_discrete p q) (dec_lt q (p + suc n))
  where
    go : Dec (suc p ≤ q) → Dec (p ≡ q) → Dec (q < p + suc n) → (not (among (suc p) n q) && not (eqb p q)) ≡ not (among p (suc n) q)
    go (yes a) (yes e) c = absurd (omega arith)
    go (yes a) (no d) (yes c) = rw (le-leb (suc p) q a, lt-ltb q (suc p + n) (omega arith), le-leb p q (omega arith), lt-ltb q (p + suc n) c) refl
    go (yes a) (no d) (no c) =
        rw (le-leb (suc p) q a, le-ltb q (suc p + n) (omega arith), le-leb p q (omega arith), le-ltb q (p + suc n) (omega arith), ne_eqb p q d) refl
    go (no a) (yes e) c = rw (lt-leb (suc p) q (omega arith), ← e, eqb_same p, le-leb p p (omega arith), lt-ltb p (p + suc n) (omega arith)) refl
    go (no a) (no d) c = rw (lt-leb (suc p) q (omega arith), ne_eqb p q d, lt-leb p q (omega arith)) refl

and_assoc : (a b c : Bool) → (a && (b && c)) ≡ ((a && b) && c)
and_assoc true b c = refl
and_assoc false b c = refl

pub fine_span : {m : ℕ} (x : List ℕ) (p n : ℕ) → Fine m x → Fine m (clear_bits x p n)
unfolding clear_bits
fine_span x p zero f = f
fine_span x p (suc n) f = fine_span (clear_bit x p) (suc p) n (fine_less x p f)

pub stored_span : {m : ℕ} (x : List ℕ) (p n : ℕ) → Fine m x → p + n ≤ 8 * m → (q : ℕ) → stored (clear_bits x p n) q ≡ (not (among p n q) && stored x q)
unfolding clear_bits
stored_span x p zero f h q = rw (not_among p zero q (λ a b. omega arith)) refl
stored_span x p (suc n) f h q =
    stored_span (clear_bit x p) (suc p) n (fine_less x p f) (omega arith) q
    ∙ ap (λ (b : Bool). not (among (suc p) n q) && b) (stored_less x f.bytes p (omega (arith, f.long)) q)
    ∙ and_assoc (not (among (suc p) n q)) (not (eqb p q)) (stored x q)
    ∙ ap (λ (b : Bool). b && stored x q) (among_more p n q)

-- ---- an index of zeros

pub byte_zeros : (n i : ℕ) → ◌≡◌ {A = ℕ} (byte_at (zeros n) i) 0
byte_zeros zero i = refl
byte_zeros (suc n) zero = refl
byte_zeros (suc n) (suc i) = byte_zeros n i

pub bit_zero : (k : ℕ) → bit 0 k ≡ 0
unfolding bit
bit_zero k = ap (λ (n : ℕ). n % 2) (zero-div (2 ^ k))

pub stored_zeros : (n q : ℕ) → stored (zeros n) q ≡ false
unfolding stored
stored_zeros n q = ap (λ (b : ℕ). eqb (bit b (q % 8)) 1) (byte_zeros n (q / 8)) ∙ ap (λ (b : ℕ). eqb b 1) (bit_zero (q % 8))

pub fine_zeros : (n : ℕ) → Fine n (zeros n)
unfolding Bytes
fine_zeros n = record { long = length-replicate n 0; bytes = λ i. rw (byte_zeros n i) (lit< tt) }

-- ---- an index with zero bytes added

pub length_over : (x : List ℕ) (n : ℕ) → length (x ++ zeros n) ≡ length x + n
length_over x n = simp (length-append, length-replicate) (omega arith)

pub byte_over : (x : List ℕ) (n i : ℕ) → byte_at (x ++ zeros n) i ≡ byte_at x i
byte_over [] n i = byte_zeros n i
byte_over (b ∷ x) n zero = refl
byte_over (b ∷ x) n (suc i) = byte_over x n i

-- every bit keeps its place
pub stored_over : (x : List ℕ) (n q : ℕ) → stored (x ++ zeros n) q ≡ stored x q
unfolding stored
stored_over x n q = ap (λ (b : ℕ). eqb (bit b (q % 8)) 1) (byte_over x n (q / 8))

pub fine_over : {m : ℕ} (x : List ℕ) (n : ℕ) → Fine m x → Fine (m + n) (x ++ zeros n)
unfolding Bytes
fine_over x n f = record { long = omega (arith, length_over x n, f.long); bytes = λ i. rw (byte_over x n i) (f.bytes i) }

-- no bit is set past the last byte
pub stored_past : (x : List ℕ) (q : ℕ) → bits x ≤ q → stored x q ≡ false
unfolding stored
stored_past x q h =
    let z : byte_at x (q / 8) ≡ 0 = get_or-eq_default x 0 {n = q / 8} (omega arith) in
    ap (λ (b : ℕ). eqb (bit b (q % 8)) 1) z ∙ ap (λ (b : ℕ). eqb b 1) (bit_zero (q % 8))

-- ---- no bit at or above c

pub clear_from_lem : (x : List ℕ) (c : ℕ) → T (clear_from x c) → (q : ℕ) → c ≤ q → q < bits x → stored x q ≡ false
unfolding clear_from
clear_from_lem x c t q l h =
    let e : c + (q - c) ≡ q = omega arith in
    ap (stored x) (sym e) ∙ T→false (stored x (c + (q - c))) (every_at (λ k. not (stored x (c + k))) (bits x - c) t (q - c) (omega arith))

-- nor past the last byte
pub clear_above : (x : List ℕ) (c : ℕ) → T (clear_from x c) → (q : ℕ) → c ≤ q → stored x q ≡ false
clear_above x c t q l = go (dec_lt q (bits x))
  where
    go : Dec (q < bits x) → stored x q ≡ false
    go (yes h) = clear_from_lem x c t q l h
    go (no h) = stored_past x q (omega arith)

pub clear_to_lem : (x : List ℕ) (c : ℕ) → ((q : ℕ) → c ≤ q → q < bits x → stored x q ≡ false) → T (clear_from x c)
unfolding clear_from
clear_to_lem x c h = every_of (λ k. not (stored x (c + k))) (bits x - c) (λ k l. rw (h (c + k) (omega arith) (omega arith)) tt)

-- ---- the code's byte: set and cleared by shift and mask

pub set_or : (x : List ℕ) (p : ℕ) → Bytes x → set_bit x p ≡ set x (p / 8) (bit_or (byte_at x (p / 8)) (2 ^ (p % 8)))
unfolding set_bit stored Bytes
set_or x p h = rw (or_bit (byte_at x (p / 8)) (p % 8) (h (p / 8)) (omega arith)) (go (stored x p))
  where
    b : ℕ
    b = byte_at x (p / 8)

    go : (s : Bool) → cond s x (set x (p / 8) (b + 2 ^ (p % 8))) ≡ set x (p / 8) (cond s b (b + 2 ^ (p % 8)))
    go true = sym (set-get_or x (p / 8) 0)
    go false = refl

pub clear_and : (x : List ℕ) (p : ℕ) → Bytes x → clear_bit x p ≡ set x (p / 8) (bit_and (byte_at x (p / 8)) (255 - 2 ^ (p % 8)))
unfolding clear_bit stored Bytes
clear_and x p h = rw (and_bit (byte_at x (p / 8)) (p % 8) (h (p / 8)) (omega arith)) (go (stored x p))
  where
    b : ℕ
    b = byte_at x (p / 8)

    go : (s : Bool) → cond s (set x (p / 8) (b - 2 ^ (p % 8))) x ≡ set x (p / 8) (cond s (b - 2 ^ (p % 8)) b)
    go true = refl
    go false = sym (set-get_or x (p / 8) 0)

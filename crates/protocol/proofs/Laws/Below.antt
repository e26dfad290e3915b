-- The numbers below n: whether a test is true of some of them, and a function's values, one behind the other.
use mathlib.Core.Bool.{Bool, true, false, ◌||◌}
use mathlib.Core.Path.{◌≡◌, refl, sym, ap, ◌∙◌}
use mathlib.Core.Logic.{◌⊎◌, inl, inr}
use mathlib.Core.List.{[], ◌∷◌, ◌++◌}
use Prim.Native.Nat.{ℕ, zero, suc, ◌+◌, ◌<◌}
use native.Mathlib.Nat.{not-suc-le-zero, eq-or-lt_of_le, le_of_suc-le-suc}
use native.Mathlib.Omega.{arith}
use native.Mathlib.Decide.{dec_lt}
use lib.ListN.{length, get_or, length-append, get_or-append}
use lib.Seq.{get_or-append-add}
use Rattle.protocol.specs.Tests.{some, listed}
use Rattle.protocol.proofs.Laws.Logic.{or_false, or_true}

pub some_at : (f : ℕ → Bool) (n i : ℕ) → i < n → f i ≡ true → some f n ≡ true
unfolding some
some_at f zero i h e = absurd (not-suc-le-zero h)
some_at f (suc n) i h e = go (dec_lt i n) (some_at f n i)
  where
    go : Dec (i < n) → (i < n → f i ≡ true → some f n ≡ true) → (f n || some f n) ≡ true
    go (yes l) ih = or_true (f n) (some f n) (ih l e)
    go (no l) ih = let s : n ≡ i = omega arith in rw (ap f s ∙ e) refl

pub some_none : (f : ℕ → Bool) (n : ℕ) → ((i : ℕ) → i < n → f i ≡ false) → some f n ≡ false
unfolding some
some_none f zero h = refl
some_none f (suc n) h = or_false (f n) (some f n) (h n (omega arith)) (some_none f n (λ i l. h i (omega arith)))

pub length_listed : (f : ℕ → ℕ) (n : ℕ) → length (listed f n) ≡ n
unfolding listed
length_listed f zero = refl
length_listed f (suc n) = length-append (listed f n) (f n ∷ []) ∙ omega (arith, length_listed f n)

pub at_listed : (f : ℕ → ℕ) (n i : ℕ) → i < n → get_or (listed f n) i 0 ≡ f i
unfolding listed
at_listed f zero i h = absurd (not-suc-le-zero h)
at_listed f (suc n) i h = go (eq-or-lt_of_le (le_of_suc-le-suc h)) (at_listed f n i)
  where
    go : (i ≡ n) ⊎ (i < n) → (i < n → get_or (listed f n) i 0 ≡ f i) → get_or (listed f n ++ (f n ∷ [])) i 0 ≡ f i
    go (inr l) ih = get_or-append (listed f n) (f n ∷ []) 0 i (omega (arith, length_listed f n)) ∙ ih l
    go (inl e) ih =
        let at : i ≡ length (listed f n) + 0 = omega (arith, length_listed f n) in
        ap (λ (k : ℕ). get_or (listed f n ++ (f n ∷ [])) k 0) at ∙ get_or-append-add (listed f n) (f n ∷ []) 0 0 ∙ ap f (sym e)

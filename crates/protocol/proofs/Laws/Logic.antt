-- Booleans, tests of numbers, and lists of tests.
use mathlib.Core.Bool.{Bool, true, false, true≢false, ◌&&◌, ◌||◌, not}
use mathlib.Core.Path.{◌≡◌, refl, sym}
use mathlib.Core.Logic.{◌⊎◌, inl, inr}
use mathlib.Core.List.{List, [], ◌∷◌}
use Prim.Native.Nat.{ℕ, zero, suc, ◌<◌}
use native.Mathlib.Nat.{not-suc-le-zero, eq-or-lt_of_le, le_of_suc-le-suc}
use native.Mathlib.Omega.{arith}
use lib.Dec.{T, T_not, eqb, eqb_refl}
use Rattle.protocol.specs.Tests.{Test, verdict, every}

-- ---- booleans

pub T→true : (b : Bool) → T b → b ≡ true
T→true true t = refl
T→true false t = absurd t

pub T→false : (b : Bool) → T (not b) → b ≡ false
T→false true t = absurd t
T→false false t = refl

pub and_l : (a b : Bool) → T (a && b) → T a
and_l true b t = tt
and_l false b t = t

pub and_r : (a b : Bool) → T (a && b) → T b
and_r true b t = t
and_r false b t = absurd t

pub and_i : (a b : Bool) → T a → T b → T (a && b)
and_i true b s t = t
and_i false b s t = absurd s

pub not_true : (b : Bool) → not b ≡ true → b ≡ false
not_true true e = absurd (true≢false (sym e))
not_true false e = refl

pub not_false : (b : Bool) → not b ≡ false → b ≡ true
not_false true e = refl
not_false false e = absurd (true≢false e)

pub and_false : (a b : Bool) → b ≡ false → (a && b) ≡ false
and_false true b q = q
and_false false b q = refl

pub and_true : (a b : Bool) → b ≡ true → (a && b) ≡ a
and_true true b q = q
and_true false b q = refl

pub or_false : (a b : Bool) → a ≡ false → b ≡ false → (a || b) ≡ false
or_false a b p q = rw (p, q) refl

pub or_true : (a b : Bool) → b ≡ true → (a || b) ≡ true
or_true true b q = refl
or_true false b q = q

-- ---- tests of numbers

pub eqb_same : (n : ℕ) → eqb n n ≡ true
eqb_same n = T→true (eqb n n) (eqb_refl n)

pub eq→eqb : (m n : ℕ) → m ≡ n → T (eqb m n)
eq→eqb m n e = rw e (eqb_refl n)

-- ---- a test at every number below n

pub every_at : (f : ℕ → Bool) (n : ℕ) → T (every f n) → (i : ℕ) → i < n → T (f i)
unfolding every
every_at f zero t i h = absurd (not-suc-le-zero h)
every_at f (suc n) t i h = go (eq-or-lt_of_le (le_of_suc-le-suc h)) (every_at f n (and_r (f n) (every f n) t) i)
  where
    go : (i ≡ n) ⊎ (i < n) → (i < n → T (f i)) → T (f i)
    go (inr l) ih = ih l
    go (inl e) ih = rw e (and_l (f n) (every f n) t)

pub every_of : (f : ℕ → Bool) (n : ℕ) → ((i : ℕ) → i < n → T (f i)) → T (every f n)
unfolding every
every_of f zero h = tt
every_of f (suc n) h = and_i (f n) (every f n) (h n (omega arith)) (every_of f n (λ i l. h i (omega arith)))

-- ---- lists of tests

-- none of the tests gives the number 0
abbrev pub numbered : List Test → Bool
numbered [] = true
numbered (t ∷ ts) = not (eqb t.1 0) && numbered ts

abbrev pub passed : List Test → Bool
passed [] = true
passed (t ∷ ts) = t.0 && passed ts

pub verdict_passed : (ts : List Test) → T (numbered ts) → verdict ts ≡ 0 → T (passed ts)
unfolding verdict
verdict_passed [] c e = tt
verdict_passed (t ∷ ts) c e = go t.0 refl (verdict_passed ts (and_r (not (eqb t.1 0)) (numbered ts) c))
  where
    go : (b : Bool) → t.0 ≡ b → (verdict ts ≡ 0 → T (passed ts)) → T (t.0 && passed ts)
    go true f ih = rw f (ih (rw f at e))
    go false f ih = let z : t.1 ≡ 0 = rw f at e in absurd (T_not (eqb t.1 0) (and_l (not (eqb t.1 0)) (numbered ts) c) (rw z tt))

pub passed_verdict : (ts : List Test) → T (passed ts) → verdict ts ≡ 0
unfolding verdict
passed_verdict [] t = refl
passed_verdict (x ∷ ts) t = rw (T→true x.0 (and_l x.0 (passed ts) t)) (passed_verdict ts (and_r x.0 (passed ts) t))

-- 4, 5 and 6 name a parameter, and no other number does.
use mathlib.Core.Path.{◌≡◌, refl}
use mathlib.Core.Bool.{false}
use Prim.Native.Nat.{ℕ}
use native.Mathlib.Omega.{arith}
use Rattle.protocol.specs.Tests.{within}
use Rattle.reader.proofs.Laws.{outside}
use Rattle.reader.proofs.parameters.ParameterTryFromU8.try_from.Goals as goal

nameless : (n : ℕ) → (n ≡ 4 → ⊥) → (n ≡ 5 → ⊥) → (n ≡ 6 → ⊥) → within 4 n 6 ≡ false
nameless n f g h = outside 4 n 6 (λ x y. omega (arith, f, g, h))

pub returns-in-4 : goal.returns-in-4
unfolding within
returns-in-4 c = let e = c.in-4.is in (e, rw e refl)

pub returns-in-5 : goal.returns-in-5
unfolding within
returns-in-5 c = let e = c.in-5.is in (e, rw e refl)

pub returns-in-6 : goal.returns-in-6
unfolding within
returns-in-6 c = let e = c.in-6.is in (e, rw e refl)

pub returns-in_default : goal.returns-in_default
returns-in_default c = let m = c.in_default in (refl, search nameless)

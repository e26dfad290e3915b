-- Each parameter has its range.
use mathlib.Core.Path.{◌≡◌, refl, sym}
use mathlib.Core.Bool.{Bool, true, false, ◌&&◌, cond}
use Prim.Native.Nat.{ℕ}
use native.Mathlib.Omega.{arith}
use lib.Dec.{eqb, ltb, leb}
use borrow.Author.Tests.{ltb-true, ltb-false, eqb-true, eqb-false, le-leb, lt-leb}
use Rattle.std.proofs.Common.{Less, Equal, Greater}
use Rattle.std.specs.Ordering.{nat_cmp, is_le}
use Rattle.protocol.specs.Numbers.{highest_size}
use Rattle.protocol.specs.Tests.{within}
use Rattle.protocol.specs.Table.{in_range}
use Rattle.reader.proofs.parameters.Parameter.admits.Goals as goal

at_most : (x y : ℕ) → is_le (nat_cmp x y) ≡ leb x y
at_most x y = go (ltb x y) (eqb x y) refl refl
  where
    go : (a b : Bool) → ltb x y ≡ a → eqb x y ≡ b → is_le (cond a Less (cond b Equal Greater)) ≡ leb x y
    go true b e f = sym (le-leb x y (omega (arith, ltb-true x y e)))
    go false true e f = sym (le-leb x y (omega (arith, eqb-true x y f)))
    go false false e f = sym (lt-leb x y (omega (arith, ltb-false x y e, eqb-false x y f)))

contained : (a b v : ℕ) → (is_le (nat_cmp a v) && is_le (nat_cmp v b)) ≡ within a v b
unfolding within
contained a b v = rw (at_most a v, at_most v b) refl

pub returns-in-Baud : goal.returns-in-Baud
unfolding in_range
returns-in-Baud c =
    let e = c.new.ensures in
    rw (c.in-Baud.is, c.contains.ensures.value, e.start, e.end, e.exhausted) (contained 1 12 c.args.value)

pub returns-in-Level : goal.returns-in-Level
unfolding in_range
returns-in-Level c =
    let e = c.new-in-Level.ensures in
    rw (c.in-Level.is, c.contains-in-Level.ensures.value, e.start, e.end, e.exhausted) (contained 1 5 c.args.value)

pub returns-in-Size : goal.returns-in-Size
unfolding in_range highest_size
returns-in-Size c = rw (c.in-Size.is) refl

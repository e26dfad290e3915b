-- None is not one of them; a page is, if it is neither before nor behind them.
use mathlib.Core.Path.{◌≡◌, refl}
use Prim.Native.Nat.{ℕ}
use native.Mathlib.Omega.{arith}
use lib.Dec.{leb, ltb}
use borrow.Author.Tests.{ne_eqb}
use Rattle.std.specs.Ordering.{is_le, is_lt, nat_cmp}
use Rattle.protocol.specs.Reader.{is_one_of}
use Rattle.protocol.specs.Records.{origin_of}
use Rattle.protocol.specs.Numbers.{no_page}
use Rattle.reader.proofs.origins.is_one_of.Goals as goal

lt_cmp : (a b : ℕ) → is_lt (nat_cmp a b) ≡ ltb a b
lt_cmp a b = grind arith

le_cmp : (a b : ℕ) → is_le (nat_cmp a b) ≡ leb a b
le_cmp a b = grind arith

pub returns-then-origin-ne-NO_PAGE : goal.returns-then-origin-ne-NO_PAGE
unfolding is_one_of origin_of
returns-then-origin-ne-NO_PAGE c = let v = c.contains.ensures.value in rw (ne_eqb c.args.origin no_page c.if-origin-ne-NO_PAGE.true, v, lt_cmp, le_cmp, c.from-start.ensures, c.from-then-origin-ne-NO_PAGE.ensures, c.from.ensures) refl

pub returns-else-origin-ne-NO_PAGE : goal.returns-else-origin-ne-NO_PAGE
unfolding is_one_of origin_of
returns-else-origin-ne-NO_PAGE c = rw (c.if-origin-ne-NO_PAGE.false) refl

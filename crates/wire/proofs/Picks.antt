-- Tests decided by what is known: `search (picks, needs)` walks a chain of them.
use Rattle.std.proofs.Common.{le-ltb, lt-ltb, eq-eqb, ne_eqb, le-leb}
use borrow.Author.Tests.{lt-leb}

pub ruleset picks = (lt-ltb, le-ltb, le-leb, lt-leb, eq-eqb, ne_eqb)

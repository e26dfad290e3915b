-- The first page is there, and so is the last: the sum is below 2^17, and no number is cut.
use Rattle.std.proofs.Common.{arith}
use Rattle.std.proofs.lemmas.Grind.{common_steps}
use Rattle.library.specs.Lent.{is_span}
use Rattle.library.proofs.pages.is_span.Goals as goal

pub returns-then-from-pages : goal.returns-then-from-pages
unfolding is_span
returns-then-from-pages c = grind (arith, common_steps)

pub returns-else-from-pages : goal.returns-else-from-pages
unfolding is_span
returns-else-from-pages c = grind (arith, common_steps)

-- The part that is lent is the page, and it comes back as src; where there is no such page, or src is not as long as one, nothing is lent.
use Rattle.std.proofs.Common.{arith}
use Rattle.std.proofs.lemmas.Grind.{common_steps}
use Rattle.library.specs.Lent.{write_page}
use Rattle.library.proofs.Parts.{part_put}
use Rattle.library.proofs.pages.write_page.Goals as goal

pub returns-then-src-eq-PAGE : goal.returns-then-src-eq-PAGE
unfolding write_page
returns-then-src-eq-PAGE c = grind (arith, common_steps, part_put)

pub returns-else-page-templates : goal.returns-else-page-templates
unfolding write_page
returns-else-page-templates c = grind (arith, common_steps)

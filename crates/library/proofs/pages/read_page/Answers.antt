-- The part that is put is the page; where there is no such page, or dst is not as long as one, nothing is put.
use Rattle.std.proofs.Common.{arith}
use Rattle.std.proofs.lemmas.Grind.{common_steps}
use Rattle.library.specs.Lent.{read_page}
use Rattle.library.proofs.Parts.{part_read}
use Rattle.library.proofs.pages.read_page.Goals as goal

pub returns-then-dst-eq-PAGE : goal.returns-then-dst-eq-PAGE
unfolding read_page
returns-then-dst-eq-PAGE c = grind (arith, common_steps, part_read)

pub returns-else-page-templates : goal.returns-else-page-templates
unfolding read_page
returns-else-page-templates c = grind (arith, common_steps)

-- The page is read whole, and written whole.
use Rattle.upkeep.proofs.Gathering.{moved}
use Rattle.upkeep.proofs.gaps.move_page.Goals as goal

pub returns : goal.returns
returns c = search moved

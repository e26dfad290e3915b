-- A page whose first byte is not zero is not blank, and any other is blank if all its bytes are zero.
use Rattle.upkeep.proofs.Blank.{first_not_zero, all_blank}
use Rattle.upkeep.proofs.salvage.is_blank.Goals as goal

pub returns-then-templates-a-ne0 : goal.returns-then-templates-a-ne0
returns-then-templates-a-ne0 c = search first_not_zero

pub returns : goal.returns
returns c = search all_blank

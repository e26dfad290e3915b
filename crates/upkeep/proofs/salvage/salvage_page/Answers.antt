-- A stored page stays, and so does a blank one, which zeroing would not change.
use Rattle.upkeep.proofs.Salvaging.{byte_passed, there_passed, blank_passed, zeroed_passed}
use Rattle.upkeep.proofs.salvage.salvage_page.Goals as goal
use Rattle.upkeep.proofs.salvage.salvage_page.Goals.{then-is_stored-via-then-is_stored, then-is_stored-via-else-is_stored+then-is_blank}

pub returns-then-index-p : goal.returns-then-index-p
returns-then-index-p c = search byte_passed

pub returns-then-is_stored : goal.returns-then-is_stored
returns-then-is_stored c = elim c.then-is_stored.branch [ then-is_stored-via-then-is_stored w ↦ search there_passed | then-is_stored-via-else-is_stored+then-is_blank w ↦ search blank_passed ]

pub returns : goal.returns
returns c = search zeroed_passed

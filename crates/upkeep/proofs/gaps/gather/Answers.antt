use Rattle.upkeep.proofs.Gathering.{begun, vacant_more, stays_more, moves_more, all_gathered}
use Rattle.upkeep.proofs.gaps.gather.Goals as goal
use Rattle.upkeep.proofs.gaps.gather.Goals.{then-is_stored, then-next-p, else-next-p, else-is_stored}

pub loop-p-init : goal.loop-p-init
loop-p-init c = search begun

pub loop-p-preserved : goal.loop-p-preserved
loop-p-preserved c = elim c.if-is_stored.branch [ then-is_stored w ↦ elim w.if-next-p.branch [ then-next-p v ↦ search moves_more | else-next-p v ↦ search stays_more ] | else-is_stored w ↦ search vacant_more ]

pub returns : goal.returns
returns c = search all_gathered

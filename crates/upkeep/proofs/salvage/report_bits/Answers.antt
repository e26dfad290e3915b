use Rattle.upkeep.proofs.Salvaging.{none_told, one_told, all_told}
use Rattle.upkeep.proofs.salvage.report_bits.Goals as goal
use Rattle.upkeep.proofs.salvage.report_bits.Goals.{then-is_stored, else-is_stored}

pub loop-q-init : goal.loop-q-init
loop-q-init c = search none_told

pub loop-q-preserved : goal.loop-q-preserved
loop-q-preserved c = elim c.if-is_stored.branch [ then-is_stored w ↦ search one_told | else-is_stored w ↦ search one_told ]

pub returns : goal.returns
returns c = search all_told

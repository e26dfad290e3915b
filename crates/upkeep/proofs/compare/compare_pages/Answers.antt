use Rattle.upkeep.proofs.Comparing.{none_said, one_said, all_said}
use Rattle.upkeep.proofs.compare.compare_pages.Goals as goal

pub loop-p-init : goal.loop-p-init
loop-p-init c = search none_said

pub loop-p-preserved : goal.loop-p-preserved
loop-p-preserved c = search one_said

pub returns : goal.returns
returns c = search all_said

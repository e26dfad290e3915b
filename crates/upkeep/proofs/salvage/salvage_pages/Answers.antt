use Rattle.upkeep.proofs.Salvaging.{none_passed, reached, passed_on, all_passed}
use Rattle.upkeep.proofs.salvage.salvage_pages.Goals as goal

pub loop-p-init : goal.loop-p-init
loop-p-init c = let z = c.fill.ensures.after (λ y e. e) in search none_passed

pub salvage_page-p-requires : goal.salvage_page-p-requires
salvage_page-p-requires c = search reached

pub loop-p-preserved : goal.loop-p-preserved
loop-p-preserved c = search passed_on

pub returns : goal.returns
returns c = search all_passed

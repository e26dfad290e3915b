-- The pages below p are salvaged, and the report has their entries and no other.
use Prim.Native.Nat.{◌-◌}
use Rattle.upkeep.proofs.Salvaging.{PagesSoFar}
use Rattle.upkeep.proofs.salvage.salvage_pages.Given as goal

abbrev pub invariant-loop-p : goal.invariant-loop-p
invariant-loop-p l = PagesSoFar l.initial.templates l.index l.end l.templates l.report l.p

abbrev pub decreases-loop-p : goal.decreases-loop-p
decreases-loop-p l = l.end - l.p

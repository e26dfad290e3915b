-- The bits from c to before q have their entries, and those below c theirs.
use Rattle.upkeep.proofs.Salvaging.{BitsSoFar}
use Rattle.upkeep.proofs.salvage.report_bits.Given as goal

abbrev pub invariant-loop-q : goal.invariant-loop-q
invariant-loop-q l = BitsSoFar l.c l.index l.initial.report l.report l.q

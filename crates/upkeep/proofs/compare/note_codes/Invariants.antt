-- The front of the codes has those so far, and one more with each turn.
use Rattle.offline.specs.Compare.{note_says}
use Rattle.upkeep.proofs.Comparing.{Listing}
use Rattle.upkeep.proofs.compare.note_codes.Given as goal

abbrev pub invariant-loop-n : goal.invariant-loop-n
invariant-loop-n l = Listing (note_says l.notepad1 l.notepad2) 16 l.initial.codes l.codes l.n

-- Each turn reads a page of each file, and puts its code behind those that are there.
use Rattle.compare.specs.Reading.{PagesRead}
use Rattle.compare.proofs.read_pages.Given as goal

abbrev pub invariant-loop-p : goal.invariant-loop-p
invariant-loop-p g l = PagesRead l.index1 l.index2 l.p l.codes

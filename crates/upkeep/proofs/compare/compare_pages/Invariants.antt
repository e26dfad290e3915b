-- The front of the report has the codes so far, and one more with each turn.
use Rattle.upkeep.proofs.Comparing.{PagesListed}
use Rattle.upkeep.proofs.compare.compare_pages.Given as goal

abbrev pub invariant-loop-p : goal.invariant-loop-p
invariant-loop-p l = PagesListed l.one.index.now l.one.templates.now l.two.index.now l.two.templates.now l.initial.report l.end l.report l.p
